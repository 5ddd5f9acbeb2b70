-- `showing::alone` meets its contract: outside of the range and beyond the last recipe the mask is empty, and else a shift gives it. Assumes nothing.
use Rattle.std.proofs.Common.{sym, ◌∙◌}
use Rattle.showing.proofs.Telling.{alone_outside, alone_above, alone_inside}
use Rattle.showing.proofs.alone.Goals as goal
use Rattle.showing.proofs.alone.Goals.{then-not-within-via-then-not-within, then-not-within-via-else-not-within+then-n-gt-LAST_RECIPE}

pub returns-then-not-within : goal.returns-then-not-within
returns-then-not-within c =
    elim c.then-not-within.branch [
      | then-not-within-via-then-not-within w ↦ alone_outside _ _ (sym c.within.ensures ∙ w.if-not-within.true)
      | then-not-within-via-else-not-within+then-n-gt-LAST_RECIPE w ↦ alone_above _ _ w.if-n-gt-LAST_RECIPE.true
    ]

pub returns : goal.returns
returns c = alone_inside _ _ (sym c.within.ensures ∙ c.if-not-within.false) c.if-n-gt-LAST_RECIPE.false
