-- `week::bank_totals` meets its contract: the lists hold the numbers of the batches so far. Assumes nothing.
use mathlib.Core.Path.{ap, ◌∙◌}
use Rattle.week.specs.Week.{batch_totals}
use Rattle.week.proofs.Laws.{kept_all, filled_none, filled_more, filled_all}
use borrow.Author.Rules.{rules}
use Rattle.week.proofs.bank_totals.Goals as goal

pub loop-i-init : goal.loop-i-init
loop-i-init c = filled_none _ (search rules)

pub loop-i-preserved : goal.loop-i-preserved
loop-i-preserved c = rw c.from.ensures (filled_more c.loop-i.invariant (search rules))

pub returns : goal.returns
returns c =
    let k = c.args.bank in
    filled_all c.loop-i.invariant _ c.min-count.result (search rules) (search rules) c.add_up.ensures
    ∙ ap batch_totals (kept_all k.batches k.count c.min-count.result (search rules) c.min-count.ensures)
