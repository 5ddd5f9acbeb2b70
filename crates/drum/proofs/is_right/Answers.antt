-- `drum::is_right` meets its contract: the right frame stands at the start of the local buffer. Assumes nothing.
use borrow.Author.Rules.{rules}
use Rattle.std.proofs.Common.{◌∙◌}
use Rattle.text.proofs.Words.{equal-pointwise}
use Rattle.drum.proofs.Laws.{right_short, right_count, right_compared}
use Rattle.drum.proofs.is_right.Goals as goal

pub slice_bounds-right-end : goal.slice_bounds-right-end
slice_bounds-right-end c =
    let h = right_short c.args.step c.args.s _ _ _ _ _ c.wanted.ensures (search rules) c.build.ensures c.unwrap_or-n.ensures in
    search rules

pub slice_bounds-eq-end : goal.slice_bounds-eq-end
slice_bounds-eq-end c =
    right_count c.args.step c.args.s _ _ _ _ _ c.wanted.ensures
    (search rules) c.build.ensures c.unwrap_or-n.ensures

pub returns : goal.returns
returns c =
    right_compared c.args.step c.args.s _ _ _ _ _ c.wanted.ensures
    (search rules) c.build.ensures c.unwrap_or-n.ensures _ _ (c.eq.ensures ∙ equal-pointwise _ _)
