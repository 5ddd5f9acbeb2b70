-- `drum::build` meets its contract: the text that was written is the one that is framed. Assumes nothing.
use borrow.Author.Rules.{rules}
use Rattle.text.proofs.Writing.{laid-count}
use Rattle.drum.proofs.Laws.{text-short, text_built}
use Rattle.drum.proofs.build.Goals as goal

pub slice_bounds-text-end : goal.slice_bounds-text-end
slice_bounds-text-end c = let h = text-short _ c.args.m _ _ _ (search rules) c.put_text-n.ensures in search rules

pub slice_bounds-build-end : goal.slice_bounds-build-end
slice_bounds-build-end c = laid-count _ _ _ _ c.put_text-n.ensures

pub returns : goal.returns
returns c = text_built _ _ _ _ c.put_text-n.ensures _ _ _ c.build.ensures
