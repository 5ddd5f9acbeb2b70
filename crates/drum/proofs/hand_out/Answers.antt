-- `drum::hand_out` meets its contract: the frame that was built is the request of the step. Assumes nothing.
use Rattle.drum.proofs.Laws.{handed}
use Rattle.drum.proofs.hand_out.Goals as goal

pub returns : goal.returns
returns c =
    handed c.args.step c.args.s _ _ _ _ _ _ c.requires c.asked.ensures c.build.ensures c.unwrap_or-n.ensures (rw c.from.ensures.0 at c.at.ensures)
