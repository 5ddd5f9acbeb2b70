-- `frame::close_minicomputer` meets its contract: its stores are the marks and the check around the text that is held.
-- Assumes nothing.
use Rattle.frame.proofs.Steps.{closed_minicomputer}
use Rattle.frame.proofs.close_minicomputer.Goals as goal

pub returns : goal.returns
returns c = search closed_minicomputer
