-- `frame::close` meets its contract: each arm closes a frame of its kind. Assumes nothing.
use Rattle.frame.proofs.Steps.{closed-length, closed-over}
use Rattle.frame.proofs.close.Goals as goal

pub returns-in-Minicomputer : goal.returns-in-Minicomputer
returns-in-Minicomputer c = search (closed-length, closed-over)

pub returns-in-Terminal : goal.returns-in-Terminal
returns-in-Terminal c = search (closed-length, closed-over)
