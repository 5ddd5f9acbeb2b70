-- `frame::close_terminal` meets its contract: its stores are the marks around the text that is held. Assumes nothing.
use Rattle.frame.proofs.Steps.{closed_terminal}
use Rattle.frame.proofs.close_terminal.Goals as goal

pub returns : goal.returns
returns c = search closed_terminal
