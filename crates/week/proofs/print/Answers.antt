-- `week::print` meets its contract: in each arm what is written is what is printed. Assumes nothing.
use Rattle.text.proofs.Writing.{first-none}
use Rattle.week.proofs.Laws.{lines_printed, refused_printed}
use Rattle.week.proofs.print.Goals as goal

pub returns-then-out-lt-ROOM-clause-written : goal.returns-then-out-lt-ROOM-clause-written
returns-then-out-lt-ROOM-clause-written c = search first-none

pub returns-in-Ok-clause-written : goal.returns-in-Ok-clause-written
returns-in-Ok-clause-written c = search lines_printed

pub returns-in-Err-clause-written : goal.returns-in-Err-clause-written
returns-in-Err-clause-written c = search refused_printed
