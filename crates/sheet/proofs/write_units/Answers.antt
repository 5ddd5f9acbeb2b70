-- `sheet::write_units` meets its contract: nothing where there is no room, and else the sum. Assumes nothing.
use Rattle.text.proofs.Writing.{first-none, first-laid}
use Rattle.sheet.proofs.write_units.Goals as goal

pub returns-then-out-lt-LINE_ROOM-clause-written : goal.returns-then-out-lt-LINE_ROOM-clause-written
returns-then-out-lt-LINE_ROOM-clause-written c = search first-none

pub returns-clause-written : goal.returns-clause-written
returns-clause-written c = search first-laid
