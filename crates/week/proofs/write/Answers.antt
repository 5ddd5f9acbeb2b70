-- `week::write` meets its contract: what was read is printed. Assumes nothing.
use Rattle.week.proofs.Laws.{week_printed}
use Rattle.week.proofs.write.Goals as goal

pub returns-clause-written : goal.returns-clause-written
returns-clause-written c = search week_printed
