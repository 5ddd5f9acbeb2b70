-- `storedboard::read_records` meets its contract: what is left of the forms decides as all of them do. Assumes nothing.
use lib.ListN.{length}
use Rattle.storedboard.proofs.Reading.{Passed}
use Rattle.storedboard.proofs.read_records.Given as goal

abbrev pub invariant-loop-i : goal.invariant-loop-i
invariant-loop-i l = Passed l.stored (length l.initial.records) l.records l.i
