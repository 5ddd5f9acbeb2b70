-- `several::next_due` meets its contract: `Turning` holds at each turn; one law for each way on and each way out. The measure is the bytes
-- left. Assumes nothing.
use Prim.Native.Nat.{◌-◌}
use lib.ListN.{length}
use Rattle.several.proofs.Turns.{Turning}
use Rattle.several.proofs.next_due.Given as goal

abbrev pub invariant-loop-start : goal.invariant-loop-start
invariant-loop-start l = Turning l.address l.room l.bytes l.from l.taken

abbrev pub decreases-loop-start : goal.decreases-loop-start
decreases-loop-start l = length l.bytes - l.taken
