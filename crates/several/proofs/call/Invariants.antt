-- `several::call` meets its contract: `Walking` holds at each turn; one law for each way on and each way out. The measure is the bytes left.
-- Assumes nothing.
use Prim.Native.Nat.{◌-◌}
use lib.ListN.{length}
use Rattle.several.specs.Several.{called_alone}
use Rattle.several.proofs.Walk.{Walking}
use Rattle.several.proofs.call.Given as goal

abbrev pub invariant-loop-place : goal.invariant-loop-place
invariant-loop-place g l =
    Walking (called_alone g.H.Held.called) g.H.Held.valid g.H.Held.address l.bytes l.initial.out l.initial.held l.out l.taken l.answered l.written l.held

abbrev pub decreases-loop-place : goal.decreases-loop-place
decreases-loop-place g l = length l.bytes - l.taken
