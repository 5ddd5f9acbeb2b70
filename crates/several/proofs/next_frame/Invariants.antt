-- `several::next_frame` meets its contract: `Seeking` holds at each turn of the walk and `Searching` at each turn of the search; one law for
-- each way on and each way out. The measure is the bytes left. Assumes nothing.
use Prim.Native.Nat.{◌-◌}
use lib.ListN.{length}
use Rattle.several.proofs.Places.{Searching}
use Rattle.several.proofs.Seek.{Seeking}
use Rattle.several.proofs.next_frame.Given as goal

abbrev pub invariant-search : goal.invariant-search
invariant-search l = Searching l.bytes l.initial.start l.start l.at

abbrev pub invariant-walk : goal.invariant-walk
invariant-walk l = Seeking l.bytes l.from l.start

abbrev pub decreases-walk : goal.decreases-walk
decreases-walk l = length l.bytes - l.start
