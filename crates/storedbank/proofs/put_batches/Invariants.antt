-- `storedbank::put_batches` meets its contract. The invariant: the first i batches are stored. Assumes nothing.
use mathlib.Core.Path.{◌≡◌}
use lib.ListN.{length}
use Rattle.storedbank.proofs.Writing.{Laid}
use Rattle.storedbank.proofs.put_batches.Given as goal

abbrev pub invariant-loop-i : goal.invariant-loop-i
invariant-loop-i l = (length l.out ≡ length l.initial.out) × Laid l.bank l.i l.initial.out l.out
