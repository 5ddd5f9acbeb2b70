-- `storedbank::read_batches` meets its contract. The invariant: the first i batches are read, and are valid. Assumes nothing.
use Rattle.storedbank.proofs.Taking.{Taken}
use Rattle.storedbank.proofs.read_batches.Given as goal

abbrev pub invariant-loop-i : goal.invariant-loop-i
invariant-loop-i l = Taken l.s l.i l.bank.batches
