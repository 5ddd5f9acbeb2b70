-- `stored::number_in` meets its contract. The invariant: the number of the first bytes. Assumes nothing.
use Rattle.stored.proofs.Bytes.{Begun}
use Rattle.stored.proofs.number_in.Given as goal

abbrev pub invariant-loop-byte : goal.invariant-loop-byte
invariant-loop-byte l = Begun l.s l.n l.byte-index
