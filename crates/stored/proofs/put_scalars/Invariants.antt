-- `stored::put_scalars` meets its contract. The invariant: the numbers at the first places are stored. Assumes nothing.
use Rattle.stored.proofs.Writing.{Scalars}
use Rattle.stored.proofs.put_scalars.Given as goal

abbrev pub invariant-loop-field : goal.invariant-loop-field
invariant-loop-field l = Scalars l.r l.field-index l.initial.out l.out
