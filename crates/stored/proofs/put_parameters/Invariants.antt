-- `stored::put_parameters` meets its contract. The invariant: the first i parameters' numbers are stored. Assumes nothing.
use Rattle.stored.proofs.Writing.{Parameters}
use Rattle.stored.proofs.put_parameters.Given as goal

abbrev pub invariant-loop-i : goal.invariant-loop-i
invariant-loop-i l = Parameters l.r l.i l.initial.out l.out
