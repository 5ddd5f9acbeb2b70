-- `begin` meets its contract. The invariant: the fields of the first i parameters have their codes, and in all others any number is
-- possible. Assumes nothing.
use mathlib.Core.Path.{◌≡◌}
use Rattle.knowledge.proofs.Steps.{begun}
use Rattle.knowledge.proofs.begin.Given as goal

abbrev pub invariant-loop-i : goal.invariant-loop-i
invariant-loop-i l = l.codes ≡ begun l.address l.access l.i
