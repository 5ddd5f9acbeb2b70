-- `stored::read_parameters` meets its contract. The invariants: the record is what the numbers of the parameters so far make of it.
-- Assumes nothing.
use Prim.Native.Nat.{◌+◌, ◌*◌}
use mathlib.Core.Path.{◌≡◌}
use Rattle.stored.specs.Layout.{parameters_at}
use Rattle.stored.specs.Form.{done, version_number}
use Rattle.stored.proofs.Taking.{taken}
use Rattle.stored.proofs.read_parameters.Given as goal

abbrev pub invariant-loop-recipe : goal.invariant-loop-recipe
invariant-loop-recipe l = taken l.s (parameters_at (version_number l.version)) l.initial.r (3 * l.recipe) ≡ (done, l.r)

abbrev pub invariant-loop-kind : goal.invariant-loop-kind
invariant-loop-kind l = taken l.s (parameters_at (version_number l.version)) l.fn.r (3 * l.recipe + l.kind) ≡ (done, l.r)

abbrev pub invariant-loop-i : goal.invariant-loop-i
invariant-loop-i l = taken l.s (parameters_at (version_number l.version)) l.fn.r l.i ≡ (done, l.r)
