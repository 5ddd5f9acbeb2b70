-- `stored::read_parameters` meets its contract. The invariants: the record is what the numbers of the parameters so far make of it.
-- Assumes nothing.
use native.Mathlib.Omega.{arith}
use Rattle.stored.proofs.Taking.{begun, one_outside, both_inside, next_kind, all_taken, recipe-range}
use Rattle.stored.proofs.read_parameters.Goals as goal

pub loop-recipe-init : goal.loop-recipe-init
loop-recipe-init c = begun _ _ _

pub read_parameter-requires : goal.read_parameter-requires
read_parameter-requires c = (c.requires, omega arith, recipe-range _ _ _ c.loop-recipe-test.true c.loop-kind-test.true c.range_at.ensures)

pub returns-in_default : goal.returns-in_default
returns-in_default c = one_outside _ _ _ _ _ c.loop-kind.invariant _ c.read_parameter.ensures (omega arith) c.in_default.is

pub loop-kind-preserved : goal.loop-kind-preserved
loop-kind-preserved c = next_kind _ _ _ _ _ _ c.loop-kind.invariant _ c.read_parameter.ensures _ _ c.in-Some.is

pub returns-in_default-read_parameter : goal.returns-in_default-read_parameter
returns-in_default-read_parameter c = one_outside _ _ _ _ _ c.loop-i.invariant _ c.read_parameter-in-loop-i.ensures (omega arith) c.in_default-read_parameter.is

pub loop-i-preserved : goal.loop-i-preserved
loop-i-preserved c = both_inside _ _ _ _ _ c.loop-i.invariant _ c.read_parameter-in-loop-i.ensures _ _ c.in-Some-read_parameter.is

pub returns : goal.returns
returns c = all_taken _ _ _ _ c.loop-i.i c.loop-i.invariant (omega arith) (omega arith)
