-- `stored::put_parameters` meets its contract. The invariant: the first i parameters' numbers are stored. Assumes nothing.
use native.Mathlib.Omega.{arith}
use Rattle.stored.proofs.Writing.{parameters_none, parameters_more}
use Rattle.stored.proofs.Slots.{value-ends, level-ends, stored_180}
use borrow.Author.Rules.{rules}
use Rattle.stored.proofs.put_parameters.Goals as goal

pub loop-i-init : goal.loop-i-init
loop-i-init c = search parameters_none

pub put_number-requires : goal.put_number-requires
put_number-requires c = omega (arith, stored_180, (value-ends _ _ _ c.value_slot.ensures).0)

pub put_number-requires-in-loop-i : goal.put_number-requires-in-loop-i
put_number-requires-in-loop-i c = omega (arith, stored_180, (level-ends _ _ _ c.level_slot.ensures).0)

pub loop-i-preserved : goal.loop-i-preserved
loop-i-preserved c = search (parameters_more, rules)
