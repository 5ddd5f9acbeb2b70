-- `stored::put_scalars` meets its contract. The invariant: the numbers at the first places are stored. Assumes nothing.
use native.Mathlib.Omega.{arith}
use Rattle.stored.proofs.Writing.{scalars_none, scalars_more, scalars_all}
use Rattle.stored.proofs.Slots.{scalar_ends, scalar_below, stored_180}
use Rattle.stored.proofs.put_scalars.Goals as goal

pub loop-field-init : goal.loop-field-init
loop-field-init c = search scalars_none

pub put_number-requires : goal.put_number-requires
put_number-requires c = omega (arith, stored_180, scalar_ends _ _ c.scalar_slot.ensures (scalar_below _))

pub loop-field-preserved : goal.loop-field-preserved
loop-field-preserved c = search scalars_more

pub returns : goal.returns
returns c = scalars_all _ _ _ _ (omega arith) (omega arith) c.loop-field.invariant
