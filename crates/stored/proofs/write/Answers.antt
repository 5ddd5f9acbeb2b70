-- `stored::write` meets its contract: the header, the numbers and the parameters' numbers one behind the other from the start on, or nothing. Assumes nothing.
use native.Mathlib.Omega.{arith}
use Rattle.stored.proofs.Writing.{write_invalid, write_short, write_whole}
use Rattle.stored.proofs.Slots.{stored_180}
use Rattle.stored.proofs.write.Goals as goal

pub returns-then-not-valid : goal.returns-then-not-valid
returns-then-not-valid c = search write_invalid

pub returns-then-out-lt-STORED_LENGTH : goal.returns-then-out-lt-STORED_LENGTH
returns-then-out-lt-STORED_LENGTH c = search write_short

pub put_scalars-requires : goal.put_scalars-requires
put_scalars-requires c = omega (arith, stored_180)

pub put_parameters-requires : goal.put_parameters-requires
put_parameters-requires c = omega (arith, stored_180)

pub returns : goal.returns
returns c = search write_whole
