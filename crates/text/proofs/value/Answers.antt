-- `text::value` meets its contract. The loop's invariant: n is the number of the digits so far, of at most as many digits itself.
-- Assumes nothing.
use Rattle.std.proofs.Common.{arith}
use Rattle.std.specs.Prelude.{slice_index}
use Rattle.text.proofs.Words.{Room, reading_room, reading_again, reading_done}
use Rattle.text.proofs.value.Goals as goal
use Rattle.text.proofs.value.Goals.{In-loop-digit}

room : (c : In-loop-digit) → Room c.loop-digit.n (slice_index c.args.s.now c.loop-digit.digit-index)
room c = search reading_room

pub overflow_sub-n : goal.overflow_sub-n
overflow_sub-n c = omega (arith, room (goal.at.overflow_sub-n c).In-loop-digit)

pub overflow_mul-n : goal.overflow_mul-n
overflow_mul-n c = omega (arith, room (goal.at.overflow_mul-n c).In-loop-digit)

pub loop-digit-preserved : goal.loop-digit-preserved
loop-digit-preserved c = reading_again _ _ _ _ (omega arith) c.from.ensures c.loop-digit.invariant

pub returns : goal.returns
returns c = search reading_done
