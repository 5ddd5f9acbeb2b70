-- `text::fill_digits` meets its contract. The loop's invariant: the digits of the rest, as many as are left, and behind them
-- those that are written, are the number's. Assumes nothing.
use Rattle.std.proofs.Common.{arith}
use Rattle.text.proofs.Writing.{digits_again, digits-done}
use Rattle.text.proofs.fill_digits.Goals as goal

pub loop-i-preserved : goal.loop-i-preserved
loop-i-preserved c = digits_again _ _ _ _ (omega arith) (omega arith) c.loop-i.invariant

pub returns : goal.returns
returns c = search digits-done
