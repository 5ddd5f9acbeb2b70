-- `reply::put_two` meets its contract: the word and the first number, and the space and the second behind them, are joined.
-- Assumes nothing.
use native.Mathlib.Omega.{arith}
use Rattle.text.proofs.Writing.{joined}
use Rattle.reply.proofs.Laws.{labelled-length}
use Rattle.reply.proofs.put_two.Goals as goal

pub put_labelled-requires : goal.put_labelled-requires
put_labelled-requires c =
    let s = c.args in
    omega (arith, labelled-length s.word.now s.width s.n)

pub returns : goal.returns
returns c = joined _ _ _ _ _ _ _ _ c.put_labelled-behind.ensures c.put_labelled.ensures
