-- `line::write` meets its contract: in each arm what is written is the line of its answer. Assumes nothing.
use native.Mathlib.Omega.{arith}
use Rattle.line.proofs.Laws.{labelled_high, refuted_word, written_refuted, written_refused, writing}
use borrow.Author.Rules.{rules}
use Rattle.line.proofs.write.Goals as goal

pub put_last-requires-in-Ok-Refuted : goal.put_last-requires-in-Ok-Refuted
put_last-requires-in-Ok-Refuted c = omega (arith, labelled_high refuted_word c.in-Ok-Refuted.i)

pub returns-in-Ok-Fits : goal.returns-in-Ok-Fits
returns-in-Ok-Fits c = let e = rw c.in-Ok-Fits.is at c.in-Ok-Fits.field-0-is in search (writing, rules)

pub returns-in-Ok-Refuted : goal.returns-in-Ok-Refuted
returns-in-Ok-Refuted c =
    written_refuted _ _ _ c.if-out-lt-ROOM.false _ c.in-Ok-Refuted.is _ _ _ _ _ (rw c.in-Ok-Refuted.is at c.in-Ok-Refuted.field-0-is) c.put_labelled-behind.ensures c.put_last-in-Ok-Refuted.ensures

pub returns-in-Ok-NotJudged : goal.returns-in-Ok-NotJudged
returns-in-Ok-NotJudged c = let e = rw c.in-Ok-NotJudged.is at c.in-Ok-NotJudged.field-0-is in search (writing, rules)

pub returns-in-Err : goal.returns-in-Err
returns-in-Err c = written_refused _ _ _ c.if-out-lt-ROOM.false _ _ _ _ c.in-Err.is c.from.ensures c.from-in-Err.ensures c.put_last-in-Err.ensures
