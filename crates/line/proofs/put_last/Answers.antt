-- `line::put_last` meets its contract: the word and the number, and the end of the line behind them, are joined. Assumes nothing.
use borrow.Author.Rules.{rules}
use Rattle.line.proofs.Laws.{last_laid}
use Rattle.line.proofs.put_last.Goals as goal

pub returns : goal.returns
returns c =
    let s = c.args in
    last_laid _ _ _ s.n s.word.now _ _ _ (search rules) c.put_labelled-behind.ensures c.put_word.ensures
