-- `line::put_labelled` meets its contract: the word, and the number behind it, are joined. Assumes nothing.
use borrow.Author.Rules.{rules}
use Rattle.text.proofs.Writing.{both_written, decimal_high}
use Rattle.line.proofs.put_labelled.Goals as goal

pub returns : goal.returns
returns c = both_written _ _ _ _ _ _ _ _ _ (decimal_high _) (search rules) c.put_word-behind.ensures c.put_decimal.ensures
