-- `reply::put_labelled` meets its contract: the word, and the number behind it, are joined. Assumes nothing.
use borrow.Author.Rules.{rules}
use Rattle.text.proofs.Writing.{both_written, digits_high}
use Rattle.reply.proofs.put_labelled.Goals as goal

pub returns : goal.returns
returns c = both_written _ _ _ _ _ _ _ _ _ (digits_high _ _) (search rules) c.put_word-behind.ensures c.put_digits.ensures
