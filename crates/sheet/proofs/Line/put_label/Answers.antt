-- `sheet::Line::put_label` meets its contract: the recipe and the number of batches, with their spaces, are joined. Assumes nothing.
use Rattle.sheet.proofs.Laws.{label_laid}
use borrow.Author.Rules.{rules}
use Rattle.sheet.proofs.Line.put_label.Goals as goal

pub returns : goal.returns
returns c =
    let a = c.args.self in
    label_laid a.recipe a.count _ _ _ _ _ _ _ _ _ _ (search rules) c.put_digits-space.ensures c.put_word-number.ensures (rw c.from.ensures at c.put_decimal-gap.ensures) c.put_word.ensures
