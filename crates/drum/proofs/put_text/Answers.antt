-- `drum::put_text` meets its contract: the address digits, the letters and the numbers, joined. Assumes nothing.
use borrow.Author.Rules.{rules}
use Rattle.drum.proofs.Laws.{first_fits, second_fits, text-laid}
use Rattle.drum.proofs.put_text.Goals as goal

pub put_number-second-requires : goal.put_number-second-requires
put_number-second-requires c =
    first_fits _ c.args.m _ _ _ _ _ (search rules) (search rules) (rw c.from.ensures at c.put_digits-letters.ensures) c.put_word-first.ensures

pub put_number-requires : goal.put_number-requires
put_number-requires c =
    second_fits _ c.args.m _ _ _ _ _ (search rules) (search rules) (rw c.from.ensures at c.put_digits-letters.ensures) c.put_word-first.ensures
    _ _ c.put_number-second.ensures

pub returns : goal.returns
returns c =
    text-laid _ c.args.m _ _ _ _ _ (search rules) (search rules) (rw c.from.ensures at c.put_digits-letters.ensures) c.put_word-first.ensures
    _ _ c.put_number-second.ensures _ _ c.put_number.ensures
