-- `drum::put_number` meets its contract: no number, or the space and the digits joined. Assumes nothing.
use borrow.Author.Rules.{rules}
use Rattle.drum.proofs.Laws.{number-none, number-laid}
use Rattle.drum.proofs.put_number.Goals as goal

pub returns-in_default : goal.returns-in_default
returns-in_default c = number-none _ _ _ c.in_default.is

pub returns : goal.returns
returns c = number-laid _ _ _ _ _ _ _ _ c.in-Some.is c.in-Some.n.narrow (search rules) c.put_word-behind.ensures (rw c.from.ensures at c.put_digits.ensures)
