-- `stored::read_parameter` meets its contract: the value's reader, then the level's. Assumes nothing.
use Rattle.stored.proofs.Taking.{value_out, level_out, level_byte, both_in}
use borrow.Author.Rules.{rules}
use Rattle.stored.proofs.read_parameter.Goals as goal

pub returns-in_default : goal.returns-in_default
returns-in_default c = search value_out

pub returns-in_default-read_number : goal.returns-in_default-read_number
returns-in_default-read_number c = search level_out

pub overflow_cast-result : goal.overflow_cast-result
overflow_cast-result c = search (level_byte, rules)

pub returns : goal.returns
returns c = search both_in
