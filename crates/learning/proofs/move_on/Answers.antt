-- `learning::move_on` meets its contract: a parameter's value and level stand at an offset. Assumes nothing.
use borrow.Author.Rules.{rules}
use Rattle.text.specs.Word.{equal}
use Rattle.command.specs.Commands.{row_of}
use Rattle.knowledge.specs.Sets.{mask_from}
use Rattle.learning.proofs.Moving.{moving, place_moved, value_moved}
use Rattle.learning.proofs.move_on.Goals as goal

pub returns-in-SetValue : goal.returns-in-SetValue
unfolding row_of mask_from equal
returns-in-SetValue c = search (moving, value_moved, rules)

pub returns-in-SetLevel : goal.returns-in-SetLevel
unfolding row_of mask_from equal
returns-in-SetLevel c = let only = rw c.from.ensures at c.alone.ensures in search (moving, place_moved, rules)
