-- `sheet::write` meets its contract: the lines of the first i recipes are laid. Assumes nothing.
use Rattle.text.proofs.Writing.{first-none}
use Rattle.sheet.proofs.Laws.{lines_none, lines_more, lines_all}
use borrow.Author.Rules.{rules}
use Rattle.sheet.proofs.write.Goals as goal

pub returns-then-out-lt-ROOM-clause-written : goal.returns-then-out-lt-ROOM-clause-written
returns-then-out-lt-ROOM-clause-written c = search first-none

pub loop-i-init : goal.loop-i-init
loop-i-init c = lines_none _ _ _ (search rules) (search rules) (search rules)

pub loop-i-preserved : goal.loop-i-preserved
loop-i-preserved c = lines_more c.loop-i.invariant _ _ (search rules) c.put_recipe-at.ensures

pub returns-clause-written : goal.returns-clause-written
returns-clause-written c = search lines_all
