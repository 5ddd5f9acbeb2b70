-- `storedboard::lend` meets its contract: what the board's call left is saved if there is a reply. Assumes nothing.
use Rattle.storedboard.proofs.Writing.{lent_silent, lent_to, lent_nowhere}
use Rattle.storedboard.proofs.lend.Goals as goal

pub returns-then-is_silent : goal.returns-then-is_silent
returns-then-is_silent c = lent_silent _ _ _ _ _ _ c.call-answer.ensures _ c.is_silent.ensures c.if-is_silent.true

pub returns-in-Some : goal.returns-in-Some
returns-in-Some c =
    lent_to _ _ _ _ _ _ c.call-answer.ensures _ c.is_silent.ensures c.if-is_silent.false _ c.target_of.ensures _ c.in-Some.is _ c.save.ensures

pub returns-in_default : goal.returns-in_default
returns-in_default c = lent_nowhere _ _ _ _ _ _ c.call-answer.ensures _ c.is_silent.ensures c.if-is_silent.false _ c.target_of.ensures c.in_default.is
