-- `reply::put_status` meets its contract: each character has the signs of its flags and phases. Assumes nothing.
use borrow.Author.Rules.{rules}
use Rattle.std.proofs.Common.{arith}
use Rattle.std.proofs.lemmas.Grind.{common_steps}
use Rattle.text.proofs.Writing.{room-written}
use Rattle.reply.proofs.Laws.{status-laid}
use Rattle.reply.proofs.put_status.Goals as goal

pub returns : goal.returns
returns c =
    status-laid _ _ _ _ _ _ _ _ _ _ _ _ _ c.character-first.ensures c.character-second.ensures c.character-third.ensures c.character-fourth.ensures
    (grind (arith, common_steps)) (grind (arith, common_steps)) (grind (arith, common_steps)) (grind (arith, common_steps))
    (room-written _ _ _ _ _ (search rules) c.put_word.ensures)
