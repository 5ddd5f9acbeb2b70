-- `reply::put_alarms` meets its contract: each character has the alarms of its place. Assumes nothing.
use borrow.Author.Rules.{rules}
use Rattle.text.proofs.Writing.{room-written}
use Rattle.reply.proofs.Laws.{alarms-laid}
use Rattle.reply.proofs.put_alarms.Goals as goal

pub returns : goal.returns
returns c =
    alarms-laid _ _ _ _ _ _ _ _ _ _ c.alarm_character-first.ensures c.alarm_character-second.ensures c.alarm_character-third.ensures c.alarm_character-fourth.ensures
    c.alarm_character-fifth.ensures (room-written _ _ _ _ _ (search rules) c.put_word.ensures)
