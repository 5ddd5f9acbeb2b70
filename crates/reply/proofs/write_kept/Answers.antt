-- `reply::write_kept` meets its contract: the address digits, and NO03 or the volume behind them, are joined. Assumes nothing.
use Rattle.reply.proofs.Laws.{batch-writing, volume_room}
use Rattle.reply.proofs.write_kept.Goals as goal

pub returns-then-out-lt60 : goal.returns-then-out-lt60
returns-then-out-lt60 c = search batch-writing

pub put_two-requires : goal.put_two-requires
put_two-requires c = search volume_room

pub returns-in-None : goal.returns-in-None
returns-in-None c = search batch-writing

pub returns-in-Some : goal.returns-in-Some
returns-in-Some c = search batch-writing
