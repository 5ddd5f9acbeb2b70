-- A write is echoed, or refused as PC refuses it. Assumes nothing.
use Rattle.std.proofs.Common.{Ok, Err, ap, ◌∙◌}
use Rattle.modbus.specs.Reply.{refusal, laid}
use Rattle.modbus.proofs.Answering.{written_as}
use Rattle.modbus.proofs.write.Goals as goal

pub returns-in-Ok : goal.returns-in-Ok
returns-in-Ok c = written_as (Ok c.in-Ok.writing) _ _ _ _ _ _ _ c.in-Ok.ensures c.echo.ensures

pub returns-in-Err : goal.returns-in-Err
returns-in-Err c =
    written_as (Err c.in-Err.why) _ _ _ _ _ _ _ c.in-Err.ensures
    (c.refuse.ensures ∙ ap (λ n. laid (refusal n c.args.q.now) c.args.out.now) c.from.ensures)
