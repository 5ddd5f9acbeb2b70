-- `reply::write` meets its contract: the address digits, and the answer behind them, are joined. Assumes nothing.
use mathlib.Core.Path.{ap}
use native.Mathlib.Omega.{arith}
use borrow.Author.Rules.{rules}
use Rattle.std.specs.Prelude.{Ok}
use Rattle.command.specs.declared.Request.TheVariants.{Read, Write}
use Rattle.base.specs.Text.{text}
use Rattle.reply.specs.Reply.{labelled}
use Rattle.text.proofs.Writing.{laid_same, room-written}
use Rattle.reply.proofs.Laws.{address-end, written, written_none}
use Rattle.reply.proofs.write.Goals as goal

pub returns-then-out-lt60 : goal.returns-then-out-lt60
returns-then-out-lt60 c = written_none _ _ _ c.if-out-lt60.true

pub put_labelled-requires : goal.put_labelled-requires
put_labelled-requires c =
    omega (arith, address-end _ _ _ _ c.if-out-lt60.false c.put_digits-behind.ensures)

pub put_shown-requires : goal.put_shown-requires
put_shown-requires c =
    omega (arith, address-end _ _ _ _ c.if-out-lt60.false c.put_digits-behind.ensures)

pub returns-in-Err : goal.returns-in-Err
returns-in-Err c =
    written _ _ _ _ _ _ _ _ c.if-out-lt60.false c.in-Err.is c.put_digits-behind.ensures
    (laid_same _ _ _ _ _ _ (ap (labelled (text "NO") 2) c.from.ensures) c.put_labelled.ensures)

pub returns-in-Ok-Read : goal.returns-in-Ok-Read
returns-in-Ok-Read c =
    written _ (Ok (Read c.in-Ok-Read.reading)) c.args.r _ _ _ _ _ c.if-out-lt60.false (search rules) c.put_digits-behind.ensures c.put_shown.ensures

pub returns-in-Ok-Write : goal.returns-in-Ok-Write
returns-in-Ok-Write c =
    let h = c.if-out-lt60.false in
    written _ (Ok (Write c.in-Ok-Write.field-0-0)) c.args.r _ _ _ _ _ h (search rules) c.put_digits-behind.ensures
    (room-written _ _ _ _ _ (omega (arith, address-end _ _ _ _ h c.put_digits-behind.ensures)) c.put_word.ensures)
