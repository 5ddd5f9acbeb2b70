-- `reply::put_shown` meets its contract: each arm writes what its row of the table prints. Assumes nothing.
use native.Mathlib.Omega.{arith}
use borrow.Author.Rules.{rules}
use Rattle.base.specs.Text.{text}
use Rattle.command.specs.Commands.{row_of}
use Rattle.text.proofs.Writing.{joined, room-written}
use Rattle.reply.proofs.Laws.{shown, composition-laid, parameter-laid}
use Rattle.reply.proofs.put_shown.Goals as goal

pub put_codes-requires : goal.put_codes-requires
put_codes-requires c = omega (arith, (room-written _ _ _ _ _ (search rules) c.put_word-behind.ensures).0)

pub returns-in-Status : goal.returns-in-Status
unfolding row_of
returns-in-Status c = shown _ _ _ _ _ _ _ c.in-Status.is c.put_status.ensures

pub returns-in-Codes : goal.returns-in-Codes
unfolding row_of
returns-in-Codes c =
    shown _ _ _ _ _ _ _ c.in-Codes.is (joined _ _ _ _ _ _ _ _ (room-written _ _ _ _ _ (search rules) c.put_word-behind.ensures) c.put_codes.ensures)

pub returns-in-Number : goal.returns-in-Number
unfolding row_of
returns-in-Number c = shown _ _ _ _ _ _ _ c.in-Number.is c.put_labelled.ensures

pub returns-in-Recipe : goal.returns-in-Recipe
unfolding row_of
returns-in-Recipe c = shown _ _ _ _ _ _ _ c.in-Recipe.is c.put_labelled-in-Recipe.ensures

pub returns-in-Composition : goal.returns-in-Composition
unfolding row_of
returns-in-Composition c =
    shown _ _ _ _ _ _ _ c.in-Composition.is
    (composition-laid c.args.r _ _ _ _ _ _ c.recipe_place.ensures c.value_at.ensures c.put_two.ensures)

pub returns-in-Raw : goal.returns-in-Raw
unfolding row_of
returns-in-Raw c = shown _ _ _ _ _ _ _ c.in-Raw.is c.put_labelled-in-Raw.ensures

pub returns-in-Value : goal.returns-in-Value
unfolding row_of
returns-in-Value c =
    shown _ _ _ _ _ _ _ c.in-Value.is
    (parameter-laid (text "PV ") _ _ 8 _ _ _ _ _ _ c.code_at.ensures c.value_at-in-Value.ensures c.put_two-in-Value.ensures)

pub returns-in-Level : goal.returns-in-Level
unfolding row_of
returns-in-Level c =
    shown _ _ _ _ _ _ _ c.in-Level.is
    (parameter-laid (text "XV ") _ _ 1 _ _ _ _ _ _ c.code_at-in-Level.ensures c.level_at.ensures c.put_two-in-Level.ensures)

pub returns-in-Alarms : goal.returns-in-Alarms
unfolding row_of
returns-in-Alarms c = shown _ _ _ _ _ _ _ c.in-Alarms.is c.put_alarms.ensures
