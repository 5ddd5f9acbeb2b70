-- `several::next_due` meets its contract: `Turning` holds at each turn; one law for each way on and each way out. The measure is the bytes
-- left. Assumes nothing.
use Prim.Native.Nat.{ℕ}
use mathlib.Core.Path.{◌≡◌, ◌∙◌}
use borrow.Author.Rules.{rules}
use Rattle.std.specs.Prelude.{Result, Err}
use Rattle.std.proofs.Common.{arith}
use Rattle.std.proofs.lemmas.Grind.{common_steps}
use Rattle.several.specs.declared.NotDue.{NotDue}
use Rattle.several.specs.declared.NotDue.TheVariants.{Refused, OtherUnit}
use Rattle.std.proofs.lemmas.Result.{err_from_is_err_and}
use Rattle.several.proofs.Turns.{turn_begun, turn_stop, frame-places, next_fits, nearer_one, nearer_end, turn_on, turn_other, turn_room, text-fits, turn_answer}
use Rattle.several.proofs.next_due.Goals as goal

pub loop-start-init : goal.loop-start-init
loop-start-init c = search turn_begun

pub returns-in_err-start : goal.returns-in_err-start
returns-in_err-start c =
    let p = err_from_is_err_and c.from_residual.result c.from_residual.ensures.1 in
    rw (p.1, p.2) (search (turn_stop, c.in_err-start.ensures))

pub slice_bounds-due_to-count : goal.slice_bounds-due_to-count
slice_bounds-due_to-count c = search (frame-places, c.in_ok-start.ensures, rules)

pub slice_bounds-due_to-start : goal.slice_bounds-due_to-start
slice_bounds-due_to-start c = search (frame-places, c.in_ok-start.ensures, rules)

pub slice_bounds-due_to-end : goal.slice_bounds-due_to-end
slice_bounds-due_to-end c = search (frame-places, c.in_ok-start.ensures, rules)

pub overflow_add-text : goal.overflow_add-text
overflow_add-text c = search (next_fits, c.in_ok-start.ensures, rules)

pub overflow_add-result : goal.overflow_add-result
overflow_add-result c = search (text-fits, c.in_ok-start.ensures, c.in-Ok.ensures, rules)

pub returns-in-Ok : goal.returns-in-Ok
returns-in-Ok c = search (turn_answer, c.in_ok-start.ensures, c.in-Ok.ensures)

pub overflow_add-taken : goal.overflow_add-taken
overflow_add-taken c = search (next_fits, c.in_ok-start.ensures, rules)

pub loop-start-smaller-in-Err-Refused : goal.loop-start-smaller-in-Err-Refused
loop-start-smaller-in-Err-Refused c = search (nearer_one, c.in_ok-start.ensures)

pub loop-start-preserved-in-Err-Refused : goal.loop-start-preserved-in-Err-Refused
loop-start-preserved-in-Err-Refused c =
    let why : ◌≡◌ {A = Result ℕ NotDue} (Err Refused) (Err c.in-Err-Refused.field-0) = grind (arith, common_steps) in
    let due = why ∙ c.in-Err-Refused.ensures in
    search (turn_on, c.in_ok-start.ensures, due, rules)

pub loop-start-smaller : goal.loop-start-smaller
loop-start-smaller c = search (nearer_end, c.in_ok-start.ensures)

pub loop-start-preserved : goal.loop-start-preserved
loop-start-preserved c =
    let why : ◌≡◌ {A = Result ℕ NotDue} (Err OtherUnit) (Err c.in-Err-OtherUnit.field-0) = grind (arith, common_steps) in
    let due = why ∙ c.in-Err-OtherUnit.ensures in
    search (turn_other, c.in_ok-start.ensures, due, rules)

pub returns-in-Err-NoRoom : goal.returns-in-Err-NoRoom
returns-in-Err-NoRoom c = search (turn_room, c.in_ok-start.ensures, c.in-Err-NoRoom.ensures, rules)
