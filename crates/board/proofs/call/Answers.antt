-- `board::call` meets its contract: by the list's refusal, and by the place where the request goes. Assumes nothing.
use native.Mathlib.Omega.{arith}
use Rattle.board.proofs.Search.{no_record, refused_so, nowhere_so, called_so, inside, few}
use borrow.Author.Rules.{rules}
use Rattle.board.proofs.call.Goals as goal

pub returns-in_err-check : goal.returns-in_err-check
returns-in_err-check c = search (refused_so, rules)

pub offset_bounds-records-at : goal.offset_bounds-records-at
offset_bounds-records-at c = omega (arith, few _ c.in_ok-check.ensures, inside _ _ _ _ _ c.find.ensures _ c.in-Ok.is)

pub slice_copy_out-call : goal.slice_copy_out-call
slice_copy_out-call c = inside _ _ _ _ _ c.find.ensures _ c.in-Ok.is

pub offset_bounds-records-at-in-Ok : goal.offset_bounds-records-at-in-Ok
offset_bounds-records-at-in-Ok c = omega (arith, few _ c.in_ok-check.ensures, inside _ _ _ _ _ c.find.ensures _ c.in-Ok.is)

pub bounds-records-at : goal.bounds-records-at
bounds-records-at c = inside _ _ _ _ _ c.find.ensures _ c.in-Ok.is

pub returns-in-Ok : goal.returns-in-Ok
returns-in-Ok c = called_so _ _ _ no_record _ c.in_ok-check.ensures _ c.find.ensures _ c.in-Ok.is _ _ _ c.call-called.ensures

pub returns-in-Err : goal.returns-in-Err
returns-in-Err c = nowhere_so _ _ _ no_record _ c.in_ok-check.ensures _ c.find.ensures _ c.in-Err.is
