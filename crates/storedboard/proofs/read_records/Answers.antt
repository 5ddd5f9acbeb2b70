-- `storedboard::read_records` meets its contract: what is left of the forms decides as all of them do. Assumes nothing.
use mathlib.Core.Path.{refl}
use borrow.Author.Rules.{rules}
use Rattle.storedboard.proofs.Reading.{none_yet, all_read, part_fits, found_refused, one_more}
use Rattle.storedboard.proofs.read_records.Goals as goal

pub loop-i-init : goal.loop-i-init
loop-i-init c = none_yet c.requires refl

pub slice_bounds-read-end : goal.slice_bounds-read-end
slice_bounds-read-end c = search (part_fits, rules)

pub returns-in_err-record : goal.returns-in_err-record
returns-in_err-record c = found_refused c.loop-i.invariant c.loop-i-test.true _ c.read.ensures _ c.in_err-record.was _ (search rules) _

pub loop-i-preserved : goal.loop-i-preserved
loop-i-preserved c = one_more c.loop-i.invariant c.loop-i-test.true _ c.read.ensures _ c.in_ok-record.was

pub returns : goal.returns
returns c = search (all_read c.loop-i.invariant, rules)
