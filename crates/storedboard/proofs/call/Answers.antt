-- `storedboard::call` meets its contract: one law for each return. Assumes nothing.
use Rattle.std.proofs.Common.{◌≡◌, ◌/◌, true, length, rules, refl, ap}
use Rattle.base.specs.Test.{between}
use Rattle.storedboard.specs.Steps.{read_as}
use Rattle.storedboard.proofs.Calling.{as_lent, forms_fit, left_broken, left_unlisted, left_refused, left_called}
use Rattle.storedboard.proofs.call.Goals as goal
use Rattle.storedboard.proofs.call.Goals.{After-low_record-records}

pub returns-then-stored-ne0 : goal.returns-then-stored-ne0
returns-then-stored-ne0 c = search left_broken

pub returns-then-not-contains : goal.returns-then-not-contains
returns-then-not-contains c = search (left_unlisted, rules)

-- as many records as are lent
listed : (c : After-low_record-records) → between 1 16 (length c.args.stored.now / 180) ≡ true
listed c = search rules

pub read_records-requires : goal.read_records-requires
read_records-requires c = forms_fit _ _ refl (listed (goal.at.read_records-requires c).After-low_record-records)

pub returns-in_err-read_records : goal.returns-in_err-read_records
returns-in_err-read_records c =
    let few = listed (goal.at.returns-in_err-read_records c).After-low_record-records in
    left_refused _ _ _ _ c.if-stored-ne0.false _ (as_lent _ _ refl few) few _ c.read_records.ensures.0 _ c.in_err-read_records.was _ (search rules)

pub returns : goal.returns
returns c =
    let few = listed (goal.at.returns c).After-low_record-records in
    left_called _ _ _ _ c.if-stored-ne0.false _ (as_lent _ _ refl few) few _ c.read_records.ensures.0 _ _ _ _ (ap read_as c.in_ok-read_records.was) c.read_records.ensures.1 c.lend.ensures
