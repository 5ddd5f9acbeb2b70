-- `stored::read_numbers` meets its contract: a number outside of its slot refuses all, and so does an unused bit of the alarms; else each
-- goes into its field. Assumes nothing.
use mathlib.Core.Path.{◌≡◌, refl, sym, ap, ◌∙◌}
use native.Mathlib.Omega.{arith}
use lib.ListN.{length, replicate}
use Rattle.state.specs.Parameter.{parameter_count}
use Rattle.state.specs.Field.{put, record_from}
use Rattle.stored.specs.Layout.{alarms_in, put_bits, put_all}
use Rattle.stored.specs.Form.{filled_as, low_record, version_number, version_of, body_of}
use Rattle.stored.proofs.Versions.{version_found, scalar_room, alarms_reach, parameters_room}
use Rattle.stored.proofs.Taking.{body_outside, alarms_outside, is_byte, is_two_bytes, body_inside}
use borrow.Author.Rules.{rules}
use Rattle.stored.proofs.read_numbers.Goals as goal
use Rattle.stored.proofs.read_numbers.Goals.{After-read_parameters}

pub read_number-requires : goal.read_number-requires
read_number-requires c = scalar_room _ c.requires 0 _ (omega arith) c.scalar_slot.ensures

pub returns-in_default-read_number : goal.returns-in_default-read_number
returns-in_default-read_number c = search (body_outside, rules)

pub read_number-requires-2 : goal.read_number-requires-2
read_number-requires-2 c = scalar_room _ c.requires 1 _ (omega arith) c.scalar_slot-2.ensures

pub returns-in_default-read_number-2 : goal.returns-in_default-read_number-2
returns-in_default-read_number-2 c = search (body_outside, rules)

pub read_number-requires-3 : goal.read_number-requires-3
read_number-requires-3 c = scalar_room _ c.requires 2 _ (omega arith) c.scalar_slot-3.ensures

pub returns-in_default-read_number-3 : goal.returns-in_default-read_number-3
returns-in_default-read_number-3 c = search (body_outside, rules)

pub read_number-requires-4 : goal.read_number-requires-4
read_number-requires-4 c = scalar_room _ c.requires 3 _ (omega arith) c.scalar_slot-4.ensures

pub returns-in_default-read_number-4 : goal.returns-in_default-read_number-4
returns-in_default-read_number-4 c = search (body_outside, rules)

pub read_number-requires-5 : goal.read_number-requires-5
read_number-requires-5 c = scalar_room _ c.requires 4 _ (omega arith) c.scalar_slot-5.ensures

pub returns-in_default-read_number-5 : goal.returns-in_default-read_number-5
returns-in_default-read_number-5 c = search (body_outside, rules)

pub read_number-requires-6 : goal.read_number-requires-6
read_number-requires-6 c = scalar_room _ c.requires 5 _ (omega arith) c.scalar_slot-6.ensures

pub returns-in_default-read_number-6 : goal.returns-in_default-read_number-6
returns-in_default-read_number-6 c = search (body_outside, rules)

pub read_number-requires-7 : goal.read_number-requires-7
read_number-requires-7 c = scalar_room _ c.requires 6 _ (omega arith) c.scalar_slot-7.ensures

pub returns-in_default-read_number-7 : goal.returns-in_default-read_number-7
returns-in_default-read_number-7 c = search (body_outside, rules)

pub read_number-requires-8 : goal.read_number-requires-8
read_number-requires-8 c = scalar_room _ c.requires 7 _ (omega arith) c.scalar_slot-8.ensures

pub returns-in_default-read_number-8 : goal.returns-in_default-read_number-8
returns-in_default-read_number-8 c = search (body_outside, rules)

pub read_alarms-requires : goal.read_alarms-requires
read_alarms-requires c =
    let v : version_number c.in-Some.version ≡ version_of (length c.args.s.now) = version_found _ _ _ c.version_of.ensures c.in-Some.is in
    alarms_reach _ _ c.requires v

pub returns-in_default-read_alarms : goal.returns-in_default-read_alarms
returns-in_default-read_alarms c =
    let v : version_number c.in-Some.version ≡ version_of (length c.args.s.now) = version_found _ _ _ c.version_of.ensures c.in-Some.is in
    alarms_outside _ c.requires _ v _ c.read_alarms.ensures c.in_default-read_alarms.is

pub overflow_cast-record : goal.overflow_cast-record
overflow_cast-record c = omega (arith, is_byte _ 0 _ _ _ c.scalar_slot.ensures c.read_number.ensures c.in-Some-read_number.is (omega arith))

pub overflow_cast-record-2 : goal.overflow_cast-record-2
overflow_cast-record-2 c = omega (arith, is_byte _ 1 _ _ _ c.scalar_slot-2.ensures c.read_number-2.ensures c.in-Some-read_number-2.is (omega arith))

pub overflow_cast-record-3 : goal.overflow_cast-record-3
overflow_cast-record-3 c = omega (arith, is_byte _ 4 _ _ _ c.scalar_slot-5.ensures c.read_number-5.ensures c.in-Some-read_number-5.is (omega arith))

pub overflow_cast-record-4 : goal.overflow_cast-record-4
overflow_cast-record-4 c = omega (arith, is_two_bytes _ 7 _ _ _ c.scalar_slot-8.ensures c.read_number-8.ensures c.in-Some-read_number-8.is refl)

pub read_parameters-requires : goal.read_parameters-requires
read_parameters-requires c =
    let v : version_number c.in-Some.version ≡ version_of (length c.args.s.now) = version_found _ _ _ c.version_of.ensures c.in-Some.is in
    parameters_room _ _ c.requires v

filled : (c : After-read_parameters) → filled_as c.read_parameters.result c.read_parameters.new.r ≡ body_of c.args.s.now
unfolding alarms_in put_all put_bits put low_record record_from
filled c =
    let v : version_number c.in-Some.version ≡ version_of (length c.args.s.now) = version_found _ _ _ c.version_of.ensures c.in-Some.is in
    body_inside _ c.requires _ v _ c.read_alarms.ensures _ _ _ _ _ _ _ _ _ _ _ _ _ _ _ _ _ _ _ _ _ _ _ _ c.scalar_slot.ensures c.read_number.ensures c.in-Some-read_number.is c.scalar_slot-2.ensures c.read_number-2.ensures c.in-Some-read_number-2.is c.scalar_slot-3.ensures c.read_number-3.ensures c.in-Some-read_number-3.is c.scalar_slot-4.ensures c.read_number-4.ensures c.in-Some-read_number-4.is c.scalar_slot-5.ensures c.read_number-5.ensures c.in-Some-read_number-5.is c.scalar_slot-6.ensures c.read_number-6.ensures c.in-Some-read_number-6.is c.scalar_slot-7.ensures c.read_number-7.ensures c.in-Some-read_number-7.is c.scalar_slot-8.ensures c.read_number-8.ensures c.in-Some-read_number-8.is _ c.in-Some-read_alarms.is _ (replicate parameter_count 0) (replicate parameter_count 0) _ refl refl (simp c.phase_of.ensures) c.read_parameters.ensures

pub returns-in_default-read_parameters : goal.returns-in_default-read_parameters
returns-in_default-read_parameters c = ap (λ x. filled_as x c.read_parameters.new.r) (sym c.in_default-read_parameters.is) ∙ filled (goal.at.returns-in_default-read_parameters c).After-read_parameters

pub returns : goal.returns
returns c = ap (λ x. filled_as x c.read_parameters.new.r) (sym c.in-Err.is) ∙ filled (goal.at.returns c).After-read_parameters
