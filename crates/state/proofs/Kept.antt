-- A record is valid exactly if each field lies in its own range; so a write within a field's range, a panel event, a phase change,
-- AR and PC keep it valid. Assumes nothing.
use Prim.Native.Nat.{ℕ, zero, suc, ◌+◌, ◌%◌, ◌≤◌, ◌<◌}
use mathlib.Core.Bool.{Bool, true, false, ◌&&◌, ◌||◌}
use mathlib.Core.Path.{◌≡◌, refl, ap, ◌∙◌}
use native.Mathlib.Omega.{arith}
use native.Mathlib.Numerals.{add-one}
use lib.Dec.{eqb, leb, ltb}
use lib.ListN.{length, get_or}
use borrow.Author.Tests.{eq-eqb, ltb-true}
use Rattle.state.specs.declared.Event.{Event}
use Rattle.state.specs.declared.Event.TheVariants.{Pulses, Still, KeypadOn, KeypadOff, PowerBack, AlarmOn, AlarmOff}
use Rattle.state.specs.declared.Record.{Record}
use Rattle.base.specs.Test.{pick}
use Rattle.state.specs.Parameter.{parameter_count}
use Rattle.state.specs.Alarm.{is_alarm, raised, cleared, lasting}
use Rattle.state.specs.Field.{Field, address, phase, keypad, flow, reset, powerfail, preset, raw, number, alarms, value, level, get, put, field_range, scalar_fields, fields_for, parameter_fields, on, off, Held}
use Rattle.state.specs.Valid.{within, all_in, full_length, valid}
use Rattle.state.specs.Event.{set, running, stopped, done, idle, in_phase, pulses, finished, power_back, keypad_on, alarm_changed, happened, after, next_number, batch_set, started, halted, ended, alarms_reset, flag_after, replaced}
use Rattle.base.proofs.Tests.{by_test, and_yes, and_left, and_right, between_yes}
use Rattle.state.proofs.Fields.{by_fields, scalar_at, at_field, get-put-same, get-put_other, put_values_length, put_levels_length}
use Rattle.state.proofs.Alarms.{raised-within, cleared-within, lasting-within}
use Rattle.state.proofs.Validity.{all_at, all_from, pair_in, pairs_more, fields_split, valid_tell}

-- ---- valid exactly if each field is in its range
module _ (r : Record) where
  pub field_in : valid r ≡ true → (f : Field) → Held f → within (field_range f) (get f r) ≡ true
  field_in v =
      let t = valid_tell r v in
      by_fields (λ (f : Field). Held f → within (field_range f) (get f r) ≡ true) (λ n l h. all_at r scalar_fields n t.scalars_in l)
      (λ i h. and_left _ (within (field_range (level i)) (get (level i) r)) (t.pairs i (omega arith)))
      (λ i h. and_right (within (field_range (value i)) (get (value i) r)) _ (t.pairs i (omega arith)))

  module _ (h : (f : Field) → Held f → within (field_range f) (get f r) ≡ true) where
    pairs_from : (n : ℕ) → n ≤ parameter_count → all_in r (parameter_fields n) ≡ true
    unfolding all_in
    pairs_from zero l = refl
    pairs_from (suc n) l =
        let e : all_in r (parameter_fields (n + 1)) ≡ true =
        pairs_more r n ∙ and_yes (all_in r (parameter_fields n)) (pair_in r n) (pairs_from n (omega arith))
        (and_yes (within (field_range (value n)) (get (value n) r)) (within (field_range (level n)) (get (level n) r)) (h (value n) (omega arith)) (h (level n) (omega arith))) in
        rw add-one at e

    scalars_from : all_in r scalar_fields ≡ true
    scalars_from = all_from r scalar_fields (λ n l. let e = scalar_at n l in h (get_or scalar_fields n address) (omega arith))

    pub fields_in : length r.values ≡ parameter_count → length r.levels ≡ parameter_count → valid r ≡ true
    unfolding valid
    fields_in v l =
        and_yes (full_length r) (all_in r (fields_for parameter_count))
        (and_yes (eqb (length r.values) parameter_count) (eqb (length r.levels) parameter_count) (eq-eqb _ _ v) (eq-eqb _ _ l))
        (fields_split r parameter_count ∙ and_yes (all_in r scalar_fields) (all_in r (parameter_fields parameter_count)) scalars_from (pairs_from parameter_count (omega arith)))

-- ---- a write within the field's range
module _ (r : Record) (v : valid r ≡ true) where
  pub get-put_own : (f : Field) (n : ℕ) → Held f → within (field_range f) n ≡ true → get f (put f n r) ≡ n
  get-put_own f n l h = let t = valid_tell r v in get-put-same r t.values_length t.levels_length f n l h

  pub put_kept : (f : Field) (n : ℕ) → within (field_range f) n ≡ true → valid (put f n r) ≡ true
  put_kept f n h =
      let t = valid_tell r v in
      fields_in (put f n r)
      (at_field f (λ g. Held g → within (field_range g) (get g (put f n r)) ≡ true)
      (λ l. ap (within (field_range f)) (get-put_own f n l h) ∙ h)
      (λ g other l. ap (within (field_range g)) (get-put_other f g n r other) ∙ field_in r v g l))
      (put_values_length f n r ∙ t.values_length) (put_levels_length f n r ∙ t.levels_length)

-- ---- the panel and the phase changes
pub next_within : (n : ℕ) → within (field_range number) (next_number n) ≡ true
next_within n = go (ltb n (field_range number).high) refl
  where
    go : (b : Bool) → ltb n (field_range number).high ≡ b → within (field_range number) (pick b (n + 1) (field_range number).low) ≡ true
    go true e = let l : n < (field_range number).high = ltb-true _ _ e in between_yes _ _ (n + 1) (omega arith) (omega arith)
    go false e = refl

chosen : (b : Bool) (r s : Record) → valid r ≡ true → valid s ≡ true → valid (pick b r s) ≡ true
chosen true r s p q = p
chosen false r s p q = q

if-put : (b : Bool) (f : Field) (n : ℕ) (r : Record) → valid r ≡ true → within (field_range f) n ≡ true → valid (pick b (put f n r) r) ≡ true
if-put b f n r v h = chosen b (put f n r) r (put_kept r v f n h) v

module _ (r : Record) (v : valid r ≡ true) where
  pulses_kept : (n : ℕ) → valid (pulses n r) ≡ true
  unfolding pulses
  pulses_kept n =
      let c : valid (put raw ((r.raw + n) % 100000000) r) ≡ true = put_kept r v raw ((r.raw + n) % 100000000) (between_yes _ _ ((r.raw + n) % 100000000) (omega arith) (omega arith)) in
      chosen (eqb n 0) r _ v
      (put_kept (pick (in_phase idle r) r (finished n r (put raw ((r.raw + n) % 100000000) r)))
      (chosen (in_phase idle r) r _ v (if-put (in_phase running r && leb r.preset (r.raw + n)) phase done (put raw ((r.raw + n) % 100000000) r) c refl)) flow on refl)

  -- the alarms become others if the number is an alarm's
  if-alarms : (k : ℕ) (change : ℕ → ℕ) → ((n : ℕ) → is_alarm k ≡ true → within (field_range alarms) n ≡ true → within (field_range alarms) (change n) ≡ true)
      → valid (alarm_changed k change r) ≡ true
  unfolding alarm_changed
  if-alarms k change inside =
      by_test (is_alarm k) (λ a. simp a (put_kept r v alarms (change (get alarms r)) (inside (get alarms r) a (field_in r v alarms (omega arith))))) (λ a. simp a v)

  happened_kept : (e : Event) → valid (happened e r) ≡ true
  unfolding keypad_on power_back
  happened_kept (Pulses n) = pulses_kept n
  happened_kept Still = put_kept r v flow off refl
  happened_kept KeypadOn = if-put (in_phase idle r || in_phase done r) keypad on r v refl
  happened_kept KeypadOff = put_kept r v keypad off refl
  happened_kept PowerBack =
      let s : Record = pick (in_phase running r) (put phase stopped r) r in
      let a : valid s ≡ true = if-put (in_phase running r) phase stopped r v refl in
      put_kept (put flow off s) (put_kept s a flow off refl) powerfail on refl
  happened_kept (AlarmOn k) = if-alarms k (λ n. raised k n) (λ n a h. raised-within k n a h)
  happened_kept (AlarmOff k) = if-alarms k (λ n. cleared k n) (λ n a h. cleared-within k n h)

  -- a valid record stays valid
  pub after_kept : (e : Event) → valid (after e r) ≡ true
  unfolding after
  after_kept e = simp v (happened_kept e)

  pub next_in : within (field_range number) (next_number r.number) ≡ true
  next_in = next_within r.number

  pub batch_kept : (n : ℕ) → n ≤ (field_range preset).high → valid (batch_set n r) ≡ true
  unfolding batch_set
  batch_kept n h =
      let a = put_kept r v number (next_number r.number) next_in in
      let b = put_kept _ a reset on refl in
      let c = put_kept _ b raw 0 refl in
      let d = put_kept _ c preset n (between_yes _ _ n (omega arith) h) in
      put_kept _ d phase set refl

  pub started_kept : valid (started r) ≡ true
  started_kept = put_kept r v phase running refl

  pub halted_kept : valid (halted r) ≡ true
  halted_kept = put_kept r v phase stopped refl

  pub ended_kept : valid (ended r) ≡ true
  ended_kept = put_kept r v phase idle refl

  pub lasting_in : within (field_range alarms) (lasting (get alarms r)) ≡ true
  lasting_in = lasting-within (get alarms r) (field_in r v alarms (omega arith))

  pub reset_kept : valid (alarms_reset r) ≡ true
  reset_kept = put_kept r v alarms (lasting (get alarms r)) lasting_in

  -- a flag that a value's difference switches on
  module _ (flag : Field) (held : Held flag) (lit : within (field_range flag) on ≡ true) where
    pub flag_in : (m n : ℕ) → within (field_range flag) (flag_after m n (get flag r)) ≡ true
    flag_in m n = by_test (eqb m n) (λ e. simp e (field_in r v flag held)) (λ e. simp e lit)

    pub replaced_kept : (f : Field) (n : ℕ) → within (field_range f) n ≡ true → valid (replaced f n flag r) ≡ true
    replaced_kept f n h = let m = flag_after (get f r) n (get flag r) in put_kept (put flag m r) (put_kept r v flag m (flag_in (get f r) n)) f n h

-- a record that is not valid comes back unchanged
pub after_unchanged : (e : Event) (r : Record) → valid r ≡ false → after e r ≡ r
unfolding after
after_unchanged e r h = simp h
