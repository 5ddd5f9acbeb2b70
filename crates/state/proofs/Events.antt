-- What the code's returns give is what the definitions of the panel's events say; and a valid record stays valid. Assumes nothing.
use Prim.Native.Nat.{ℕ, ◌+◌, ◌-◌, ◌%◌, ◌≤◌, ◌<◌}
use mathlib.Core.Bool.{Bool, true, false, not}
use mathlib.Core.Path.{◌≡◌, refl, sym, ap, ◌∙◌}
use mathlib.Core.Logic.{◌⊎◌, ⊎_elim}
use lib.Bits.{bit_and, bit_or, or_zero_r, and_mask}
use lib.Dec.{eqb}
use borrow.Author.Tests.{eq-eqb, ne_eqb, le-leb, lt-leb, not-true, not-false}
use native.Mathlib.Omega.{arith}
use Rattle.base.specs.Test.{pick}
use Rattle.base.proofs.Tests.{by_test}
use Rattle.state.specs.declared.Phase.{Phase}
use Rattle.state.specs.declared.Phase.TheVariants.{Idle, Running, Done}
use Rattle.state.specs.declared.Event.{Event}
use Rattle.state.specs.declared.Event.TheVariants.{Pulses, KeypadOn, PowerBack, AlarmOn, AlarmOff}
use Rattle.state.specs.declared.Record.{Record}
use Rattle.state.specs.Alarm.{alarm_count, is_alarm, weight_of, all_alarms, raised, cleared, lasting}
use Rattle.state.specs.Field.{phase, keypad, flow, reset, powerfail, preset, raw, number, alarms, put, field_range, phase_number, phase_of, on, off}
use Rattle.state.specs.Valid.{valid}
use Rattle.state.specs.Event.{set, stopped, done, pulses, power_back, keypad_on, alarm_changed, happened, after, next_number, batch_set, alarms_reset}
use Rattle.state.proofs.Fields.{phase_back}
use Rattle.state.proofs.Validity.{valid_tell}

-- phases have different numbers
other-phase : (p q : Phase) → (p ≡ q → ⊥) → eqb (phase_number p) (phase_number q) ≡ false
other-phase p q h = ne_eqb (phase_number p) (phase_number q) (λ e. h (sym (phase_back p) ∙ (ap phase_of e ∙ phase_back q)))

module _ (r : Record) (b : Bool) (v : b ≡ valid r) where
  pub after_invalid : (e : Event) → not b ≡ true → r ≡ after e r
  unfolding after
  after_invalid e n = simp (sym v ∙ not-true b n)

  module _ (n : not b ≡ false) where
    pub after_valid : (e : Event) (s : Record) → s ≡ happened e r → s ≡ after e r
    unfolding after
    after_valid e s h = h ∙ simp (sym v ∙ not-false b n)

    -- ---- pulses
    pub pulses-none : (k : ℕ) → k ≡ 0 → r ≡ after (Pulses k) r
    unfolding pulses
    pulses-none k z = after_valid (Pulses k) r (simp (eq-eqb k 0 z))

    -- m is the count in another width
    module _ (k m : ℕ) (same : m ≡ k) (some : k ≡ 0 → ⊥) where
      pub pulses-idle : (s : Record) → r.phase ≡ Idle → s ≡ put flow on r → s ≡ after (Pulses k) r
      unfolding pulses
      pulses-idle s i e = after_valid (Pulses k) s (e ∙ simp (ne_eqb k 0 some, i))

      pub pulses-counted : (s : Record) → (r.phase ≡ Idle → ⊥) → (r.phase ≡ Running → ⊥) → s ≡ put raw ((r.raw + m) % 100000000) (put flow on r)
          → s ≡ after (Pulses k) r
      unfolding pulses put
      pulses-counted s i g e = after_valid (Pulses k) s (e ∙ simp (same, ne_eqb k 0 some, other-phase r.phase Idle i, other-phase r.phase Running g))

      pub pulses-short : (s : Record) → r.phase ≡ Running → r.raw + m < r.preset → s ≡ put raw ((r.raw + m) % 100000000) (put flow on r)
          → s ≡ after (Pulses k) r
      unfolding pulses put
      pulses-short s i l e = after_valid (Pulses k) s (e ∙ simp (same, ne_eqb k 0 some, i, lt-leb r.preset (r.raw + k) (omega arith)))

      pub pulses-done : (s : Record) → r.phase ≡ Running → r.preset ≤ r.raw + m
          → s ≡ put phase done (put raw ((r.raw + m) % 100000000) (put flow on r)) → s ≡ after (Pulses k) r
      unfolding pulses put
      pulses-done s i l e = after_valid (Pulses k) s (e ∙ simp (same, ne_eqb k 0 some, i, le-leb r.preset (r.raw + k) (omega arith)))

    -- ---- the keypad and the power, by the phase
    pub keypad_taken : (s : Record) → (r.phase ≡ Idle) ⊎ (r.phase ≡ Done) → s ≡ put keypad on r → s ≡ after KeypadOn r
    unfolding keypad_on
    keypad_taken s t e =
        after_valid KeypadOn s (e ∙ ⊎_elim (λ (i : r.phase ≡ Idle). simp i) (λ (d : r.phase ≡ Done). simp d) t)

    pub keypad_kept : (r.phase ≡ Idle → ⊥) → (r.phase ≡ Done → ⊥) → r ≡ after KeypadOn r
    unfolding keypad_on
    keypad_kept i d = after_valid KeypadOn r (simp (other-phase r.phase Idle i, other-phase r.phase Done d))

    pub power_kept : (s : Record) → (r.phase ≡ Running → ⊥) → s ≡ put powerfail on (put flow off r) → s ≡ after PowerBack r
    unfolding power_back
    power_kept s g e = after_valid PowerBack s (e ∙ simp (other-phase r.phase Running g))

    pub power_stopped : (s : Record) → r.phase ≡ Running → s ≡ put phase stopped (put powerfail on (put flow off r)) → s ≡ after PowerBack r
    unfolding power_back put
    power_stopped s g e = after_valid PowerBack s (e ∙ simp g)

-- ---- an alarm: m are the alarms afterwards, those of the change if the number is an alarm's
alarms_with : (r s : Record) (k m : ℕ) (change : ℕ → ℕ) (e : Event) → happened e r ≡ alarm_changed k change r
    → (is_alarm k ≡ true → m ≡ change r.alarms) → (is_alarm k ≡ false → valid r ≡ true → m ≡ r.alarms) → s ≡ pick (valid r) (put alarms m r) r → s ≡ after e r
unfolding after alarm_changed put
alarms_with r s k m change e is new same f =
    by_test (valid r)
    (λ v.
    let stored : s ≡ put alarms m r = f ∙ simp v in
    by_test (is_alarm k) (λ a. stored ∙ (ap (λ (n : ℕ). put alarms n r) (new a) ∙ sym (simp v (is ∙ simp a))))
    (λ a. stored ∙ (ap (λ (n : ℕ). put alarms n r) (same a v) ∙ sym (simp v (is ∙ simp a)))))
    (λ v. f ∙ simp v)

module _ (r s : Record) (k w : ℕ) (bit : w ≡ pick (is_alarm k) (weight_of k) 0) where
  own : is_alarm k ≡ true → w ≡ weight_of k
  own a = bit ∙ simp a

  none : is_alarm k ≡ false → w ≡ 0
  none a = bit ∙ simp a

  pub alarm_raised : s ≡ pick (valid r) (put alarms (bit_or r.alarms w) r) r → s ≡ after (AlarmOn k) r
  alarm_raised =
      alarms_with r s k (bit_or r.alarms w) (λ n. raised k n) (AlarmOn k) refl (λ a. ap (bit_or r.alarms) (own a))
      (λ a v. ap (bit_or r.alarms) (none a) ∙ or_zero_r r.alarms)

  pub alarm_cleared : s ≡ pick (valid r) (put alarms (bit_and r.alarms (all_alarms - w)) r) r → s ≡ after (AlarmOff k) r
  alarm_cleared =
      alarms_with r s k (bit_and r.alarms (all_alarms - w)) (λ n. cleared k n) (AlarmOff k) refl (λ a. ap (λ (x : ℕ). bit_and r.alarms (all_alarms - x)) (own a))
      (λ a v.
      let h = (valid_tell r v).scalars.alarms_high in
      ap (λ (x : ℕ). bit_and r.alarms (all_alarms - x)) (none a) ∙ (and_mask r.alarms alarm_count ∙ omega arith))

-- the raw total of a valid record leaves room for any count of pulses
pub raw_limit : (r : Record) (b : Bool) → b ≡ valid r → not b ≡ false → r.raw ≤ (field_range raw).high
raw_limit r b v n = (valid_tell r (sym v ∙ not-false b n)).scalars.raw_high

-- SB's record, with the number counted first and the phase set last
pub batch_set_lem : (r s : Record) (k n : ℕ) → k ≡ next_number r.number
    → s ≡ put phase set (put reset on (put raw 0 (put preset n (put number k r)))) → s ≡ batch_set n r
unfolding batch_set put
batch_set_lem r s k n c e = e ∙ ap (λ (m : ℕ). put phase set (put reset on (put raw 0 (put preset n (put number m r))))) c

-- AR's record
pub alarms_reset_lem : (r s : Record) (n : ℕ) → n ≡ lasting r.alarms → s ≡ put alarms n r → s ≡ alarms_reset r
alarms_reset_lem r s n c e = e ∙ ap (λ (m : ℕ). put alarms m r) c
