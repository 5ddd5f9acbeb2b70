-- The alarms in one number: its bits are the alarms one by one, raising and clearing touch one of them, and AR switches off six. By the
-- bits of a number. Assumes nothing.
use Prim.Native.Nat.{ℕ, zero, suc, ◌+◌, ◌-◌, ◌*◌, ◌/◌, ◌%◌, ◌^◌, ◌≤◌, ◌<◌}
use mathlib.Core.Bool.{Bool, true, false, not, ◌&&◌, ◌||◌}
use mathlib.Core.Path.{◌≡◌, refl, sym, ap, ap₂, subst, ◌∙◌}
use mathlib.Core.List.{map}
use native.Mathlib.Omega.{arith}
use lib.Bits.{bit_and, bit_or, and_step, and_zero_l, and_shr, or_shr, and_le_l, and_le_r, or_lt}
use lib.Dec.{eqb, leb}
use borrow.Author.Tests.{leb-true, not-false}
use Rattle.base.specs.Test.{pick, member}
use Rattle.text.specs.Word.{equal}
use Rattle.base.proofs.Bits.{low_and, low_or}
use Rattle.base.proofs.Tests.{same, same_as, between_yes, between_low, between_high, all_below, holds_below}
use Rattle.state.specs.Alarm.{alarm_count, number_from, alarm_number, resettable, weight_of, weights, no_alarm, all_alarms, alarm_on, is_alarm, raised, cleared, lasting_alarms, lasting}
use Rattle.state.specs.Field.{alarms, field_range}
use Rattle.state.specs.Valid.{within}

pub all_alarms_lem : all_alarms ≡ 2 ^ alarm_count - 1
all_alarms_lem = refl

-- ---- what AR leaves
pub lasting_mask : lasting_alarms ≡ 0x7f867
unfolding lasting_alarms weights number_from equal
lasting_mask = refl

pub mask_limit : (n : ℕ) → bit_and n 0x7f867 ≤ all_alarms
mask_limit n = let h = and_le_r n 0x7f867 in omega arith

pub lasting_limit : (n : ℕ) → lasting n ≤ all_alarms
lasting_limit n = subst (λ (m : ℕ). bit_and n m ≤ all_alarms) (sym lasting_mask) (mask_limit n)

-- a mask laid over once more leaves the same: bit by bit, of numbers up to k
and_again : (k n m : ℕ) → n ≤ k → bit_and (bit_and n m) m ≡ bit_and n m
and_again zero n m h =
    let z : n ≡ 0 = omega arith in
    subst (λ (x : ℕ). bit_and (bit_and x m) m ≡ bit_and x m) (sym z) (ap (λ (x : ℕ). bit_and x m) (and_zero_l m))
and_again (suc k) n m h =
    let half : bit_and n m / 2 ≡ bit_and (n / 2) (m / 2) = and_shr n m 1 in
    let rest = ap (λ (x : ℕ). bit_and x (m / 2)) half ∙ and_again k (n / 2) (m / 2) (omega arith) in
    let outer = and_step (bit_and n m) m in
    let inner = and_step n m in
    omega arith

-- it is some of what was on, and AR again changes nothing
pub lasting_below : (n : ℕ) → lasting n ≤ n
lasting_below n = and_le_l n lasting_alarms

pub lasting_again : (n : ℕ) → lasting (lasting n) ≡ lasting n
lasting_again n = and_again n n lasting_alarms (omega arith)

pub lasting-within : (n : ℕ) → within (field_range alarms) n ≡ true → within (field_range alarms) (lasting n) ≡ true
lasting-within n h =
    let high = between_high no_alarm all_alarms n h in
    let below = lasting_below n in
    between_yes no_alarm all_alarms (lasting n) (omega arith) (omega arith)

-- ---- raising and clearing stay in the range
weight_below : (k : ℕ) → 1 ≤ k → k ≤ alarm_count → weight_of k ≤ all_alarms
weight_below k l h =
    let c : alarm_count - k < alarm_count = omega arith in
    leb-true _ _ (holds_below (λ (j : ℕ). leb (2 ^ j) all_alarms) alarm_count refl (alarm_count - k) c)

-- the bit of an alarm's number: 1 shifted as far as the last alarm is away, as the code has it
module _ (k : ℕ) (t : Bool) (e : t ≡ is_alarm k) (i : not t ≡ false) where
  numbered : is_alarm k ≡ true
  numbered = sym e ∙ not-false t i

  pub number_high : k ≤ alarm_count
  number_high = between_high 1 alarm_count k numbered

  pub own_bit : ((1 * 2 ^ (alarm_count - k)) % 2 ^ 32 ≡ pick (is_alarm k) (weight_of k) 0) × ((1 * 2 ^ (alarm_count - k)) % 2 ^ 32 ≤ all_alarms)
  own_bit =
      let w = weight_below k (between_low 1 alarm_count k numbered) number_high in
      let s : (1 * 2 ^ (alarm_count - k)) % 2 ^ 32 ≡ weight_of k = omega arith in
      (s ∙ simp numbered, omega arith)

raised_below : (k n : ℕ) → 1 ≤ k → k ≤ alarm_count → n ≤ all_alarms → raised k n ≤ all_alarms
raised_below k n l h m = let w = weight_below k l h in let o = or_lt alarm_count n (weight_of k) (omega arith) (omega arith) in omega arith

pub raised-within : (k n : ℕ) → is_alarm k ≡ true → within (field_range alarms) n ≡ true → within (field_range alarms) (raised k n) ≡ true
raised-within k n a h =
    between_yes no_alarm all_alarms (raised k n) (omega arith)
    (raised_below k n (between_low 1 alarm_count k a) (between_high 1 alarm_count k a) (between_high no_alarm all_alarms n h))

pub cleared-within : (k n : ℕ) → within (field_range alarms) n ≡ true → within (field_range alarms) (cleared k n) ≡ true
cleared-within k n h =
    let high = between_high no_alarm all_alarms n h in
    let below = and_le_l n (all_alarms - weight_of k) in
    between_yes no_alarm all_alarms (cleared k n) (omega arith) (omega arith)

-- ---- one alarm at a time
module _ (k a b : ℕ) where
  on_or : alarm_on k (bit_or a b) ≡ (alarm_on k a || alarm_on k b)
  on_or = ap (λ (m : ℕ). eqb (m % 2) 1) (or_shr a b (alarm_count - k)) ∙ low_or (a / weight_of k) (b / weight_of k)

  on_and : alarm_on k (bit_and a b) ≡ (alarm_on k a && alarm_on k b)
  on_and = ap (λ (m : ℕ). eqb (m % 2) 1) (and_shr a b (alarm_count - k)) ∙ low_and (a / weight_of k) (b / weight_of k)

-- tests of two alarms' numbers, computed over all of them
abbrev each_pair : (ℕ → ℕ → Bool) → Bool
each_pair p = all_below (λ j. all_below (λ k. p (j + 1) (k + 1)) alarm_count) alarm_count

of_pair : (p : ℕ → ℕ → Bool) → each_pair p ≡ true → (j k : ℕ) → is_alarm j ≡ true → is_alarm k ≡ true → p j k ≡ true
of_pair p h j k a b =
    let l = between_low 1 alarm_count j a in
    let m = between_low 1 alarm_count k b in
    let u = between_high 1 alarm_count j a in
    let v = between_high 1 alarm_count k b in
    let e : j - 1 + 1 ≡ j = omega arith in
    let f : k - 1 + 1 ≡ k = omega arith in
    sym (ap₂ p e f) ∙ holds_below (λ i. p (j - 1 + 1) (i + 1)) alarm_count
    (holds_below (λ i. all_below (λ o. p (i + 1) (o + 1)) alarm_count) alarm_count h (j - 1) (omega arith)) (k - 1) (omega arith)

-- an alarm's bit is set in its own weight, and in no other's
module _ (j k : ℕ) (a : is_alarm j ≡ true) (b : is_alarm k ≡ true) where
  own_weight : alarm_on j (weight_of k) ≡ eqb j k
  own_weight = same_as _ _ (of_pair (λ i o. same (alarm_on i (weight_of o)) (eqb i o)) refl j k a b)

  other_weights : alarm_on j (all_alarms - weight_of k) ≡ not (eqb j k)
  other_weights = same_as _ _ (of_pair (λ i o. same (alarm_on i (all_alarms - weight_of o)) (not (eqb i o))) refl j k a b)

  -- "A panel event raises or clears one alarm": it is on, or off, and each other is as it was
  pub raised_exactly : (n : ℕ) → alarm_on j (raised k n) ≡ (alarm_on j n || eqb j k)
  raised_exactly n = on_or j n (weight_of k) ∙ ap (λ (t : Bool). alarm_on j n || t) own_weight

  pub cleared_exactly : (n : ℕ) → alarm_on j (cleared k n) ≡ (alarm_on j n && not (eqb j k))
  cleared_exactly n = on_and j n (all_alarms - weight_of k) ∙ ap (λ (t : Bool). alarm_on j n && t) other_weights

-- "AR .. switches off PA and U1 to U5; the others stay": thirteen of them
abbrev pub resets : ℕ → Bool
resets k = member k (map alarm_number resettable)

pub lasting_exactly : (k n : ℕ) → is_alarm k ≡ true → alarm_on k (lasting n) ≡ (alarm_on k n && not (resets k))
unfolding lasting_alarms weights number_from equal
lasting_exactly k n a =
    on_and k n lasting_alarms
    ∙ ap (λ (t : Bool). alarm_on k n && t) (same_as _ _ (of_pair (λ i o. same (alarm_on i lasting_alarms) (not (resets i))) refl k k a a))

-- one that lasts, and one that AR switches off
pub overrun_lasts : lasting (weight_of 19) ≡ weight_of 19
overrun_lasts = ap (bit_and (weight_of 19)) lasting_mask

pub user_alarm_resets : lasting (weight_of 16) ≡ no_alarm
user_alarm_resets = ap (bit_and (weight_of 16)) lasting_mask
