-- Sets of alarms: what a test of whether an alarm is on leaves of one, what just some alarms are, and what AR makes of a set. By the two
-- parts of a code: whether none may be on, and which may be if some are. Assumes nothing.
use Prim.Native.Nat.{ℕ, ◌+◌, ◌*◌, ◌/◌, ◌%◌, ◌^◌, ◌≤◌, ◌<◌}
use mathlib.Core.Bool.{Bool, true, false, ◌&&◌, and-true, and-false}
use mathlib.Core.Path.{◌≡◌, refl, sym, ap, ap₂, ◌∙◌}
use native.Mathlib.Omega.{arith}
use lib.Bits.{bit_and, and_mask, and_high, and_zero_r}
use lib.Dec.{eqb, leb}
use borrow.Author.Tests.{eq-eqb, ne_eqb, eqb-true, eqb-false, le-leb, leb-true}
use Rattle.base.specs.Test.{pick}
use Rattle.base.proofs.Tests.{by_test}
use Rattle.state.specs.Alarm.{weight_of, no_alarm, all_alarms, lasting}
use Rattle.state.specs.Field.{flag_number}
use Rattle.state.proofs.Alarms.{lasting_below, lasting_again, overrun_lasts, user_alarm_resets}
use Rattle.knowledge.specs.Sets.{bit, any_number, any_lasting, some_in, above, alarms_in, none_mask, some_mask, alarm_mask, just_alarms, reset_code}

-- a test that goes by whether an alarm is on
abbrev pub Uniform : (ℕ → Bool) → Type 0
Uniform p = (n : ℕ) → (n ≡ no_alarm → ⊥) → p n ≡ p 1

-- ---- a code by its two parts
abbrev in_parts : ℕ → ℕ → ℕ → Bool
in_parts b u n = pick (eqb n no_alarm) (eqb b 1) (some_in u n)

parts_of : (c n : ℕ) → alarms_in c n ≡ in_parts (c % 2) (above c) n
unfolding alarms_in bit
parts_of c n = refl

parts_in : (b u n : ℕ) → b < 2 → u < 2 ^ 31 → alarms_in (b + 2 * u) n ≡ in_parts b u n
parts_in b u n h k =
    let low : (b + 2 * u) % 2 ≡ b = omega arith in
    let half : (b + 2 * u) / 2 ≡ u = omega arith in
    let high : above (b + 2 * u) ≡ u = ap (λ (m : ℕ). m % 2 ^ 31) half ∙ omega arith in
    parts_of (b + 2 * u) n ∙ ap₂ (λ (x y : ℕ). in_parts x y n) low high

-- ---- what a test leaves

-- of the parts, by what the test says of none and of some
left_low : (c : ℕ) (a b : Bool) → bit_and c (none_mask * flag_number a + some_mask * flag_number b) % 2 ≡ c % 2 * flag_number a
left_low c true true = ap (λ (m : ℕ). m % 2) (and_mask c 32) ∙ omega arith
left_low c true false = ap (λ (m : ℕ). m % 2) (and_mask c 1) ∙ omega arith
left_low c false true = ap (λ (m : ℕ). m % 2) (and_high c 31 1) ∙ omega arith
left_low c false false = ap (λ (m : ℕ). m % 2) (and_zero_r c) ∙ omega arith

left_above : (c : ℕ) (a b : Bool) → above (bit_and c (none_mask * flag_number a + some_mask * flag_number b)) ≡ above c * flag_number b
left_above c true true = ap above (and_mask c 32) ∙ omega arith
left_above c true false = ap above (and_mask c 1) ∙ omega arith
left_above c false true = ap above (and_high c 31 1) ∙ omega arith
left_above c false false = ap above (and_zero_r c) ∙ omega arith

left_none : (b : ℕ) (t : Bool) → eqb (b * flag_number t) 1 ≡ (eqb b 1 && t)
left_none b true = let e : b * 1 ≡ b = omega arith in ap (λ (m : ℕ). eqb m 1) e ∙ sym (and-true (eqb b 1))
left_none b false = let e : b * 0 ≡ 0 = omega arith in ap (λ (m : ℕ). eqb m 1) e ∙ sym (and-false (eqb b 1))

left_some : (u n : ℕ) (t : Bool) → (n ≡ no_alarm → ⊥) → some_in (u * flag_number t) n ≡ (some_in u n && t)
left_some u n true other = let e : u * 1 ≡ u = omega arith in ap (λ (m : ℕ). some_in m n) e ∙ sym (and-true (some_in u n))
left_some u n false other =
    let e : u * 0 ≡ 0 = omega arith in
    ap (λ (m : ℕ). some_in m n) e ∙ (ne_eqb 0 n (λ z. other (sym z)) ∙ sym (and-false (some_in u n)))

left_in : (b u n : ℕ) (p : ℕ → Bool) → Uniform p → in_parts (b * flag_number (p no_alarm)) (u * flag_number (p 1)) n ≡ (in_parts b u n && p n)
left_in b u n p uniform =
    by_test (eqb n no_alarm) (λ e. simp e (left_none b (p no_alarm) ∙ ap (λ (m : ℕ). eqb b 1 && p m) (sym (eqb-true n no_alarm e))))
    (λ e. let other = eqb-false n no_alarm e in simp e (left_some u n (p 1) other ∙ ap (λ (t : Bool). some_in u n && t) (sym (uniform n other))))

pub alarms-passed : (p : ℕ → Bool) → Uniform p → (c n : ℕ) → alarms_in (bit_and c (alarm_mask p)) n ≡ (alarms_in c n && p n)
alarms-passed p uniform c n =
    parts_of (bit_and c (alarm_mask p)) n
    ∙ (ap₂ (λ (x y : ℕ). in_parts x y n) (left_low c (p no_alarm) (p 1)) (left_above c (p no_alarm) (p 1))
    ∙ (left_in (c % 2) (above c) n p uniform ∙ ap (λ (t : Bool). t && p n) (sym (parts_of c n))))

-- ---- the empty set, any other, and all
pub no_alarms : (n : ℕ) → alarms_in 0 n ≡ false
no_alarms n = parts_of 0 n ∙ by_test (eqb n no_alarm) (λ e. simp e) (λ e. simp e (ne_eqb 0 n (λ z. eqb-false n no_alarm e (sym z))))

-- some alarms that may be on if some are
some_above : (u : ℕ) → (u ≡ 0 → ⊥) → (n : ℕ) × (n ≤ all_alarms) × (n ≡ 0 → ⊥) × (some_in u n ≡ true)
some_above u some =
    by_test (leb u all_alarms) (λ h. (u, leb-true u all_alarms h, some, simp (h, eq-eqb u u refl)))
    (λ h.
    (weight_of 19, omega arith, (λ e. omega arith), by_test (eqb u any_lasting) (λ e. simp (h, e) (eq-eqb _ _ overrun_lasts)) (λ e. simp (h, e))))

pub some_alarms : (c : ℕ) → c ≤ any_number → (c ≡ 0 → ⊥) → (n : ℕ) × (n ≤ all_alarms) × (alarms_in c n ≡ true)
some_alarms c h some =
    by_test (eqb (c % 2) 1) (λ e. (0, omega arith, parts_of c 0 ∙ e))
    (λ e.
    let even = eqb-false (c % 2) 1 e in
    let (n, below, other, on) = some_above (above c) (λ z. some (omega arith)) in
    (n, below, parts_of c n ∙ (ap (λ (t : Bool). pick t (eqb (c % 2) 1) (some_in (above c) n)) (ne_eqb n no_alarm other) ∙ on)))

pub any_alarms : (n : ℕ) → alarms_in any_number n ≡ true
any_alarms n = parts_of any_number n ∙ by_test (eqb n no_alarm) (λ e. simp e) (λ e. simp e)

-- ---- just some alarms
module _ (n : ℕ) (h : n ≤ all_alarms) where
  just_parts : (m : ℕ) → alarms_in (just_alarms n) m ≡ pick (eqb n no_alarm) (in_parts 1 0 m) (in_parts 0 n m)
  unfolding just_alarms
  just_parts m =
      by_test (eqb n no_alarm) (λ e. simp e (parts_in 1 0 m (omega arith) (omega arith)))
      (λ e. let d : 2 * n ≡ 0 + 2 * n = omega arith in simp e (ap (λ (k : ℕ). alarms_in k m) d ∙ parts_in 0 n m (omega arith) (omega arith)))

  pub just_in : (m : ℕ) → alarms_in (just_alarms n) m ≡ eqb n m
  just_in m = just_parts m ∙ go (eqb n no_alarm) (eqb m no_alarm) refl refl
    where
      go : (s t : Bool) → eqb n no_alarm ≡ s → eqb m no_alarm ≡ t → pick s (pick t true (some_in 0 m)) (pick t false (some_in n m)) ≡ eqb n m
      go true true d e = sym (eq-eqb n m (eqb-true _ _ d ∙ sym (eqb-true _ _ e)))
      go true false d e = ap (λ (k : ℕ). eqb k m) (sym (eqb-true _ _ d))
      go false true d e = sym (ne_eqb n m (λ z. eqb-false n no_alarm d (z ∙ eqb-true _ _ e)))
      go false false d e = simp (le-leb n all_alarms h)

-- ---- what AR leaves
lasting-none : lasting no_alarm ≡ no_alarm
lasting-none = let h = lasting_below no_alarm in omega arith

module _ (c : ℕ) where
  abbrev low : ℕ
  low = c % 2

  abbrev high : ℕ
  high = above c

  -- by what may be on if some are: just these, with some of them lasting or not, any of the lasting, or any
  left_by : Bool → Bool → Bool → ℕ → Bool
  left_by true true any m = in_parts 1 0 m
  left_by true false any m = in_parts low (lasting high) m
  left_by false gone true m = in_parts low any_lasting m
  left_by false gone false m = in_parts 1 any_lasting m

  left_by_lem : (m : ℕ) → alarms_in (reset_code c) m ≡ left_by (leb high all_alarms) (eqb (lasting high) no_alarm) (eqb high any_lasting) m
  unfolding reset_code left_by
  left_by_lem m = go (leb high all_alarms) (eqb (lasting high) no_alarm) (eqb high any_lasting) refl
    where
      go : (just gone any : Bool) → leb high all_alarms ≡ just
          → alarms_in (pick just (pick gone none_mask (low + 2 * lasting high)) (pick any (low + 2 * any_lasting) (none_mask + 2 * any_lasting))) m ≡ left_by just gone any m
      go true true any e = parts_in 1 0 m (omega arith) (omega arith)
      go true false any e =
          let h = leb-true high all_alarms e in
          let l = lasting_below high in
          parts_in low (lasting high) m (omega arith) (omega arith)
      go false gone true e = parts_in low any_lasting m (omega arith) (omega arith)
      go false gone false e = parts_in 1 any_lasting m (omega arith) (omega arith)

  -- of each number in the set, the lasting are left
  pub reset_in : (w : ℕ) → alarms_in c w ≡ true → alarms_in (reset_code c) (lasting w) ≡ true
  unfolding left_by
  reset_in w t =
      left_by_lem (lasting w)
      ∙ go (leb high all_alarms) (eqb (lasting high) no_alarm) (eqb high any_lasting) (eqb w no_alarm) refl refl refl refl (sym (parts_of c w) ∙ t)
    where
      go : (just gone any none : Bool) → leb high all_alarms ≡ just → eqb (lasting high) no_alarm ≡ gone → eqb high any_lasting ≡ any → eqb w no_alarm ≡ none
          → pick none (eqb low 1) (pick just (eqb high w) (pick any (eqb (lasting w) w) true)) ≡ true → left_by just gone any (lasting w) ≡ true
      go just gone any true p q a z t =
          let e : lasting w ≡ no_alarm = ap lasting (eqb-true w no_alarm z) ∙ lasting-none in
          ap (left_by just gone any) e ∙ none just gone any
        where
          none : (just gone any : Bool) → left_by just gone any no_alarm ≡ true
          none true true any = refl
          none true false any = t
          none false gone true = t
          none false gone false = refl
      go true true any false p q a z t =
          let e : lasting w ≡ no_alarm = ap lasting (sym (eqb-true high w t)) ∙ eqb-true (lasting high) no_alarm q in
          ap (in_parts 1 0) e
      go true false any false p q a z t =
          let e : lasting w ≡ lasting high = ap lasting (sym (eqb-true high w t)) in
          let l = lasting_below high in
          let h = leb-true high all_alarms p in
          ap (in_parts low (lasting high)) e ∙ simp (q, le-leb (lasting high) all_alarms (omega arith), eq-eqb (lasting high) (lasting high) refl)
      go false gone true false p q a z t =
          let e : lasting w ≡ w = eqb-true (lasting w) w t in
          ap (in_parts low any_lasting) e ∙ simp (z, t)
      go false gone false false p q a z t =
          by_test (eqb (lasting w) no_alarm) (λ e. simp e) (λ e. simp (e, eq-eqb (lasting (lasting w)) (lasting w) (lasting_again w)))

  -- and all that is left comes from a number in the set, if there is one
  pub reset_from : (m v : ℕ) → v ≤ all_alarms → alarms_in c v ≡ true → m ≤ all_alarms → alarms_in (reset_code c) m ≡ true
      → (w : ℕ) × (w ≤ all_alarms) × (alarms_in c w ≡ true) × (lasting w ≡ m)
  unfolding left_by
  reset_from m v l some h t =
      go (leb high all_alarms) (eqb (lasting high) no_alarm) (eqb high any_lasting) (eqb m no_alarm) refl refl refl refl
      (sym (left_by_lem m) ∙ t)
    where
      none_on : eqb m no_alarm ≡ true → eqb low 1 ≡ true → (w : ℕ) × (w ≤ all_alarms) × (alarms_in c w ≡ true) × (lasting w ≡ m)
      none_on z e = (no_alarm, omega arith, parts_of c no_alarm ∙ e, lasting-none ∙ sym (eqb-true m no_alarm z))

      go : (just gone any none : Bool) → leb high all_alarms ≡ just → eqb (lasting high) no_alarm ≡ gone → eqb high any_lasting ≡ any → eqb m no_alarm ≡ none
          → left_by just gone any m ≡ true → (w : ℕ) × (w ≤ all_alarms) × (alarms_in c w ≡ true) × (lasting w ≡ m)
      go true true any true p q a z t = (v, l, some, was (eqb v no_alarm) refl (sym (parts_of c v) ∙ some) ∙ sym (eqb-true m no_alarm z))
        where
          was : (none : Bool) → eqb v no_alarm ≡ none → pick none (eqb low 1) (some_in high v) ≡ true → lasting v ≡ no_alarm
          was true e o = ap lasting (eqb-true v no_alarm e) ∙ lasting-none
          was false e o =
              let same : high ≡ v = eqb-true high v (ap (λ (b : Bool). pick b (eqb high v) (pick (eqb high any_lasting) (eqb (lasting v) v) true)) (sym p) ∙ o) in
              ap lasting (sym same) ∙ eqb-true (lasting high) no_alarm q
      go true false any true p q a z t = none_on z (ap (λ (b : Bool). pick b (eqb low 1) (some_in (lasting high) m)) (sym z) ∙ t)
      go false gone true true p q a z t = none_on z (ap (λ (b : Bool). pick b (eqb low 1) (some_in any_lasting m)) (sym z) ∙ t)
      go false gone false true p q a z t = (weight_of 16, omega arith, parts_of c (weight_of 16) ∙ simp (p, a), user_alarm_resets ∙ sym (eqb-true m no_alarm z))
      go true true any false p q a z t =
          let none : 0 ≡ m = eqb-true 0 m (ap (λ (b : Bool). pick b true (eqb 0 m)) (sym z) ∙ t) in
          absurd (eqb-false m no_alarm z (sym none))
      go true false any false p q a z t =
          let below = lasting_below high in
          let limit = leb-true high all_alarms p in
          let inside : leb (lasting high) all_alarms ≡ true = le-leb (lasting high) all_alarms (omega arith) in
          let same : lasting high ≡ m = eqb-true (lasting high) m (sym (simp (z, inside)) ∙ t) in
          let on : high ≡ no_alarm → ⊥ = λ e. eqb-false (lasting high) no_alarm q (ap lasting e ∙ lasting-none) in
          (high, limit, parts_of c high ∙ simp (ne_eqb high no_alarm on, p, eq-eqb high high refl), same)
      go false gone true false p q a z t =
          let kept : eqb (lasting m) m ≡ true = ap (λ (b : Bool). pick b (eqb low 1) (eqb (lasting m) m)) (sym z) ∙ t in
          (m, h, parts_of c m ∙ simp (z, p, a, kept), eqb-true (lasting m) m kept)
      go false gone false false p q a z t =
          let kept : eqb (lasting m) m ≡ true = ap (λ (b : Bool). pick b true (eqb (lasting m) m)) (sym z) ∙ t in
          (m, h, parts_of c m ∙ simp (z, p, a), eqb-true (lasting m) m kept)
