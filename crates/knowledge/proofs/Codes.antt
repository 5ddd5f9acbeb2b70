-- What a field may hold by the codes of its sets: any, one number alone, and those of a set that pass a test. By the bits of masks,
-- since no field with a mask goes beyond the last recipe, by the sets of alarms, and since no field can hold the number that stands for
-- any. Assumes nothing.
use Prim.Native.Nat.{ℕ, ◌+◌, ◌*◌, ◌≤◌, ◌<◌}
use mathlib.Core.Bool.{Bool, true, false, not, ◌&&◌, ◌||◌, false≢true, and_assoc, and-or_distrib_left}
use mathlib.Core.Path.{◌≡◌, refl, sym, ap, subst, ◌∙◌}
use mathlib.Core.Logic.{◌⊎◌, inl, inr, ⊎_elim}
use native.Mathlib.Omega.{arith}
use lib.Dec.{eqb, leb, ltb}
use lib.ListN.{get_or}
use lib.Bits.{bit_and, bit_or, and_le_r}
use borrow.Author.Tests.{eq-eqb, ne_eqb, eqb-true, leb-true, ltb-true, not-false}
use Rattle.base.specs.Test.{between}
use Rattle.base.proofs.Tests.{and_yes, and_left, and_right, between_yes, between_high, between_no, holds_below, below_or_not}
use Rattle.state.specs.Parameter.{recipes, parameter_count, range_at}
use Rattle.state.specs.Alarm.{no_alarm, all_alarms}
use Rattle.state.specs.Field.{Field, address, access, alarms, position, field_range, scalar_fields, flag_number, Held}
use Rattle.state.specs.Valid.{within}
use Rattle.state.proofs.Fields.{by_fields, by_list}
use Rattle.knowledge.specs.Sets.{Kind, several, single, alarmed, kind_of, bit, mask_by, mask_in, any_number, only, alarms_in, none_mask, some_mask, alarm_mask, in_set, has, any, any_of, alone, alone_of}
use Rattle.knowledge.proofs.Bits.{bit-and, bit-or, bit_zero, bit_mask, bit_beyond, some_bit}
use Rattle.knowledge.proofs.Alarms.{Uniform, alarms-passed, no_alarms, some_alarms, any_alarms, just_in}

-- ---- the kinds of fields
abbrev pub is_several : Kind → Bool
is_several several = true
is_several single = false
is_several alarmed = false

pub is_several_lem : (kind : Kind) → is_several kind ≡ true → kind ≡ several
is_several_lem several h = refl
is_several_lem single h = absurd (false≢true h)
is_several_lem alarmed h = absurd (false≢true h)

-- a field with a mask holds small numbers, and stands behind the address and the access
pub record Small (f : Field) : Type 0 where
  pub limit : (field_range f).high ≤ recipes
  pub beyond : position access < position f

abbrev limited : Field → Bool
limited f = not (is_several (kind_of f)) || (leb (field_range f).high recipes && ltb (position access) (position f))

pub small : (f : Field) → kind_of f ≡ several → Small f
small =
    by_fields (λ (f : Field). kind_of f ≡ several → Small f) (λ n l e. told (get_or scalar_fields n address) e (by_list limited (λ f. true) refl n))
    (λ i e. absurd (false≢true (ap is_several e))) (λ i e. omega arith)
  where
    told : (f : Field) → kind_of f ≡ several → limited f ≡ true → Small f
    told f e h =
        let b : leb (field_range f).high recipes && ltb (position access) (position f) ≡ true =
        ap (λ (k : Kind). not (is_several k) || (leb (field_range f).high recipes && ltb (position access) (position f))) (sym e) ∙ h in
        record {
          limit = leb-true _ _ (and_left (leb (field_range f).high recipes) (ltb (position access) (position f)) b);
          beyond = ltb-true _ _ (and_right (leb (field_range f).high recipes) (ltb (position access) (position f)) b);
        }

is_alarmed : Kind → Bool
is_alarmed several = false
is_alarmed single = false
is_alarmed alarmed = true

alarmed_high : (f : Field) → kind_of f ≡ alarmed → (field_range f).high ≤ all_alarms
unfolding is_alarmed
alarmed_high =
    by_fields (λ (f : Field). kind_of f ≡ alarmed → (field_range f).high ≤ all_alarms)
    (λ n l e. told (get_or scalar_fields n address) e (by_list (λ (f : Field). not (is_alarmed (kind_of f)) || leb (field_range f).high all_alarms) (λ f. true) refl n))
    (λ i e. absurd (false≢true (ap is_alarmed e))) (λ i e. absurd (false≢true (ap is_alarmed e)))
  where
    told : (f : Field) → kind_of f ≡ alarmed → (not (is_alarmed (kind_of f)) || leb (field_range f).high all_alarms) ≡ true → (field_range f).high ≤ all_alarms
    told f e h = leb-true _ _ (ap (λ (k : Kind). not (is_alarmed k) || leb (field_range f).high all_alarms) (sym e) ∙ h)

-- no field can hold the number that stands for any
high_below : (f : Field) → Held f → (field_range f).high < any_number
unfolding range_at
high_below =
    by_fields (λ (f : Field). Held f → (field_range f).high < any_number) (λ n l h. ltb-true _ _ (by_list (λ (f : Field). ltb (field_range f).high any_number) (λ f. true) refl n))
    (λ i h. ltb-true _ _ (holds_below (λ (j : ℕ). ltb (range_at j).high any_number) parameter_count refl i (omega arith)))
    (λ i h. omega arith)

pub never_any : (f : Field) (n : ℕ) → Held f → within (field_range f) n ≡ true → n ≡ any_number → ⊥
never_any f n h w e =
    let a : n ≤ (field_range f).high = between_high (field_range f).low (field_range f).high n w in
    let b : (field_range f).high < any_number = high_below f h in
    omega arith

-- ---- a number in a set
module _ (f : Field) (code n : ℕ) where
  pub has_yes : within (field_range f) n ≡ true → in_set (kind_of f) code n ≡ true → has f code n ≡ true
  unfolding has
  has_yes w s = and_yes (within (field_range f) n) (in_set (kind_of f) code n) w s

  pub has_within : has f code n ≡ true → within (field_range f) n ≡ true
  unfolding has
  has_within h = and_left (within (field_range f) n) (in_set (kind_of f) code n) h

  pub has_set : has f code n ≡ true → in_set (kind_of f) code n ≡ true
  unfolding has
  has_set h = and_right (within (field_range f) n) (in_set (kind_of f) code n) h

  pub has_only : kind_of f ≡ single → has f code n ≡ true → only code n ≡ true
  has_only e h = ap (λ (s : Kind). in_set s code n) (sym e) ∙ has_set h

  pub only_has : kind_of f ≡ single → within (field_range f) n ≡ true → only code n ≡ true → has f code n ≡ true
  only_has e w o = has_yes w (ap (λ (s : Kind). in_set s code n) e ∙ o)

-- alarms in a set are alarms
pub has_below : (b : Bool) (code n : ℕ) → b ≡ has alarms code n → not b ≡ false → n ≤ all_alarms
has_below b code n e i = between_high no_alarm all_alarms n (has_within alarms code n (sym e ∙ not-false b i))

-- the number itself
pub only_self : (n : ℕ) → only n n ≡ true
only_self n = go (eqb n any_number)
  where
    go : (b : Bool) → (b || eqb n n) ≡ true
    go true = refl
    go false = eq-eqb n n refl

-- one number, and not any
pub only_same : (c n : ℕ) → (c ≡ any_number → ⊥) → only c n ≡ true → n ≡ c
only_same c n h o = sym (eqb-true c n (ap (λ (b : Bool). b || eqb c n) (sym (ne_eqb c any_number h)) ∙ o))

-- ---- a set whose code is a mask
outside : (low high n : ℕ) (b : Bool) → high < n → (between low high n && b) ≡ false
outside low high n b h = ap (λ (t : Bool). t && b) (between_no low high n (λ p q. omega arith))

module _ (f : Field) (p : ℕ → Bool) (e : kind_of f ≡ several) where
  masked : (n : ℕ) → bit (mask_by several f p) n ≡ (within (field_range f) n && p n)
  masked n =
      let s = small f e in
      ⊎_elim (λ (l : n < recipes + 1). bit_mask (λ m. within (field_range f) m && p m) (recipes + 1) 0 n l ∙ ap (λ (m : ℕ). within (field_range f) m && p m) (omega arith))
      (λ (l : recipes + 1 ≤ n). bit_beyond (λ m. within (field_range f) m && p m) (recipes + 1) 0 n l ∙ sym (outside (field_range f).low (field_range f).high n (p n) (omega arith)))
      (below_or_not n (recipes + 1))

  module _ (code : ℕ) where
    -- what is left of a set by a test
    mask_passed : (n : ℕ) → has f (bit_and code (mask_in f p)) n ≡ (has f code n && p n)
    unfolding has
    mask_passed n =
        simp (e, bit-and, masked) (regroup (within (field_range f) n) (bit code n) (p n))
      where
        regroup : (w b t : Bool) → (w && (b && (w && t))) ≡ ((w && b) && t)
        regroup true b t = refl
        regroup false b t = refl

    -- a number is left if the mask is not empty
    some_masked : (bit_and code (mask_in f p) ≡ 0 → ⊥) → (n : ℕ) × (has f (bit_and code (mask_in f p)) n ≡ true)
    some_masked h =
        let s = some_bit (bit_and code (mask_in f p)) h in
        let m : bit (mask_in f p) s.0 ≡ true = and_right (bit code s.0) (bit (mask_in f p) s.0) (sym (bit-and s.0 code (mask_in f p)) ∙ s.1) in
        let w : within (field_range f) s.0 ≡ true =
        and_left (within (field_range f) s.0) (p s.0) (sym (masked s.0) ∙ (ap (λ (t : Kind). bit (mask_by t f p) s.0) (sym e) ∙ m)) in
        (s.0, has_yes f (bit_and code (mask_in f p)) s.0 w (ap (λ (t : Kind). in_set t (bit_and code (mask_in f p)) s.0) e ∙ s.1))

-- the numbers of two sets together
pub has_or : (f : Field) → kind_of f ≡ several → (c d n : ℕ) → has f (bit_or c d) n ≡ (has f c n || has f d n)
unfolding has
has_or f e c d n = simp (e, bit-or) (and-or_distrib_left (within (field_range f) n) (bit c n) (bit d n))

-- ---- a test that a field's set has a code for: any where the code is a mask, of the alarms one of whether an alarm is on
pub Testable : Field → (ℕ → Bool) → Type 0
Testable f p = (kind_of f ≡ several) ⊎ ((f ≡ alarms) × Uniform p)

pub small_testable : (f : Field) (p : ℕ → Bool) → kind_of f ≡ several → Testable f p
unfolding Testable
small_testable f p e = inl e

pub alarms_testable : (p : ℕ → Bool) → Uniform p → Testable alarms p
unfolding Testable
alarms_testable p u = inr (refl, u)

-- whether an alarm is on
pub alarm_testable : Testable alarms (λ n. not (eqb n no_alarm))
alarm_testable = alarms_testable (λ n. not (eqb n no_alarm)) (λ n other. ap not (ne_eqb n no_alarm other))

-- the opposite of a test is one
pub testable_not : (f : Field) (p : ℕ → Bool) → Testable f p → Testable f (λ n. not (p n))
unfolding Testable
testable_not f p (inl e) = inl e
testable_not f p (inr t) = inr (t.0, λ n other. ap not (t.1 n other))

-- such a field stands behind the address and the access
pub testable_beyond : (f : Field) (p : ℕ → Bool) → Testable f p → position access < position f
unfolding Testable
testable_beyond f p (inl e) = (small f e).beyond
testable_beyond f p (inr t) = subst (λ (g : Field). position access < position g) (sym t.0) (omega arith)

-- what is left of a set by a test
pub passed : (f : Field) (p : ℕ → Bool) → Testable f p → (code n : ℕ) → has f (bit_and code (mask_in f p)) n ≡ (has f code n && p n)
unfolding has Testable
passed f p (inl e) code n = mask_passed f p e code n
passed f p (inr t) code n =
    subst (λ (g : Field). has g (bit_and code (mask_in g p)) n ≡ (has g code n && p n)) (sym t.0)
    (ap (λ (b : Bool). within (field_range alarms) n && b) (alarms-passed p t.1 code n) ∙ sym (and_assoc (within (field_range alarms) n) (alarms_in code n) (p n)))

-- a number is left if the code is not 0
pub some_passed : (f : Field) (p : ℕ → Bool) → Testable f p → (code : ℕ) → (bit_and code (mask_in f p) ≡ 0 → ⊥) → (n : ℕ) × (has f (bit_and code (mask_in f p)) n ≡ true)
unfolding Testable
some_passed f p (inl e) code h = some_masked f p e code h
some_passed f p (inr t) code h =
    subst (λ (g : Field). (n : ℕ) × (has g (bit_and code (mask_in g p)) n ≡ true)) (sym t.0)
    (let (n, l, on) = some_alarms (bit_and code (alarm_mask p)) (below (p no_alarm) (p 1)) (λ z. h (ap (λ (g : Field). bit_and code (mask_in g p)) t.0 ∙ z)) in
    (n, has_yes alarms (bit_and code (alarm_mask p)) n (between_yes no_alarm all_alarms n (omega arith) l) on))
  where
    below : (a b : Bool) → bit_and code (none_mask * flag_number a + some_mask * flag_number b) ≤ any_number
    below true true = and_le_r code any_number
    below true false = let h = and_le_r code none_mask in omega arith
    below false true = let h = and_le_r code some_mask in omega arith
    below false false = let h = and_le_r code 0 in omega arith

-- the code 0 has no number
pub none_empty : (f : Field) (p : ℕ → Bool) (n : ℕ) → Testable f p → has f 0 n ≡ true → ⊥
unfolding Testable
none_empty f p n (inl e) h = false≢true (sym (bit_zero n) ∙ (ap (λ (t : Kind). in_set t 0 n) (sym e) ∙ has_set f 0 n h))
none_empty f p n (inr t) h = false≢true (sym (no_alarms n) ∙ has_set alarms 0 n (ap (λ (g : Field). has g 0 n) (sym t.0) ∙ h))

-- ---- any number of the range
pub any_has : (f : Field) (n : ℕ) → within (field_range f) n ≡ true → has f (any f) n ≡ true
any_has f n w = has_yes f (any f) n w (go (kind_of f) refl)
  where
    go : (t : Kind) → kind_of f ≡ t → in_set t (any_of t f) n ≡ true
    go several e = masked f (λ m. true) e n ∙ and_yes (within (field_range f) n) true w refl
    go single e = refl
    go alarmed e = any_alarms n

-- ---- one number alone
module _ (f : Field) (n : ℕ) (w : within (field_range f) n ≡ true) where
  -- alarms have no more bits than there are alarms
  limit : kind_of f ≡ alarmed → n ≤ all_alarms
  limit e = let a = between_high (field_range f).low (field_range f).high n w in let b = alarmed_high f e in omega arith

  pub alone_has : has f (alone f n) n ≡ true
  alone_has = has_yes f (alone f n) n w (go (kind_of f) refl)
    where
      go : (t : Kind) → kind_of f ≡ t → in_set t (alone_of t f n) n ≡ true
      go several e = masked f (λ m. eqb m n) e n ∙ and_yes (within (field_range f) n) (eqb n n) w (eq-eqb n n refl)
      go single e = only_self n
      go alarmed e = just_in n (limit e) n ∙ eq-eqb n n refl

  pub alone-same : (m : ℕ) → Held f → has f (alone f n) m ≡ true → m ≡ n
  alone-same m h t = go (kind_of f) refl (has_set f (alone f n) m t)
    where
      go : (t : Kind) → kind_of f ≡ t → in_set t (alone_of t f n) m ≡ true → m ≡ n
      go several e b = eqb-true m n (and_right (within (field_range f) m) (eqb m n) (sym (masked f (λ j. eqb j n) e m) ∙ b))
      go single e o = only_same n m (never_any f n h w) o
      go alarmed e o = sym (eqb-true n m (sym (just_in n (limit e) m) ∙ o))
