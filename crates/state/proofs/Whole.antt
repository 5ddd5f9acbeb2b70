-- A record is its fields: there is one that holds any numbers within the ranges, and two records that hold the same in each field are
-- equal; so a value that is set to the one held changes nothing. Assumes nothing.
use Prim.Native.Nat.{ℕ, zero, suc, ◌<◌}
use mathlib.Core.Bool.{Bool, true, false}
use mathlib.Core.Path.{◌≡◌, refl, sym, ap, ◌∙◌}
use mathlib.Core.List.{List, [], ◌∷◌, ◌++◌, map}
use mathlib.Core.Logic.{⊎_elim}
use native.Mathlib.Nat.{eq-or-lt_of_le}
use native.Mathlib.Omega.{arith}
use lib.Dec.{ltb}
use lib.ListN.{length, get_or, length-append, get_or-append}
use lib.Seq.{get_or-append-add, ext_get_or}
use borrow.Author.Tests.{eq-eqb, ne_eqb, lt-ltb, ltb-true}
use Rattle.base.specs.Test.{pick}
use Rattle.base.proofs.Tests.{between_yes, holds_below}
use Rattle.state.specs.declared.Record.{Record}
use Rattle.state.specs.Parameter.{parameter_count, range_at}
use Rattle.state.specs.Field.{Field, address, value, level, get, put, field_range, position, scalar_fields, listed, record_from, on, Held}
use Rattle.state.specs.Valid.{within, valid}
use Rattle.state.specs.Event.{flag_after, replaced}
use Rattle.state.proofs.Fields.{by_fields, by_list, at_field, settled, settling, phase_back, flag_back, get-put_other}
use Rattle.state.proofs.Validity.{valid_tell}
use Rattle.state.proofs.Kept.{field_in, fields_in, get-put_own, put_kept}

-- ---- a record of given numbers
pub listed-length : (w : ℕ → ℕ) (n : ℕ) → length (listed w n) ≡ n
unfolding listed
listed-length w zero = refl
listed-length w (suc n) = let h = listed-length w n in length-append (listed w n) (w n ∷ []) ∙ omega arith

listed_at : (w : ℕ → ℕ) (n i : ℕ) → i < n → get_or (listed w n) i 0 ≡ w i
unfolding listed
listed_at w zero i h = absurd (omega arith)
listed_at w (suc n) i h =
    let l = listed-length w n in
    ⊎_elim
    (λ (q : i ≡ n). ap (λ (j : ℕ). get_or (listed w n ++ (w n ∷ [])) j 0) (omega arith) ∙ (get_or-append-add (listed w n) (w n ∷ []) 0 0 ∙ ap w (sym q)))
    (λ (q : i < n). get_or-append (listed w n) (w n ∷ []) 0 i (omega arith) ∙ listed_at w n i q)
    (eq-or-lt_of_le (omega arith))

-- a list is its elements listed
pub listed_same : (xs : List ℕ) (n : ℕ) → length xs ≡ n → listed (λ i. get_or xs i 0) n ≡ xs
listed_same xs n e =
    let l = listed-length (λ i. get_or xs i 0) n in
    ext_get_or 0 _ xs (l ∙ sym e) (λ i h. listed_at (λ j. get_or xs j 0) n i (omega arith))

module _ (w : Field → ℕ) (inside : (f : Field) → Held f → within (field_range f) (w f) ≡ true) where
  scalars_from : map (λ (f : Field). pick (within (field_range f) (w f)) (get f (record_from w)) (w f)) scalar_fields ≡ map w scalar_fields
  unfolding record_from
  scalars_from = simp settling

  pub get_from : (f : Field) → Held f → get f (record_from w) ≡ w f
  unfolding record_from
  get_from =
      by_fields (λ (f : Field). Held f → get f (record_from w) ≡ w f) (λ k l h. settled (λ (f : Field). get f (record_from w)) w scalars_from k (inside (get_or scalar_fields k address) h))
      (λ i h. listed_at (λ j. w (value j)) parameter_count i (omega arith))
      (λ i h. listed_at (λ j. w (level j)) parameter_count i (omega arith))

  pub from_valid : valid (record_from w) ≡ true
  unfolding record_from
  from_valid =
      fields_in (record_from w) (λ f h. ap (within (field_range f)) (get_from f h) ∙ inside f h)
      (listed-length (λ i. w (value i)) parameter_count) (listed-length (λ i. w (level i)) parameter_count)

-- ---- equal in each field, equal: each is the record of its numbers

-- what the record's fields hold, and 0 for any other
abbrev numbers : Record → Field → ℕ
numbers r f = pick (ltb (position f) (position (value parameter_count))) (get f r) 0

whole : (r : Record) → valid r ≡ true → record_from (numbers r) ≡ r
unfolding record_from
whole r v =
    let a = (valid_tell r v).values_length in
    let b = (valid_tell r v).levels_length in
    let own : (f : Field) → Held f → numbers r f ≡ get f r = λ f h. simp (lt-ltb _ _ h) in
    let vs : listed (λ i. numbers r (value i)) parameter_count ≡ r.values =
    ext_get_or 0 _ r.values (listed-length (λ i. numbers r (value i)) parameter_count ∙ sym a)
    (λ i h. let l = listed-length (λ i. numbers r (value i)) parameter_count in listed_at (λ j. numbers r (value j)) parameter_count i (omega arith) ∙ own (value i) (omega arith)) in
    let ls : listed (λ i. numbers r (level i)) parameter_count ≡ r.levels =
    ext_get_or 0 _ r.levels (listed-length (λ i. numbers r (level i)) parameter_count ∙ sym b)
    (λ i h. let l = listed-length (λ i. numbers r (level i)) parameter_count in listed_at (λ j. numbers r (level j)) parameter_count i (omega arith) ∙ own (level i) (omega arith)) in
    simp (phase_back, flag_back, vs, ls)

pub same_fields : (r s : Record) → valid r ≡ true → valid s ≡ true → ((f : Field) → Held f → get f r ≡ get f s) → r ≡ s
same_fields r s v w same = sym (whole r v) ∙ (ap record_from (λ i f. equal f i) ∙ whole s w)
  where
    equal : (f : Field) → numbers r f ≡ numbers s f
    equal f = go (ltb (position f) (position (value parameter_count))) refl
      where
        go : (b : Bool) → ltb (position f) (position (value parameter_count)) ≡ b → pick b (get f r) 0 ≡ pick b (get f s) 0
        go true e = same f (ltb-true _ _ e)
        go false e = refl

-- ---- a field that gets the number it holds

-- a record that differs from a valid one in one field at most is that one when the field gets its number
pub put-over : (r s : Record) (f : Field) → valid r ≡ true → valid s ≡ true → Held f → ((g : Field) → (position f ≡ position g → ⊥) → get g s ≡ get g r) → (n : ℕ) → n ≡ get f r → put f n s ≡ r
put-over r s f v w held others n e =
    let inside : within (field_range f) n ≡ true = ap (within (field_range f)) e ∙ field_in r v f held in
    same_fields (put f n s) r (put_kept s w f n inside) v
    (at_field f (λ g. Held g → get g (put f n s) ≡ get g r) (λ h. get-put_own s w f n held inside ∙ e)
    (λ g other h. get-put_other f g n s other ∙ others g other))

-- its own
pub put_own : (r : Record) (f : Field) → valid r ≡ true → Held f → (n : ℕ) → n ≡ get f r → put f n r ≡ r
put_own r f v held n e = put-over r r f v v held (λ g h. refl) n e

-- ---- a value that is set, and the flag
module _ (r : Record) (f flag : Field) (n : ℕ) where
  -- the value held: nothing changes
  pub replaced-same : valid r ≡ true → Held f → Held flag → get f r ≡ n → replaced f n flag r ≡ r
  replaced-same v h i e =
      let stays : put flag (flag_after (get f r) n (get flag r)) r ≡ r = simp (eq-eqb (get f r) n e) (put_own r flag v i (get flag r) refl) in
      ap (put f n) stays ∙ put_own r f v h n (sym e)

  -- another: both change
  pub replaced_other : (get f r ≡ n → ⊥) → replaced f n flag r ≡ put f n (put flag on r)
  replaced_other h = simp (ne_eqb (get f r) n h)

-- ---- each field's range has at least two numbers, its low end among them
pub range_wide : (f : Field) → Held f → (field_range f).low < (field_range f).high
unfolding range_at
range_wide =
    by_fields (λ (f : Field). Held f → (field_range f).low < (field_range f).high)
    (λ k l h. ltb-true _ _ (by_list (λ (f : Field). ltb (field_range f).low (field_range f).high) (λ f. true) refl k))
    (λ i h. ltb-true _ _ (holds_below (λ (j : ℕ). ltb (range_at j).low (range_at j).high) parameter_count refl i (omega arith)))
    (λ i h. omega arith)

pub low_within : (f : Field) → Held f → within (field_range f) (field_range f).low ≡ true
low_within f h = let l = range_wide f h in between_yes _ _ (field_range f).low (omega arith) (omega arith)
