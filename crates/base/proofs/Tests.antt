-- Laws of tests and of choices by a test. Assumes nothing.
use Prim.Native.Nat.{ℕ, zero, suc, ◌+◌, ◌≤◌, ◌<◌}
use mathlib.Core.Bool.{Bool, true, false, not, ◌&&◌, ◌||◌, false≢true}
use mathlib.Core.Path.{◌≡◌, refl, sym, ap, ◌∙◌}
use native.Mathlib.Nat.{eq-or-lt_of_le, le_of_suc-le-suc, not-suc-le-zero}
use native.Mathlib.Omega.{arith}
use native.Mathlib.Numerals.{add-one}
use mathlib.Core.Logic.{◌⊎◌, inl, inr, ⊎_elim}
use mathlib.Core.List.{List, [], ◌∷◌}
use lib.Dec.{eqb, leb, ltb}
use lib.ListN.{length, drop, get_or, drop_of_length-le}
use lib.Seq.{drop-cons}
use borrow.Author.Tests.{eqb-false, eqb-true, le-leb, leb-true, ltb-true, ltb-false, eq-eqb, ne_eqb, not-true}
use Rattle.base.specs.Test.{between, all_between, all_distinct, member}

-- facts of a whole list, one behind the other
infixr 20 ◌also◌
pub ◌also◌ : {A B : Type 0} → A → B → A × B
a also b = (a, b)

-- by a test that holds or not
pub by_test : {A : Type 0} (b : Bool) → (b ≡ true → A) → (b ≡ false → A) → A
by_test true f g = f refl
by_test false f g = g refl

-- what would make distinct cases equal: `cc` gives it
pub never : ◌≡◌ {A = ℕ} 0 1 → ⊥
never e = omega arith

pub and_yes : (a b : Bool) → a ≡ true → b ≡ true → (a && b) ≡ true
and_yes true b p q = q
and_yes false b p q = p

pub and_no : (a b : Bool) → (a ≡ true → b ≡ true → ⊥) → (a && b) ≡ false
and_no true true h = absurd (h refl refl)
and_no true false h = refl
and_no false b h = refl

pub and-exchanged : (a b c : Bool) → (a && (b && c)) ≡ (b && (a && c))
and-exchanged true b c = refl
and-exchanged false true c = refl
and-exchanged false false c = refl

-- two tests that say the same are equal
abbrev pub same : Bool → Bool → Bool
same true b = b
same false b = not b

pub same_as : (a b : Bool) → same a b ≡ true → a ≡ b
same_as true b e = sym e
same_as false b e = sym (not-true b e)

pub and_left : (a b : Bool) → (a && b) ≡ true → a ≡ true
and_left true b h = refl
and_left false b h = h

pub and_right : (a b : Bool) → (a && b) ≡ true → b ≡ true
and_right true b h = h
and_right false true h = refl
and_right false false h = h

pub neither : (a b : Bool) → (a || b) ≡ false → (a ≡ false) × (b ≡ false)
neither true b h = absurd (false≢true (sym h))
neither false b h = (refl, h)

pub between_yes : (low high x : ℕ) → low ≤ x → x ≤ high → between low high x ≡ true
between_yes low high x p q = and_yes (leb low x) (leb x high) (le-leb low x p) (le-leb x high q)

pub between_no : (low high x : ℕ) → (low ≤ x → x ≤ high → ⊥) → between low high x ≡ false
between_no low high x h = and_no (leb low x) (leb x high) (λ p q. h (leb-true low x p) (leb-true x high q))

pub between_low : (low high x : ℕ) → between low high x ≡ true → low ≤ x
between_low low high x h = leb-true low x (and_left (leb low x) (leb x high) h)

pub between_high : (low high x : ℕ) → between low high x ≡ true → x ≤ high
between_high low high x h = leb-true x high (and_right (leb low x) (leb x high) h)

-- one number is below another, or not
pub below_or_not : (a b : ℕ) → (a < b) ⊎ (b ≤ a)
below_or_not a b = go (ltb a b) refl
  where
    go : (t : Bool) → ltb a b ≡ t → (a < b) ⊎ (b ≤ a)
    go true e = inl (ltb-true a b e)
    go false e = inr (ltb-false a b e)

-- a test that holds at each number below n
abbrev pub all_below : (ℕ → Bool) → ℕ → Bool
all_below p zero = true
all_below p (suc n) = p n && all_below p n

-- a test that was computed over all numbers below n holds at each of them
pub holds_below : (p : ℕ → Bool) (n : ℕ) → all_below p n ≡ true → (i : ℕ) → i < n → p i ≡ true
holds_below p zero h i l = absurd (omega arith)
holds_below p (suc n) h i l =
    ⊎_elim (λ (q : i ≡ n). ap p q ∙ and_left (p n) (all_below p n) h) (λ (q : i < n). holds_below p n (and_right (p n) (all_below p n) h) i q)
    (eq-or-lt_of_le (omega arith))

pub eqb-turned : (m n : ℕ) → eqb m n ≡ eqb n m
eqb-turned m n = by_test (eqb n m) (λ e. eq-eqb m n (sym (eqb-true n m e)) ∙ sym e) (λ e. ne_eqb m n (λ q. eqb-false n m e (sym q)) ∙ sym e)

-- ---- each of several: the rest of the list from place i on
module _ (low high : ℕ) (s : List ℕ) (i : ℕ) (r : Bool) where
  all_turn : i < length s → all_between low high (drop i s) ≡ (between low high (get_or s i 0) && all_between low high (drop (i + 1) s))
  unfolding all_between
  all_turn h = ap (all_between low high) (drop-cons s i 0 h) ∙ rw add-one refl

  pub all_not : i < length s → false ≡ between low high (get_or s i 0) → all_between low high (drop i s) ≡ r → false ≡ r
  all_not h n e = sym (all_turn h ∙ simp (sym n)) ∙ e

  pub all_again : i < length s → true ≡ between low high (get_or s i 0) → all_between low high (drop i s) ≡ r → all_between low high (drop (i + 1) s) ≡ r
  all_again h y e = sym (all_turn h ∙ simp (sym y)) ∙ e

  pub all_done : length s ≤ i → all_between low high (drop i s) ≡ r → true ≡ r
  unfolding all_between
  all_done h e = sym (ap (all_between low high) (drop_of_length-le s h)) ∙ e

-- ---- a number at a place is one of the list, and in a list in which none stands twice the number tells the place; d is past the end
pub member_at : (d x : ℕ) (xs : List ℕ) (i : ℕ) → i < length xs → get_or xs i d ≡ x → member x xs ≡ true
member_at d x [] i h e = absurd (not-suc-le-zero h)
member_at d x (y ∷ xs) zero h e = ap (λ (b : Bool). b || member x xs) (eq-eqb x y (sym e))
member_at d x (y ∷ xs) (suc i) h e = ap (λ (b : Bool). eqb x y || b) (member_at d x xs i (le_of_suc-le-suc h) e) ∙ or_true (eqb x y)
  where
    or_true : (b : Bool) → (b || true) ≡ true
    or_true true = refl
    or_true false = refl

-- and the other way: one of the list stands at a place
pub place_of_member : (d x : ℕ) (xs : List ℕ) → member x xs ≡ true → (i : ℕ) × ((i < length xs) × (get_or xs i d ≡ x))
place_of_member d x [] h = absurd (false≢true h)
place_of_member d x (y ∷ xs) h =
    by_test (eqb x y) (λ e. (0, (omega arith, sym (eqb-true x y e)))) (λ e. behind (place_of_member d x xs (sym (ap (λ (b : Bool). b || member x xs) e) ∙ h)))
  where
    behind : (i : ℕ) × ((i < length xs) × (get_or xs i d ≡ x)) → (i : ℕ) × ((i < length (y ∷ xs)) × (get_or (y ∷ xs) i d ≡ x))
    behind (i, (l, e)) = (suc i, (omega (arith, l), e))

pub not_again : (d x : ℕ) (xs : List ℕ) → all_distinct (x ∷ xs) ≡ true → (j : ℕ) → j < length xs → get_or xs j d ≡ x → ⊥
unfolding all_distinct
not_again d x xs u j l e = false≢true (sym (not-true _ (and_left (not (member x xs)) (all_distinct xs) u)) ∙ member_at d x xs j l e)

pub distinct_place : (d : ℕ) (xs : List ℕ) → all_distinct xs ≡ true → (i j : ℕ) → i < length xs → j < length xs → get_or xs i d ≡ get_or xs j d → i ≡ j
unfolding all_distinct
distinct_place d [] u i j h l e = absurd (not-suc-le-zero h)
distinct_place d (x ∷ xs) u zero zero h l e = refl
distinct_place d (x ∷ xs) u zero (suc j) h l e = absurd (not_again d x xs u j (le_of_suc-le-suc l) (sym e))
distinct_place d (x ∷ xs) u (suc i) zero h l e = absurd (not_again d x xs u i (le_of_suc-le-suc h) e)
distinct_place d (x ∷ xs) u (suc i) (suc j) h l e =
    ap suc (distinct_place d xs (and_right (not (member x xs)) (all_distinct xs) u) i j (le_of_suc-le-suc h) (le_of_suc-le-suc l) e)
