-- Laws of the numbers and words in a text, and one law for each step of the code that reads them. A step's premises have the form
-- that the code's facts have, so that `search` finds them. Assumes nothing.
use Prim.Native.Nat.{ℕ, zero, suc, ◌+◌, ◌-◌, ◌*◌, ◌/◌, ◌%◌, ◌^◌, ◌≤◌, ◌<◌}
use mathlib.Core.Path.{◌≡◌, refl, ap, sym, ◌∙◌}
use mathlib.Core.Bool.{Bool, true, false, ◌&&◌}
use mathlib.Core.List.{List, [], ◌∷◌, ◌++◌, append_assoc, append-nil}
use native.Mathlib.Nat.{pow-suc, pow-le-pow_right, mul-le-mul_right}
use native.Mathlib.Numerals.{add-one}
use native.Mathlib.Omega.{arith}
use lib.Dec.{eqb, leb}
use lib.ListN.{length, take, drop, get_or, length-append, length-drop, drop_of_length-le}
use borrow.Author.Tests.{le-leb, lt-leb, eq-eqb, ne_eqb, eqb-true}
use Rattle.base.specs.Test.{pick, between, all_between}
use lib.Pointwise.{pointwise}
use lib.Seq.{take_all}
use Rattle.std.specs.List.{starts_with}
use Rattle.base.proofs.Tests.{by_test, eqb-turned, never, and_yes, and_left, and_right, between_yes, between_low, between_high}
use Rattle.base.proofs.Lists.{next}
use Rattle.std.specs.Prelude.{Some, None}
use Rattle.text.specs.Word.{digits, all_digits, value_from, value_of, number_for, equal}

-- ---- digits

pub record Digit (x : ℕ) : Type 0 where
  pub low : 0x30 ≤ x
  pub high : x ≤ 0x39

pub digit_first : (x : ℕ) (xs : List ℕ) → all_digits (x ∷ xs) ≡ true → Digit x
unfolding all_between
digit_first x xs h =
    let d : between 0x30 0x39 x ≡ true = and_left (between 0x30 0x39 x) (all_digits xs) h in
    record { low = between_low 0x30 0x39 x d; high = between_high 0x30 0x39 x d }

pub digit_rest : (x : ℕ) (xs : List ℕ) → all_digits (x ∷ xs) ≡ true → all_digits xs ≡ true
unfolding all_between
digit_rest x xs h = and_right (between 0x30 0x39 x) (all_digits xs) h

digit_more : (x : ℕ) (xs : List ℕ) → Digit x → all_digits xs ≡ true → all_digits (x ∷ xs) ≡ true
unfolding all_between
digit_more x xs d h = and_yes (between 0x30 0x39 x) (all_digits xs) (between_yes 0x30 0x39 x d.low d.high) h

digits_append : (xs ys : List ℕ) → all_digits xs ≡ true → all_digits ys ≡ true → all_digits (xs ++ ys) ≡ true
digits_append [] ys h k = k
digits_append (x ∷ xs) ys h k = digit_more x (xs ++ ys) (digit_first x xs h) (digits_append xs ys (digit_rest x xs h) k)

value-append : (a : ℕ) (xs ys : List ℕ) → value_from a (xs ++ ys) ≡ value_from (value_from a xs) ys
unfolding value_from
value-append a [] ys = refl
value-append a (x ∷ xs) ys = value-append (a * 10 + (x - 0x30)) xs ys

-- ---- printing and reading a number are inverse
pub digits-length : (w n : ℕ) → length (digits w n) ≡ w
unfolding digits
digits-length zero n = refl
digits-length (suc w) n = omega (arith, length-append (digits w (n / 10)) ((0x30 + n % 10) ∷ []), digits-length w (n / 10))

pub digits_all : (w n : ℕ) → all_digits (digits w n) ≡ true
unfolding digits all_between
digits_all zero n = refl
digits_all (suc w) n =
    digits_append (digits w (n / 10)) ((0x30 + n % 10) ∷ []) (digits_all w (n / 10))
    (digit_more (0x30 + n % 10) [] record { low = omega arith; high = omega arith } refl)

pub value-digits : (w n : ℕ) → n < 10 ^ w → value_of (digits w n) ≡ n
unfolding digits value_from
value-digits zero n h = omega arith
value-digits (suc w) n h =
    let e : value_of (digits w (n / 10)) ≡ n / 10 = value-digits w (n / 10) (omega (arith, pow-suc 10 w)) in
    let q : value_of (digits w (n / 10)) * 10 + (0x30 + n % 10 - 0x30) ≡ n = omega arith in
    value-append 0 (digits w (n / 10)) ((0x30 + n % 10) ∷ []) ∙ q

-- digits printed behind k others
digits_behind : (xs : List ℕ) (k a : ℕ) → all_digits xs ≡ true → digits (k + length xs) (value_from a xs) ≡ digits k a ++ xs
unfolding digits value_from
digits_behind [] k a h = let e : k + 0 ≡ k = omega arith in ap (λ (w : ℕ). digits w a) e ∙ sym (append-nil (digits k a))
digits_behind (x ∷ xs) k a h =
    let d = digit_first x xs h in
    let b : ℕ = a * 10 + (x - 0x30) in
    let e : k + suc (length xs) ≡ suc k + length xs = omega arith in
    let q : b / 10 ≡ a = omega arith in
    let r : 0x30 + b % 10 ≡ x = omega arith in
    ap (λ (w : ℕ). digits w (value_from b xs)) e ∙ digits_behind xs (suc k) b (digit_rest x xs h)
    ∙ ap (λ (y : ℕ). (digits k y ++ ((0x30 + b % 10) ∷ [])) ++ xs) q ∙ ap (λ (y : ℕ). (digits k a ++ (y ∷ [])) ++ xs) r
    ∙ append_assoc (digits k a) (x ∷ []) xs

pub digits_value : (xs : List ℕ) → all_digits xs ≡ true → digits (length xs) (value_of xs) ≡ xs
unfolding digits
digits_value xs h = let e : length xs ≡ 0 + length xs = omega arith in ap (λ (w : ℕ). digits w (value_of xs)) e ∙ digits_behind xs 0 0 h

-- digits, behind those that make a, make less than a + 1 does with as many zeros
pub value_below : (xs : List ℕ) (a : ℕ) → all_digits xs ≡ true → value_from a xs < (a + 1) * 10 ^ length xs
unfolding value_from
value_below [] a h = omega arith
value_below (x ∷ xs) a h =
    let d = digit_first x xs h in
    let b : ℕ = a * 10 + (x - 0x30) in
    let k : ℕ = 10 ^ length xs in
    let r : value_from b xs < (b + 1) * k = value_below xs b (digit_rest x xs h) in
    let m : (b + 1) * k ≤ ((a + 1) * 10) * k = mul-le-mul_right k (omega arith) in
    let p : 10 ^ suc (length xs) ≡ k * 10 = pow-suc 10 (length xs) in
    let q : (a + 1) * 10 ^ suc (length xs) ≡ ((a + 1) * 10) * k = ap (λ (y : ℕ). (a + 1) * y) p ∙ omega arith in
    omega arith

-- ---- words
pub equal_true : (xs ys : List ℕ) → equal xs ys ≡ true → xs ≡ ys
unfolding equal
equal_true [] [] h = refl
equal_true [] (y ∷ ys) h = absurd (never (cc))
equal_true (x ∷ xs) [] h = absurd (never (cc))
equal_true (x ∷ xs) (y ∷ ys) h =
    let p : x ≡ y = eqb-true x y (and_left (eqb x y) (equal xs ys) h) in
    let q : xs ≡ ys = equal_true xs ys (and_right (eqb x y) (equal xs ys) h) in
    ap (λ (a : ℕ). a ∷ xs) p ∙ ap (λ (l : List ℕ). y ∷ l) q

pub equal-same : (xs : List ℕ) → equal xs xs ≡ true
unfolding equal
equal-same [] = refl
equal-same (x ∷ xs) = and_yes (eqb x x) (equal xs xs) (eq-eqb x x refl) (equal-same xs)

-- ---- the loop of `value`: n is the number of the first i digits
pub record Reading (s : List ℕ) (n i : ℕ) : Type 0 where
  pub at : i ≤ length s
  pub small : n < 10 ^ i
  pub left : all_digits (drop i s) ≡ true
  pub whole : value_from n (drop i s) ≡ value_of s

reading_left : (s : List ℕ) (n i : ℕ) → i < length s → Reading s n i → all_digits (get_or s i 0 ∷ drop (i + 1) s) ≡ true
reading_left s n i h r = sym (ap all_digits (next s i h)) ∙ r.left

reading_digit : (s : List ℕ) (n i : ℕ) → i < length s → Reading s n i → Digit (get_or s i 0)
reading_digit s n i h r = digit_first (get_or s i 0) (drop (i + 1) s) (reading_left s n i h r)

-- what keeps the numbers of a turn from wrapping
pub record Room (n x : ℕ) : Type 0 where
  pub digit : Digit x
  pub small : n < 10 ^ 7

pub reading_room : (s : List ℕ) (n i : ℕ) → length s ≤ 8 → i < length s → Reading s n i → Room n (get_or s i 0)
reading_room s n i l h r =
    let p : 10 ^ i ≤ 10 ^ 7 = pow-le-pow_right {n = 10} (omega arith) {i = i} {j = 7} (omega arith) in
    record { digit = reading_digit s n i h r; small = omega (arith, r.small) }

pub reading_again : (s : List ℕ) (n i x : ℕ) → i < length s → x ≡ get_or s i 0 → Reading s n i → Reading s (n * 10 + (x - 0x30)) (i + 1)
unfolding value_from
reading_again s n i x h e r =
    let d = reading_digit s n i h r in
    let p : 10 ^ (i + 1) ≡ 10 ^ i * 10 = rw (add-one, pow-suc) in
    record {
      at = omega arith;
      small = omega (arith, r.small, d.high);
      left = digit_rest (get_or s i 0) (drop (i + 1) s) (reading_left s n i h r);
      whole = ap (λ (y : ℕ). value_from (n * 10 + (y - 0x30)) (drop (i + 1) s)) e ∙ sym (ap (value_from n) (next s i h)) ∙ r.whole;
    }

pub reading_done : (s : List ℕ) (n i : ℕ) → length s ≤ i → Reading s n i → n ≡ value_of s
unfolding value_from
reading_done s n i h r = sym (ap (value_from n) (drop_of_length-le s h)) ∙ r.whole

-- byte strings of different lengths are not
pub word-length : (s w : List ℕ) → (length s ≡ length w → ⊥) → false ≡ equal s w
word-length s w h =
    by_test (equal s w) (λ (e : equal s w ≡ true). absurd (h (ap length (equal_true s w e)))) (λ (e : equal s w ≡ false). sym e)

-- std's `==` and `starts_with` compute it
pub equal-pointwise : (xs ys : List ℕ) → pointwise eqb xs ys ≡ equal xs ys
unfolding equal
equal-pointwise [] [] = refl
equal-pointwise [] (y ∷ ys) = refl
equal-pointwise (x ∷ xs) [] = refl
equal-pointwise (x ∷ xs) (y ∷ ys) = ap (λ (b : Bool). eqb x y && b) (equal-pointwise xs ys)

pub equal-turned : (xs ys : List ℕ) → equal xs ys ≡ equal ys xs
unfolding equal
equal-turned [] [] = refl
equal-turned [] (y ∷ ys) = refl
equal-turned (x ∷ xs) [] = refl
equal-turned (x ∷ xs) (y ∷ ys) = ap (λ (b : Bool). b && equal xs ys) (eqb-turned x y) ∙ ap (λ (b : Bool). eqb y x && b) (equal-turned xs ys)

-- ---- `word_at`

-- behind the end only the empty word stands
nothing_left : (w : List ℕ) → eqb (length w) 0 ≡ equal (take (length w) []) w
unfolding equal
nothing_left [] = refl
nothing_left (x ∷ w) = ne_eqb _ _ (λ (e : suc (length w) ≡ 0). omega arith)

module _ (s w : List ℕ) (at : ℕ) where
  pub stands_beyond : length s < at → eqb (length w) 0 ≡ equal (take (length w) (drop at s)) w
  stands_beyond h =
      let l : length s ≤ at = omega arith in
      nothing_left w ∙ ap (λ (y : List ℕ). equal (take (length w) y) w) (sym (drop_of_length-le s l))

  pub stands_here : starts_with eqb (take (length s - at) (drop at s)) w ≡ equal (take (length w) (drop at s)) w
  stands_here =
      let e : take (length s - at) (drop at s) ≡ drop at s = take_all (length s - at) (drop at s) (omega (arith, length-drop at s)) in
      ap (λ (y : List ℕ). starts_with eqb y w) e ∙ equal-pointwise w (take (length w) (drop at s)) ∙ equal-turned w (take (length w) (drop at s))

-- ---- `read_number`
pub number_long : (s : List ℕ) → 8 < length s → None ≡ number_for s
unfolding number_for
number_long s h = simp (lt-leb _ _ h)

number-form : (s : List ℕ) → length s ≤ 8 → number_for s ≡ pick (all_digits s) (Some (value_of s)) None
unfolding number_for
number-form s h = simp (le-leb _ _ h)

pub number_letter : (s : List ℕ) → length s ≤ 8 → false ≡ all_digits s → None ≡ number_for s
number_letter s h x = sym (number-form s h ∙ simp (sym x))

pub number_digits : (s : List ℕ) (n : ℕ) → length s ≤ 8 → true ≡ all_digits s → n ≡ value_of s → Some n ≡ number_for s
number_digits s n h x v = sym (number-form s h ∙ simp (sym x, v))

-- what its answers say
picked-number : (t : Bool) (m n : ℕ) → pick t (Some m) None ≡ Some n → (t ≡ true) × (n ≡ m)
picked-number true m n e = (refl, (cc))
picked-number false m n e = absurd (never (cc))

pub number-told : (s : List ℕ) (n : ℕ) → number_for s ≡ Some n → (all_digits s ≡ true) × (n ≡ value_of s)
unfolding number_for
number-told s n e =
    let i = picked-number (leb (length s) 8 && all_digits s) (value_of s) n e in
    (and_right (leb (length s) 8) (all_digits s) i.0, i.1)
