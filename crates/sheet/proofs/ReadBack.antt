-- A printed sum is read back to the last digit, and no zero leads it but the one before the point. Assumes nothing.
use Prim.Native.Nat.{ℕ, ◌/◌, ◌%◌, ◌^◌, ◌≤◌, ◌<◌}
use mathlib.Core.Bool.{true}
use mathlib.Core.Path.{◌≡◌, refl, ap, ◌∙◌}
use mathlib.Core.List.{List, [], ◌∷◌, ◌++◌}
use native.Mathlib.Omega.{arith}
use lib.ListN.{length, get_or, length-append, get_or-append}
use borrow.Author.Tests.{ne_eqb}
use Rattle.text.specs.Word.{digits, width_in, decimal, all_digits, value_from, value_of}
use Rattle.text.proofs.Words.{digits-length, digits_all, digit_first, digit_rest}
use Rattle.text.proofs.Writing.{width_one}
use Rattle.text.proofs.Decimal.{width_low, decimal-short, value-decimal, decimal_leads}
use Rattle.sheet.specs.Sheet.{point, unit, units_text, before_point, behind_point, units_read}

-- ---- digits hold no point
not-point : (x : ℕ) (xs : List ℕ) → all_digits (x ∷ xs) ≡ true → (x ≡ point → ⊥)
not-point x xs h e = let d = digit_first x xs h in omega (arith, d.low)

before_digits : (xs ys : List ℕ) → all_digits xs ≡ true → before_point (xs ++ (point ∷ ys)) ≡ xs
unfolding before_point
before_digits [] ys h = refl
before_digits (x ∷ xs) ys h = simp (ne_eqb x point (not-point x xs h)) (ap (λ (l : List ℕ). x ∷ l) (before_digits xs ys (digit_rest x xs h)))

behind_digits : (xs ys : List ℕ) → all_digits xs ≡ true → behind_point (xs ++ (point ∷ ys)) ≡ ys
unfolding behind_point
behind_digits [] ys h = refl
behind_digits (x ∷ xs) ys h = simp (ne_eqb x point (not-point x xs h)) (behind_digits xs ys (digit_rest x xs h))

-- ---- the last four digits
value-last : (n : ℕ) → value_of (digits 4 n) ≡ n % unit
unfolding digits value_from
value-last n = omega arith

decimal_low : (n : ℕ) → 0 < length (decimal n)
unfolding decimal
decimal_low n = omega (arith, digits-length (width_in 19 n) n, width_low 19 n)

module _ (s : ℕ) where
  -- digits before the point
  pub units-digits : all_digits (decimal (s / unit)) ≡ true
  unfolding decimal
  units-digits = digits_all (width_in 19 (s / unit)) (s / unit)

  pub digits_before : before_point (units_text s) ≡ decimal (s / unit)
  unfolding units_text
  digits_before = before_digits (decimal (s / unit)) (digits 4 s) units-digits

  -- "four exact decimals"
  pub four_decimals : behind_point (units_text s) ≡ digits 4 s
  unfolding units_text
  four_decimals = behind_digits (decimal (s / unit)) (digits 4 s) units-digits

  -- below a unit a zero stands before the point
  pub zero_before_point : s < unit → units_text s ≡ 0x30 ∷ point ∷ digits 4 s
  unfolding units_text decimal digits
  zero_before_point l =
      let z : s / unit ≡ 0 = omega arith in
      ap (λ (n : ℕ). decimal n ++ (point ∷ digits 4 s)) z ∙ ap (λ (w : ℕ). digits w 0 ++ (point ∷ digits 4 s)) (width_one 19 0 (omega arith))

  module _ (h : s < 2 ^ 64) where
    -- reading the printed sum gives it back
    pub units_back : units_read (units_text s) ≡ s
    unfolding units_read
    units_back =
        let b : value_of (before_point (units_text s)) ≡ s / unit = ap value_of digits_before ∙ value-decimal (s / unit) (omega arith) in
        let d : value_of (behind_point (units_text s)) ≡ s % unit = ap value_of four_decimals ∙ value-last s in
        omega arith

    -- from a unit on no zero leads
    pub no_leading_zero : unit ≤ s → 0x30 < get_or (units_text s) 0 0
    unfolding units_text
    no_leading_zero l =
        let f : 0x30 < get_or (decimal (s / unit)) 0 0 = decimal_leads (s / unit) (omega arith) (omega arith) in
        omega (arith, get_or-append (decimal (s / unit)) (point ∷ digits 4 s) 0 0 (decimal_low (s / unit)))

    -- 6 to 21 bytes
    pub units-length : (6 ≤ length (units_text s)) × (length (units_text s) ≤ 21)
    unfolding units_text
    units-length =
        let a = length-append (decimal (s / unit)) (point ∷ digits 4 s) in
        let b = digits-length 4 s in (
          omega (arith, decimal_low (s / unit)),
          omega (arith, decimal-short 15 (s / unit) (omega arith)),
        )
