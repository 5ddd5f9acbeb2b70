-- Numbers and words in a text.
use Rattle.std.specs.Prelude.{ℕ, zero, suc, ◌+◌, ◌-◌, ◌*◌, ◌/◌, ◌%◌, Bool, true, false, ◌&&◌, ◌||◌, Option, Some, None, List, [], ◌∷◌, ◌++◌, eqb, leb, ltb, length}
use Rattle.base.specs.Test.{pick, all_between}

abbrev pub space : ℕ
space = 0x20

-- the end of a line
abbrev pub newline : List ℕ
newline = 0x0a ∷ []

-- ---- "Digits are ASCII; every printed number has its full width with leading zeros."

-- the last w decimal digits of n
unfoldable pub digits : ℕ → ℕ → List ℕ
digits zero n = []
digits (suc w) n = digits w (n / 10) ++ ((0x30 + n % 10) ∷ [])

-- how many decimal digits a number has, up to 20
unfoldable pub width_in : ℕ → ℕ → ℕ
width_in zero n = 1
width_in (suc w) n = pick (ltb n 10) 1 (suc (width_in w (n / 10)))

-- a number in decimal digits, none of them a leading zero
unfoldable pub decimal : ℕ → List ℕ
decimal n = digits (width_in 19 n) n

abbrev pub all_digits : List ℕ → Bool
all_digits xs = all_between 0x30 0x39 xs

-- the number that digits are, behind those that make a
unfoldable pub value_from : ℕ → List ℕ → ℕ
value_from a [] = a
value_from a (x ∷ xs) = value_from (a * 10 + (x - 0x30)) xs

abbrev pub value_of : List ℕ → ℕ
value_of xs = value_from 0 xs

-- the number that up to eight digits are
unfoldable pub number_for : List ℕ → Option ℕ
number_for xs = pick (leb (length xs) 8 && all_digits xs) (Some (value_of xs)) None

-- ---- byte strings

-- two byte strings are equal
unfoldable pub equal : List ℕ → List ℕ → Bool
equal [] [] = true
equal [] (y ∷ ys) = false
equal (x ∷ xs) [] = false
equal (x ∷ xs) (y ∷ ys) = eqb x y && equal xs ys

-- a byte string is one of several
abbrev pub one_of : List (List ℕ) → List ℕ → Bool
one_of [] xs = false
one_of (w ∷ ws) xs = equal xs w || one_of ws xs
