-- The lowest bit of what two numbers share, and of what they have together; any other bit is the lowest of the numbers shifted. Assumes
-- nothing.
use Prim.Native.Nat.{ℕ, zero, suc, ◌%◌, ◌<◌}
use mathlib.Core.Bool.{◌&&◌, ◌||◌}
use mathlib.Core.Path.{◌≡◌, refl, ap, ◌∙◌}
use native.Mathlib.Omega.{arith}
use lib.Dec.{eqb}
use lib.Bits.{bit_and, bit_or, and_mod, or_mod}

digits : (x y : ℕ) → x < 2 → y < 2 → (eqb (bit_and x y) 1 ≡ (eqb x 1 && eqb y 1)) × (eqb (bit_or x y) 1 ≡ (eqb x 1 || eqb y 1))
digits zero zero h k = (refl, refl)
digits zero (suc zero) h k = (refl, refl)
digits zero (suc (suc y)) h k = absurd (omega arith)
digits (suc zero) zero h k = (refl, refl)
digits (suc zero) (suc zero) h k = (refl, refl)
digits (suc zero) (suc (suc y)) h k = absurd (omega arith)
digits (suc (suc x)) y h k = absurd (omega arith)

module _ (a b : ℕ) where
  pub low_and : eqb (bit_and a b % 2) 1 ≡ (eqb (a % 2) 1 && eqb (b % 2) 1)
  low_and = ap (λ (m : ℕ). eqb m 1) (and_mod a b 1) ∙ (digits (a % 2) (b % 2) (omega arith) (omega arith)).0

  pub low_or : eqb (bit_or a b % 2) 1 ≡ (eqb (a % 2) 1 || eqb (b % 2) 1)
  low_or = ap (λ (m : ℕ). eqb m 1) (or_mod a b 1) ∙ (digits (a % 2) (b % 2) (omega arith) (omega arith)).1
