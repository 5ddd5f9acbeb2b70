-- Masks, bit by bit: a bit by a shift, what two masks share or have together, the numbers that pass a test, and a mask that is not empty.
-- Assumes nothing.
use Prim.Native.Nat.{ℕ, zero, suc, ◌+◌, ◌*◌, ◌/◌, ◌%◌, ◌^◌, ◌≤◌, ◌<◌}
use mathlib.Core.Bool.{Bool, true, false, ◌&&◌, ◌||◌}
use mathlib.Core.Path.{◌≡◌, refl, sym, ap, ◌∙◌}
use native.Mathlib.Nat.{div-div-eq-div-mul}
use native.Mathlib.Omega.{arith}
use lib.Dec.{eqb}
use lib.Bits.{bit_and, bit_or, and_shr, or_shr}
use borrow.Author.Tests.{eq-eqb, ne_eqb}
use Rattle.base.proofs.Bits.{low_and, low_or}
use Rattle.state.specs.Field.{flag_number}
use Rattle.knowledge.specs.Sets.{bit, mask_from}

-- ---- a bit is the lowest of the mask shifted that far
pub bit_shifted : (n m : ℕ) → eqb (m / 2 ^ n % 2) 1 ≡ bit m n
unfolding bit
bit_shifted zero m = let e : m / 1 ≡ m = omega arith in ap (λ (x : ℕ). eqb (x % 2) 1) e
bit_shifted (suc n) m =
    let e : 2 ^ suc n ≡ 2 * 2 ^ n = omega arith in
    ap (λ (x : ℕ). eqb (x % 2) 1) (ap (λ (d : ℕ). m / d) e ∙ sym (div-div-eq-div-mul m 2 (2 ^ n))) ∙ bit_shifted n (m / 2)

-- ---- two masks: what they share, and what they have together
pub bit-and : (n a b : ℕ) → bit (bit_and a b) n ≡ (bit a n && bit b n)
unfolding bit
bit-and zero a b = low_and a b
bit-and (suc n) a b = ap (λ (m : ℕ). bit m n) (and_shr a b 1) ∙ bit-and n (a / 2) (b / 2)

pub bit-or : (n a b : ℕ) → bit (bit_or a b) n ≡ (bit a n || bit b n)
unfolding bit
bit-or zero a b = low_or a b
bit-or (suc n) a b = ap (λ (m : ℕ). bit m n) (or_shr a b 1) ∙ bit-or n (a / 2) (b / 2)

-- ---- the empty mask, and any other
pub bit_zero : (n : ℕ) → bit 0 n ≡ false
unfolding bit
bit_zero zero = refl
bit_zero (suc n) = bit_zero n

some_bit_below : (n m : ℕ) → m ≤ n → (m ≡ 0 → ⊥) → (i : ℕ) × (bit m i ≡ true)
unfolding bit
some_bit_below zero m h z = absurd (z (omega arith))
some_bit_below (suc n) m h z = go (some_bit_below n (m / 2) (omega arith)) (m % 2) refl (omega arith)
  where
    go : ((m / 2 ≡ 0 → ⊥) → (i : ℕ) × (bit (m / 2) i ≡ true)) → (d : ℕ) → m % 2 ≡ d → d < 2 → (i : ℕ) × (bit m i ≡ true)
    go f zero e l = let t = f (λ q. z (omega arith)) in (suc t.0, t.1)
    go f (suc zero) e l = (0, eq-eqb (m % 2) 1 e)
    go f (suc (suc d)) e l = absurd (omega arith)

pub some_bit : (m : ℕ) → (m ≡ 0 → ⊥) → (i : ℕ) × (bit m i ≡ true)
some_bit m z = some_bit_below m m (omega arith) z

-- ---- the numbers that pass a test
digit_low : (b : Bool) (x : ℕ) → eqb ((flag_number b + 2 * x) % 2) 1 ≡ b
digit_low true x = eq-eqb ((1 + 2 * x) % 2) 1 (omega arith)
digit_low false x = ne_eqb ((0 + 2 * x) % 2) 1 (λ e. omega arith)

digits_high : (b : Bool) (x : ℕ) → (flag_number b + 2 * x) / 2 ≡ x
digits_high true x = omega arith
digits_high false x = omega arith

module _ (p : ℕ → Bool) where
  pub bit_mask : (m i n : ℕ) → n < m → bit (mask_from p m i) n ≡ p (i + n)
  unfolding bit mask_from
  bit_mask zero i n h = absurd (omega arith)
  bit_mask (suc m) i zero h = digit_low (p i) (mask_from p m (i + 1)) ∙ ap p (omega arith)
  bit_mask (suc m) i (suc n) h =
      ap (λ (x : ℕ). bit x n) (digits_high (p i) (mask_from p m (i + 1))) ∙ (bit_mask m (i + 1) n (omega arith) ∙ ap p (omega arith))

  pub bit_beyond : (m i n : ℕ) → m ≤ n → bit (mask_from p m i) n ≡ false
  unfolding bit mask_from
  bit_beyond zero i n h = bit_zero n
  bit_beyond (suc m) i zero h = absurd (omega arith)
  bit_beyond (suc m) i (suc n) h = ap (λ (x : ℕ). bit x n) (digits_high (p i) (mask_from p m (i + 1))) ∙ bit_beyond m (i + 1) n (omega arith)
