-- The alarms as their stored number and back: halves of bytes as one sum, and the unused bits by the parts of their mask. Assumes nothing.
use Prim.Native.Nat.{ℕ, ◌+◌, ◌*◌, ◌/◌, ◌%◌, ◌≤◌, ◌<◌}
use mathlib.Core.Bool.{true}
use mathlib.Core.Path.{◌≡◌, refl, ap, ap₂, ◌∙◌}
use native.Mathlib.Omega.{arith}
use lib.Bits.{bit_and, and_block, and_mask}
use lib.Dec.{eqb}
use borrow.Author.Tests.{eq-eqb, eqb-true}
use Rattle.base.specs.Test.{between}
use Rattle.base.proofs.Tests.{and_yes, and_left, and_right, between_yes, between_high}
use Rattle.state.specs.Alarm.{no_alarm, all_alarms, character_values}
use Rattle.state.specs.Field.{alarms, field_range}
use Rattle.state.specs.Valid.{within}
use Rattle.stored.specs.Layout.{bit_mapped, halves_from, alarms_stored, alarms_in, unused_bits, fits}

pub stored-sum : (n : ℕ) → alarms_stored n ≡ n / 8 % 65536 * 256 + n % 8 * 16
unfolding alarms_stored halves_from character_values
stored-sum n =
    joined (n / 32768 % 16) (n / 2048 % 16) (n / 128 % 16) (n / 8 % 16) (n / 1 % 8) _ _ _ _ (first_two n) (first_three n) (first_four n) (omega arith)
  where
    first_two : (m : ℕ) → m / 32768 % 16 * 16 + m / 2048 % 16 ≡ m / 2048 % 256
    first_two m = omega arith

    first_three : (m : ℕ) → m / 2048 % 256 * 16 + m / 128 % 16 ≡ m / 128 % 4096
    first_three m = omega arith

    first_four : (m : ℕ) → m / 128 % 4096 * 16 + m / 8 % 16 ≡ m / 8 % 65536
    first_four m = omega arith

    joined : (v w x y z p q r s : ℕ) → v * 16 + w ≡ p → p * 16 + x ≡ q → q * 16 + y ≡ r → z ≡ s
        → (((((0 * 16 + v) * 16 + w) * 16 + x) * 16 + y) * 16 + z) * 16 + 0 ≡ r * 256 + s * 16
    joined v w x y z p q r s a b c d = omega arith

pub unused_mask : unused_bits ≡ 0x8f
unfolding unused_bits alarms_stored halves_from character_values
unused_mask = refl

-- no alarm is no bit
pub zero_fits : fits bit_mapped 0 ≡ true
unfolding unused_bits alarms_stored halves_from character_values
zero_fits = refl

-- the unused bits of a number: the reserved one and the last four
unused_parts : (n : ℕ) → bit_and n unused_bits ≡ n / 128 % 2 * 128 + n % 16
unused_parts n =
    let high : n ≡ n / 128 * 128 + n % 128 = omega arith in
    let last : n % 128 % 16 ≡ n % 16 = omega arith in
    ap (bit_and n) unused_mask ∙
    (ap (λ (m : ℕ). bit_and m 0x8f) high ∙
    (and_block 7 (n / 128) 1 (n % 128) 15 (omega arith) (omega arith) ∙
    ap₂ (λ (x y : ℕ). x * 128 + y) (and_mask (n / 128) 1) (and_mask (n % 128) 4 ∙ last)))

-- sixteen alarms and three, as one number and as it is stored
module _ (a b : ℕ) (h : b < 8) where
  parts_in : alarms_in (a * 256 + b * 16) ≡ a * 8 + b
  unfolding alarms_in
  parts_in =
      let x : (a * 256 + b * 16) / 256 ≡ a = omega arith in
      let y : (a * 256 + b * 16) / 16 % 8 ≡ b = omega arith in
      rw (x, y) refl

  parts_stored : a < 65536 → alarms_stored (a * 8 + b) ≡ a * 256 + b * 16
  parts_stored l =
      let x : (a * 8 + b) / 8 % 65536 ≡ a = omega arith in
      let y : (a * 8 + b) % 8 ≡ b = omega arith in
      stored-sum (a * 8 + b) ∙ rw (x, y) refl

-- alarms that are stored fit, and are read again
module _ (n : ℕ) (h : within (field_range alarms) n ≡ true) where
  high : n ≤ all_alarms
  high = between_high no_alarm all_alarms n h

  pub alarms_back : alarms_in (alarms_stored n) ≡ n
  alarms_back =
      let l = high in
      ap alarms_in (stored-sum n) ∙ (parts_in (n / 8 % 65536) (n % 8) (omega arith) ∙ omega arith)

  pub stored-fits : fits bit_mapped (alarms_stored n) ≡ true
  stored-fits =
      let s = stored-sum n in
      let l = high in
      let u = unused_parts (alarms_stored n) in
      and_yes (between 0 0xffffff (alarms_stored n)) (eqb (bit_and (alarms_stored n) unused_bits) 0) (between_yes 0 0xffffff (alarms_stored n) (omega arith) (omega arith))
      (eq-eqb (bit_and (alarms_stored n) unused_bits) 0 (omega arith))

-- a number that fits is of alarms, and is theirs
module _ (n : ℕ) (h : fits bit_mapped n ≡ true) where
  three_bytes : n ≤ 0xffffff
  three_bytes = between_high 0 0xffffff n (and_left (between 0 0xffffff n) (eqb (bit_and n unused_bits) 0) h)

  unused_off : (n / 128 % 2 ≡ 0) × (n % 16 ≡ 0)
  unused_off =
      let u = unused_parts n in
      let z : bit_and n unused_bits ≡ 0 = eqb-true _ _ (and_right (between 0 0xffffff n) (eqb (bit_and n unused_bits) 0) h) in
      (omega arith, omega arith)

  pub alarms-within : within (field_range alarms) (alarms_in n) ≡ true
  unfolding alarms_in
  alarms-within = let l = three_bytes in between_yes no_alarm all_alarms (alarms_in n) (omega arith) (omega arith)

  pub stored_back : alarms_stored (alarms_in n) ≡ n
  unfolding alarms_in
  stored_back =
      let l = three_bytes in
      let u = unused_off in
      parts_stored (n / 256) (n / 16 % 8) (omega arith) (omega arith) ∙ omega (arith, u.0, u.1)
