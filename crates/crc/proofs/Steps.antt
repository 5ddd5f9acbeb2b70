-- One law for each step of the code that needs one: a turn of a loop, a run of stores, a return. Assumes nothing.
use Prim.Native.Nat.{ℕ, suc, ◌+◌, ◌-◌, ◌/◌, ◌%◌, ◌≤◌, ◌<◌}
use mathlib.Core.Bool.{false, and-true}
use mathlib.Core.Path.{◌≡◌, refl, sym, ap, ◌∙◌}
use mathlib.Core.List.{List, [], ◌∷◌, ◌++◌, append_assoc}
use native.Mathlib.Omega.{arith}
use lib.Bits.{bit_xor, bit_and, and_mask}
use lib.Dec.{eqb}
use Rattle.std.proofs.Common.{fold, Option, Some, None}
use lib.Pointwise.{pointwise}
use borrow.Rule.Slice.PartMut.{put_mid, Post-is}
use lib.ListN.{length, take, get_or, length-append}
use lib.Seq.{length-take-le}
use borrow.Author.Tests.{le-leb, lt-leb, eq-eqb, ne_eqb}
use Rattle.base.specs.Lists.{over}
use Rattle.crc.specs.Crc.{polynomial, shifted, shifted_times, crc_from, crc_of, crc_bytes, sealed, body_in, crc_right, seal_of}

-- ---- a shift: the bit that is masked is the remainder by two
pub shift_odd : (c : ℕ) → bit_and c 1 ≡ 1 → bit_xor (c / 2) polynomial ≡ shifted c
unfolding shifted
shift_odd c h = let e : c % 2 ≡ 1 = sym (and_mask c 1) ∙ h in simp (eq-eqb (c % 2) 1 e)

pub shift_even : (c : ℕ) → (bit_and c 1 ≡ 1 → ⊥) → c / 2 ≡ shifted c
unfolding shifted
shift_even c h = let e : c % 2 ≡ 1 → ⊥ = λ q. h (and_mask c 1 ∙ q) in simp (ne_eqb (c % 2) 1 e)

-- ---- the eight shifts: those that are left, from what was reached, come to b
pub shift_again : (a b d i : ℕ) → i < 8 → shifted_times (8 - i) a ≡ b → d ≡ shifted a → shifted_times (8 - (i + 1)) d ≡ b
unfolding shifted_times
shift_again a b d i h e z =
    let n : 8 - i ≡ suc (8 - (i + 1)) = omega arith in
    ap (shifted_times (8 - (i + 1))) z ∙ sym (ap (λ (k : ℕ). shifted_times k a) n) ∙ e

pub shift_done : (a b i : ℕ) → 8 ≤ i → shifted_times (8 - i) a ≡ b → a ≡ b
unfolding shifted_times
shift_done a b i h e = let n : 8 - i ≡ 0 = omega arith in sym (ap (λ (k : ℕ). shifted_times k a) n) ∙ e

-- ---- the bytes: the check from what was gathered is a fold
folded_from : (register : ℕ) (xs : List ℕ) → fold (λ r x. shifted_times 8 (bit_xor r x)) register xs ≡ crc_from register xs
unfolding crc_from
folded_from register [] = refl
folded_from register (x ∷ xs) = folded_from (shifted_times 8 (bit_xor register x)) xs

pub folded : (xs : List ℕ) → fold (λ r x. shifted_times 8 (bit_xor r x)) 0xffff xs ≡ crc_of xs
unfolding crc_of
folded xs = folded_from 0xffff xs

-- ---- the end of a frame
pub right_short : (f : List ℕ) → length f < 2 → false ≡ crc_right f
unfolding crc_right
right_short f h = sym (simp (lt-leb _ _ h))

-- its two bytes beside those of the check, low byte first
pub right_long : (f : List ℕ) (c : ℕ) → 2 ≤ length f → c < 65536 → c ≡ crc_of (body_in f)
    → pointwise eqb (get_or f (length f - 2) 0 ∷ get_or f (length f - 1) 0 ∷ []) (c % 256 ∷ c / 256 % 256 ∷ []) ≡ crc_right f
unfolding crc_right
right_long f c h b e =
    let i : length f - 2 + 1 ≡ length f - 1 = omega arith in
    let high : c / 256 % 256 ≡ c / 256 = omega arith in
    simp (and-true, high, ← e, le-leb _ _ h, i)

-- ---- the check laid behind a body
pub seal_short : (n : ℕ) (o : List ℕ) → length o < n + 2 → ◌≡◌ {A = Option ℕ × List ℕ} (None, o) (seal_of n o)
unfolding seal_of
seal_short n o h = sym (simp (lt-leb (n + 2) (length o) h))

pub seal_laid : (n c : ℕ) (o : List ℕ) → n + 2 ≤ length o → c < 65536 → c ≡ crc_of (take n o)
    → ◌≡◌ {A = Option ℕ × List ℕ} (Some (n + 2), put_mid n (n + 2 - n) o (c % 256 ∷ c / 256 % 256 ∷ [])) (seal_of n o)
unfolding seal_of sealed crc_bytes over
seal_laid n c o h b e = ap (λ (y : List ℕ). (Some (n + 2), y)) whole ∙ sym (simp (le-leb _ _ h))
  where
    high : c / 256 % 256 ≡ c / 256
    high = omega arith

    pair : List ℕ
    pair = c % 256 ∷ c / 256 ∷ []

    size : length (take n o ++ pair) ≡ n + 2
    size = simp length-append (omega (arith, length-take-le n o))

    rest : put_mid n (n + 2 - n) o pair ≡ over (take n o ++ pair) o
    rest = rw (Post-is n (n + 2) o (omega arith), size, append_assoc)

    whole : put_mid n (n + 2 - n) o (c % 256 ∷ c / 256 % 256 ∷ []) ≡ over (sealed (take n o)) o
    whole = simp (high, ← e) rest
