-- A body with its check is accepted, and nothing else is. Assumes nothing.
use Prim.Native.Nat.{ℕ, ◌+◌, ◌-◌, ◌/◌, ◌%◌, ◌≤◌}
use mathlib.Core.Bool.{Bool, true, ◌&&◌}
use mathlib.Core.Path.{◌≡◌, sym, ap, ◌∙◌}
use mathlib.Core.List.{List, [], ◌∷◌, ◌++◌}
use native.Mathlib.Omega.{arith}
use lib.Dec.{eqb, leb}
use lib.ListN.{length, take, drop, get_or, length-append, take-append-drop, drop_of_length-le}
use lib.Seq.{take_at, get_or-append-add}
use borrow.Author.Tests.{le-leb, leb-true, eq-eqb, eqb-true}
use Rattle.base.proofs.Lists.{next}
use Rattle.base.proofs.Tests.{and_left, and_right}
use Rattle.crc.specs.Crc.{crc_of, crc_bytes, sealed, body_in, crc_right}

pub sealed-length : (b : List ℕ) → length (sealed b) ≡ length b + 2
unfolding sealed crc_bytes
sealed-length b = length-append b _

pub sealed-body : (b : List ℕ) → body_in (sealed b) ≡ b
unfolding sealed
sealed-body b = let e : length b ≡ length (b ++ crc_bytes b) - 2 = omega (arith, sealed-length b) in take_at b (crc_bytes b) _ e

sealed_at : (b : List ℕ) (i : ℕ) → get_or (sealed b) (length b + i) 0 ≡ get_or (crc_bytes b) i 0
unfolding sealed
sealed_at b i = get_or-append-add b (crc_bytes b) i 0

-- "requests are read and replies built with the standard's CRC": what is built is read
pub sealed_right : (b : List ℕ) → crc_right (sealed b) ≡ true
unfolding crc_right crc_bytes
sealed_right b =
    let n : length (sealed b) ≡ length b + 2 = sealed-length b in
    let l : 2 ≤ length (sealed b) = omega arith in
    let i : length (sealed b) - 2 ≡ length b + 0 = omega arith in
    let j : length (sealed b) - 2 + 1 ≡ length b + 1 = omega arith in
    let low : get_or (sealed b) (length (sealed b) - 2) 0 ≡ crc_of (body_in (sealed b)) % 256 =
    ap (λ (k : ℕ). get_or (sealed b) k 0) i ∙ sealed_at b 0 ∙ ap (λ (x : List ℕ). crc_of x % 256) (sym (sealed-body b)) in
    let high : get_or (sealed b) (length (sealed b) - 2 + 1) 0 ≡ crc_of (body_in (sealed b)) / 256 =
    ap (λ (k : ℕ). get_or (sealed b) k 0) j ∙ sealed_at b 1 ∙ ap (λ (x : List ℕ). crc_of x / 256) (sym (sealed-body b)) in
    simp (le-leb _ _ l, eq-eqb _ _ low, eq-eqb _ _ high)

-- and what is read as right is a body with its check
pub right_sealed : (f : List ℕ) → crc_right f ≡ true → f ≡ sealed (body_in f)
unfolding crc_right sealed crc_bytes
right_sealed f h =
    let t : Bool = eqb (get_or f (length f - 2) 0) (crc_of (body_in f) % 256) in
    let u : Bool = eqb (get_or f (length f - 2 + 1) 0) (crc_of (body_in f) / 256) in
    let l : 2 ≤ length f = leb-true 2 (length f) (and_left (leb 2 (length f)) (t && u) h) in
    let both : (t && u) ≡ true = and_right (leb 2 (length f)) (t && u) h in
    let low : get_or f (length f - 2) 0 ≡ crc_of (body_in f) % 256 = eqb-true _ _ (and_left t u both) in
    let high : get_or f (length f - 2 + 1) 0 ≡ crc_of (body_in f) / 256 = eqb-true _ _ (and_right t u both) in
    let n : ℕ = length f - 2 in
    let d : drop n f ≡ get_or f n 0 ∷ get_or f (n + 1) 0 ∷ [] = two f n (omega arith) in
    sym (take-append-drop n f) ∙ ap (λ (y : List ℕ). take n f ++ y) (d ∙ cc)
  where
    two : (s : List ℕ) (i : ℕ) → i + 2 ≡ length s → drop i s ≡ get_or s i 0 ∷ get_or s (i + 1) 0 ∷ []
    two s i e =
        let a : drop i s ≡ get_or s i 0 ∷ drop (i + 1) s = next s i (omega arith) in
        let b : drop (i + 1) s ≡ get_or s (i + 1) 0 ∷ drop (i + 1 + 1) s = next s (i + 1) (omega arith) in
        let l : length s ≤ i + 1 + 1 = omega arith in
        let z : drop (i + 1 + 1) s ≡ [] = drop_of_length-le s l in
        cc
