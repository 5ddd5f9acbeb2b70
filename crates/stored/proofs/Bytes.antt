-- Numbers as bytes and back, and the loops that read and store them. Assumes nothing.
use Prim.Native.Nat.{ℕ, zero, suc, ◌+◌, ◌-◌, ◌*◌, ◌/◌, ◌%◌, ◌^◌, ◌≤◌, ◌<◌}
use mathlib.Core.Path.{◌≡◌, refl, sym, ap, ◌∙◌}
use mathlib.Core.List.{List, [], ◌∷◌, ◌++◌, append_assoc, append-nil}
use mathlib.Core.Logic.{⊎_elim}
use native.Mathlib.Nat.{pow-suc}
use native.Mathlib.Numerals.{add-one}
use native.Mathlib.Omega.{arith}
use lib.ListN.{length, get_or, take, drop, set, length-append, length-take, length-drop, get_or-eq_default}
use lib.Seq.{get_or-take, get_or-drop, take-suc, take_all, drop-drop, drop-length, sets, sets-eq}
use borrow.Rule.Slice.PartMut.{put_mid}
use Rattle.base.specs.Lists.{over}
use Rattle.base.proofs.Tests.{below_or_not}
use Rattle.base.proofs.Lists.{next, fill_before}
use Rattle.stored.specs.Form.{big_endian, number_from, number_of}

-- ---- one number
pub big_length : (w n : ℕ) → length (big_endian w n) ≡ w
unfolding big_endian
big_length zero n = refl
big_length (suc w) n = let h = big_length w (n / 256) in length-append (big_endian w (n / 256)) (n % 256 ∷ []) ∙ omega arith

number_append : (a b : ℕ) (xs : List ℕ) → number_from a (xs ++ (b ∷ [])) ≡ number_from a xs * 256 + b
unfolding number_from
number_append a b [] = refl
number_append a b (x ∷ xs) = number_append (a * 256 + x) b xs

-- a number that fits its bytes is read from them again
pub number_big : (w n : ℕ) → n < 256 ^ w → number_of (big_endian w n) ≡ n
unfolding big_endian number_from
number_big zero n h = omega arith
number_big (suc w) n h =
    let p : n < 256 ^ w * 256 = rw pow-suc at h in
    let e : number_of (big_endian w (n / 256)) ≡ n / 256 = number_big w (n / 256) (omega arith) in
    number_append 0 (n % 256) (big_endian w (n / 256)) ∙ omega arith

-- bytes are below 256
abbrev pub Bytes : List ℕ → Type 0
Bytes bs = (i : ℕ) → get_or bs i 0 < 256

-- bytes below 256, place by place
pub all_bytes_lem : (bs : List ℕ) → ((i : ℕ) → i < length bs → get_or bs i 0 < 256) → Bytes bs
all_bytes_lem bs h i = ⊎_elim (h i) (λ (q : length bs ≤ i). omega (arith, get_or-eq_default bs 0 q)) (below_or_not i (length bs))

-- and so are those of a part
pub bytes_drop : (n : ℕ) (bs : List ℕ) → Bytes bs → Bytes (drop n bs)
bytes_drop n bs h i = let e = get_or-drop n bs i 0 in omega (arith, h (n + i))

pub bytes_take : (n : ℕ) (bs : List ℕ) → Bytes bs → Bytes (take n bs)
bytes_take n bs h i =
    ⊎_elim (λ (q : i < n). omega (arith, get_or-take n bs i 0 q, h i))
    (λ (q : n ≤ i).
    let l : length (take n bs) ≤ i = simp length-take (omega arith) in
    omega (arith, get_or-eq_default (take n bs) 0 l))
    (below_or_not i n)

big_last : (v a b : ℕ) (bs : List ℕ) → b < 256 → big_endian (suc v) (a * 256 + b) ++ bs ≡ big_endian v a ++ (b ∷ bs)
unfolding big_endian
big_last v a b bs l =
    let q : (a * 256 + b) / 256 ≡ a = omega arith in
    let m : (a * 256 + b) % 256 ≡ b = omega arith in
    append_assoc (big_endian v ((a * 256 + b) / 256)) ((a * 256 + b) % 256 ∷ []) bs ∙
    (ap (λ (x : ℕ). big_endian v x ++ ((a * 256 + b) % 256 ∷ bs)) q ∙ ap (λ (x : ℕ). big_endian v a ++ (x ∷ bs)) m)

big_from : (v a : ℕ) (bs : List ℕ) → Bytes bs → big_endian (v + length bs) (number_from a bs) ≡ big_endian v a ++ bs
unfolding number_from
big_from v a [] h =
    let e : v + 0 ≡ v = omega arith in ap (λ (w : ℕ). big_endian w a) e ∙ sym (append-nil (big_endian v a))
big_from v a (b ∷ bs) h =
    let e : v + suc (length bs) ≡ suc v + length bs = omega arith in
    ap (λ (w : ℕ). big_endian w (number_from (a * 256 + b) bs)) e ∙ (big_from (suc v) (a * 256 + b) bs (λ i. h (suc i)) ∙ big_last v a b bs (h 0))

-- and their number, written in as many bytes, is they
pub big_number : (w : ℕ) (bs : List ℕ) → length bs ≡ w → Bytes bs → big_endian w (number_of bs) ≡ bs
unfolding big_endian
big_number w bs e h =
    let q : w ≡ 0 + length bs = omega arith in ap (λ (v : ℕ). big_endian v (number_of bs)) q ∙ big_from 0 0 bs h

-- the number of the bytes from a place on, one byte further
pub number_next : (a w i : ℕ) (bs : List ℕ) → i < length bs → number_from a (take (suc w) (drop i bs)) ≡ number_from (a * 256 + get_or bs i 0) (take w (drop (i + 1) bs))
unfolding number_from
number_next a w i bs h = ap (λ (l : List ℕ). number_from a (take (suc w) l)) (next bs i h)

-- ---- reading: the loop of `number_in`
power_high : (i : ℕ) → i ≤ 3 → 256 ^ i ≤ 16777216
power_high zero h = omega arith
power_high (suc zero) h = omega arith
power_high (suc (suc zero)) h = omega arith
power_high (suc (suc (suc zero))) h = omega arith
power_high (suc (suc (suc (suc i)))) h = absurd (omega arith)

-- the number of the first i bytes
pub record Begun (s : List ℕ) (n i : ℕ) : Type 0 where
  pub place : i ≤ length s
  pub is : n ≡ number_of (take i s)
  pub below : n < 256 ^ i

pub begun_none : (s : List ℕ) → Begun s 0 0
unfolding number_from
begun_none s = record { place = omega arith; is = refl; below = omega arith }

module _ {s : List ℕ} {n i : ℕ} (b : Begun s n i) where
  pub begun_high : i < length s → length s ≤ 4 → n < 16777216
  begun_high h l = let p = power_high i (omega arith) in let q = b.below in omega arith

  pub begun_more : {x : ℕ} → i < length s → (x ≡ get_or s i 0) × (x < 256) → Begun s (n * 256 + x) (i + 1)
  begun_more {x} h e =
      let q = b.below in
      let w : 256 ^ (i + 1) ≡ 256 ^ i * 256 = ap (λ (k : ℕ). 256 ^ k) (add-one i) ∙ pow-suc 256 i in
      record {
        place = omega arith;
        is =
            ap (λ (m : ℕ). m * 256 + x) b.is ∙ ap (λ (m : ℕ). number_of (take i s) * 256 + m) e.0 ∙
            sym (ap (λ (k : ℕ). number_of (take k s)) (add-one i) ∙ (ap number_of (take-suc s i 0 h) ∙ number_append 0 (get_or s i 0) (take i s)));
        below = omega arith;
      }

  pub begun_all : length s ≤ i → n ≡ number_of s
  begun_all h = b.is ∙ ap number_of (take_all i s h)

-- ---- storing: the loop of `fill`, the bytes that are left to write and those that are written
pub fill_begun : (o : List ℕ) (n : ℕ) → big_endian (length o) n ++ drop (length o) o ≡ big_endian (length o) n
fill_begun o n = ap (λ (y : List ℕ). big_endian (length o) n ++ y) (drop-length o) ∙ append-nil (big_endian (length o) n)

pub fill_again : (left rest : ℕ) (o whole : List ℕ) → 0 < left → left ≤ length o → big_endian left rest ++ drop left o ≡ whole
    → big_endian (left - 1) (rest / 256) ++ drop (left - 1) (set o (left - 1) (rest % 256)) ≡ whole
unfolding big_endian
fill_again zero rest o whole p h e = absurd (omega arith)
fill_again (suc l) rest o whole p h e =
    let i : suc l - 1 ≡ l = omega arith in
    ap (λ (k : ℕ). big_endian k (rest / 256) ++ drop k (set o k (rest % 256))) i ∙ fill_before (big_endian l (rest / 256)) (rest % 256) l o whole h e

pub fill_done : (left rest : ℕ) (o whole : List ℕ) → left ≤ 0 → big_endian left rest ++ drop left o ≡ whole → o ≡ whole
unfolding big_endian
fill_done zero rest o whole h e = e
fill_done (suc l) rest o whole h e = absurd (omega arith)

-- ---- storing in a part of a buffer

-- a list stored behind another that was stored
pub sets-append : (o : List ℕ) (at : ℕ) (f g : List ℕ) → sets (sets o at f) (at + length f) g ≡ sets o at (f ++ g)
sets-append o at [] g = let e : at + 0 ≡ at = omega arith in ap (λ (j : ℕ). sets o j g) e
sets-append o at (b ∷ f) g =
    let e : at + suc (length f) ≡ suc at + length f = omega arith in
    ap (λ (j : ℕ). sets (sets (set o at b) (suc at) f) j g) e ∙ sets-append (set o at b) (suc at) f g

-- the same, with the place and what stands there given
pub sets_next : (o z : List ℕ) (at j : ℕ) (f g : List ℕ) → z ≡ sets o at f → at + length f ≡ j → sets z j g ≡ sets o at (f ++ g)
sets_next o z at j f g e p =
    ap (λ (l : List ℕ). sets l j g) e ∙ (ap (λ (k : ℕ). sets (sets o at f) k g) (sym p) ∙ sets-append o at f g)

-- what is stored from the start on is laid over it
pub sets_over : (f o : List ℕ) → length f ≤ length o → sets o 0 f ≡ over f o
unfolding over
sets_over f o h = let e : 0 + length f ≡ length f = omega arith in sets-eq f o 0 (omega arith) ∙ ap (λ (n : ℕ). f ++ drop n o) e

-- the part from a place on comes back filled
pub part_filled : (at w n : ℕ) (o ys : List ℕ) → at + w ≤ length o → ys ≡ big_endian (length (take (at + w - at) (drop at o))) n
    → put_mid at (at + w - at) o ys ≡ sets o at (big_endian w n)
part_filled at w n o ys h e =
    let i : at + w - at ≡ w = omega arith in
    let l : length (take (at + w - at) (drop at o)) ≡ w = simp (length-take, length-drop) (omega arith) in
    let y : ys ≡ big_endian w n = e ∙ ap (λ (k : ℕ). big_endian k n) l in
    let b = big_length w n in
    let d : drop (at + w - at) (drop at o) ≡ drop (at + length (big_endian w n)) o =
    ap (λ (k : ℕ). drop k (drop at o)) i ∙ (drop-drop w at o ∙ ap (λ (k : ℕ). drop (at + k) o) (sym b)) in
    ap (λ (z : List ℕ). take at o ++ (z ++ drop (at + w - at) (drop at o))) y ∙
    (ap (λ (z : List ℕ). take at o ++ (big_endian w n ++ z)) d ∙
    (sym (append_assoc (take at o) (big_endian w n) (drop (at + length (big_endian w n)) o)) ∙ sym (sets-eq (big_endian w n) o at (omega arith))))
