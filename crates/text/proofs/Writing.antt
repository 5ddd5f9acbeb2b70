-- Laws of bytes written into a buffer one behind the other, and one law for each step of the code that writes them. A step's premises
-- have the form that the code's facts have, so that `search` finds them. Assumes nothing.
use mathlib.Core.Path.{◌≡◌, refl, ap, sym, ◌∙◌}
use mathlib.Core.List.{List, [], ◌++◌}
use mathlib.Core.Logic.{⊎_elim}
use Prim.Native.Nat.{ℕ, zero, suc, ◌+◌, ◌-◌, ◌/◌, ◌%◌, ◌≤◌, ◌<◌}
use native.Mathlib.Omega.{arith}
use lib.ListN.{length, take, drop, set, length-append, length-drop, length-take}
use lib.Seq.{length-take-le}
use borrow.Rule.Slice.PartMut.{put_mid}
use borrow.Author.Tests.{le-leb, leb-true, lt-leb, le-ltb, lt-ltb}
use lib.Dec.{leb}
use mathlib.Core.Bool.{true, false}
use Rattle.base.specs.Lists.{over, over_at}
use Rattle.base.proofs.Tests.{below_or_not}
use Rattle.base.proofs.Lists.{over-take, over_at-none, over_at_start, over_at-length, over_at-append, over_at_part, fill_before}
use Rattle.text.specs.Word.{digits, width_in, decimal}
use Rattle.text.specs.Written.{written_at, written_first}
use Rattle.text.proofs.Words.{digits-length}

-- ---- a writer's answer: the place behind the bytes, and the buffer with them
abbrev pub Laid : ℕ → List ℕ → List ℕ → ℕ → List ℕ → Type 0
Laid at xs o n o' = (n ≡ at + length xs) × (o' ≡ over_at at xs o)

pub laid_none : (at : ℕ) (o : List ℕ) → Laid at [] o at o
laid_none at o = (omega arith, sym (over_at-none at o))

-- of equal bytes
pub laid_same : (at n : ℕ) (xs ys o o₁ : List ℕ) → xs ≡ ys → Laid at xs o n o₁ → Laid at ys o n o₁
laid_same at n xs ys o o₁ e a = (a.0 ∙ ap (λ (y : List ℕ). at + length y) e, a.1 ∙ ap (λ (y : List ℕ). over_at at y o) e)

-- laid over the start, they are what stands there
module _ (xs o o₁ : List ℕ) (n : ℕ) (a : Laid 0 xs o n o₁) where
  pub laid_back : take n o₁ ≡ xs
  laid_back = let e : length xs ≡ n = omega (arith, a.0) in ap (take n) (a.1 ∙ over_at_start xs o) ∙ over-take xs o n e

  pub laid-count : n ≡ length (take n o₁)
  laid-count = let e : n ≡ length xs = omega (arith, a.0) in e ∙ sym (ap length laid_back)

-- ---- a writer, by whether the bytes fit
pub written-room : (at n : ℕ) (xs o o₁ : List ℕ) → at + length xs ≤ length o → Laid at xs o n o₁ → (n, o₁) ≡ written_at at xs o
unfolding written_at
written-room at n xs o o₁ h a = simp (le-leb _ _ h, a.0, a.1)

pub room-written : (at n : ℕ) (xs o o₁ : List ℕ) → at + length xs ≤ length o → (n, o₁) ≡ written_at at xs o → Laid at xs o n o₁
unfolding written_at
room-written at n xs o o₁ h e =
    let f : ◌≡◌ {A = ℕ × List ℕ} (n, o₁) (at + length xs, over_at at xs o) = simp (le-leb _ _ h) at e in
    (ap (λ (p : ℕ × List ℕ). p.0) f, ap (λ (p : ℕ × List ℕ). p.1) f)

-- no room for their k bytes
pub none_written : (at k : ℕ) (xs o : List ℕ) → length xs ≡ k → false ≡ leb (at + k) (length o) → (at, o) ≡ written_at at xs o
unfolding written_at
none_written at k xs o l h = simp (l, sym h)

-- two writers one behind the other
pub joined : (at n m : ℕ) (xs ys o o₁ o₂ : List ℕ) → Laid at xs o n o₁ → Laid n ys o₁ m o₂ → Laid at (xs ++ ys) o m o₂
joined at n m xs ys o o₁ o₂ a b = (
  simp length-append (omega arith),
  b.1 ∙ ap (λ (k : ℕ). over_at k ys o₁) a.0 ∙ ap (over_at (at + length xs) ys) a.1 ∙ sym (over_at-append at xs ys o),
)

-- with room for up to k bytes behind what is laid, or behind what another writer wrote
pub behind_written : (at n m k : ℕ) (xs ys o o₁ o₂ : List ℕ) → length ys ≤ k → at + length xs + k ≤ length o → Laid at xs o n o₁
    → (m, o₂) ≡ written_at n ys o₁ → Laid at (xs ++ ys) o m o₂
behind_written at n m k xs ys o o₁ o₂ l h a b =
    let e : length o₁ ≡ length o = ap length a.1 ∙ over_at-length at xs o (omega arith) in
    joined at n m xs ys o o₁ o₂ a (room-written n m ys o₁ o₂ (omega (arith, a.0)) b)

pub both_written : (at n m k : ℕ) (xs ys o o₁ o₂ : List ℕ) → length ys ≤ k → at + length xs + k ≤ length o → (n, o₁) ≡ written_at at xs o
    → (m, o₂) ≡ written_at n ys o₁ → Laid at (xs ++ ys) o m o₂
both_written at n m k xs ys o o₁ o₂ l h a b =
    behind_written at n m k xs ys o o₁ o₂ l h (room-written at n xs o o₁ (omega arith) a) b

-- ---- the loop of `fill_digits`: the digits that are left to write, and those that are written
pub digits_again : (left rest : ℕ) (o whole : List ℕ) → 0 < left → left ≤ length o → digits left rest ++ drop left o ≡ whole
    → digits (left - 1) (rest / 10) ++ drop (left - 1) (set o (left - 1) (0x30 + rest % 10)) ≡ whole
unfolding digits
digits_again zero rest o whole p h e = absurd (omega arith)
digits_again (suc l) rest o whole p h e =
    let i : suc l - 1 ≡ l = omega arith in
    ap (λ (k : ℕ). digits k (rest / 10) ++ drop k (set o k (0x30 + rest % 10))) i ∙ fill_before (digits l (rest / 10)) (0x30 + rest % 10) l o whole h e

pub digits-done : (left rest : ℕ) (o whole : List ℕ) → left ≤ 0 → digits left rest ++ drop left o ≡ whole → o ≡ whole
unfolding digits
digits-done zero rest o whole h e = e
digits-done (suc l) rest o whole h e = absurd (omega arith)

-- ---- the lent part from the place on, in which `put_word` and `put_digits` write
pub part_written : (at w : ℕ) (xs o ys : List ℕ) → true ≡ leb (at + w) (length o) → length xs ≡ w → ys ≡ xs
    → (at + w, put_mid at (at + w - at) o ys) ≡ written_at at xs o
part_written at w xs o ys h l e =
    let i : at + w - at ≡ w = omega arith in
    let f : at + w ≤ length o = leb-true (at + w) (length o) (sym h) in
    written-room at (at + w) xs o (put_mid at (at + w - at) o ys) (omega arith)
    (omega arith, over_at_part at (at + w - at) ys o (ap length e ∙ l ∙ sym i) ∙ ap (λ (z : List ℕ). over_at at z o) e)

pub digits_part : (at w n : ℕ) (o ys : List ℕ) → true ≡ leb (at + w) (length o) → ys ≡ digits (length (take (at + w - at) (drop at o))) n
    → (at + w, put_mid at (at + w - at) o ys) ≡ written_at at (digits w n) o
digits_part at w n o ys h e =
    let f : at + w ≤ length o = leb-true (at + w) (length o) (sym h) in
    let l : length (take (at + w - at) (drop at o)) ≡ w = simp (length-take, length-drop) (omega arith) in
    part_written at w (digits w n) o ys h (digits-length w n) (e ∙ ap (λ (m : ℕ). digits m n) l)

-- ---- `put_decimal`
pub decimal-written : (at w n r : ℕ) (o o₁ : List ℕ) → w ≡ width_in 19 n → (r, o₁) ≡ written_at at (digits w n) o → (r, o₁) ≡ written_at at (decimal n) o
unfolding decimal
decimal-written at w n r o o₁ e h = h ∙ ap (λ (k : ℕ). written_at at (digits k n) o) e

-- ---- how wide a number is
pub width_more : (k n : ℕ) → 10 ≤ n → width_in (suc k) n ≡ suc (width_in k (n / 10))
unfolding width_in
width_more k n h = simp (le-ltb _ _ h)

pub width_none : (n : ℕ) → width_in 0 n ≡ 1
unfolding width_in
width_none n = refl

pub width_one : (k n : ℕ) → n < 10 → width_in k n ≡ 1
unfolding width_in
width_one zero n h = refl
width_one (suc k) n h = simp (lt-ltb _ _ h)

width_high : (k n : ℕ) → width_in k n ≤ suc k
unfolding width_in
width_high zero n = omega arith
width_high (suc k) n =
    ⊎_elim
    (λ (h : n < 10). omega (arith, width_one (suc k) n h))
    (λ (h : 10 ≤ n). omega (arith, width_more k n h, width_high k (n / 10)))
    (below_or_not n 10)

-- the loop of `width_of`: the digits passed, and those of the rest
pub width_again : (w rest whole : ℕ) → w < 20 → 10 ≤ rest → w + width_in (20 - w) rest ≡ whole → w + 1 + width_in (20 - (w + 1)) (rest / 10) ≡ whole
width_again w rest whole h k e =
    let i : 20 - w ≡ suc (20 - (w + 1)) = omega arith in
    let f : width_in (20 - w) rest ≡ suc (width_in (20 - (w + 1)) (rest / 10)) = ap (λ (m : ℕ). width_in m rest) i ∙ width_more (20 - (w + 1)) rest k in
    omega arith

pub width_full : (w rest whole : ℕ) → w ≡ 20 → w + width_in (20 - w) rest ≡ 1 + whole → 20 ≡ whole
width_full w rest whole h e =
    let i : 20 - w ≡ 0 = omega arith in
    let f : width_in (20 - w) rest ≡ 1 = ap (λ (m : ℕ). width_in m rest) i ∙ width_none rest in
    omega arith

pub width_done : (w rest whole : ℕ) → rest < 10 → w + width_in (20 - w) rest ≡ 1 + whole → w ≡ whole
width_done w rest whole h e = omega (arith, width_one (20 - w) rest h)

-- ---- the room that a number takes
pub digits_high : (w n : ℕ) → length (digits w n) ≤ w
digits_high w n = omega (arith, digits-length w n)

pub decimal_high : (n : ℕ) → length (decimal n) ≤ 20
unfolding decimal
decimal_high n = omega (arith, digits_high (width_in 19 n) n, width_high 19 n)

-- ---- a text over the start of a buffer that has the room for it
pub first-none : (room : ℕ) (t o : List ℕ) → length o < room → (0, o) ≡ written_first room t o
unfolding written_first
first-none room t o h = simp (lt-leb _ _ h)

pub first-laid : (room n : ℕ) (t o o₁ : List ℕ) → room ≤ length o → Laid 0 t o n o₁ → (n, o₁) ≡ written_first room t o
unfolding written_first
first-laid room n t o o₁ h a =
    let l : n ≡ length t = omega (arith, a.0) in
    let g : o₁ ≡ over t o = a.1 ∙ over_at_start t o in
    simp (le-leb _ _ h, l, g)

-- what is written lies within the buffer
over-within : (n : ℕ) (t o o₁ : List ℕ) → ◌≡◌ {A = ℕ × List ℕ} (n, o₁) (length t, over t o) → n ≤ length o₁
unfolding over
over-within n t o o₁ e = omega (arith, ap (λ (p : ℕ × List ℕ). p.0) e, ap (λ (p : ℕ × List ℕ). length p.1) e, length-append t (drop (length t) o))

pub first-within : (room n : ℕ) (t o o₁ : List ℕ) → (n, o₁) ≡ written_first room t o → n ≤ length o₁
unfolding written_first
first-within room n t o o₁ e =
    ⊎_elim
    (λ (h : length o < room). omega (arith, ap (λ (p : ℕ × List ℕ). p.0) (e ∙ sym (first-none room t o h))))
    (λ (h : room ≤ length o). over-within n t o o₁ (simp (le-leb _ _ h) at e))
    (below_or_not (length o) room)

pub first_count : (room n : ℕ) (t o o₁ : List ℕ) → (n, o₁) ≡ written_first room t o → n ≡ length (take n o₁)
first_count room n t o o₁ e = sym (length-take-le n o₁ (first-within room n t o o₁ e))
