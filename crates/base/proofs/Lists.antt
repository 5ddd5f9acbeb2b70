-- Laws of lists: the rest from a place on, and a list laid over another. Assumes nothing.
use Prim.Native.Nat.{ℕ, suc, ◌+◌, ◌-◌, ◌≤◌, ◌<◌}
use mathlib.Core.Path.{◌≡◌, refl, sym, ap, ◌∙◌}
use mathlib.Core.List.{List, [], ◌∷◌, ◌++◌, append_assoc, append-nil}
use mathlib.Core.Logic.{⊎_elim}
use native.Mathlib.Numerals.{add-one}
use native.Mathlib.Omega.{arith}
use lib.ListN.{length, take, drop, get_or, set, length-append, length-drop, length-take, drop_of_length-le, take-append-drop}
use lib.Seq.{drop-cons, drop_at, drop-drop, length-take-le, paste-zero, set-append_seam, set_split, take_all, take_at}
use borrow.Rule.Slice.PartMut.{put_mid}
use Rattle.base.specs.Lists.{over, over_at}
use Rattle.base.proofs.Tests.{below_or_not}

-- the bytes from i on: one, and those after it
pub next : (s : List ℕ) (i : ℕ) → i < length s → drop i s ≡ get_or s i 0 ∷ drop (i + 1) s
next s i h = rw (add-one, drop-cons s i 0)

-- ---- laid over the start

-- its length stays
pub over-length : (f o : List ℕ) → length f ≤ length o → length (over f o) ≡ length o
unfolding over
over-length f o h = simp (length-append, length-drop) (omega arith)

-- what was laid stands at the start
pub over-take : (f o : List ℕ) (n : ℕ) → length f ≡ n → take n (over f o) ≡ f
unfolding over
over-take f o n e = take_at f _ n e

-- behind it all is as it was
pub over-rest : (f o : List ℕ) (n : ℕ) → length f ≡ n → drop n (over f o) ≡ drop n o
unfolding over
over-rest f o n e = drop_at f (drop (length f) o) n e ∙ ap (λ (i : ℕ). drop i o) e

-- two behind one another: the first, and the second over the rest
pub over-append : (f g o : List ℕ) → over (f ++ g) o ≡ f ++ over g (drop (length f) o)
unfolding over
over-append f g o =
    append_assoc f g (drop (length (f ++ g)) o)
    ∙ ap (λ (s : List ℕ). f ++ (g ++ s)) (ap (λ (n : ℕ). drop n o) (length-append f g) ∙ sym (drop-drop (length g) (length f) o))

-- one more byte
pub over-put : (f o : List ℕ) (i b : ℕ) → i ≡ length f → i < length o → set (over f o) i b ≡ over (f ++ (b ∷ [])) o
unfolding over
over-put f o i b e h =
    let l : length f < length o = omega (arith, e) in
    rw (e, drop-cons o (length f) 0 l, set-append_seam, length-append, append_assoc, add-one)

-- a longer list hides a shorter one
pub over-over : (f p o : List ℕ) → length p ≤ length f → over f (over p o) ≡ over f o
unfolding over
over-over f p o h =
    let e : length p + (length f - length p) ≡ length f = omega arith in
    ap (λ (l : List ℕ). f ++ l)
    (ap (λ (n : ℕ). drop n (p ++ drop (length p) o)) (sym e) ∙ sym (drop-drop (length f - length p) (length p) (p ++ drop (length p) o))
    ∙ ap (drop (length f - length p)) (drop_at p (drop (length p) o) (length p) refl) ∙ drop-drop (length f - length p) (length p) o
    ∙ ap (λ (n : ℕ). drop n o) e)

-- what stands at the start, laid over it again
pub over_self : (n : ℕ) (o : List ℕ) → n ≤ length o → over (take n o) o ≡ o
unfolding over
over_self n o h = ap (λ (k : ℕ). take n o ++ drop k o) (length-take-le n o h) ∙ take-append-drop n o

-- one that is as long hides all of it
pub over_all : (f o : List ℕ) → length o ≤ length f → over f o ≡ f
unfolding over
over_all f o h = ap (λ (t : List ℕ). f ++ t) (drop_of_length-le o h) ∙ append-nil f

-- ---- laid over a list from a place on
pub over_at-none : (at : ℕ) (s : List ℕ) → over_at at [] s ≡ s
unfolding over_at
over_at-none at s = sym (paste-zero s at [] ∙ append_assoc (take at s) [] (drop (at + 0) s))

pub over_at_start : (xs s : List ℕ) → over_at 0 xs s ≡ over xs s
unfolding over_at over
over_at_start xs s = let e : 0 + length xs ≡ length xs = omega arith in ap (λ (n : ℕ). xs ++ drop n s) e

pub over_at-length : (at : ℕ) (xs s : List ℕ) → at + length xs ≤ length s → length (over_at at xs s) ≡ length s
unfolding over_at
over_at-length at xs s h = simp (length-append, length-take, length-drop) (omega arith)

-- what stands up to the end of what was laid, and behind it
over_at_split : (at : ℕ) (xs s : List ℕ)
    → (take (at + length xs) (over_at at xs s) ≡ take at s ++ xs) × (drop (at + length xs) (over_at at xs s) ≡ drop (at + length xs) s)
unfolding over_at
over_at_split at xs s =
    let n : ℕ = at + length xs in
    let p : List ℕ = take at s ++ xs in
    let g : take at s ++ (xs ++ drop n s) ≡ p ++ drop n s = sym (append_assoc (take at s) xs (drop n s)) in
    ⊎_elim
    (λ (h : at < length s).
    let l : length p ≡ n = simp (length-append, length-take) (omega arith) in
    (ap (take n) g ∙ take_at p (drop n s) n l, ap (drop n) g ∙ drop_at p (drop n s) n l))
    (λ (h : length s ≤ at).
    let l : length p ≤ n = simp (length-append, length-take) (omega arith) in
    let k : length s ≤ n = omega arith in
    let e : drop n s ≡ [] = drop_of_length-le s k in
    let w : take at s ++ (xs ++ drop n s) ≡ p = g ∙ ap (λ (y : List ℕ). p ++ y) e ∙ append-nil p in
    (ap (take n) w ∙ take_all n p l, ap (drop n) w ∙ drop_of_length-le p l ∙ sym e))
    (below_or_not at (length s))

over_at_behind : (at : ℕ) (xs ys s w : List ℕ) → take (at + length xs) w ≡ take at s ++ xs → drop (at + length xs) w ≡ drop (at + length xs) s
    → over_at at (xs ++ ys) s ≡ over_at (at + length xs) ys w
unfolding over_at
over_at_behind at xs ys s w t d =
    let n : ℕ = at + length xs in
    let m : ℕ = length ys in
    let e : at + length (xs ++ ys) ≡ n + m = simp length-append (omega arith) in
    let a : take at s ++ ((xs ++ ys) ++ drop (n + m) s) ≡ (take at s ++ xs) ++ (ys ++ drop (n + m) s) = simp append_assoc in
    let b : drop (n + m) s ≡ drop (n + m) w = sym (drop-drop m n s) ∙ ap (drop m) (sym d) ∙ drop-drop m n w in
    ap (λ (k : ℕ). take at s ++ ((xs ++ ys) ++ drop k s)) e ∙ a ∙ ap (λ (y : List ℕ). (take at s ++ xs) ++ (ys ++ y)) b
    ∙ ap (λ (y : List ℕ). y ++ (ys ++ drop (n + m) w)) (sym t)

pub over_at-append : (at : ℕ) (xs ys s : List ℕ) → over_at at (xs ++ ys) s ≡ over_at (at + length xs) ys (over_at at xs s)
over_at-append at xs ys s = let f = over_at_split at xs s in over_at_behind at xs ys s (over_at at xs s) f.0 f.1

-- what was written into the lent part from a place on
pub over_at_part : (at k : ℕ) (ys o : List ℕ) → length ys ≡ k → put_mid at k o ys ≡ over_at at ys o
unfolding over_at
over_at_part at k ys o e = ap (λ (y : List ℕ). take at o ++ (ys ++ y)) (drop-drop k at o ∙ ap (λ (i : ℕ). drop (at + i) o) (sym e))

-- a list filled from its end: one more element before what is filled
pub fill_before : (xs : List ℕ) (d l : ℕ) (o whole : List ℕ) → l < length o → (xs ++ (d ∷ [])) ++ drop (suc l) o ≡ whole
    → xs ++ drop l (set o l d) ≡ whole
fill_before xs d l o whole h e =
    let f : drop l (set o l d) ≡ d ∷ drop (suc l) o =
    ap (drop l) (set_split o l d h) ∙ drop_at (take l o) (d ∷ drop (suc l) o) l (length-take-le l o (omega arith)) in
    ap (λ (y : List ℕ). xs ++ y) f ∙ sym (append_assoc xs (d ∷ []) (drop (suc l) o)) ∙ e
