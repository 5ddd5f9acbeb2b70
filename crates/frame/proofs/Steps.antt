-- One law for each step of the code that needs one: a turn of a loop, an index, a run of stores, a return. Its premises have the
-- form that the code's facts have, so that `search` finds them. Assumes nothing.
use mathlib.Core.Path.{◌≡◌, refl, ap, sym, ◌∙◌}
use mathlib.Core.List.{List, [], ◌∷◌, ◌++◌, append_assoc}
use mathlib.Core.Bool.{true}
use Prim.Native.Nat.{ℕ, suc, ◌+◌, ◌-◌, ◌≤◌, ◌<◌}
use native.Mathlib.Nat.{le_of_suc-le-suc, not-suc-le-zero}
use native.Mathlib.Omega.{arith}
use lib.Bits.{bit_xor}
use lib.ListN.{length, take, drop, get_or, set, length-append}
use borrow.Rule.Slice.PartMut.{put_mid}
use borrow.Author.Tests.{le-leb}
use Rattle.std.proofs.Common.{fold}
use Rattle.frame.specs.declared.Kind.{Kind}
use Rattle.frame.specs.declared.Kind.TheVariants.{Minicomputer, Terminal}
use Rattle.frame.specs.Frame.{stx, etx, pad, star, cr, lf, all_text, xor_from, check_of, frame_of, tail_of, text_in}
use Rattle.frame.specs.Numbers.{accepted}
use Rattle.frame.specs.Answer.{build_of, locate_of, read_of}
use Rattle.base.specs.Test.{between}
use Rattle.base.specs.Lists.{over}
use Rattle.base.proofs.Lists.{over-put, over-over, over_self}
use Rattle.frame.proofs.Laws.{held-length, over-held, text_back, frame-length, limits_low, tail_low, text-length, Sizes, found, found_sizes, found_text, taken_read, named_addressed}

-- ---- the fold of `check`
pub folded : (a : ℕ) (s : List ℕ) → fold (λ a x. bit_xor a x) a s ≡ xor_from a s
unfolding xor_from
folded a [] = refl
folded a (x ∷ s) = folded (bit_xor a x) s

-- ---- the stores that close a frame

-- a mark before the text that is held
mark_before : (n m : ℕ) (o : List ℕ) → n < length o → set o 0 m ≡ over (m ∷ take n (drop 1 o)) o
unfolding over
mark_before n m [] h = absurd (not-suc-le-zero h)
mark_before n m (x ∷ o) h =
    ap (λ (l : List ℕ). m ∷ l) (sym (over_self n o (le_of_suc-le-suc h)))

-- a byte after the text and what follows it
byte_after : (m b i : ℕ) (t s o : List ℕ) → i ≡ length t + suc (length s) → i < length o
    → set (over (m ∷ (t ++ s)) o) i b ≡ over (m ∷ (t ++ (s ++ (b ∷ [])))) o
byte_after m b i t s o e h =
    over-put (m ∷ (t ++ s)) o i b (omega (arith, length-append t s)) h ∙ ap (λ (l : List ℕ). over (m ∷ l) o) (append_assoc t s (b ∷ []))

-- the marks at either end of the text that is held
marks_around : (n m e : ℕ) (o : List ℕ) → n + 2 ≤ length o → set (set o 0 m) (n + 1) e ≡ over (m ∷ (take n (drop 1 o) ++ (e ∷ []))) o
marks_around n m e o h =
    let l : length (take n (drop 1 o)) ≡ n = held-length n o (omega arith) in
    ap (λ (y : List ℕ). set y (n + 1) e) (mark_before n m o (omega arith))
    ∙ over-put (m ∷ take n (drop 1 o)) o (n + 1) e (omega arith) (omega arith)

pub closed_terminal : (n : ℕ) (o : List ℕ) → n + 3 ≤ length o
    → set (set (set o 0 star) (n + 1) cr) (n + 2) lf ≡ over (frame_of Terminal (take n (drop 1 o))) o
unfolding frame_of
closed_terminal n o h =
    let l : length (take n (drop 1 o)) ≡ n = held-length n o (omega arith) in
    ap (λ (y : List ℕ). set y (n + 2) lf) (marks_around n star cr o (omega arith))
    ∙ byte_after star lf (n + 2) (take n (drop 1 o)) (cr ∷ []) o (omega arith) (omega arith)

pub closed_minicomputer : (n x : ℕ) (o : List ℕ) → n + 4 ≤ length o
    → x ≡ xor_from 0 (take (n + 2 - 1) (drop 1 (set (set o 0 stx) (n + 1) etx)))
    → set (set (set (set o 0 stx) (n + 1) etx) (n + 2) x) (n + 3) pad ≡ over (frame_of Minicomputer (take n (drop 1 o))) o
unfolding frame_of
closed_minicomputer n x o h e =
    let t : List ℕ = take n (drop 1 o) in
    let l : length t ≡ n = held-length n o (omega arith) in
    let a : set (set o 0 stx) (n + 1) etx ≡ over (stx ∷ (t ++ (etx ∷ []))) o = marks_around n stx etx o (omega arith) in
    let q : x ≡ check_of t =
    e ∙ ap (λ (y : List ℕ). xor_from 0 (take (n + 2 - 1) (drop 1 y))) a
    ∙ ap (xor_from 0) (over-held (t ++ (etx ∷ [])) o (n + 2 - 1) stx (omega (arith, length-append t (etx ∷ [])))) in
    ap (λ (y : List ℕ). set (set y (n + 2) x) (n + 3) pad) a
    ∙ ap (λ (y : List ℕ). set y (n + 3) pad) (byte_after stx x (n + 2) t (etx ∷ []) o (omega arith) (omega arith))
    ∙ byte_after stx pad (n + 3) t (etx ∷ x ∷ []) o (omega arith) (omega arith)
    ∙ ap (λ (y : ℕ). over (stx ∷ (t ++ (etx ∷ y ∷ pad ∷ []))) o) q

-- ---- `close`, either kind
pub closed-length : (k k' : Kind) (n r : ℕ) (o : List ℕ) → k ≡ k' → n + 4 ≤ length o → r ≡ n + suc (tail_of k')
    → r ≡ length (frame_of k (take n (drop 1 o)))
closed-length k k' n r o z h e =
    e ∙ ap (λ (i : ℕ). i + suc (tail_of k')) (sym (held-length n o (omega arith))) ∙ sym (frame-length k' (take n (drop 1 o)))
    ∙ ap (λ (y : Kind). length (frame_of y (take n (drop 1 o)))) (sym z)

pub closed-over : (k k' : Kind) (n : ℕ) (o o' : List ℕ) → k ≡ k' → o' ≡ over (frame_of k' (take n (drop 1 o))) o
    → o' ≡ over (frame_of k (take n (drop 1 o))) o
closed-over k k' n o o' z e = rw z e

-- ---- `locate`: the limits allow the indices, and the part that is tested is the text
pub ruleset lengths = (limits_low, tail_low, text-length)

-- ---- `build`
-- the text was laid behind the first byte, and closed there
pub built_laid : (k : Kind) (t o d o' : List ℕ) (m : ℕ) → 64 ≤ length o → true ≡ between 4 60 (length t) → true ≡ all_text t → d ≡ t
    → (m ≡ length (frame_of k (take (length t) (drop 1 (put_mid 1 (length t + 1 - 1) o d)))))
    × (o' ≡ over (frame_of k (take (length t) (drop 1 (put_mid 1 (length t + 1 - 1) o d)))) (put_mid 1 (length t + 1 - 1) o d))
    → (accepted m, o') ≡ build_of k t o
unfolding build_of
built_laid k t o d o' m h a e z c =
    let i : ℕ = get_or o 0 0 in
    let p : put_mid 1 (length t + 1 - 1) o d ≡ over (i ∷ t) o = ap (put_mid 1 (length t + 1 - 1) o) z ∙ text_back t o (omega arith) in
    let w : take (length t) (drop 1 (put_mid 1 (length t + 1 - 1) o d)) ≡ t =
    ap (λ (y : List ℕ). take (length t) (drop 1 y)) p ∙ over-held t o (length t) i refl in
    let l : m ≡ length (frame_of k t) = c.0 ∙ ap (λ (y : List ℕ). length (frame_of k y)) w in
    let q : o' ≡ over (frame_of k t) o =
    c.1 ∙ ap (λ (y : List ℕ). over (frame_of k y) (put_mid 1 (length t + 1 - 1) o d)) w ∙ ap (over (frame_of k t)) p
    ∙ over-over (frame_of k t) (i ∷ t) o (omega (arith, frame-length k t)) in
    simp (le-leb _ _ h, sym a, sym e, l, q)

-- the part that ends at n + 1 has n bytes
part_text : (n : ℕ) (o : List ℕ) → take (n + 1 - 1) (drop 1 o) ≡ take n (drop 1 o)
part_text n o = let e : n + 1 - 1 ≡ n = omega arith in ap (λ (i : ℕ). take i (drop 1 o)) e

-- ---- `read` and `address`: the text that `locate` found lies within the frame
module _ (k : Kind) (f : List ℕ) (n : ℕ) (e₀ : accepted n ≡ locate_of k f) where
  pub located_sizes : Sizes f n
  located_sizes = found_sizes k f n (found k f n (sym e₀))

  pub located_text : take (n + 1 - 1) (drop 1 f) ≡ text_in k f
  located_text = part_text n f ∙ found_text k f n (found k f n (sym e₀))

  pub read_text : (o d : List ℕ) → 64 ≤ length o → d ≡ take (n + 1 - 1) (drop 1 f) → (accepted n, d ++ drop n o) ≡ read_of k f o
  unfolding over
  read_text o d h q =
      let e : d ≡ text_in k f = q ∙ located_text in
      let l : length (text_in k f) ≡ n = (found k f n (sym e₀)).size in
      sym (taken_read k f o (d ++ drop n o) n record { room = h; text = found k f n (sym e₀); left = simp (e, l) })
