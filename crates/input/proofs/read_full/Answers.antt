-- The part that was read into follows the front, so the front grows by what the reader gave up.
use Rattle.std.proofs.Common.{◌≡◌, ℕ, ◌+◌, ◌-◌, ◌≤◌, List, ◌++◌, rules, length, take, drop, ap, sym, subst, ◌∙◌, drop_at, length-take-le, le_refl}
use Rattle.std.proofs.lemmas.Slice.{take-put_mid_below}
use Rattle.std.specs.Io.KnownBytes.{Consumes}
use Rattle.std.proofs.KnownBytes.{Consumes-trans}
use borrow.Rule.Slice.PartMut.{put_mid, post_of}
use lib.Seq.{take-add, take-append-le}
use Rattle.input.proofs.read_full.Goals as goal

grown : (at room n : ℕ) (xs ys : List ℕ) → at ≤ length xs → n ≤ length ys → take at xs ++ take n ys ≡ take (at + n) (put_mid at room xs ys)
grown at room n xs ys within fits =
    let front : take at (put_mid at room xs ys) ≡ take at xs = take-put_mid_below at room xs ys at (le_refl at) within in
    let part : take n (drop at (put_mid at room xs ys)) ≡ take n ys =
    ap (take n) (drop_at (take at xs) (ys ++ post_of at room xs) at (length-take-le at xs within)) ∙ take-append-le n ys (post_of at room xs) fits in
    ap (λ (l : List ℕ). l ++ take n ys) (sym front)
    ∙ ap (λ (l : List ℕ). take at (put_mid at room xs ys) ++ l) (sym part)
    ∙ sym (take-add at n (put_mid at room xs ys))

pub loop-filled-preserved : goal.loop-filled-preserved
loop-filled-preserved g c =
    let read = c.in_ok-count.ensures in
    let joined = grown c.loop-filled.filled (length c.loop-filled.buffer - c.loop-filled.filled) c.in_ok-count.count c.loop-filled.buffer c.read.new.buf c.loop-filled.invariant.0 read.bound.0 in
    (search rules, subst (Consumes _ _) joined (Consumes-trans _ _ _ _ _ c.loop-filled.invariant.1 read.bytes.0))
