-- What `keep` answers: with no room left, the rest of the batches one place nearer to the front. Assumes nothing.
use Prim.Native.Nat.{ℕ, suc, ◌-◌, ◌≤◌}
use mathlib.Core.Path.{◌≡◌, ap, ◌∙◌}
use mathlib.Core.List.{List, [], ◌∷◌, ◌++◌}
use native.Mathlib.Omega.{arith}
use lib.ListN.{length, get_or, set, drop, length-drop, drop_of_length-le}
use lib.Seq.{paste, take_all, drop-cons, set_at}
use borrow.Author.Tests.{le-ltb}
use Rattle.std.specs.List.{copy_within}
use Rattle.bank.specs.declared.Batch.{Batch}
use Rattle.bank.specs.declared.Bank.{Bank}
use Rattle.bank.specs.Bank.{most, no_batch, bank_of, keep_of}

-- the last place takes the new one
shifted : (l : List Batch) (b : Batch) → length l ≡ most → set (copy_within l 1 (length l) 0) (most - 1) b ≡ drop 1 l ++ (b ∷ [])
shifted l b h =
    let n : length l - 1 ≡ most - 1 = omega arith in
    let few : length (drop 1 l) ≡ most - 1 = simp length-drop (omega arith) in
    let last : drop (most - 1) l ≡ get_or l (most - 1) no_batch ∷ [] =
    drop-cons l (most - 1) no_batch (omega arith) ∙ ap (λ (r : List Batch). get_or l (most - 1) no_batch ∷ r) (drop_of_length-le l {i = suc (most - 1)} (omega arith)) in
    ap (λ (i : ℕ). set (paste l 0 (drop 1 l) i) (most - 1) b) n
    ∙ (ap (λ (f : List Batch). set (f ++ drop (most - 1) l) (most - 1) b) (take_all (most - 1) (drop 1 l) (omega arith))
    ∙ (ap (λ (r : List Batch). set (drop 1 l ++ r) (most - 1) b) last ∙ set_at (drop 1 l) (get_or l (most - 1) no_batch) [] b (most - 1) few))

pub keep_full : (b : Batch) (k : Bank) (bs : List Batch) → most ≤ k.count → length k.batches ≡ most → bs ≡ copy_within k.batches 1 (length k.batches) 0
    → bank_of k.count (set bs (most - 1) b) ≡ keep_of b k
unfolding keep_of
keep_full b k bs h l e =
    simp (le-ltb _ _ h) (ap (bank_of k.count) (ap (λ (x : List Batch). set x (most - 1) b) e ∙ shifted k.batches b l))
