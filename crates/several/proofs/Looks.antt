-- Each byte is looked at four times at most: once by the walk, once by a search, and in two frames that are handed over. Of any call. Assumes
-- nothing.
use Prim.Native.Nat.{ℕ, zero, suc, ◌+◌, ◌-◌, ◌≤◌, ◌<◌}
use mathlib.Core.Bool.{Bool, true, false, ◌&&◌}
use mathlib.Core.Path.{◌≡◌, refl, sym, ap, subst}
use mathlib.Core.List.{List, [], ◌∷◌}
use mathlib.Core.Logic.{⊎_elim}
use native.Mathlib.Omega.{arith}
use lib.Dec.{eqb, leb, ltb}
use borrow.Author.Tests.{lt-leb, le-ltb, ne_eqb}
use Rattle.base.specs.Test.{pick}
use Rattle.base.proofs.Tests.{below_or_not}
use Rattle.controller.specs.Call.{OutcomeOf}
use Rattle.frame.specs.Frame.{stx}
use Rattle.several.specs.Several.{through, place_of, Step, stop, skip, full, silent, answer, step_of}
use Rattle.several.specs.OneByOne.{sought, within, looks_here, looks_behind, looks_from}
use Rattle.several.proofs.Places.{Clear, Whole, whole-told, whole_clear, through_clear}
use Rattle.several.proofs.Steps.{Tells, step_tells}
use Rattle.several.proofs.Serving.{Serving}

-- ---- what one look adds
one_most : (b : Bool) → pick {A = ℕ} b 1 0 ≤ 1
one_most true = omega arith
one_most false = omega arith

sought_far : (x : ℕ) (xs : List ℕ) (i : ℕ) → through 60 xs < i → sought x xs i ≡ 0
sought_far x xs i h = simp (lt-leb i (through 60 xs) h) (go (eqb x stx))
  where
    go : (b : Bool) → pick {A = ℕ} (b && false) 1 0 ≡ 0
    go true = refl
    go false = refl

within_far : (n i : ℕ) → n ≤ i → within n i ≡ 0
within_far n i h = simp (le-ltb i n h)

module _ {S : Type 0} {called : S → List ℕ → OutcomeOf S} {good : S → Bool} {address : S → ℕ} (laws : Serving called good address) where
  -- ---- of the bytes s, by the place i: four at most; none in a frame that is done; and fewer near the walk, the more so with no STX before it
  record Few (s : List ℕ) : Type 0 where
    most : (k room : ℕ) (r : S) (i : ℕ) → looks_from called k room r s i ≤ 4
    done : (k room : ℕ) (r : S) (i : ℕ) → i < k → looks_from called k room r s i ≡ 0
    near : (k room : ℕ) (r : S) (i : ℕ) → looks_from called k room r s i ≤ 2 + i
    clear : (d room : ℕ) (r : S) (i : ℕ) → Clear d s → looks_from called 0 room r s i ≤ 1 + (i + 1 - d)

  module _ (x : ℕ) (xs : List ℕ) (f : Few xs) (room : ℕ) (r : S) (i : ℕ) where
    abbrev on : ℕ → ℕ → S → ℕ
    on k m t = looks_from called k m t xs i

    -- four at most, and fewer near the walk
    abbrev Bound : ℕ → Type 0
    Bound n = (n ≤ 4) × (n ≤ 3 + i)

    first : sought x xs i ≤ 1
    first = one_most (eqb x stx && leb i (through 60 xs))

    -- a frame that is passed as a whole
    passed-whole : (n m : ℕ) (t : S) → Whole xs n → Bound (sought x xs i + (within n (suc i) + on (n - 1) m t))
    passed-whole n m t w =
        ⊎_elim
        (λ (l : i < n - 1). let a = one_most (ltb (suc i) n) in let b = f.done (n - 1) m t i l in (omega (arith, first), omega (arith, first)))
        (λ (l : n - 1 ≤ i).
        let a = sought_far x xs i (omega (arith, w.size)) in
        let b = within_far n (suc i) (omega arith) in
        (omega (arith, f.most (n - 1) m t i), omega (arith, f.near (n - 1) m t i)))
        (below_or_not i (n - 1))

    -- a frame after which the walk goes on at p+1: no STX stands in its text, nor is its ETX one
    passed_one : (n : ℕ) → Whole xs n → Bound (sought x xs i + (within n (suc i) + on 0 room r))
    passed_one n w =
        let a = one_most (ltb (suc i) n) in
        let b = f.clear (suc (through 60 xs)) room r i (whole_clear xs n w) in
        ⊎_elim (λ (l : i < suc (through 60 xs)). (omega (arith, first), omega (arith, first)))
        (λ (l : suc (through 60 xs) ≤ i).
        let c = sought_far x xs i l in
        ⊎_elim (λ (m : i < through 60 xs + 3). (omega arith, omega arith))
        (λ (m : through 60 xs + 3 ≤ i).
        let e = within_far n (suc i) (omega (arith, w.size)) in
        (omega (arith, f.most 0 room r i), omega (arith, f.near 0 room r i)))
        (below_or_not i (through 60 xs + 3)))
        (below_or_not i (suc (through 60 xs)))

    behind : (y : Step S) → Tells called x xs room r y → Bound (sought x xs i + looks_behind y i room r on)
    behind stop t = (omega (arith, first), omega (arith, first))
    behind skip t =
        let a = f.clear (through 60 xs) room r i (through_clear 60 xs) in
        ⊎_elim (λ (l : i < suc (through 60 xs)). (omega (arith, first), omega (arith, first)))
        (λ (l : suc (through 60 xs) ≤ i).
        let b = sought_far x xs i l in
        (omega (arith, f.most 0 room r i), omega (arith, f.near 0 room r i)))
        (below_or_not i (suc (through 60 xs)))
    behind (full n) t = let a = one_most (ltb (suc i) n) in (omega (arith, first), omega (arith, first))
    behind (silent n k) t =
        let w = whole-told x xs n t.stands in
        ⊎_elim (λ (e : k ≡ 0). subst (λ (j : ℕ). Bound (sought x xs i + (within n (suc i) + on j room r))) (sym e) (passed_one n w))
        (λ (e : k ≡ n - 1). subst (λ (j : ℕ). Bound (sought x xs i + (within n (suc i) + on j room r))) (sym e) (passed-whole n room r w))
        t.where_on
    behind (answer n c) t = passed-whole n (room - c.reported) c.after (whole-told x xs n t.stands)

  here : (y : Step S) → looks_here y ≤ 2
  here stop = omega arith
  here skip = omega arith
  here (full n) = omega arith
  here (silent n k) = omega arith
  here (answer n c) = omega arith

  few_empty : Few []
  unfolding looks_from
  few_empty =
      record {
        most = λ k room r i. omega arith;
        done = λ k room r i l. refl;
        near = λ k room r i. omega arith;
        clear = λ d room r i c. omega arith;
      }

  few_more : (x : ℕ) (xs : List ℕ) → Few xs → Few (x ∷ xs)
  unfolding looks_from
  few_more x xs f = record { most = most; done = done; near = near; clear = clear }
    where
      most : (k room : ℕ) (r : S) (i : ℕ) → looks_from called k room r (x ∷ xs) i ≤ 4
      most (suc k) room r zero = omega arith
      most (suc k) room r (suc i) = f.most k room r i
      most zero room r zero = omega (arith, here (step_of called (place_of x xs) (x ∷ xs) room r))
      most zero room r (suc i) = (behind x xs f room r i (step_of called (place_of x xs) (x ∷ xs) room r) (step_tells laws x xs room r)).0

      done : (k room : ℕ) (r : S) (i : ℕ) → i < k → looks_from called k room r (x ∷ xs) i ≡ 0
      done (suc k) room r zero l = refl
      done (suc k) room r (suc i) l = f.done k room r i (omega arith)
      done zero room r i l = absurd (omega arith)

      near : (k room : ℕ) (r : S) (i : ℕ) → looks_from called k room r (x ∷ xs) i ≤ 2 + i
      near (suc k) room r zero = omega arith
      near (suc k) room r (suc i) = omega (arith, f.near k room r i)
      near zero room r zero = omega (arith, here (step_of called (place_of x xs) (x ∷ xs) room r))
      near zero room r (suc i) = omega (arith, (behind x xs f room r i (step_of called (place_of x xs) (x ∷ xs) room r) (step_tells laws x xs room r)).1)

      -- no STX: the byte is skipped
      skipped : (x ≡ stx → ⊥) → (room : ℕ) (r : S) → step_of called (place_of x xs) (x ∷ xs) room r ≡ skip
      skipped e room r = simp (ne_eqb x stx e)

      clear : (d room : ℕ) (r : S) (i : ℕ) → Clear d (x ∷ xs) → looks_from called 0 room r (x ∷ xs) i ≤ 1 + (i + 1 - d)
      clear zero room r i c = omega (arith, near 0 room r i)
      clear (suc d) room r zero c = omega (arith, ap looks_here (skipped (c 0 (omega arith)) room r))
      clear (suc d) room r (suc i) c =
          let none : sought x xs i ≡ 0 = simp (ne_eqb x stx (c 0 (omega arith))) in
          let on : looks_behind (step_of called (place_of x xs) (x ∷ xs) room r) i room r (λ k m t. looks_from called k m t xs i) ≡ looks_from called 0 room r xs i =
          ap (λ (y : Step S). looks_behind y i room r (λ k m t. looks_from called k m t xs i)) (skipped (c 0 (omega arith)) room r) in
          omega (arith, f.clear d room r i (λ j l. c (suc j) (omega arith)))

  few : (s : List ℕ) → Few s
  few [] = few_empty
  few (x ∷ xs) = few_more x xs (few xs)

  pub each_byte : (s : List ℕ) (room : ℕ) (r : S) (i : ℕ) → looks_from called 0 room r s i ≤ 4
  each_byte s room r i = (few s).most 0 room r i
