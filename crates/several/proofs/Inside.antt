-- After a whole frame whose PAD is right, so with S5, S7, S8 or an answer, nothing inside it can start another: going on at p+1 and
-- going on after it are the same, of any call. Assumes nothing.
use Prim.Native.Nat.{ℕ, zero, suc, ◌+◌, ◌-◌, ◌≤◌, ◌<◌}
use mathlib.Core.Bool.{Bool, true, false}
use mathlib.Core.Path.{◌≡◌, refl, sym, ap, ◌∙◌}
use mathlib.Core.List.{List, [], ◌∷◌}
use mathlib.Core.Logic.{⊎_elim}
use native.Mathlib.Nat.{le_of_suc-le-suc, not-suc-le-zero}
use native.Mathlib.Omega.{arith}
use lib.Dec.{eqb}
use lib.ListN.{length, take, drop, get_or, length-take}
use lib.Seq.{get_or-take}
use borrow.Author.Tests.{ne_eqb}
use Rattle.base.specs.Test.{unless}
use Rattle.base.proofs.Lists.{next}
use Rattle.base.proofs.Tests.{below_or_not}
use Rattle.frame.specs.declared.Kind.TheVariants.{Minicomputer}
use Rattle.frame.specs.Frame.{stx, pad, marks_right}
use Rattle.frame.proofs.Laws.{marks_told}
use Rattle.controller.specs.Call.{OutcomeOf}
use Rattle.several.specs.Several.{Place, passed, whole, through, searched, place_of, step_of, Heard, taking, ◌then◌, follow, heard_from}
use Rattle.several.proofs.Joined.{onward}
use Rattle.several.proofs.Places.{Whole, whole-told, whole_clear}
use Rattle.several.proofs.Serving.{Serving, silence_exactly}

not-started : (x : ℕ) (xs : List ℕ) → (x ≡ stx → ⊥) → place_of x xs ≡ passed
not-started x xs e = simp (ne_eqb x stx e)

-- "a check of 02 is followed by PAD"
before_pad : (x y : ℕ) (ys : List ℕ) → y ≡ pad → place_of x (y ∷ ys) ≡ passed
unfolding searched through
before_pad x y ys e = go (eqb x stx)
  where
    go : (b : Bool) → unless b passed (searched (y ∷ ys)) ≡ passed
    go true = ap (λ (z : ℕ). searched (z ∷ ys)) e
    go false = refl

module _ {S : Type 0} (called : S → List ℕ → OutcomeOf S) where
  -- bytes at each of which the walk goes on are passed
  all_passed : (k : ℕ) (xs : List ℕ) (room : ℕ) (r : S) → k ≤ length xs → ((i : ℕ) → i < k → place_of (get_or xs i 0) (drop (suc i) xs) ≡ passed) → heard_from called 0 room r xs ≡ heard_from called k room r xs
  unfolding heard_from
  all_passed zero xs room r h f = refl
  all_passed (suc k) [] room r h f = absurd (not-suc-le-zero h)
  all_passed (suc k) (x ∷ xs) room r h f =
      ap (λ (y : Place). follow (step_of called y (x ∷ xs) room r) room r (onward called xs)) (f 0 (omega arith))
      ∙ ap (λ (g : Heard S). taking 1 r then g) (all_passed k xs room r (le_of_suc-le-suc h) (λ i l. f (suc i) (omega arith)))

  module _ (x : ℕ) (xs : List ℕ) (n : ℕ) (stands : place_of x xs ≡ whole n) (marks : marks_right Minicomputer (take n (x ∷ xs)) ≡ true) where
    w : Whole xs n
    w = whole-told x xs n stands

    t : ℕ
    t = through 60 xs

    pad_there : get_or xs (t + 2) 0 ≡ pad
    unfolding t
    pad_there =
        let l : length (take n (x ∷ xs)) - 1 ≡ suc (t + 2) = simp length-take (omega (arith, w.size, w.fits)) in
        sym (get_or-take n (x ∷ xs) (suc (t + 2)) 0 (omega (arith, w.size)))
        ∙ (ap (λ (i : ℕ). get_or (take n (x ∷ xs)) i 0) (sym l) ∙ (marks_told Minicomputer (take n (x ∷ xs)) marks).2)

    each : (i : ℕ) → i < n - 1 → place_of (get_or xs i 0) (drop (suc i) xs) ≡ passed
    unfolding t
    each i h =
        ⊎_elim (λ (l : i < suc t). not-started _ _ (whole_clear xs n w i l))
        (λ (l : suc t ≤ i). ⊎_elim
        (λ (m : i < t + 2).
        let e : i + 1 ≡ t + 2 = omega arith in
        let k : suc i < length xs = omega (arith, w.size, w.fits) in
        ap (place_of (get_or xs i 0)) (next xs (suc i) k) ∙ before_pad (get_or xs i 0) (get_or xs (suc i) 0) (drop (suc i + 1) xs) (ap (λ (j : ℕ). get_or xs j 0) (omega (arith, e)) ∙ pad_there))
        (λ (m : t + 2 ≤ i).
        let e : i ≡ t + 2 = omega (arith, w.size) in
        not-started _ _ (λ z. let p : stx ≡ pad = sym z ∙ (ap (λ (j : ℕ). get_or xs j 0) e ∙ pad_there) in omega arith))
        (below_or_not i (t + 2)))
        (below_or_not i (suc t))

    pub inside_passed : (room : ℕ) (r : S) → heard_from called 0 room r xs ≡ heard_from called (n - 1) room r xs
    inside_passed room r = all_passed (n - 1) xs room r (omega (arith, w.fits)) each

module _ {S : Type 0} {called : S → List ℕ → OutcomeOf S} {good : S → Bool} {address : S → ℕ} (laws : Serving called good address) where
  -- S5 and later come after the marks are tested
  marks_by_silence : (r : S) (q : List ℕ) → 5 ≤ (called r q).silence → marks_right Minicomputer q ≡ true
  marks_by_silence r q h = ((silence_exactly laws r q ((called r q).silence - 1)).0 (omega arith)).before 3 (omega arith)

  -- with S5, S7 or S8
  pub either_way : (x : ℕ) (xs : List ℕ) (n : ℕ) (r : S) → place_of x xs ≡ whole n → 5 ≤ (called r (take n (x ∷ xs))).silence
      → (room : ℕ) (t : S) → heard_from called 0 room t xs ≡ heard_from called (n - 1) room t xs
  either_way x xs n r e h room t = inside_passed called x xs n e (marks_by_silence r (take n (x ∷ xs)) h) room t
