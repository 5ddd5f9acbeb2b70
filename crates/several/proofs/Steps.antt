-- What each step of the walk tells of the bytes, the call and the room, of any call. Assumes nothing.
use Prim.Native.Nat.{ℕ, ◌-◌, ◌≤◌, ◌<◌}
use mathlib.Core.Bool.{Bool, true, false}
use mathlib.Core.Path.{◌≡◌, refl, sym, subst}
use mathlib.Core.List.{List, [], ◌∷◌}
use mathlib.Core.Logic.{◌⊎◌, inl, inr, ⊎_elim}
use native.Mathlib.Omega.{arith}
use lib.Dec.{eqb, leb}
use lib.ListN.{length, take}
use borrow.Author.Tests.{leb-true, leb-false, eqb-true, eqb-false}
use Rattle.base.specs.Test.{pick, unless}
use Rattle.controller.specs.Call.{OutcomeOf, reply_in}
use Rattle.several.specs.Several.{Place, passed, undecided, whole, place_of, Step, stop, skip, full, silent, answer, step_of}
use Rattle.several.proofs.Places.{whole-told}
use Rattle.several.proofs.Serving.{Serving}

module _ {S : Type 0} (called : S → List ℕ → OutcomeOf S) where
  -- ---- a frame that gets no answer changes nothing
  pub record Quiet (r : S) (q : List ℕ) : Type 0 where
    pub low : 1 ≤ (called r q).silence
    pub reply : reply_in (called r q) ≡ []
    pub same : (called r q).after ≡ r

  -- ---- a frame of n bytes from the byte x on
  module _ (x : ℕ) (xs : List ℕ) (room : ℕ) (r : S) where
    abbrev frame : ℕ → List ℕ
    frame n = take n (x ∷ xs)

    -- it gets no answer: the walk goes on at p+1, or after it
    pub record Unanswered (n k : ℕ) : Type 0 where
      pub stands : place_of x xs ≡ whole n
      pub quiet : Quiet r (frame n)
      pub where_on : (k ≡ 0) ⊎ (k ≡ n - 1)

    -- it is answered, and there was room
    pub record Replied (n : ℕ) (c : OutcomeOf S) : Type 0 where
      pub stands : place_of x xs ≡ whole n
      pub call : c ≡ called r (frame n)
      pub heard : c.silence ≡ 0
      pub room_there : 64 ≤ room

    -- what a step tells
    abbrev pub Tells : Step S → Type 0
    Tells stop = place_of x xs ≡ undecided
    Tells skip = place_of x xs ≡ passed
    Tells (full n) = (place_of x xs ≡ whole n) × (room < 64)
    Tells (silent n k) = Unanswered n k
    Tells (answer n c) = Replied n c

    -- so many bytes are there
    pub silent-fits : (n k : ℕ) → Unanswered n k → k ≤ length xs
    silent-fits n k u =
        let w = whole-told x xs n u.stands in
        ⊎_elim (λ (e : k ≡ 0). omega arith) (λ (e : k ≡ n - 1). omega (arith, w.fits)) u.where_on

    pub answer-fits : (n : ℕ) (c : OutcomeOf S) → Replied n c → n - 1 ≤ length xs
    answer-fits n c u = let w = whole-told x xs n u.stands in omega (arith, w.fits)

module _ {S : Type 0} {called : S → List ℕ → OutcomeOf S} {good : S → Bool} {address : S → ℕ} (laws : Serving called good address) where
  quiet : (r : S) (q : List ℕ) → ((called r q).silence ≡ 0 → ⊥) → Quiet called r q
  quiet r q e =
      record { low = omega (arith, e); reply = (laws.quiet r q e).0; same = (laws.quiet r q e).1 }

  module _ (x : ℕ) (xs : List ℕ) (room : ℕ) (r : S) where
    by_fate : (n : ℕ) → place_of x xs ≡ whole n → (b d e : Bool) → eqb (called r (take n (x ∷ xs))).silence 0 ≡ b → leb 64 room ≡ d
        → Tells called x xs room r (pick b (unless d (full n) (answer n (called r (take n (x ∷ xs))))) (pick e (silent n (n - 1)) (silent n 0)))
    by_fate n h true true e p q = record { stands = h; call = refl; heard = eqb-true _ _ p; room_there = leb-true 64 room q }
    by_fate n h true false e p q = (h, leb-false 64 room q)
    by_fate n h false d true p q = record { stands = h; quiet = quiet r (take n (x ∷ xs)) (eqb-false _ _ p); where_on = inr refl }
    by_fate n h false d false p q = record { stands = h; quiet = quiet r (take n (x ∷ xs)) (eqb-false _ _ p); where_on = inl refl }

    by_place : (y : Place) → place_of x xs ≡ y → Tells called x xs room r (step_of called y (x ∷ xs) room r)
    by_place passed h = h
    by_place undecided h = h
    by_place (whole n) h = by_fate n h (eqb (called r (take n (x ∷ xs))).silence 0) (leb 64 room) (eqb (called r (take n (x ∷ xs))).silence 8) refl refl

    pub step_tells : Tells called x xs room r (step_of called (place_of x xs) (x ∷ xs) room r)
    step_tells = by_place (place_of x xs) refl

    -- a reply is as long as is reported, and at most 64 bytes
    pub reply-length : (n : ℕ) (c : OutcomeOf S) → Replied called x xs room r n c → (length (reply_in c) ≡ c.reported) × (c.reported ≤ 64)
    reply-length n c t = subst (λ (d : OutcomeOf S). (length (reply_in d) ≡ d.reported) × (d.reported ≤ 64)) (sym t.call) (laws.shown r (take n (x ∷ xs)))
