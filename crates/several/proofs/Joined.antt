-- What is heard one after the other, and how the walk takes bytes. Assumes nothing.
use Prim.Native.Nat.{ℕ, zero, suc, ◌+◌, ◌-◌, ◌≤◌}
use mathlib.Core.Path.{◌≡◌, refl, sym, ap, ◌∙◌}
use mathlib.Core.List.{List, [], ◌∷◌, append_assoc}
use native.Mathlib.Nat.{le_of_suc-le-suc, not-suc-le-zero}
use native.Mathlib.Omega.{arith}
use lib.ListN.{length, drop, length-drop}
use lib.Seq.{drop-drop}
use Rattle.controller.specs.Call.{OutcomeOf}
use Rattle.several.specs.Several.{Heard, nothing, taking, ◌then◌, heard_from}

module _ {S : Type 0} where
  abbrev pub made : ℕ → ℕ → List ℕ → S → Heard S
  made p a d r = record { taken = p; answered = a; replies = d; after = r }

  pub made_same : (p p' a a' : ℕ) (d d' : List ℕ) (r : S) → p ≡ p' → a ≡ a' → d ≡ d' → made p a d r ≡ made p' a' d' r
  made_same p p' a a' d d' r e f g = ap (λ (x : ℕ). made x a d r) e ∙ (ap (λ (x : ℕ). made p' x d r) f ∙ ap (λ (x : List ℕ). made p' a' x r) g)

  pub then_assoc : (f g h : Heard S) → (f then g) then h ≡ f then (g then h)
  then_assoc f g h = made_same _ _ _ _ _ _ h.after (omega arith) (omega arith) (append_assoc f.replies g.replies h.replies)

  pub nothing_then : (r : S) (h : Heard S) → nothing r then h ≡ h
  nothing_then r h = made_same _ _ _ _ _ _ h.after (omega arith) (omega arith) refl

  pub taking_more : (m n k : ℕ) (r r' : S) (h : Heard S) → k ≡ m + n → taking m r then (taking n r' then h) ≡ taking k r' then h
  taking_more m n k r r' h e = made_same _ _ _ _ _ _ h.after (omega arith) (omega arith) refl

module _ {S : Type 0} (called : S → List ℕ → OutcomeOf S) where
  -- ---- the bytes of a frame that is done are passed
  pub pass : (k room : ℕ) (r : S) (s : List ℕ) → k ≤ length s → heard_from called k room r s ≡ taking k r then heard_from called 0 room r (drop k s)
  unfolding heard_from
  pass zero room r s h = sym (nothing_then r (heard_from called 0 room r s))
  pass (suc k) room r [] h = absurd (not-suc-le-zero h)
  pass (suc k) room r (x ∷ xs) h =
      ap (λ (g : Heard S). taking 1 r then g) (pass k room r xs (le_of_suc-le-suc h)) ∙ taking_more 1 k (suc k) r r (heard_from called 0 room r (drop k xs)) (omega arith)

  -- a byte is taken, k bytes after it are passed, and the walk goes on
  abbrev pub onward : List ℕ → ℕ → ℕ → S → Heard S
  onward xs k room r = taking 1 r then heard_from called k room r xs

  pub onward_to : (s : List ℕ) (p n room : ℕ) (r : S) → 1 ≤ n → p + n ≤ length s → onward (drop (p + 1) s) (n - 1) room r ≡ taking n r then heard_from called 0 room r (drop (p + n) s)
  onward_to s p n room r h l =
      let e : p + 1 + (n - 1) ≡ p + n = omega arith in
      ap (λ (g : Heard S). taking 1 r then g) (pass (n - 1) room r (drop (p + 1) s) (simp length-drop (omega arith))
      ∙ ap (λ (t : List ℕ). taking (n - 1) r then heard_from called 0 room r t) (drop-drop (n - 1) (p + 1) s ∙ ap (λ (i : ℕ). drop i s) e))
      ∙ taking_more 1 (n - 1) n r r (heard_from called 0 room r (drop (p + n) s)) (omega arith)

-- the bytes behind one
pub behind : (s : List ℕ) (p x : ℕ) (xs : List ℕ) → drop p s ≡ x ∷ xs → drop (p + 1) s ≡ xs
behind s p x xs e = sym (drop-drop 1 p s) ∙ ap (drop 1) e
