-- One law for each return of the code. Assumes nothing.
use Prim.Native.Nat.{ℕ, ◌+◌, ◌*◌, ◌/◌, ◌<◌}
use mathlib.Core.Path.{◌≡◌, refl, sym, ap, ◌∙◌}
use mathlib.Core.Bool.{Bool, true, false}
use mathlib.Core.List.{List, [], ◌∷◌}
use native.Mathlib.Omega.{arith}
use lib.Dec.{eqb}
use lib.ListN.{length, take, drop, get_or}
use borrow.Author.Tests.{eq-eqb, ne_eqb, eqb-true}
use Rattle.base.specs.Test.{pick}
use Rattle.base.proofs.Tests.{never}
use Rattle.base.proofs.Lists.{next}
use Rattle.stored.specs.Form.{big_endian, number_from, number_of}
use Rattle.drum.specs.declared.Change.{Change}
use Rattle.drum.specs.declared.Answer.{Answer}
use Rattle.drum.specs.declared.Handled.{Handled}
use Rattle.std.specs.Int.{w32, from_be_bytes, to_be_bytes}
use Rattle.std.specs.Prelude.{Some, None, Result}
use Rattle.drum.specs.declared.Refusal.{Refusal}
use Rattle.drum.specs.Drum as drum
use Rattle.drum.specs.Drum.{checked, at_step, Told, Q, Outcome}
use Rattle.drum.proofs.Order.{checked_at}
use Rattle.drum.specs.Numbers.{checked_as, told_as, outcome_as}
use Rattle.drum.specs.Turns.{is_taken}
use Rattle.drumstate.specs.State.{state_of, change_in, leaves, saved_in, left_by, change_for, no_state, begin_of, take_of}

-- ---- `change_in`: two bytes and three as a number
module _ (b : List ℕ) (i : ℕ) where
  two : i + 1 < length b → number_of (take 2 (drop i b)) ≡ get_or b i 0 * 256 + get_or b (i + 1) 0
  unfolding number_from
  two h =
      ap (λ (x : List ℕ). number_of (take 2 x)) (next b i (omega arith))
      ∙ (ap (λ (x : List ℕ). number_of (get_or b i 0 ∷ take 1 x)) (next b (i + 1) h) ∙ omega arith)

  three : i + 1 + 1 < length b → number_of (take 3 (drop i b)) ≡ (get_or b i 0 * 256 + get_or b (i + 1) 0) * 256 + get_or b (i + 1 + 1) 0
  unfolding number_from
  three h =
      ap (λ (x : List ℕ). number_of (take 3 x)) (next b i (omega arith))
      ∙ (ap (λ (x : List ℕ). number_of (get_or b i 0 ∷ take 2 x)) (next b (i + 1) (omega arith))
      ∙ (ap (λ (x : List ℕ). number_of (get_or b i 0 ∷ get_or b (i + 1) 0 ∷ take 1 x)) (next b (i + 1 + 1) h) ∙ omega arith))

pub state_none : (b : List ℕ) → (length b ≡ 8 → ⊥) → None ≡ change_for b
unfolding change_for
state_none b n = simp (ne_eqb (length b) 8 n)

pub change_read : (b : List ℕ) (f p : ℕ) → length b ≡ 8 → f ≡ from_be_bytes w32 (0 ∷ 0 ∷ get_or b 2 0 ∷ get_or b 3 0 ∷ [])
    → p ≡ from_be_bytes w32 (0 ∷ get_or b 4 0 ∷ get_or b 5 0 ∷ get_or b 6 0 ∷ [])
    → Some (record { address = get_or b 0 0; recipe = get_or b 1 0; factor = f; preset = p; step = get_or b 7 0 }) ≡ change_for b
unfolding change_for change_in
change_read b f p l e d =
    let g : number_of (take 2 (drop 2 b)) ≡ f = two b 2 (omega arith) ∙ omega arith in
    let q : number_of (take 3 (drop 4 b)) ≡ p = three b 4 (omega arith) ∙ omega arith in
    simp (eq-eqb (length b) 8 l, g, q)

-- a state that is a change has eight bytes
pub record Known (b : List ℕ) (s : Change) : Type 0 where
  pub size : length b ≡ 8
  pub change : s ≡ change_in b

pub state_known : (b : List ℕ) (s : Change) → Some s ≡ change_for b → Known b s
unfolding change_for
state_known b s e = go (eqb (length b) 8) refl e
  where
    go : (t : Bool) → eqb (length b) 8 ≡ t → Some s ≡ pick t (Some (change_in b)) None → Known b s
    go true l h = record { size = eqb-true _ _ l; change = cc }
    go false l h = absurd (never (cc))

state_unknown : (b : List ℕ) → None ≡ change_for b → length b ≡ 8 → ⊥
unfolding change_for
state_unknown b e l = never (let h : None ≡ Some (change_in b) = e ∙ simp (eq-eqb (length b) 8 l) in cc)

-- ---- `put_change`
pub change_put : (s : Change) (xs ys o : List ℕ) → xs ≡ to_be_bytes w32 s.factor → ys ≡ to_be_bytes w32 s.preset
    → o ≡ s.address ∷ s.recipe ∷ get_or xs 2 0 ∷ get_or xs 3 0 ∷ get_or ys 1 0 ∷ get_or ys 2 0 ∷ get_or ys 3 0 ∷ s.step ∷ [] → o ≡ state_of s
unfolding state_of big_endian
change_put s xs ys o e d w = let h : s.preset / 65536 ≡ s.preset / 256 / 256 = omega arith in w ∙ simp (e, d, h)

-- ---- `save`
module _ (x : Answer) (s : Change) (b : List ℕ) (t : Bool) (e : t ≡ is_taken (told_as x)) where
  pub saved : (b₁ : List ℕ) → t ≡ true → b₁ ≡ state_of s → b₁ ≡ saved_in (told_as x) s b
  unfolding saved_in
  saved b₁ h w = w ∙ simp (sym e ∙ h)

  pub kept : t ≡ false → b ≡ saved_in (told_as x) s b
  unfolding saved_in
  kept h = simp (sym e ∙ h)

-- ---- `begin` and `take`
-- the answer and the state that `save` gives
abbrev Saved : Handled → Answer → List ℕ → List ℕ → Type 0
Saved h a b b₁ = (a ≡ h.answer) × (b₁ ≡ saved_in (told_as h.answer) h.after b)

left_so : (x : Outcome) (h : Handled) (a : Answer) (b b₁ o₁ : List ℕ) → outcome_as h o₁ ≡ x → Saved h a b b₁ → leaves (told_as a) b₁ o₁ ≡ left_by x b
left_so x h a b b₁ o₁ e w =
    ap (λ (z : Answer). leaves (told_as z) b₁ o₁) w.0 ∙ (ap (λ (z : List ℕ). leaves (told_as h.answer) z o₁) w.1 ∙ ap (λ (y : Outcome). left_by y b) e)

module _ (s : Change) (b o : List ℕ) where
  pub begin_no_state : (x : Result (Unit {0}) Refusal) (y : Answer) → (length b ≡ 8 → ⊥) → checked_as x ≡ checked s → told_as y ≡ no_state (checked_as x)
      → leaves (told_as y) b o ≡ begin_of s.address s.recipe s.factor s.preset b o
  unfolding begin_of
  begin_no_state x y n e w =
      let t : told_as y ≡ no_state (checked (at_step 0 s)) = w ∙ (ap no_state e ∙ ap no_state (sym (checked_at 0 s))) in
      simp (t, ne_eqb (length b) 8 n)

  pub begin_left : (h : Handled) (y : Answer) (b₁ o₁ : List ℕ) → length b ≡ 8 → outcome_as h o₁ ≡ drum.begin_of s.address s.recipe s.factor s.preset o
      → Saved h y b b₁ → leaves (told_as y) b₁ o₁ ≡ begin_of s.address s.recipe s.factor s.preset b o
  unfolding begin_of
  begin_left h y b₁ o₁ l e w = left_so (drum.begin_of s.address s.recipe s.factor s.preset o) h y b b₁ o₁ e w ∙ simp (eq-eqb (length b) 8 l)

module _ (b q o : List ℕ) where
  pub take_no_state : None ≡ change_for b → leaves (Q 4) b o ≡ take_of b q o
  unfolding take_of
  take_no_state e = simp (ne_eqb (length b) 8 (state_unknown b e))

  pub take_left : (s : Change) (h : Handled) (y : Answer) (b₁ o₁ : List ℕ) → Some s ≡ change_for b → outcome_as h o₁ ≡ drum.take_of s q o
      → Saved h y b b₁ → leaves (told_as y) b₁ o₁ ≡ take_of b q o
  unfolding take_of
  take_left s h y b₁ o₁ z e w =
      let k = state_known b s z in
      left_so (drum.take_of (change_in b) q o) h y b b₁ o₁ (e ∙ ap (λ (c : Change). drum.take_of c q o) k.change) w ∙ simp (eq-eqb (length b) 8 k.size)
