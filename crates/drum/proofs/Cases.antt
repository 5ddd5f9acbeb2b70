-- The ways of beginning and of taking a reply, each once: every theorem about a drum change goes by these. Assumes nothing.
use Prim.Native.Nat.{ℕ, ◌+◌, ◌≤◌, ◌<◌}
use mathlib.Core.Bool.{Bool, true, false}
use mathlib.Core.Path.{◌≡◌, refl, sym, ap, ◌∙◌}
use mathlib.Core.List.{List, [], ◌∷◌}
use mathlib.Core.Logic.{◌↔◌, ⊎_elim}
use native.Mathlib.Omega.{arith}
use lib.Dec.{eqb, leb}
use lib.ListN.{length, get_or, get_or-eq_default}
use borrow.Author.Tests.{leb-true, leb-false, eqb-true, eqb-false}
use Rattle.base.specs.Test.{unless}
use Rattle.base.proofs.FirstFailing.{FirstFailing, failing, not_both, failing_exactly, none_exactly}
use Rattle.base.proofs.Tests.{by_test, never, below_or_not}
use Rattle.text.specs.Word.{equal}
use Rattle.text.proofs.Words.{equal_true, equal-same}
use Rattle.state.specs.declared.ParameterKind.TheVariants.{Factor}
use Rattle.state.specs.Parameter.{kind_range}
use Rattle.state.specs.Field.{address, recipe, field_range}
use Rattle.state.specs.Valid.{within}
use Rattle.drum.specs.declared.Change.{Change}
use Rattle.drum.specs.Drum.{reply_frame, presets, Checked, out, good, checked, last, ended, stopped, is_step, awaits, awaits_with, at_step, Q, short, stop, end, Outcome, tells, hands_out, picked, begin_with, begin_of, take_of}

-- ---- which pick is the first out of its range, if and only if

-- the tests of Q0 to Q3, in their order
abbrev pub tests : Change → List Bool
tests s =
    within (field_range address) s.address ∷ within (field_range recipe) s.recipe ∷ within (kind_range Factor) s.factor
    ∷ within presets s.preset ∷ []

-- 1 and more for one that is out, 0 for none
abbrev code_in : Checked → ℕ
code_in (out n) = n + 1
code_in good = 0

code_out : (x : Checked) (n : ℕ) → code_in x ≡ n + 1 ↔ x ≡ out n
code_out (out m) n = (λ e. let z : m ≡ n = omega arith in ap out z, ap code_in)
code_out good n = (λ e. absurd (omega arith), λ e. absurd (never (cc)))

code_failing : (s : Change) → code_in (checked s) ≡ failing 1 (tests s)
unfolding checked
code_failing s =
    go (within (field_range address) s.address) (within (field_range recipe) s.recipe) (within (kind_range Factor) s.factor) (within presets s.preset)
  where
    go : (a b c d : Bool) → code_in (unless a (out 0) (unless b (out 1) (unless c (out 2) (unless d (out 3) good)))) ≡ failing 1 (a ∷ b ∷ c ∷ d ∷ [])
    go false b c d = refl
    go true false c d = refl
    go true true false d = refl
    go true true true false = refl
    go true true true true = refl

pub out_exactly : (s : Change) (n : ℕ) → checked s ≡ out n ↔ FirstFailing (tests s) n
out_exactly s n =
    let f = failing_exactly (tests s) n in
    let c = code_out (checked s) n in
    (λ e. f.0 (sym (code_failing s) ∙ c.1 e), λ h. c.0 (code_failing s ∙ f.1 h))

pub out_low : (s : Change) (n : ℕ) → checked s ≡ out n → n < 4
out_low s n e =
    ⊎_elim (λ (l : n < 4). l) (λ (l : 4 ≤ n). not_both (get_or (tests s) n true) (get_or-eq_default (tests s) true l) ((out_exactly s n).0 e).fails)
    (below_or_not n 4)

-- picks that are good lie in their ranges
pub record InRange (s : Change) : Type 0 where
  pub address_in : within (field_range address) s.address ≡ true
  pub recipe_in : within (field_range recipe) s.recipe ≡ true
  pub factor_in : within (kind_range Factor) s.factor ≡ true
  pub preset_in : within presets s.preset ≡ true

pub good-tells : (s : Change) → checked s ≡ good → InRange s
good-tells s e =
    let h = (none_exactly (tests s)).0 (sym (code_failing s) ∙ ap code_in e) in
    record { address_in = h 0; recipe_in = h 1; factor_in = h 2; preset_in = h 3 }

-- ---- the three ways of beginning
module _ (a r f p : ℕ) (o : List ℕ) (P : Outcome → Type 0) where
  pub by_begin : ((n : ℕ) → checked (picked a r f p) ≡ out n → P (tells (Q n) (picked a r f p) o))
      → (checked (picked a r f p) ≡ good → length o < 64 → P (tells short (picked a r f p) o))
      → (checked (picked a r f p) ≡ good → 64 ≤ length o → P (hands_out 1 (picked a r f p) o)) → P (begin_of a r f p o)
  unfolding begin_of
  by_begin refused short-so begun = go (checked (picked a r f p)) refl
    where
      go : (x : Checked) → checked (picked a r f p) ≡ x → P (begin_with x (picked a r f p) o)
      go (out n) e = refused n e
      go good e = by_test (leb 64 (length o)) (λ l. simp l (begun e (leb-true _ _ l))) (λ l. simp l (short-so e (leb-false _ _ l)))

-- ---- the five ways of a reply
module _ (s : Change) (q o : List ℕ) (P : Outcome → Type 0) where
  pub by_take : (awaits s ≡ false → P (tells (Q 4) s o))
      → (awaits s ≡ true → length o < 64 → P (tells short s o))
      → (awaits s ≡ true → 64 ≤ length o → (q ≡ reply_frame s.step s → ⊥) → P (tells (stop s.step) (at_step (stopped s.step) s) o))
      → (awaits s ≡ true → 64 ≤ length o → q ≡ reply_frame s.step s → s.step ≡ last → P (tells end (at_step ended s) o))
      → (awaits s ≡ true → 64 ≤ length o → q ≡ reply_frame s.step s → (s.step ≡ last → ⊥) → P (hands_out (s.step + 1) s o)) → P (take_of s q o)
  unfolding take_of
  by_take refused short-so wrong Ended-so next =
      by_test (awaits s)
      (λ h. by_test (leb 64 (length o))
      (λ l. by_test (equal q (reply_frame s.step s))
      (λ e. by_test (eqb s.step last)
      (λ z. simp (h, l, e, z) (Ended-so h (leb-true _ _ l) (equal_true _ _ e) (eqb-true _ _ z)))
      (λ z. simp (h, l, e, z) (next h (leb-true _ _ l) (equal_true _ _ e) (eqb-false _ _ z))))
      (λ e. simp (h, l, e) (wrong h (leb-true _ _ l) (λ z. never (let w : true ≡ false = sym (ap (equal q) (sym z) ∙ equal-same q) ∙ e in cc)))))
      (λ l. simp (h, l) (short-so h (leb-false _ _ l))))
      (λ h. simp h (refused h))

-- ---- a state that awaits a reply stands at a step, with its picks in their ranges
pub awaits-good : (s : Change) → awaits s ≡ true → (checked s ≡ good) × (is_step s.step ≡ true)
unfolding awaits
awaits-good s h = go (checked s) refl h
  where
    go : (x : Checked) → checked s ≡ x → awaits_with x s.step ≡ true → (checked s ≡ good) × (is_step s.step ≡ true)
    go (out n) e w = absurd (never (cc))
    go good e w = (e, w)

pub good-awaits : (s : Change) → checked s ≡ good → is_step s.step ≡ true → awaits s ≡ true
unfolding awaits
good-awaits s e h = ap (λ (x : Checked). awaits_with x s.step) e ∙ h
