-- What is lent to be written in its place, whatever it is: it is opened, or refused with a number of its own. What one call on it answers and
-- leaves. Assumes nothing.
use Prim.Native.Nat.{ℕ, ◌≤◌, ◌<◌}
use mathlib.Core.Bool.{Bool, true, false}
use mathlib.Core.Path.{◌≡◌, refl, sym, ap, subst, ◌∙◌}
use mathlib.Core.List.{List}
use mathlib.Core.Logic.{◌⊎◌, inl, inr, ⊎_elim}
use native.Mathlib.Omega.{arith}
use lib.Dec.{eqb}
use borrow.Author.Tests.{eq-eqb, ne_eqb, eqb-true, eqb-false}
use Rattle.base.specs.Test.{pick, unless}
use Rattle.base.proofs.Tests.{by_test}
use Rattle.controller.specs.Call.{OutcomeOf}
use Rattle.controller.proofs.Theorems.{SilentOutcome}
use Rattle.exports.specs.Bytes.{silence_answer, no_such, is_kind, in_place}

-- what holds of both holds of the one that a test leaves
pub either : {A : Type 0} (P : A → Type 0) (b : Bool) (x y : A) → P x → P y → P (unless b x y)
either P true x y p q = q
either P false x y p q = p

abbrev pub Within : ℕ → ℕ → ℕ → Type 0
Within low high n = (low ≤ n) × (n ≤ high)

-- what one call on it answers and leaves; `tell` is a silence's answer
abbrev pub called : {S L : Type 0} → (ℕ → ℕ) → L → (S → OutcomeOf S) → (S → L) → S → ℕ × L
called tell kept call left s = pick (eqb (call s).silence 0) ((call s).reported, left s) (tell (call s).silence, kept)

module _ {S : Type 0} (opened : ℕ × S) (Refusal : ℕ → Type 0) (number : (opened.0 ≡ 0) ⊎ Refusal opened.0) where
  pub open_cases : {A : Type 0} (refusal : ℕ → A) (on : S → A) (P : A → Type 0) → ((n : ℕ) → Refusal n → P (refusal n))
      → ((s : S) → opened ≡ (0, s) → P (on s)) → P (in_place opened refusal on)
  open_cases refusal on P refused held = go opened refl
    where
      go : (x : ℕ × S) → opened ≡ x → P (in_place x refusal on)
      go (n, s) e =
          by_test (eqb n 0) (λ t. simp t (held s (e ∙ ap (λ (m : ℕ). (m, s)) (eqb-true n 0 t))))
          (λ t. simp t (refused n (⊎_elim (λ (z : opened.0 ≡ 0). absurd (eqb-false n 0 t (sym so ∙ z))) (λ (w : Refusal opened.0). subst Refusal so w) number)))
        where
          so : opened.0 ≡ n
          so = ap (λ (p : ℕ × S). p.0) e

  -- ---- one call on it: a refusal or a silence keeps what is lent, and a reply leaves it so; what was opened never meets the first silence.
  -- `tell` is a silence's answer, `refuse` that of a refusal
  module _ {L : Type 0} (tell refuse : ℕ → ℕ) (kept : L) (call : S → OutcomeOf S) (left : S → L) (o : List ℕ) (Answered : S → Type 0)
      (every : (s : S) → SilentOutcome (call s) s o ⊎ Answered s) (heard : (s : S) → Answered s → (call s).silence ≡ 0)
      (never : (s : S) → opened ≡ (0, s) → (call s).silence ≡ 1 → ⊥) where
    pub called_cases : (P : ℕ × L → Type 0) → ((n : ℕ) → Refusal n → P (refuse n, kept)) → ((n : ℕ) → Within 2 8 n → P (tell n, kept))
        → ((s : S) → opened ≡ (0, s) → Answered s → P ((call s).reported, left s)) → P (in_place opened (λ n. (refuse n, kept)) (called tell kept call left))
    called_cases P refused silenced replied =
        open_cases (λ n. (refuse n, kept)) (called tell kept call left) P refused
        (λ s e.
        ⊎_elim
        (λ (x : SilentOutcome (call s) s o).
        let l : 1 ≤ (call s).silence = x.low in
        let h : (call s).silence ≤ 8 = x.high in
        let z : (call s).silence ≡ 1 → ⊥ = never s e in
        simp (ne_eqb (call s).silence 0 (λ y. omega arith)) (silenced (call s).silence (omega arith)))
        (λ (x : Answered s). simp (eq-eqb (call s).silence 0 (heard s x)) (replied s e x)) (every s))

  -- ---- on the Smith link, where the number of a kind is lent too
  module _ {L : Type 0} (kind : ℕ) (kept : L) (call : S → OutcomeOf S) (left : S → L) (o : List ℕ) (Answered : S → Type 0)
      (every : (s : S) → SilentOutcome (call s) s o ⊎ Answered s) (tells : (s : S) → Answered s → ((call s).silence ≡ 0) × Within 7 64 (call s).reported)
      (never : (s : S) → opened ≡ (0, s) → (call s).silence ≡ 1 → ⊥) where
    abbrev bytes : ℕ × L
    bytes = unless (is_kind kind) (no_such, kept) (in_place opened (λ n. (n, kept)) (called silence_answer kept call left))

    call_cases : (P : ℕ × L → Type 0) → P (no_such, kept) → ((n : ℕ) → Refusal n → P (n, kept)) → ((n : ℕ) → Within 2 8 n → P (silence_answer n, kept))
        → ((s : S) → opened ≡ (0, s) → Answered s → P ((call s).reported, left s)) → P bytes
    call_cases P none refused silenced heard =
        either P (is_kind kind) (no_such, kept) _ none
        (called_cases silence_answer (λ n. n) kept call left o Answered every (λ s x. (tells s x).0) never P refused silenced heard)

    -- "the reply's length", "or no such kind, then" the refusals of what is lent, "then S2 to S8"; so 101 never comes back. "A refusal or silence
    -- leaves every lent byte as it was"
    pub answers : (Within 7 64 bytes.0 ⊎ (Within 102 108 bytes.0 ⊎ (Refusal bytes.0 ⊎ (bytes.0 ≡ 300)))) × (100 ≤ bytes.0 → bytes.1 ≡ kept)
    answers = (
      call_cases (λ (p : ℕ × L). Within 7 64 p.0 ⊎ (Within 102 108 p.0 ⊎ (Refusal p.0 ⊎ (p.0 ≡ 300)))) (inr (inr (inr refl)))
          (λ n w. inr (inr (inl w))) (λ n w. inr (inl (omega arith))) (λ s e x. inl (tells s x).1),
      call_cases (λ (p : ℕ × L). 100 ≤ p.0 → p.1 ≡ kept) (λ h. refl) (λ n w h. refl) (λ n w h. refl) (λ s e x h. absurd (omega (arith, (tells s x).1))),
    )

    -- what holds of all that a reply leaves holds where an answer below 100, which is a reply, comes back
    pub replies : (Q : L → S → Type 0) → ((n : ℕ) → Refusal n → 100 ≤ n)
        → ((s : S) → opened ≡ (0, s) → Answered s → Q (left s) s) → bytes.0 < 100 → Q bytes.1 opened.1
    replies Q high q =
        call_cases (λ (p : ℕ × L). p.0 < 100 → Q p.1 opened.1) (λ h. absurd (omega arith)) (λ n w h. absurd (omega (arith, high n w))) (λ n w h. absurd (omega arith))
        (λ s e x h. subst (Q (left s)) (ap (λ (p : ℕ × S). p.1) (sym e)) (q s e x))
