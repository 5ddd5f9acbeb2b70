-- What is due to a frame, and what that tells of any call: one law for each return of `due_to`, and one for each step that follows.
-- Assumes nothing.
use Prim.Native.Nat.{ℕ, zero, suc, ◌-◌, ◌≤◌, ◌<◌}
use mathlib.Core.Bool.{Bool, true, false}
use mathlib.Core.Path.{◌≡◌, refl, sym, ap, subst, ◌∙◌}
use mathlib.Core.List.{List, [], ◌∷◌}
use native.Mathlib.Omega.{arith}
use lib.Dec.{eqb, leb}
use lib.ListN.{length, take, drop, get_or}
use lib.Seq.{take-nil, take-take}
use borrow.Author.Tests.{le-leb, lt-leb, leb-true, leb-false, eq-eqb, ne_eqb, eqb-true, eqb-false}
use Rattle.base.specs.Test.{unless}
use Rattle.base.proofs.Tests.{never}
use Rattle.frame.specs.declared.Kind.TheVariants.{Minicomputer}
use Rattle.frame.specs.Frame.{all_text, names_unit, address_in, text_in, within_limits, marks_right, check_right}
use Rattle.frame.specs.Numbers.{Answer, H, S, accepted, unit}
use Rattle.frame.specs.Answer.{locate_of, address_of}
use Rattle.frame.proofs.Laws.{Named, named}
use Rattle.controller.specs.Call.{OutcomeOf}
use Rattle.several.specs.declared.NotDue.{NotDue}
use Rattle.several.specs.declared.NotDue.TheVariants.{Refused, OtherUnit, NoRoom}
use Rattle.std.specs.Prelude.{Result, Ok, Err}
use Rattle.several.specs.Several.{full, answer, handed}
use Rattle.several.specs.Several as several
use Rattle.several.specs.Answers.{due_by, due_of}
use Rattle.several.proofs.Serving.{Serving, tests, silence_exactly, heard_exactly, unit-silence}

-- ---- what the answer of `due_to` tells
module _ (d room : ℕ) (q : List ℕ) where
  -- what is due to a frame for the unit a, with a text of n bytes
  abbrev due_for : ℕ → ℕ → Result ℕ NotDue
  due_for a n = due_by d room (unit a n)

  for_unit : (x : Result ℕ NotDue) → (Err Refused ≡ x → ⊥) → due_of d room q ≡ x → (a : ℕ) × (n : ℕ) × Named Minicomputer q a n × (due_for a n ≡ x)
  unfolding due_of
  for_unit x f e = go (address_of Minicomputer q) refl e
    where
      go : (y : Answer) → address_of Minicomputer q ≡ y → due_by d room y ≡ x → (a : ℕ) × (n : ℕ) × Named Minicomputer q a n × (due_for a n ≡ x)
      go (H n) h i = absurd (f i)
      go (S n) h i = absurd (f i)
      go (accepted n) h i = absurd (f i)
      go (unit a n) h i = (a, n, named Minicomputer q a n h, i)

  -- a frame for another unit, or for this one
  pub for_other : due_of d room q ≡ (Err OtherUnit) → (a : ℕ) × (n : ℕ) × Named Minicomputer q a n × (a ≡ d → ⊥)
  for_other e =
      let t = for_unit (Err OtherUnit) (λ z. never (cc)) e in
      (t.0, t.1, t.2, go t.0 t.1 (eqb t.0 d) (leb 64 room) refl t.3)
    where
      go : (a n : ℕ) (b c : Bool) → eqb a d ≡ b → unless b (Err OtherUnit) (unless c (Err NoRoom) (Ok n)) ≡ (Err OtherUnit) → a ≡ d → ⊥
      go a n true true p f = absurd (never (cc))
      go a n true false p f = absurd (never (cc))
      go a n false c p f = eqb-false a d p

  for_this : (x : Result ℕ NotDue) → (Err Refused ≡ x → ⊥) → (Err OtherUnit ≡ x → ⊥) → due_of d room q ≡ x → (n : ℕ) × Named Minicomputer q d n × (unless (leb 64 room) (Err NoRoom) (Ok n) ≡ x)
  for_this x f g e =
      let t = for_unit x f e in
      go t.0 t.1 t.2 (eqb t.0 d) refl t.3
    where
      go : (a n : ℕ) → Named Minicomputer q a n → (b : Bool) → eqb a d ≡ b → unless b (Err OtherUnit) (unless (leb 64 room) (Err NoRoom) (Ok n)) ≡ x
          → (n : ℕ) × Named Minicomputer q d n × (unless (leb 64 room) (Err NoRoom) (Ok n) ≡ x)
      go a n h true p i = (n, subst (λ (k : ℕ). Named Minicomputer q k n) (eqb-true a d p) h, i)
      go a n h false p i = absurd (g i)

  pub for_full : due_of d room q ≡ (Err NoRoom) → (n : ℕ) × Named Minicomputer q d n × (room < 64)
  for_full e =
      let t = for_this (Err NoRoom) (λ z. never (cc)) (λ z. never (cc)) e in
      (t.0, t.1, go t.0 (leb 64 room) refl t.2)
    where
      go : (n : ℕ) (b : Bool) → leb 64 room ≡ b → unless b (Err NoRoom) (Ok n) ≡ (Err NoRoom) → room < 64
      go n true p i = absurd (never (cc))
      go n false p i = leb-false 64 room p

  pub for_answered : (m : ℕ) → due_of d room q ≡ Ok m → Named Minicomputer q d m × (64 ≤ room)
  for_answered m e =
      let t = for_this (Ok m) (λ z. never (cc)) (λ z. never (cc)) e in
      go t.0 t.1 (leb 64 room) refl t.2
    where
      go : (n : ℕ) → Named Minicomputer q d n → (b : Bool) → leb 64 room ≡ b → unless b (Err NoRoom) (Ok n) ≡ Ok m → Named Minicomputer q d m × (64 ≤ room)
      go n h true p i =
          let j : n ≡ m = cc in
          (subst (λ (k : ℕ). Named Minicomputer q d k) j h, leb-true 64 room p)
      go n h false p i = absurd (never (cc))

-- ---- the call

-- something is due to a frame that passes the tests of S3 to S7
tested_due : (d room : ℕ) (q : List ℕ) → within_limits Minicomputer (length q) ≡ true → marks_right Minicomputer q ≡ true → check_right Minicomputer q ≡ true
    → all_text (text_in Minicomputer q) ≡ true → names_unit (text_in Minicomputer q) ≡ true → due_of d room q ≡ (Err Refused) → ⊥
unfolding due_of address_of locate_of
tested_due d room q limits marks sum bytes names e =
    some (eqb (address_in (text_in Minicomputer q)) d) (leb 64 room) (length (text_in Minicomputer q)) (sym (simp (limits, marks, sum, bytes, names)) ∙ e)
  where
    some : (b c : Bool) (n : ℕ) → unless b (Err OtherUnit) (unless c (Err NoRoom) (Ok n)) ≡ (Err Refused) → ⊥
    some true true n f = never (cc)
    some true false n f = never (cc)
    some false c n f = never (cc)

module _ {S : Type 0} {called : S → List ℕ → OutcomeOf S} {good : S → Bool} {address : S → ℕ} (laws : Serving called good address) (r : S) (q : List ℕ) (v : good r ≡ true) where
  -- its silence by what is due
  pub refused-silence : (room : ℕ) → due_of (address r) room q ≡ (Err Refused) → ((called r q).silence ≡ 0 → ⊥) × ((called r q).silence ≡ 8 → ⊥)
  refused-silence room e = (λ z. tested (λ j l. (heard_exactly laws r q).0 z j), λ z. tested ((silence_exactly laws r q 7).0 z).before)
    where
      tested : ((j : ℕ) → j < 7 → get_or (tests laws r q) j true ≡ true) → ⊥
      tested f = tested_due (address r) room q (f 2 (omega arith)) (f 3 (omega arith)) (f 4 (omega arith)) (f 5 (omega arith)) (f 6 (omega arith)) e

  pub other_silence : (room : ℕ) → due_of (address r) room q ≡ (Err OtherUnit) → (called r q).silence ≡ 8
  other_silence room e = let t = for_other (address r) room q e in unit-silence laws r q v t.0 t.1 t.2 ∙ simp (ne_eqb t.0 (address r) t.3)

  pub answer_due : (n : ℕ) → Named Minicomputer q (address r) n → (called r q).silence ≡ 0
  answer_due n f = unit-silence laws r q v (address r) n f ∙ simp (eq-eqb (address r) (address r) refl)

  module _ (n room : ℕ) where
    pub step_refused : due_of (address r) room q ≡ (Err Refused) → handed n room (called r q) ≡ several.silent n 0
    step_refused e =
        let x = refused-silence room e in
        simp (ne_eqb (called r q).silence 0 x.0, ne_eqb (called r q).silence 8 x.1)

    pub step_other : due_of (address r) room q ≡ (Err OtherUnit) → handed n room (called r q) ≡ several.silent n (n - 1)
    step_other e = simp (other_silence room e)

    pub step_full : due_of (address r) room q ≡ (Err NoRoom) → handed n room (called r q) ≡ full n
    step_full e =
        let t = for_full (address r) room q e in
        simp (answer_due t.0 t.1, lt-leb 64 room t.2)

    pub step_answer : (m : ℕ) → due_of (address r) room q ≡ Ok m → handed n room (called r q) ≡ answer n (called r q)
    step_answer m e =
        let t = for_answered (address r) room q m e in
        simp (answer_due m t.0, le-leb 64 room t.1)

-- ---- the text within a stretch of the bytes
pub behind_first : (m k : ℕ) (l : List ℕ) → m < k → take m (drop 1 (take k l)) ≡ take m (drop 1 l)
behind_first m k [] h = ap (λ (x : List ℕ). take m (drop 1 x)) (take-nil k)
behind_first m (suc k) (x ∷ xs) h = take-take m k xs (omega arith)
behind_first m zero (x ∷ xs) h = absurd (omega arith)
