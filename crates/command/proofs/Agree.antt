-- The two steps of the code give what the tables say: the rows that go by the text and by the arguments stand before those that look at the
-- record. No case for a command. Assumes nothing.
use Prim.Native.Nat.{ℕ}
use mathlib.Core.Bool.{Bool, true, false}
use mathlib.Core.Path.{◌≡◌, refl, sym, ap, ◌∙◌}
use mathlib.Core.List.{List, [], ◌∷◌}
use native.Mathlib.Omega.{arith}
use Rattle.state.specs.declared.Record.{Record}
use Rattle.base.specs.Test.{pick, member}
use Rattle.state.specs.Field.{access, get}
use Rattle.command.specs.Commands.{code_in}
use Rattle.command.specs.Refusals.{Row, by_text, by_arguments, by_field, refusals, arguments_for}
use Rattle.command.specs.Answer.{Verdict, NO, accepted, behind_code, arguments_in, first_of, verdict, reply_for, record_for, record_after}
use Rattle.command.specs.Request.{Asked, refused, asked, first_by_text, first_by_arguments, unless_refused, asked_with, asked_for, asked_in, guards_in, guarded, and_then, answer_text, served_of}

-- ---- one list of rows in three steps

-- the rows that look at the record come last, and before them those that go by the arguments
abbrev looks : List Row → Bool
looks [] = true
looks (by_text m p ∷ rows) = false
looks (by_arguments m p ∷ rows) = false
looks (by_field m codes f p ∷ rows) = looks rows

abbrev argues : List Row → Bool
argues [] = true
argues (by_text m p ∷ rows) = false
argues (by_arguments m p ∷ rows) = argues rows
argues (by_field m codes f p ∷ rows) = looks rows

abbrev ordered : List Row → Bool
ordered [] = true
ordered (by_text m p ∷ rows) = ordered rows
ordered (by_arguments m p ∷ rows) = argues rows
ordered (by_field m codes f p ∷ rows) = looks rows

module _ (c : ℕ) (xs : List ℕ) (r : Record) where
  by_text_lem : List Row → Verdict
  by_text_lem rows = first_by_text rows c xs

  by_arguments_lem : List Row → Verdict
  by_arguments_lem rows = first_by_arguments rows c (arguments_for c xs)

  by_record : List Row → Verdict
  by_record rows = guarded (guards_in rows c (arguments_for c xs) (get access r)) r

  looking : (rows : List Row) → looks rows ≡ true → (first_of rows c xs r ≡ by_record rows) × (by_text_lem rows ≡ accepted) × (by_arguments_lem rows ≡ accepted)
  unfolding first_of first_by_text first_by_arguments guards_in guarded by_text_lem by_arguments_lem by_record
  looking [] h = (refl, refl, refl)
  looking (by_text m p ∷ rows) h = let z : ◌≡◌ {A = ℕ} 0 1 = cc in absurd (omega arith)
  looking (by_arguments m p ∷ rows) h = let z : ◌≡◌ {A = ℕ} 0 1 = cc in absurd (omega arith)
  looking (by_field m codes f p ∷ rows) h = let (e, t, a) = looking rows h in (go (member c codes) refl e, t, a)
    where
      go : (b : Bool) → member c codes ≡ b → first_of rows c xs r ≡ by_record rows → first_of (by_field m codes f p ∷ rows) c xs r ≡ by_record (by_field m codes f p ∷ rows)
      go true q e = simp (q, e)
      go false q e = simp (q, e)

  -- the verdict of the rows is that of the three steps, the first that refuses
  abbrev steps : List Row → Verdict
  steps rows = and_then (by_text_lem rows) (and_then (by_arguments_lem rows) (by_record rows))

  arguing : (rows : List Row) → argues rows ≡ true → (first_of rows c xs r ≡ and_then (by_arguments_lem rows) (by_record rows)) × (by_text_lem rows ≡ accepted)
  unfolding first_of first_by_text first_by_arguments guards_in by_text_lem by_arguments_lem by_record
  arguing [] h = ((looking [] refl).0, refl)
  arguing (by_text m p ∷ rows) h = let z : ◌≡◌ {A = ℕ} 0 1 = cc in absurd (omega arith)
  arguing (by_arguments m p ∷ rows) h = let (e, t) = arguing rows h in (go (p c (arguments_for c xs)) e, t)
    where
      go : (b : Bool) → first_of rows c xs r ≡ and_then (by_arguments_lem rows) (by_record rows)
          → pick b (NO m) (first_of rows c xs r) ≡ and_then (pick b (NO m) (by_arguments_lem rows)) (by_record rows)
      go true e = refl
      go false e = e
  arguing (by_field m codes f p ∷ rows) h = let (e, t, a) = looking (by_field m codes f p ∷ rows) h in (e ∙ sym (ap (λ (v : Verdict). and_then v (by_record (by_field m codes f p ∷ rows))) a), t)

  stepping : (rows : List Row) → ordered rows ≡ true → first_of rows c xs r ≡ steps rows
  unfolding first_of first_by_text first_by_arguments guards_in by_text_lem by_arguments_lem by_record
  stepping [] h = (looking [] refl).0
  stepping (by_text m p ∷ rows) h = go (p c xs) (stepping rows h)
    where
      go : (b : Bool) → first_of rows c xs r ≡ steps rows
          → pick b (NO m) (first_of rows c xs r) ≡ and_then (pick b (NO m) (by_text_lem rows)) (and_then (by_arguments_lem rows) (by_record rows))
      go true e = refl
      go false e = e
  stepping (by_arguments m p ∷ rows) h = let (e, t) = arguing (by_arguments m p ∷ rows) h in e ∙ sym (ap (λ (v : Verdict). and_then v (and_then (by_arguments_lem (by_arguments m p ∷ rows)) (by_record rows))) t)
  stepping (by_field m codes f p ∷ rows) h = let (e, t) = arguing (by_field m codes f p ∷ rows) h in e ∙ sym (ap (λ (v : Verdict). and_then v (and_then (by_arguments_lem rows) (by_record (by_field m codes f p ∷ rows)))) t)

-- ---- a text: what is asked for, and what is served
module _ (t : List ℕ) (r : Record) where
  abbrev c : ℕ
  c = code_in t

  abbrev xs : List ℕ
  xs = behind_code t

  -- the verdict on what was asked for
  abbrev verdict_on : Asked → Verdict
  verdict_on (refused n) = NO n
  verdict_on (asked d x) = guarded (guards_in refusals d x (get access r)) r

  refused_so : (u v : Verdict) (q : Asked) → verdict_on (unless_refused u q) ≡ and_then u (verdict_on q)
  refused_so (NO n) v q = refl
  refused_so accepted v q = refl

  pub verdict_by_steps : verdict t r ≡ verdict_on (asked_in t)
  unfolding verdict asked_in asked_for asked_with by_text_lem by_arguments_lem by_record
  verdict_by_steps =
      stepping c xs r refusals refl
      ∙ ap (and_then (first_by_text refusals c xs)) (sym (refused_so (first_by_arguments refusals c (arguments_in t)) accepted (asked c (arguments_in t))))
      ∙ sym (refused_so (first_by_text refusals c xs) accepted (asked_with c (arguments_in t)))

  -- what a text asks for is a refusal, or its code with its arguments
  pub by_asked : (P : Asked → Type 0) → ((n : ℕ) → P (refused n)) → P (asked c (arguments_in t)) → P (asked_in t)
  unfolding asked_in asked_for asked_with
  by_asked P f g = go (first_by_text refusals c xs) (first_by_arguments refusals c (arguments_in t))
    where
      go : (u v : Verdict) → P (unless_refused u (unless_refused v (asked c (arguments_in t))))
      go (NO n) v = f n
      go accepted (NO n) = f n
      go accepted accepted = g

  -- an answer and a record as the tables have them
  abbrev AsTables : Asked → Type 0
  AsTables q = verdict t r ≡ verdict_on q → (answer_text (served_of q r).0 r ≡ reply_for (verdict t r) t r) × ((served_of q r).1 ≡ record_after t r)

  served_so : AsTables (asked_in t)
  unfolding served_of record_after
  served_so = by_asked AsTables (λ n e. (sym (ap (λ (v : Verdict). reply_for v t r) e), sym (ap (λ (v : Verdict). record_for v t r) e))) (go _ refl)
    where
      go : (v : Verdict) → verdict_on (asked c (arguments_in t)) ≡ v → AsTables (asked c (arguments_in t))
      go (NO n) h e = (simp (e, h), simp (e, h))
      go accepted h e = (simp (e, h), simp (e, h))

  pub answer_by-steps : answer_text (served_of (asked_in t) r).0 r ≡ reply_for (verdict t r) t r
  answer_by-steps = (served_so verdict_by_steps).0

  pub record_by_steps : (served_of (asked_in t) r).1 ≡ record_after t r
  record_by_steps = (served_so verdict_by_steps).1

  -- an accepted text asks for its code with its arguments
  pub accepted-asked : verdict t r ≡ accepted → asked_in t ≡ asked c (arguments_in t)
  accepted-asked h =
      by_asked (λ (q : Asked). verdict t r ≡ verdict_on q → q ≡ asked c (arguments_in t))
      (λ n e. let z : NO n ≡ accepted = sym e ∙ h in let y : ◌≡◌ {A = ℕ} 0 1 = cc in absurd (omega arith)) (λ e. refl) verdict_by_steps
