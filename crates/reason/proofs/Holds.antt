-- Of each reason that is so which the statement says. The records that give a reply to a request are a product of sets, as those that are
-- possible are: so where the two have no record in common, one field's two sets have no number in common, and the search finds it.
-- Assumes nothing.
use Prim.Native.Nat.{ℕ, zero, suc, ◌+◌, ◌≤◌, ◌<◌}
use mathlib.Core.Bool.{Bool, true, false, not, false≢true}
use mathlib.Core.Path.{◌≡◌, refl, sym, ap, subst, ◌∙◌}
use mathlib.Core.List.{List}
use mathlib.Core.Logic.{◌↔◌, ◌⊎◌, inl, inr, ⊎_elim}
use native.Mathlib.Omega.{arith}
use borrow.Author.Tests.{eq-eqb, not-true, not-false}
use Rattle.base.specs.Test.{pick, unless}
use Rattle.base.proofs.Tests.{below_or_not}
use Rattle.state.specs.declared.Record.{Record}
use Rattle.state.specs.Field.{Field, address, access, get, position, field_at, field_count, field_range, Held}
use Rattle.state.specs.Valid.{within}
use Rattle.state.proofs.Fields.{position_at}
use Rattle.frame.specs.Numbers.{unit}
use Rattle.command.specs.Request.{asked_in}
use Rattle.command.proofs.Fits.{asked_sound}
use Rattle.knowledge.specs.declared.Knowledge.{Knowledge}
use Rattle.knowledge.specs.Sets.{has}
use Rattle.knowledge.specs.Knowledge.{code_at, recoded, sets_of, start}
use Rattle.knowledge.proofs.Possible.{Possible, Kept}
use Rattle.knowledge.proofs.Recode.{recode_own, recode_left, recode_kept_any}
use Rattle.knowledge.proofs.Start.{own_address, own_access, some_record, start_possible, start_kept, start_told}
use Rattle.knowledge.proofs.Product.{chosen, set_exactly}
use Rattle.learning.specs.Learn.{heard_of, learn_of}
use Rattle.learning.proofs.Exact.{heard-told, heard_left, heard_kept}
use Rattle.recording.specs.Form.{Exchange}
use Rattle.recording.specs.Alone.{Agrees, MayHold, Meets, Gives, Because}
use Rattle.recording.specs.Known.{NumbersOf}
use Rattle.hearing.specs.declared.Said.{Said}
use Rattle.hearing.specs.declared.Said.TheVariants.{Quiet, Answered, Unanswered, Unreadable, Texts}
use Rattle.hearing.specs.Hearing.{asked, told, said_of, taught_by, exchange_learnt, exchange_heard}
use Rattle.hearing.proofs.Says.{due_by, reader, Says, said_so}
use Rattle.hearing.proofs.Agreement.{met}
use Rattle.hearing.proofs.Exact.{agrees_by, onward}
use Rattle.reason.specs.declared.Reason.{Reason}
use Rattle.reason.specs.declared.Reason.TheVariants as reason
use Rattle.reason.specs.Reason.{first_from, needed, alone, first_alone, reply_reason, reason_by, reason_of, reason_as}

-- ---- the first that passes a test passes it, or none does
first_so : (p : ℕ → Bool) (n i : ℕ) → ((p (first_from p n i) ≡ true) × (first_from p n i < i + n)) ⊎ ((j : ℕ) → i ≤ j → j < i + n → p j ≡ false)
unfolding first_from
first_so p zero i = inr (λ j l h. absurd (omega arith))
first_so p (suc n) i = go (p i) refl (first_so p n (i + 1))
  where
    here_or : {A : Type 0} (j : ℕ) → i ≤ j → (i ≡ j → A) → (i + 1 ≤ j → A) → A
    here_or j l here later = ⊎_elim (λ (h : i < j). later (omega arith)) (λ (h : j ≤ i). here (omega arith)) (below_or_not i j)

    go : (b : Bool) → p i ≡ b
        → ((p (first_from p n (i + 1)) ≡ true) × (first_from p n (i + 1) < i + 1 + n)) ⊎ ((j : ℕ) → i + 1 ≤ j → j < i + 1 + n → p j ≡ false)
        → ((p (pick b i (first_from p n (i + 1))) ≡ true) × (pick b i (first_from p n (i + 1)) < i + suc n)) ⊎ ((j : ℕ) → i ≤ j → j < i + suc n → p j ≡ false)
    go true e rest = inl (e, omega arith)
    go false e (inl (h, l)) = inl (h, omega arith)
    go false e (inr none) = inr (λ j l h. here_or j l (λ z. ap p (sym z) ∙ e) (λ m. none j m (omega arith)))

-- ---- an exchange with two texts
module _ (a c : ℕ) (in-address : within (field_range address) a ≡ true) (in-access : within (field_range access) c ≡ true) (e : Exchange) (n m : ℕ)
    (said : said_of a e ≡ Texts n m) where
  texts : Says a e (Texts n m)
  texts = subst (Says a e) said (said_so a e)

  -- what is heard of the two texts
  left_is : (k : Knowledge) → exchange_heard a c k e ≡ heard_of c (asked_in (asked e)) (told e) k
  unfolding exchange_heard
  left_is k = ap (λ (x : Said). taught_by (heard_of c) e x k) said

  left_kept : (k : Knowledge) → Kept a c k → Kept a c (exchange_heard a c k e)
  left_kept k kept = subst (Kept a c) (sym (left_is k)) (heard_kept (asked_in (asked e)) (told e) k kept (asked_sound (asked e)))

  abbrev start_is_kept : Kept a c (start a c)
  start_is_kept = start_kept a c in-address in-access

  -- the reply is the record's exactly if the record agrees
  module _ (k : Knowledge) (kept : Kept a c k) (r : Record) where
    left_told : Possible (exchange_heard a c k e) r → Possible k r × Agrees r e
    left_told p =
        let q = subst (λ (x : Knowledge). Possible x r) (left_is k) p in
        let (t, s) = heard-told (asked_in (asked e)) (told e) k r kept in-access (asked_sound (asked e)) q in
        (t, (agrees_by a e r (own_address k r kept in-address t) t.sound (Texts n m) texts).1 s)

    left_left : Possible k r → Agrees r e → Possible (exchange_heard a c k e) r
    left_left t g =
        subst (λ (x : Knowledge). Possible x r) (sym (left_is k))
        (heard_left (asked_in (asked e)) (told e) k r kept in-access (asked_sound (asked e)) t
        ((agrees_by a e r (own_address k r kept in-address t) t.sound (Texts n m) texts).0 g))

  -- ---- where nothing is known: the records that give the exchange
  gives_exactly : (r : Record) → Possible (needed a c e) r ↔ Gives a c e r
  gives_exactly r = (
    λ p.
        let (t, g) = left_told (start a c) start_is_kept r p in
        let s = start_told a c r in-address in-access t in
        (record { valid_record = s.0; same_address = s.1; same-access = s.2 }, g),
    λ (s, g). left_left (start a c) start_is_kept r (start_possible a c r s.valid_record s.same_address s.same-access) g,
  )

  needed_kept : Kept a c (needed a c e)
  needed_kept = left_kept (start a c) start_is_kept

  -- ---- by what is known
  module _ (k : Knowledge) (kept : Kept a c k) (alive : k.alive ≡ true) where
    -- the set of one field, and nothing else
    module _ (f : Field) (held : Held f) where
      abbrev single : Knowledge
      single = recoded (position f) (code_at (position f) k) (start a c)

      single_kept : Kept a c single
      single_kept =
          recode_kept_any (start a c) f (code_at (position f) k) start_is_kept held (λ q. ap (λ (p : ℕ). code_at p k) q ∙ kept.own_address)
          (λ q. ap (λ (p : ℕ). code_at p k) q ∙ kept.own_access) (λ h. kept.some alive f held)

      -- a record that gives the exchange and has its field in the set is left
      single_left : (r : Record) → Gives a c e r → sets_of k f (get f r) ≡ true → Possible (alone a c e k (position f)) r
      unfolding sets_of
      single_left r (s, g) h =
          left_left single single_kept r
          (recode_left (start a c) r f (code_at (position f) k) start_is_kept.full held
          (start_possible a c r s.valid_record s.same_address s.same-access) h)
          g

      -- and one that is left is such a record
      single-told : (r : Record) → Possible (alone a c e k (position f)) r → Gives a c e r × (sets_of k f (get f r) ≡ true)
      unfolding sets_of
      single-told r p =
          let (t, g) = left_told single single_kept r p in (
            (
              record { valid_record = t.sound; same_address = own_address single r single_kept in-address t; same-access = own_access single r single_kept in-access t },
              g,
            ),
            recode_own (start a c) r f (code_at (position f) k) start_is_kept.full held t,
          )

      -- so a number in both sets
      single-number : (alone a c e k (position f)).alive ≡ true → (x : ℕ) × (sets_of k f x ≡ true) × (sets_of (needed a c e) f x ≡ true)
      unfolding sets_of
      single-number living =
          let (r, p) = some_record (alone a c e k (position f)) (left_kept single single_kept) living in
          let (g, h) = single-told r p in
          (get f r, h, ((gives_exactly r).1 g).each f held)

    -- ---- if each field has one, there is a record that is possible and agrees
    module _ (living : (needed a c e).alive ≡ true) where
      agreeing : ((f : Field) → Held f → (alone a c e k (position f)).alive ≡ true) → (exchange_learnt a c k e).alive ≡ true
      unfolding sets_of
      agreeing all =
          let (r, p, same) = chosen k alive (λ f. (numbers f).0) (λ f h. ((numbers f).1 h).0) in
          let q : Possible (needed a c e) r =
          record {
            living = living;
            sound = p.sound;
            each = λ f h. ap (sets_of (needed a c e) f) (same f h) ∙ ((numbers f).1 h).1;
          } in
          (onward a c in-address in-access k e kept r p ((gives_exactly r).0 q).1).living
        where
          numbers : (f : Field) → (x : ℕ) × (Held f → (sets_of k f x ≡ true) × (sets_of (needed a c e) f x ≡ true))
          numbers f =
              ⊎_elim (λ held. let (x, p, q) = single-number f held (all f held) in (x, λ h. (p, q)))
              (λ (beyond : field_count ≤ position f). (0, λ h. absurd (omega arith))) (below_or_not (position f) field_count)

      -- ---- so the search finds one that has none
      module _ (dead : (exchange_learnt a c k e).alive ≡ false) where
        abbrev at : ℕ
        at = first_alone a c e k

        found : ((alone a c e k at).alive ≡ false) × (at < field_count)
        unfolding first_alone
        found =
            ⊎_elim (λ (h, l). (not-true (alone a c e k (first_alone a c e k)).alive h, l))
            (λ none. absurd (false≢true (sym dead ∙ agreeing (λ f held. not-false (alone a c e k (position f)).alive (none (position f) (omega arith) held)))))
            (first_so (λ p. not (alone a c e k p).alive) field_count 0)

        conflict_so : (es : List Exchange) → ((r : Record) → Possible k r ↔ MayHold a c es r)
            → Because a c es e (reason_as (reason.Field at (code_at at k) (code_at at (needed a c e))))
        unfolding sets_of
        conflict_so es may =
            let f : Field = field_at at in
            let p : position f ≡ at = position_at at in
            let held : Held f = omega (arith, found.1) in
            let gone : (alone a c e k (position f)).alive ≡ false =
            ap (λ (i : ℕ). (alone a c e k i).alive) p ∙ found.0 in
            let own : (r : Record) → Gives a c e r → sets_of k f (get f r) ≡ true → ⊥ =
            λ r g h. false≢true (sym gone ∙ (single_left f held r g h).living) in
            let in_before : (x : ℕ) → has f (code_at at k) x ≡ sets_of k f x = λ x. ap (λ (i : ℕ). has f (code_at i k) x) (sym p) in
            let in_needed : (x : ℕ) → has f (code_at at (needed a c e)) x ≡ sets_of (needed a c e) f x =
            λ x. ap (λ (i : ℕ). has f (code_at i (needed a c e)) x) (sym p) in
            let before_so : NumbersOf (MayHold a c es) f (has f (code_at at k)) =
            λ x. let s = set_exactly k kept alive f held x in (
              λ h. let (r, t, q) = s.0 (sym (in_before x) ∙ h) in (r, (may r).0 t, q),
              λ (r, t, q). in_before x ∙ s.1 (r, (may r).1 t, q),
            ) in
            let needed_so : NumbersOf (Gives a c e) f (has f (code_at at (needed a c e))) =
            λ x. let s = set_exactly (needed a c e) needed_kept living f held x in (
              λ h. let (r, t, q) = s.0 (sym (in_needed x) ∙ h) in (r, (gives_exactly r).0 t, q),
              λ (r, t, q). in_needed x ∙ s.1 (r, (gives_exactly r).1 t, q),
            ) in (
              before_so,
              needed_so,
              λ x h g. let (r, t, q) = (needed_so x).0 g in own r t (ap (sets_of k f) q ∙ (sym (in_before x) ∙ h)),
              λ r g h. own r g (sym (in_before (get f r)) ∙ h),
              let (r, t) = some_record (needed a c e) needed_kept living in (r, (gives_exactly r).0 t),
            )

-- ---- every exchange that leaves nothing possible
module _ (a c : ℕ) (in-address : within (field_range address) a ≡ true) (in-access : within (field_range access) c ≡ true) (k : Knowledge) (kept : Kept a c k)
    (alive : k.alive ≡ true) (e : Exchange) where
  -- the silence that is due, or 0, is what each record meets the request with
  meets : (n : ℕ) → due_by a (reader a e) ≡ n → Meets a c e n
  meets n due r s o l = met a r e s.same_address s.valid_record o (omega arith) ∙ due

  replies : (n : ℕ) → reader a e ≡ unit a n → Meets a c e 0
  replies n names = meets 0 (ap (due_by a) names ∙ ap (λ (b : Bool). unless b 8 0) (eq-eqb a a refl))

  module _ (es : List Exchange) (may : (r : Record) → Possible k r ↔ MayHold a c es r) (dead : (exchange_learnt a c k e).alive ≡ false) where
    by_texts : (n m : ℕ) → said_of a e ≡ Texts n m → Because a c es e (reason_as (reply_reason a c e k))
    unfolding reply_reason
    by_texts n m said = go (needed a c e).alive refl
      where
        abbreviated : Reason
        abbreviated = reason.Field (first_alone a c e k) (code_at (first_alone a c e k) k)
            (code_at (first_alone a c e k) (needed a c e))

        go : (b : Bool) → (needed a c e).alive ≡ b → Because a c es e (reason_as (pick b abbreviated reason.Impossible))
        go true living = conflict_so a c in-address in-access e n m said k kept alive living dead es may
        go false gone =
            let t = texts a c in-address in-access e n m said in
            (t.1, replies n t.0, λ r g. false≢true (sym gone ∙ ((gives_exactly a c in-address in-access e n m said r).1 g).living))

    by_said : (x : Said) → said_of a e ≡ x → Says a e x → Because a c es e (reason_as (reason_by a c k e x))
    unfolding exchange_learnt
    by_said Quiet q so = absurd (false≢true (sym (ap (λ (x : Said). (taught_by (learn_of c) e x k).alive) (sym q) ∙ dead) ∙ alive))
    by_said (Answered n) q (other, some, l, due) = (some, l, meets n due)
    by_said Unanswered q ((n, names), none) = (none, replies n names)
    by_said Unreadable q ((n, names), some, other) =
        (some, replies n names, λ r (s, g). (agrees_by a e r s.same_address s.valid_record Unreadable ((n, names), some, other)).0 g)
    by_said (Texts n m) q so = by_texts n m q

    pub reason_holds : Because a c es e (reason_as (reason_of a c k e))
    unfolding reason_of
    reason_holds = by_said (said_of a e) refl (said_so a e)
