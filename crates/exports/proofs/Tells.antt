-- What a recording tells: one law for each return of the functions that say it; then, for readers, that the numbers which come back tell
-- the answer, and that it is right. Assumes nothing.
use Prim.Native.Nat.{ℕ, ◌+◌, ◌-◌, ◌≤◌, ◌<◌}
use mathlib.Core.Bool.{Bool, true, false, not}
use mathlib.Core.Path.{◌≡◌, refl, sym, ap, subst, ◌∙◌}
use mathlib.Core.List.{List}
use mathlib.Core.Logic.{◌⊎◌, inl, inr, ⊎_elim}
use native.Mathlib.Omega.{arith}
use lib.Dec.{eqb, leb}
use lib.ListN.{length, take}
use borrow.Author.Tests.{le-leb, lt-leb, not-true, not-false}
use Rattle.std.specs.Prelude.{Result, Ok}
use Rattle.base.specs.Test.{pick, unless}
use Rattle.base.specs.Lists.{over}
use Rattle.base.proofs.Lists.{over-take}
use Rattle.state.specs.Field.{field_at, field_count}
use Rattle.recording.specs.declared.Refusal.{Refusal}
use Rattle.recording.specs.Known as known
use Rattle.recording.specs.Known.{RightlyTold, RightlyReasoned}
use Rattle.knowledge.specs.declared.Knowledge.{Knowledge}
use Rattle.knowledge.specs.Sets.{has}
use Rattle.knowledge.specs.Knowledge.{sets_of, room_for, lent_in, laid_in}
use Rattle.frame.specs.declared.Kind.TheVariants.{Minicomputer}
use Rattle.banked.specs.Banked.{asks_heard}
use Rattle.hearing.specs.Hearing.{exchange, exchange_learnt, exchange_taught}
use Rattle.hearing.proofs.Exact.{taught_after}
use Rattle.reason.specs.declared.Reason.TheVariants as reason
use Rattle.judging.specs.declared.Told.{Told}
use Rattle.judging.specs.declared.Told.TheVariants as told
use Rattle.judging.specs.Judge.{Telling, unread, broken, halted, sets, known_of, known_as, told_by, Caused, unexplained, fitting, unjudged, because, why_of, reasoned_by}
use Rattle.judging.proofs.Theorem.{known_right, known-length, why_right}
use Rattle.exports.specs.Bytes.{known_left, known_numbers, learnt_left, learn_numbers, why_numbers}

-- ---- codes that are laid where there is room
laid-over : (cs o d : List ℕ) (b : Bool) → field_count ≤ length o → (b, d) ≡ laid_in cs o → d ≡ over cs o
unfolding laid_in
laid-over cs o d b room e = let z : laid_in cs o ≡ (true, over cs o) = simp (le-leb _ _ room) in ap (λ (p : Bool × List ℕ). p.1) (e ∙ z)

-- ---- `khuyapesh_known`
module _ (bs : List ℕ) (k : ℕ) (o : List ℕ) (room : field_count ≤ length o) (x : Result Told Refusal) (e : known_as x ≡ known_of bs k) where
  pub known_by_lem : (y : Result Told Refusal) → x ≡ y → known_left (known_as y) o ≡ known_numbers bs k o
  unfolding known_numbers
  known_by_lem y z = ap (λ (w : Telling × List ℕ). known_left w o) (ap known_as (sym z) ∙ e) ∙ simp (le-leb _ _ room)

  pub known_laid : (t : Told) (cs : List ℕ) (b : Bool) (d : List ℕ) → x ≡ Ok t → t ≡ told.Sets cs → (b, d) ≡ laid_in cs o → (0, (0, d)) ≡ known_numbers bs k o
  known_laid t cs b d z i f = ap (λ (y : List ℕ). (0, (0, y))) (laid-over cs o d b room f) ∙ known_by_lem (Ok (told.Sets cs)) (z ∙ ap Ok i)

-- ---- `khuyapesh_learn`
pub learn_short : (a c : ℕ) (q reply o : List ℕ) → length o < field_count → (401, o) ≡ learn_numbers a c q reply o
unfolding learn_numbers
learn_short a c q reply o h = simp (lt-leb _ _ h)

pub learn_asked : (a c : ℕ) (q reply o : List ℕ) (b : Bool) → field_count ≤ length o → b ≡ asks_heard Minicomputer a q → b ≡ true → (2, o) ≡ learn_numbers a c q reply o
unfolding learn_numbers
learn_asked a c q reply o b room e z = simp (le-leb _ _ room, sym e ∙ z)

module _ (a c : ℕ) (q reply o : List ℕ) (x k : Knowledge) (e : k ≡ exchange_taught true a c x (exchange q reply)) (f : x ≡ lent_in o) (room : field_count ≤ length o)
    (t : Bool) (h : t ≡ asks_heard Minicomputer a q) (unasked : t ≡ false) where
  learn_by : (b : Bool) → k.alive ≡ b → pick b (0, over k.codes o) (1, o) ≡ learn_numbers a c q reply o
  unfolding learn_numbers
  learn_by b z =
      ap (λ (y : Bool). pick y (0, over k.codes o) (1, o)) (sym z)
      ∙ (ap (λ (y : Knowledge). learnt_left y o) (e ∙ (taught_after a c x (exchange q reply) ∙ ap (λ (y : Knowledge). exchange_learnt a c y (exchange q reply)) f)) ∙ simp (le-leb _ _ room, sym h ∙ unasked))

  pub learn_none : not k.alive ≡ true → (1, o) ≡ learn_numbers a c q reply o
  learn_none dead = learn_by false (not-true k.alive dead)

  pub learn_laid : (b : Bool) (d : List ℕ) → not k.alive ≡ false → (b, d) ≡ laid_in k.codes o → (0, d) ≡ learn_numbers a c q reply o
  learn_laid b d alive l = ap (λ (y : List ℕ). (0, y)) (laid-over k.codes o d b room l) ∙ learn_by true (not-false k.alive alive)

pub ruleset learning = (learn_short, learn_asked, learn_none, learn_laid)

-- ---- for readers: what the numbers of `khuyapesh_known` tell, where there is room for the sets
abbrev pub told_in : ℕ × (ℕ × List ℕ) → known.Told
told_in (r, (i, o)) =
    pick (leb 500 r) (known.refused (r - 500))
    (pick (eqb r 0) (known.known (sets_of record { alive = true; codes = take field_count o })) (pick (eqb r 2) (known.not_judged i) (known.refuted i)))

refused_in : (n i : ℕ) (o : List ℕ) → told_in (500 + n, (i, o)) ≡ known.refused n
refused_in n i o = let e : 500 + n - 500 ≡ n = omega arith in simp (le-leb 500 (500 + n) (omega arith)) (ap known.refused e)

told_back : (x : Telling × List ℕ) (o : List ℕ) → length x.1 ≡ field_count → told_in (known_left x o) ≡ told_by x
told_back (unread n, cs) o l = refused_in n 0 o
told_back (broken i, cs) o l = refl
told_back (halted i, cs) o l = refl
told_back (sets, cs) o l = ap (λ (y : List ℕ). known.known (sets_of record { alive = true; codes = y })) (over-take cs o field_count l)

module _ (bs : List ℕ) (k : ℕ) (o : List ℕ) where
  known_numbers_lem : (y : ℕ × (ℕ × List ℕ)) → known_numbers bs k o ≡ y → (y.0 ≡ 401) ⊎ RightlyTold bs k (told_in y)
  unfolding known_numbers
  known_numbers_lem y e = subst (λ (z : ℕ × (ℕ × List ℕ)). (z.0 ≡ 401) ⊎ RightlyTold bs k (told_in z)) e (go (room_for o))
    where
      go : (b : Bool)
          → ((unless {A = ℕ × (ℕ × List ℕ)} b (401, (0, o)) (known_left (known_of bs k) o)).0 ≡ 401)
          ⊎ RightlyTold bs k (told_in (unless b (401, (0, o)) (known_left (known_of bs k) o)))
      go true = inr (subst (RightlyTold bs k) (sym (told_back (known_of bs k) o (known-length bs k))) (known_right bs k))
      go false = inl refl

  -- 0: the sets that were written are right
  pub known_tells : (p : ℕ) (o' : List ℕ) → known_numbers bs k o ≡ (0, (p, o')) → RightlyTold bs k (known.known (sets_of record { alive = true; codes = take field_count o' }))
  known_tells p o' e = ⊎_elim (λ z. absurd (omega arith)) (λ h. h) (known_numbers_lem (0, (p, o')) e)

  -- 1: the exchange at the place is the first that no record survives
  pub known_refutes : (i : ℕ) (o' : List ℕ) → known_numbers bs k o ≡ (1, (i, o')) → RightlyTold bs k (known.refuted i)
  known_refutes i o' e = ⊎_elim (λ z. absurd (omega arith)) (λ h. h) (known_numbers_lem (1, (i, o')) e)

  -- 2: the recording is not judged from the exchange at the place on
  pub known_halts : (i : ℕ) (o' : List ℕ) → known_numbers bs k o ≡ (2, (i, o')) → RightlyTold bs k (known.not_judged i)
  known_halts i o' e = ⊎_elim (λ z. absurd (omega arith)) (λ h. h) (known_numbers_lem (2, (i, o')) e)

  -- 500 + m: the recording is refused, Jm
  pub known-refuses : (m i : ℕ) (o' : List ℕ) → known_numbers bs k o ≡ (500 + m, (i, o')) → RightlyTold bs k (known.refused m)
  known-refuses m i o' e = ⊎_elim (λ z. absurd (omega arith)) (subst (RightlyTold bs k) (refused_in m i o')) (known_numbers_lem (500 + m, (i, o')) e)

-- ---- what the numbers of `khuyapesh_why` tell, with the count m, which they do not tell
abbrev pub reason_in : ℕ → ℕ → ℕ → ℕ → known.Reason
reason_in r f h n =
    pick (eqb r 1) (known.answered f)
    (pick (eqb r 2) known.unanswered (pick (eqb r 3) known.impossible (known.conflict (field_at f) (has (field_at f) h) (has (field_at f) n))))

abbrev pub why_in : ℕ → ℕ × (ℕ × (ℕ × (ℕ × ℕ))) → known.Why
why_in m (r, (i, (f, (h, n)))) =
    pick (leb 500 r) (known.unread (r - 500)) (pick (eqb r 0) (known.fitting m) (pick (eqb r 5) (known.unjudged i m) (known.because i m (reason_in r f h n))))

why_back : (x : Caused) → (m : ℕ) × (why_in m (why_numbers x) ≡ reasoned_by x)
unfolding why_numbers
why_back (unexplained n) = let e : 500 + n - 500 ≡ n = omega arith in (0, simp (le-leb 500 (500 + n) (omega arith)) (ap known.unread e))
why_back (fitting n) = (n, refl)
why_back (unjudged i n) = (n, refl)
why_back (because i n (reason.Answered s)) = (n, refl)
why_back (because i n reason.Unanswered) = (n, refl)
why_back (because i n reason.Impossible) = (n, refl)
why_back (because i n (reason.Field f held needs)) = (n, refl)

pub why_tells : (bs : List ℕ) (r i f h n : ℕ) → why_numbers (why_of bs) ≡ (r, (i, (f, (h, n)))) → (m : ℕ) × RightlyReasoned bs (why_in m (r, (i, (f, (h, n)))))
why_tells bs r i f h n e =
    let (m, back) = why_back (why_of bs) in
    (m, subst (λ (y : ℕ × (ℕ × (ℕ × (ℕ × ℕ)))). RightlyReasoned bs (why_in m y)) e (subst (RightlyReasoned bs) (sym back) (why_right bs)))

-- 4: no record whose field f is in the set held gives the reply, and the set needed is what the reply needs of it
pub why_field : (bs : List ℕ) (i f h n : ℕ) → why_numbers (why_of bs) ≡ (4, (i, (f, (h, n))))
    → (m : ℕ) × RightlyReasoned bs (known.because i m (known.conflict (field_at f) (has (field_at f) h) (has (field_at f) n)))
why_field bs i f h n e = why_tells bs 4 i f h n e
