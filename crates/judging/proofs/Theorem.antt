-- The judge's answer is the one that demand 3 calls for, and no other is; and what is told of the record is what the statement beside it
-- calls for. What an exchange teaches is exact (crate hearing); the rest is the law of every exact judge. Assumes nothing.
use Prim.Native.Nat.{ℕ, ◌+◌, ◌-◌, ◌*◌, ◌≤◌, ◌<◌}
use mathlib.Core.Bool.{Bool, true, false, ◌&&◌, false≢true}
use mathlib.Core.Path.{◌≡◌, refl, sym, ap, subst, ◌∙◌}
use mathlib.Core.List.{List, [], ◌∷◌, ◌++◌}
use mathlib.Core.Logic.{◌↔◌}
use native.Mathlib.Omega.{arith}
use native.Mathlib.Numerals.{add-one}
use lib.Dec.{eqb, ltb}
use lib.ListN.{length, get_or, take, drop, length-take}
use lib.Seq.{length-take-le, take_all, take-suc, take-take}
use borrow.Author.Tests.{ltb-true, ltb-false}
use Rattle.std.specs.Prelude.{Ok}
use Rattle.base.specs.Test.{pick, unless, between}
use Rattle.base.proofs.Tests.{and_left, and_right}
use Rattle.state.specs.declared.Record.{Record}
use Rattle.state.specs.Field.{address, access, field_count, field_range}
use Rattle.state.specs.Valid.{within}
use Rattle.knowledge.specs.declared.Knowledge.{Knowledge}
use Rattle.knowledge.specs.Knowledge.{start, sets_of}
use Rattle.knowledge.proofs.Possible.{Possible, Kept}
use Rattle.knowledge.proofs.Start.{some_record, start_possible, start_kept, start_told}
use Rattle.knowledge.proofs.Product.{product_exactly}
use Rattle.recording.specs.Form.{Exchange, Exchanges, whole, cut, Recording, J, recorded, recording_of, with_header, exchanges_in, header_width}
use Rattle.recording.specs.Replay.{Answer, fits, refuted, not_judged, NoneAsked, Right}
use Rattle.recording.specs.Statement.{Fits, asks, Judgement, judged, RightOf, Demand3}
use Rattle.recording.specs.Alone.{Agrees, next}
use Rattle.recording.specs.Alone as alone
use Rattle.recording.specs.Known as known
use Rattle.recording.specs.Known.{MayHold, InProduct, ToldOf, RightlyTold, Because, WhyOf, RightlyReasoned}
use Rattle.recording.specs.Progress.{passed, learnt, answer_of}
use Rattle.recording.proofs.Exact.{passed_those, passed-not, passed_bound, Exactly, From, leads, learnt_sound, learnt_alive, right}
use Rattle.recording.proofs.Asked.{before_few, before_first, before_taken, before_at, each_quiet, taken_quiet}
use Rattle.recording.proofs.Unseen.{held-beside, because-beside, right_beside}
use Rattle.recording.proofs.Consequences.{one_judgement}
use Rattle.hearing.specs.Hearing.{exchange, exchange_learnt}
use Rattle.hearing.proofs.Exact.{onward, back, keeps}
use Rattle.reason.specs.declared.Reason.{Reason}
use Rattle.reason.specs.Reason.{reason_of, reason_as}
use Rattle.reason.proofs.Holds.{reason_holds}
use Rattle.judging.specs.declared.Cause.{Cause}
use Rattle.judging.specs.Judge.{living, judgeable, judgement_for, judgement_of, Telling, broken, halted, sets, no_sets, known_for, known_of, told_by, Caused, fitting, unjudged, because, caused_as, why_for, why_of, reasoned_by}

-- ---- an answer that is right of one predicate is right of another that it implies and that implies it
right_along : {E : Type 0} (asks : E → Bool) (F G : List E → Type 0) → ((es : List E) → F es → G es) → ((es : List E) → G es → F es)
    → (es : List E) (x : Answer) → Right asks F es x → Right asks G es x
right_along asks F G there back es (fits n) h = (h.0, h.1, there es h.2)
right_along asks F G there back es (refuted i n) h = (h.0, h.1, h.2, there _ h.3, λ g. h.4 (back _ g))
right_along asks F G there back es (not_judged i n) h = (h.0, h.1, h.2, there _ h.3)

-- what holds of both choices
unless_holds : {A : Type 0} (P : A → Type 0) (b : Bool) (x y : A) → P x → (b ≡ true → P y) → P (unless b x y)
unless_holds P true x y p q = q refl
unless_holds P false x y p q = p

-- ---- the judge is exact
module _ (a c : ℕ) (in-address : within (field_range address) a ≡ true) (in-access : within (field_range access) c ≡ true) where
  pub exact : Exactly next Agrees (Kept a c) Possible (exchange_learnt a c) living
  exact =
      record {
        onward = λ k e r kept t g. onward a c in-address in-access k e kept r t g;
        back = λ k e s kept t. back a c in-address in-access k e kept s t;
        some = λ k kept alive. some_record k kept alive;
        none = λ k s gone t. false≢true (sym gone ∙ t.living);
        kept = λ k e kept. keeps a c in-address in-access k e kept;
      }

  -- the first knowledge allows exactly the records to start from
  abbrev Started : List Exchange → Type 0
  Started es = From next Agrees (Kept a c) Possible (exchange_learnt a c) living exact (start a c) es

  started-fits : (es : List Exchange) → Started es → alone.Fits a c es
  started-fits es (r, t, all) =
      let s = start_told a c r in-address in-access t in
      (r, record { valid_record = s.0; same_address = s.1; same-access = s.2 }, all)

  fits-started : (es : List Exchange) → alone.Fits a c es → Started es
  fits-started es (r, s, all) = (r, start_possible a c r s.valid_record s.same_address s.same-access, all)

  answer_right : (es : List Exchange) → Right (asks a) (Fits a c) es (answer_of (exchange_learnt a c) living (asks a) (start a c) es)
  unfolding start
  answer_right es =
      right_beside a c es (answer_of (exchange_learnt a c) living (asks a) (start a c) es)
      (right_along (asks a) Started (alone.Fits a c) started-fits fits-started es (answer_of (exchange_learnt a c) living (asks a) (start a c) es)
      (right next Agrees (Kept a c) Possible (exchange_learnt a c) living exact (asks a) (start a c) es (start_kept a c in-address in-access) refl))

  -- ---- what is known after some exchanges
  module _ (es : List Exchange) where
    abbrev pub known_now : Knowledge
    known_now = learnt (exchange_learnt a c) (start a c) es

    abbrev passed_now : ℕ
    passed_now = passed (exchange_learnt a c) living (start a c) es

    pub known_kept : Kept a c known_now
    known_kept = learnt_sound next Agrees (Kept a c) Possible (exchange_learnt a c) living exact es (start a c) (start_kept a c in-address in-access)

    -- the records that are possible are those that a right controller may hold
    pub may_hold : (r : Record) → Possible known_now r ↔ alone.MayHold a c es r
    may_hold r =
        let l = leads next Agrees (Kept a c) Possible (exchange_learnt a c) living exact es (start a c) (start_kept a c in-address in-access) r in (
          λ p.
              let (s, t, all, e) = l.0 p in
              let q = start_told a c s in-address in-access t in
              (s, record { valid_record = q.0; same_address = q.1; same-access = q.2 }, all, e),
          λ (s, t, all, e). l.1 (s, start_possible a c s t.valid_record t.same_address t.same-access, all, e),
        )

    pub known_alive : passed_now ≡ length es → known_now.alive ≡ true
    unfolding start
    known_alive e = learnt_alive (exchange_learnt a c) living es (start a c) refl e

  -- those that are judged, how many there are, and how many of them pass
  abbrev judged_of : List Exchange → List Exchange
  judged_of es = judgeable a es

  abbrev passed_of : List Exchange → ℕ
  passed_of es = passed_now (judged_of es)

  -- demand 3's answer, by whether fewer pass than are judged, and fewer are judged than there are
  abbrev answer_by : Bool → Bool → List Exchange → Answer
  answer_by b d es = pick b (refuted (passed_of es + 1) (length es)) (pick d (not_judged (length (judged_of es) + 1) (length es)) (fits (length es)))

  answered_by : (es : List Exchange) (b d : Bool) → ltb (passed_of es) (length (judged_of es)) ≡ b → ltb (length (judged_of es)) (length es) ≡ d
      → Right (asks a) (Fits a c) es (answer_by b d es)
  unfolding answer_of
  answered_by es b d e f =
      subst (λ (x : Bool). Right (asks a) (Fits a c) es (answer_by b x es)) f
      (subst (λ (x : Bool). Right (asks a) (Fits a c) es (answer_by x (ltb (length (judged_of es)) (length es)) es)) e (answer_right es))

  -- what refutes the first of them refutes all
  refuted-within : (es : List Exchange) (k i : ℕ) → Right (asks a) (Fits a c) (take k es) (refuted i (length (take k es)))
      → (i ≤ k) × Right (asks a) (Fits a c) es (refuted i (length es))
  refuted-within es k i (same, l, h, f, n) =
      let first : length (judged_of (take k es)) ≡ length (take k (judged_of es)) = ap length (before_taken (asks a) es k) in
      let j : i ≤ k = omega (arith, first, length-take k (judged_of es)) in (
        j,
        (
          refl,
          l,
          omega (arith, first, length-take k (judged_of es)),
          subst (Fits a c) (take-take (i - 1) k es (omega arith)) f,
          λ g. n (subst (Fits a c) (sym (take-take i k es j)) g),
        ),
      )

  -- one among them at which they are not judged is the one for all
  halted-within : (es : List Exchange) (k i : ℕ) → Right (asks a) (Fits a c) (take k es) (not_judged i (length (take k es)))
      → (i ≤ k) × Right (asks a) (Fits a c) es (not_judged i (length es))
  halted-within es k i (same, place, inside, f) =
      let first : judged_of (take k es) ≡ take k (judged_of es) = before_taken (asks a) es k in
      let m : length (judged_of (take k es)) ≡ length (take k (judged_of es)) = ap length first in
      let l = length-take k (judged_of es) in
      let h = length-take k es in
      let short : length (judged_of es) ≤ k = omega arith in
      let all : take k (judged_of es) ≡ judged_of es = take_all k (judged_of es) short in
      let whole_so : judged_of (take k es) ≡ judged_of es = first ∙ all in
      let n : length (judged_of (take k es)) ≡ length (judged_of es) = ap length whole_so in
      (omega arith, (refl, place ∙ ap (λ (j : ℕ). j + 1) n, omega arith, subst (Fits a c) whole_so f))

  -- the codes are of the sets of what may be held
  abbrev ExactSets : List ℕ → List Exchange → Type 0
  ExactSets cs es = NoneAsked (asks a) es × Fits a c es × ((r : Record) → InProduct (sets_of record { alive = true; codes = cs }) r ↔ MayHold a c es r)

  -- all of them are judged and pass
  sets_right : (es : List Exchange) → ltb (passed_of es) (length (judged_of es)) ≡ false → ltb (length (judged_of es)) (length es) ≡ false
      → ExactSets (known_now (judged_of es)).codes es
  sets_right es e f =
      let answer = answered_by es false false e f in
      let quiet : judged_of es ≡ es = answer.1 in
      let l = ltb-false (passed_of es) (length (judged_of es)) e in
      let all : passed_of es ≡ length (judged_of es) = omega (arith, passed_bound (exchange_learnt a c) living (judged_of es) (start a c)) in
      let cs : List ℕ = (known_now (judged_of es)).codes in
      let same : known_now (judged_of es) ≡ record { alive = true; codes = cs } =
      ap (λ (b : Bool). record { alive = b; codes = cs }) (known_alive (judged_of es) all) in (
        quiet,
        answer.2,
        λ r.
            let x = product_exactly record { alive = true; codes = cs } refl r in
            let y = may_hold (judged_of es) r in
            let z = held-beside a c es quiet r in (
              λ h. z.0 (subst (λ (fs : List Exchange). alone.MayHold a c fs r) quiet (y.0 (subst (λ (v : Knowledge). Possible v r) (sym same) (x.0 h)))),
              λ h. x.1 (subst (λ (v : Knowledge). Possible v r) same (y.1 (subst (λ (fs : List Exchange). alone.MayHold a c fs r) (sym quiet) (z.1 h)))),
            ),
      )

  told_right : (es : List Exchange) (k : ℕ) → ToldOf (recorded a c es) k (told_by (known_for k (recorded a c es)))
  told_right es k = go (ltb (passed_of fs) (length (judged_of fs))) refl (ltb (length (judged_of fs)) (length fs)) refl
    where
      fs : List Exchange
      fs = take k es

      go : (b : Bool) → ltb (passed_of fs) (length (judged_of fs)) ≡ b → (d : Bool) → ltb (length (judged_of fs)) (length fs) ≡ d
          → ToldOf (recorded a c es) k (told_by (pick b (broken (passed_of fs + 1), no_sets) (pick d (halted (length (judged_of fs) + 1), no_sets) (sets, (known_now (judged_of fs)).codes))))
      go true q d w = refuted-within es k (passed_of fs + 1) (answered_by fs true d q w)
      go false q true w = halted-within es k (length (judged_of fs) + 1) (answered_by fs false true q w)
      go false q false w = sets_right fs q w

  -- there is one code for each field
  told_long : (es : List Exchange) (k : ℕ) → length (known_for k (recorded a c es)).1 ≡ field_count
  told_long es k = go (ltb (passed_of fs) (length (judged_of fs))) (ltb (length (judged_of fs)) (length fs))
    where
      fs : List Exchange
      fs = take k es

      go : (b d : Bool)
          → length (pick {A = Telling × List ℕ} b (broken (passed_of fs + 1), no_sets) (pick d (halted (length (judged_of fs) + 1), no_sets) (sets, (known_now (judged_of fs)).codes))).1 ≡ field_count
      go true d = refl
      go false true = refl
      go false false = (known_kept (judged_of fs)).full

  -- ---- why: the exchange behind those that pass, by what is known after them
  module _ (es : List Exchange) where
    abbrev before : List Exchange
    before = take (passed_of es) es

    abbrev refuting : Exchange
    refuting = get_or es (passed_of es) (exchange [] [])

    abbrev reasoned : Reason
    reasoned = reason_of a c (known_now before) refuting

    because_so : passed_of es < length (judged_of es) → Because a c before refuting (reason_as reasoned)
    because_so l =
        let p = passed_those (exchange_learnt a c) living (judged_of es) (start a c) in
        let same : take (passed_of es) (judged_of es) ≡ before = before_first (asks a) es (passed_of es) (omega arith) in
        let n : length before ≡ passed_of es = length-take-le (passed_of es) es (let f = before_few (asks a) es in omega arith) in
        let all : passed_now before ≡ length before = ap passed_now (sym same) ∙ (p ∙ sym n) in
        let at : get_or (judged_of es) (passed_of es) (exchange [] []) ≡ refuting = before_at (asks a) es (passed_of es) (exchange [] []) l in
        let dead : (exchange_learnt a c (known_now before) refuting).alive ≡ false =
        ap (λ (fs : List Exchange). (exchange_learnt a c (known_now fs) refuting).alive) (sym same)
        ∙ (ap (λ (e : Exchange). (exchange_learnt a c (known_now (take (passed_of es) (judged_of es))) e).alive) (sym at)
        ∙ passed-not (exchange_learnt a c) living (judged_of es) (start a c) (exchange [] []) l) in
        because-beside a c before (taken_quiet (asks a) es (passed_of es) (omega arith)) refuting (each_quiet (asks a) es (passed_of es) (exchange [] []) l) (reason_as reasoned)
        (reason_holds a c in-address in-access (known_now before) (known_kept before) (known_alive before all) refuting before (may_hold before) dead)

    reasoned_right : WhyOf (recorded a c es) (reasoned_by (why_for (recorded a c es)))
    reasoned_right = go (ltb (passed_of es) (length (judged_of es))) refl (ltb (length (judged_of es)) (length es)) refl
      where
        go : (b : Bool) → ltb (passed_of es) (length (judged_of es)) ≡ b → (d : Bool) → ltb (length (judged_of es)) (length es) ≡ d
            → WhyOf (recorded a c es) (reasoned_by (pick b (because (passed_of es + 1) (length es) reasoned) (pick d (unjudged (length (judged_of es) + 1) (length es)) (fitting (length es)))))
        go true q d w =
            let l : passed_of es < length (judged_of es) = ltb-true (passed_of es) (length (judged_of es)) q in
            let m : passed_of es < length es = let f = before_few (asks a) es in omega arith in
            let i : passed_of es + 1 - 1 ≡ passed_of es = omega arith in
            let split : take (passed_of es + 1) es ≡ before ++ (refuting ∷ []) =
            ap (λ (j : ℕ). take j es) (add-one (passed_of es)) ∙ take-suc es (passed_of es) (exchange [] []) m in (
              answered_by es true d q w,
              subst (λ (j : ℕ). (e : Exchange) × (take (passed_of es + 1) es ≡ take j es ++ (e ∷ [])) × Because a c (take j es) e (reason_as reasoned)) (sym i)
                  (refuting, split, because_so l),
            )
        go false q true w = answered_by es false true q w
        go false q false w = answered_by es false false q w

-- ---- what holds of the two ends of every recording's tests holds of every recording
record Rightly (x : Recording) : Type 0 where
  answer : RightOf x (judgement_for x)
  told : (k : ℕ) → ToldOf x k (told_by (known_for k x))
  long : (k : ℕ) → length (known_for k x).1 ≡ field_count
  reasoned : WhyOf x (reasoned_by (why_for x))

unread_right : (n : ℕ) → Rightly (J n)
unread_right n = record { answer = refl; told = λ k. refl; long = λ k. refl; reasoned = refl }

recorded_right : (a c : ℕ) (x : Exchanges) → within (field_range address) a && within (field_range access) c ≡ true → Rightly (with_header a c x)
recorded_right a c (whole es) h =
    let p = and_left (within (field_range address) a) (within (field_range access) c) h in
    let q = and_right (within (field_range address) a) (within (field_range access) c) h in
    record { answer = answer_right a c p q es; told = told_right a c p q es; long = told_long a c p q es; reasoned = reasoned_right a c p q es }
recorded_right a c cut h = unread_right 5

each_right : (bs : List ℕ) → Rightly (recording_of bs)
unfolding recording_of
each_right bs =
    unless_holds Rightly (between 5 65535 (length bs)) (J 1) _ (unread_right 1)
    (λ l. unless_holds Rightly (eqb (get_or bs 0 0) 1) (J 2) _ (unread_right 2)
    (λ v. unless_holds Rightly (eqb (get_or bs 1 0 * 256 + get_or bs 2 0) (length bs)) (J 3) _ (unread_right 3)
    (λ t. unless_holds Rightly (within (field_range address) (get_or bs 3 0) && within (field_range access) (get_or bs 4 0)) (J 4) _ (unread_right 4)
    (λ h. recorded_right (get_or bs 3 0) (get_or bs 4 0) (exchanges_in (length bs) (drop header_width bs)) h))))

-- ---- demand 3
pub judgement_right : (bs : List ℕ) → Demand3 bs (judgement_of bs)
unfolding judgement_of
judgement_right bs = (each_right bs).answer

-- ---- what is told of the record
pub known_right : (bs : List ℕ) (k : ℕ) → RightlyTold bs k (told_by (known_of bs k))
unfolding known_of
known_right bs k = (each_right bs).told k

-- one code for each field, whatever is told
pub known-length : (bs : List ℕ) (k : ℕ) → length (known_of bs k).1 ≡ field_count
unfolding known_of
known-length bs k = (each_right bs).long k

-- ---- why
pub why_right : (bs : List ℕ) → RightlyReasoned bs (reasoned_by (why_of bs))
unfolding why_of
why_right bs = (each_right bs).reasoned

-- ---- for the readers

-- exactly one answer is right: the judge's
pub judge_unique : (bs : List ℕ) (j : Judgement) → Demand3 bs j → j ≡ judgement_of bs
judge_unique bs j h = one_judgement bs j (judgement_of bs) h (judgement_right bs)

-- of a recording that is well-formed and has no request for a kept batch that is not silent, the answer is `fits` if and only if for some
-- record to start from all of the exchanges agree
pub judged-fits : (bs : List ℕ) (a c : ℕ) (es : List Exchange) → recording_of bs ≡ recorded a c es → NoneAsked (asks a) es
    → judgement_of bs ≡ judged (fits (length es)) ↔ Fits a c es
judged-fits bs a c es e none =
    let n : ℕ = length es in (
      λ h. (subst (λ (x : Recording). RightOf x (judged (fits n))) e (subst (Demand3 bs) h (judgement_right bs))).2,
      λ h. sym (judge_unique bs (judged (fits n)) (subst (λ (x : Recording). RightOf x (judged (fits n))) (sym e) (refl, none, h))),
    )

-- what equals the judge's answer meets demand 3
pub right_so : (bs : List ℕ) (j : Judgement) → j ≡ judgement_of bs → Demand3 bs j
right_so bs j e = subst (Demand3 bs) (sym e) (judgement_right bs)

pub known_so : (bs : List ℕ) (k : ℕ) (x : Telling × List ℕ) → x ≡ known_of bs k → RightlyTold bs k (told_by x)
known_so bs k x e = subst (λ (y : Telling × List ℕ). RightlyTold bs k (told_by y)) (sym e) (known_right bs k)

pub why_so : (bs : List ℕ) (x : Caused) → x ≡ why_of bs → RightlyReasoned bs (reasoned_by x)
why_so bs x e = subst (λ (y : Caused). RightlyReasoned bs (reasoned_by y)) (sym e) (why_right bs)

-- each answer of the code
module _ (bs : List ℕ) where
  module _ (k : ℕ) where
    pub told_refuted : (i : ℕ) → (broken i, no_sets) ≡ known_of bs k → RightlyTold bs k (known.refuted i)
    told_refuted i e = known_so bs k (broken i, no_sets) e

    pub told_halted : (i : ℕ) → (halted i, no_sets) ≡ known_of bs k → RightlyTold bs k (known.not_judged i)
    told_halted i e = known_so bs k (halted i, no_sets) e

    pub told_sets : (cs : List ℕ) → (sets, cs) ≡ known_of bs k → RightlyTold bs k (known.known (sets_of record { alive = true; codes = cs }))
    told_sets cs e = known_so bs k (sets, cs) e

  pub reasoned_fitting : (n : ℕ) → fitting n ≡ why_of bs → RightlyReasoned bs (known.fitting n)
  reasoned_fitting n e = why_so bs (fitting n) e

  pub reasoned_unjudged : (i n : ℕ) → unjudged i n ≡ why_of bs → RightlyReasoned bs (known.unjudged i n)
  reasoned_unjudged i n e = why_so bs (unjudged i n) e

  pub reasoned_cause : (w : Cause) → caused_as (Ok w) ≡ why_of bs → RightlyReasoned bs (reasoned_by (caused_as (Ok w)))
  reasoned_cause w e = why_so bs (caused_as (Ok w)) e

pub ruleset telling = (told_refuted, told_halted, told_sets)

pub ruleset reasoning = (reasoned_fitting, reasoned_unjudged, reasoned_cause)
