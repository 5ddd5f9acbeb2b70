-- Laws for the loop over the exchanges of a recording, and for what is made of where it ends. Assumes nothing.
use Prim.Native.Nat.{ℕ, min, suc, ◌+◌, ◌-◌, ◌*◌, ◌≤◌, ◌<◌}
use mathlib.Core.Bool.{Bool, true, false, not, ◌&&◌}
use mathlib.Core.Path.{◌≡◌, refl, sym, ap, subst, ◌∙◌}
use mathlib.Core.List.{List, [], ◌∷◌}
use native.Mathlib.Omega.{arith}
use lib.Dec.{eqb}
use lib.ListN.{length, get_or, take, drop}
use Rattle.std.proofs.lemmas.List.{length-take, take_min}
use lib.Seq.{take-length, take-nil, drop-cons, drop-drop}
use borrow.Author.Tests.{le-ltb, lt-ltb, not-true, not-false}
use Rattle.std.specs.Prelude.{Option, Some, None, Result, Ok, Err}
use Rattle.base.specs.Test.{pick, unless, between}
use Rattle.base.proofs.Tests.{never, between_low}
use Rattle.state.specs.Field.{address, access, field_range}
use Rattle.state.specs.Valid as valid
use Rattle.knowledge.specs.declared.Knowledge.{Knowledge}
use Rattle.knowledge.specs.Knowledge.{start}
use Rattle.recording.specs.declared.Spans.{Spans}
use Rattle.recording.specs.declared.Recorded.{Recorded}
use Rattle.recording.specs.declared.Refusal.{Refusal}
use Rattle.recording.specs.Form.{Exchange, Exchanges, whole, cut, before, exchanges_in, Recording, J, recorded, header_width, with_header, recording_of, exchange_at, J-number, counted, summary, refusal_number, read_as}
use Rattle.recording.specs.Replay.{fits, refuted, not_judged, before_asked}
use Rattle.recording.specs.Statement.{refused, judged, asks}
use Rattle.recording.specs.Progress.{passed, learnt, answer_from, answer_of}
use Rattle.recording.proofs.Laws.{Within, within, spanned, unrolled, unroll}
use Rattle.recording.proofs.Exact.{passed_those}
use Rattle.recording.proofs.Asked.{before_few, before_first, before_taken}
use Rattle.frame.specs.declared.Kind.TheVariants.{Minicomputer}
use Rattle.banked.specs.Banked.{asks_heard}
use Rattle.hearing.specs.Hearing.{exchange, exchange_learnt, exchange_taught}
use Rattle.hearing.proofs.Exact.{taught_after}
use Rattle.reason.specs.declared.Reason.{Reason}
use Rattle.reason.specs.Reason.{reason_of}
use Rattle.judging.specs.declared.Progress.{Progress}
use Rattle.judging.specs.Judge.{living, judgement_for, judgement_of, judgeable, unread, broken, halted, sets, no_sets, known_by, known_for, known_of, unexplained, fitting, unjudged, because, why_by, why_for, why_of, known_after, passed_in, Followed, WellFormed, Breaks}

-- ---- what passes and what is learnt, step by step
module _ (a c : ℕ) where
  pub passing : Knowledge → List Exchange → ℕ
  passing k es = passed (exchange_learnt a c) living k es

  pub learning : Knowledge → List Exchange → Knowledge
  learning k es = learnt (exchange_learnt a c) k es

  none_passes : (k : Knowledge) → passing k [] ≡ 0
  unfolding passing passed
  none_passes k = refl

  none-learnt : (k : Knowledge) → learning k [] ≡ k
  unfolding learning learnt
  none-learnt k = refl

  module _ (k r : Knowledge) (e : Exchange) (es : List Exchange) (w : r ≡ exchange_learnt a c k e) where
    stops : r.alive ≡ false → passing k (e ∷ es) ≡ 0
    unfolding passing passed
    stops h = simp (sym (ap living w) ∙ h)

    passes : r.alive ≡ true → passing k (e ∷ es) ≡ suc (passing r es)
    unfolding passing passed
    passes h =
        ap (λ (b : Bool). pick b (suc (passed (exchange_learnt a c) living (exchange_learnt a c k e) es)) 0) (sym (ap living w) ∙ h)
        ∙ ap (λ (x : Knowledge). suc (passed (exchange_learnt a c) living x es)) (sym w)

    learns : learning k (e ∷ es) ≡ learning r es
    unfolding learning learnt
    learns = ap (λ (x : Knowledge). learnt (exchange_learnt a c) x es) (sym w)

-- ---- a well-formed recording: it passed each test
module _ (a c : ℕ) (es : List Exchange) where
  tested : (b₁ b₂ b₃ b₄ : Bool) (x : Recording) → unless b₁ (J 1) (unless b₂ (J 2) (unless b₃ (J 3) (unless b₄ (J 4) x))) ≡ recorded a c es
      → (b₁ ≡ true) × (x ≡ recorded a c es)
  tested true true true true x e = (refl, e)
  tested true true true false x e = absurd (never (cc))
  tested true true false b₄ x e = absurd (never (cc))
  tested true false b₃ b₄ x e = absurd (never (cc))
  tested false b₂ b₃ b₄ x e = absurd (never (cc))

  headed : (b d : ℕ) (x : Exchanges) → with_header b d x ≡ recorded a c es → x ≡ whole es
  headed b d (whole fs) e = let i : fs ≡ es = cc in ap whole i
  headed b d cut e = absurd (never (cc))

  module _ (s : List ℕ) (e : recording_of s ≡ recorded a c es) where
    found : (between 5 65535 (length s) ≡ true) × (with_header (get_or s 3 0) (get_or s 4 0) (exchanges_in (length s) (drop header_width s)) ≡ recorded a c es)
    unfolding recording_of
    found =
        tested (between 5 65535 (length s)) (eqb (get_or s 0 0) 1) (eqb (get_or s 1 0 * 256 + get_or s 2 0) (length s))
        (valid.within (field_range address) (get_or s 3 0) && valid.within (field_range access) (get_or s 4 0))
        (with_header (get_or s 3 0) (get_or s 4 0) (exchanges_in (length s) (drop header_width s))) e

    long : header_width ≤ length s
    long = between_low 5 65535 (length s) found.0

    from_header : exchanges_in (length s) (drop header_width s) ≡ whole es
    from_header = headed (get_or s 3 0) (get_or s 4 0) (exchanges_in (length s) (drop header_width s)) found.1

-- the first m that are judged
abbrev pub due : ℕ → ℕ → List Exchange → List Exchange
due a m es = judgeable a (take m es)

-- ---- the loop: i of the first m exchanges passed, k is known, and those after them stand from the place on
pub record Going (s : List ℕ) (a c m : ℕ) (k : Knowledge) (at i : ℕ) : Type 0 where
  pub inside : at ≤ length s
  pub few : i + header_width ≤ at
  pub most : i ≤ m
  pub held : List Exchange
  pub same : recording_of s ≡ recorded a c held
  pub rest : List Exchange
  pub from : exchanges_in (length s) (drop at s) ≡ whole rest
  pub behind : drop i held ≡ rest
  pub count : passing a c (start a c) (due a m held) ≡ i + passing a c k (due a (m - i) rest)
  pub known : learning a c (start a c) (due a m held) ≡ learning a c k (due a (m - i) rest)
  pub size : length (due a m held) ≡ i + length (due a (m - i) rest)

pub going_none : (s : List ℕ) (a c m : ℕ) (k : Knowledge) → WellFormed s a c → k ≡ start a c → Going s a c m k 5 0
unfolding start
going_none s a c m k h w =
    let es : List Exchange = h.held in
    let z : m ≡ m - 0 = omega arith in
    let q : passing a c (start a c) (due a m es) ≡ passing a c k (due a (m - 0) es) =
    ap (λ (x : Knowledge). passing a c x (due a m es)) (sym w) ∙ ap (λ (j : ℕ). passing a c k (due a j es)) z in
    let l : length (due a m es) ≡ length (due a (m - 0) es) = ap (λ (j : ℕ). length (due a j es)) z in
    record {
      inside = long a c es s h.same;
      few = omega arith;
      most = omega arith;
      held = es;
      same = h.same;
      rest = es;
      from = from_header a c es s h.same;
      behind = refl;
      count = omega arith;
      known = ap (λ (x : Knowledge). learning a c x (due a m es)) (sym w) ∙ ap (λ (j : ℕ). learning a c k (due a j es)) z;
      size = omega arith;
    }

none_due : (a : ℕ) → judgeable a [] ≡ []
unfolding before_asked
none_due a = refl

-- what a list of exchanges that starts with one is
begun : (e : Exchange) (x : Exchanges) (es : List Exchange) → whole es ≡ before e x → (rest : List Exchange) × (x ≡ whole rest) × (es ≡ e ∷ rest)
begun e (whole rest) es h = (rest, refl, (cc))
begun e cut es h = absurd (never (cc))

-- where an exchange has its request and its reply
module _ (s : List ℕ) (at : ℕ) (x : Result (Option Spans) Refusal) (w : x ≡ exchange_at s at) (y : Option Spans) (e : x ≡ Ok y) (p : Spans) (d : y ≡ Some p) where
  places : Within s at p
  places = within s at p (sym w ∙ (e ∙ ap Ok d))

  pub asked-order : p.request ≤ p.stop
  asked-order = places.asked

  pub asked_inside : p.stop ≤ length s
  asked_inside = omega (arith, places)

  pub answered-order : p.reply ≤ p.end
  answered-order = places.answered

  pub answered_inside : p.end ≤ length s
  answered_inside = places.inside

pub ruleset spans_inside = (asked-order, asked_inside, answered-order, answered_inside)

module _ (s : List ℕ) (a c m : ℕ) (k : Knowledge) (at i : ℕ) (g : Going s a c m k at i) where
  -- none of those that are judged is left
  at_end : due a (m - i) g.rest ≡ [] → Followed s a c m (Ok record { passed = i; at = at; known = k })
  unfolding passing learning
  at_end none =
      let z : passing a c k (due a (m - i) g.rest) ≡ 0 = ap (passing a c k) none ∙ none_passes a c k in
      let l : length (due a (m - i) g.rest) ≡ 0 = ap length none in
      record {
        held = g.held;
        same = g.same;
        count = omega (arith, g.count);
        few = omega (arith, g.few, g.inside);
        reached = (omega (arith, g.size), sym (g.known ∙ (ap (learning a c k) none ∙ none-learnt a c k)), g.from ∙ ap whole (sym g.behind));
      }

  pub followed_all : m ≤ i → Followed s a c m (Ok record { passed = m; at = at; known = k })
  followed_all h =
      let z : m - i ≡ 0 = omega arith in
      let e : i ≡ m = omega (arith, g.most) in
      subst (λ (n : ℕ). Followed s a c m (Ok record { passed = n; at = at; known = k })) e (at_end (ap (λ (j : ℕ). due a j g.rest) z ∙ none_due a))

  module _ (x : Result (Option Spans) Refusal) (w : x ≡ exchange_at s at) where
    by_next : (z : Result (Option Spans) Refusal) → x ≡ z → whole g.rest ≡ unrolled s z
    by_next z e = sym g.from ∙ unroll s at ∙ ap (unrolled s) (sym w ∙ e)

    -- a recording that is well-formed has no cut exchange
    pub followed_cut : (n : Refusal) → x ≡ Err n → Followed s a c m (Ok record { passed = i; at = at; known = k })
    followed_cut n e = let h : whole g.rest ≡ cut = by_next (Err n) e in absurd (never (cc))

    pub followed_end : (y : Option Spans) → x ≡ Ok y → y ≡ None → Followed s a c m (Ok record { passed = i; at = at; known = k })
    followed_end y e d =
        let h : whole g.rest ≡ whole [] = by_next (Ok None) (e ∙ ap Ok d) in
        let none : g.rest ≡ [] = cc in
        at_end (ap (judgeable a) (ap (take (m - i)) none ∙ take-nil (m - i)) ∙ none_due a)

  module _ (x : Result (Option Spans) Refusal) (w : x ≡ exchange_at s at) (y : Option Spans) (e : x ≡ Ok y) (p : Spans) (d : y ≡ Some p) where
    -- the first of the rest
    first : (rest : List Exchange) × (exchanges_in (length s) (drop p.end s) ≡ whole rest) × (g.rest ≡ spanned s p ∷ rest)
    first = begun (spanned s p) (exchanges_in (length s) (drop p.end s)) g.rest (by_next x w (Ok (Some p)) (e ∙ ap Ok d))

    first_taken : i < m → due a (m - i) g.rest ≡ judgeable a (spanned s p ∷ take (m - (i + 1)) first.0)
    first_taken l =
        let j : m - i ≡ suc (m - (i + 1)) = omega arith in
        ap (due a (m - i)) first.2 ∙ ap (λ (n : ℕ). due a n (spanned s p ∷ first.0)) j

    -- it asks for a kept batch, or not
    module _ (b : Bool) (f : b ≡ asks_heard Minicomputer a (spanned s p).request) (l : i < m) where
      pub followed_asked : b ≡ true → Followed s a c m (Ok record { passed = i; at = at; known = k })
      unfolding before_asked
      followed_asked h = at_end (first_taken l ∙ simp (sym f ∙ h))

      taken : b ≡ false → due a (m - i) g.rest ≡ spanned s p ∷ due a (m - (i + 1)) first.0
      unfolding before_asked
      taken h = first_taken l ∙ simp (sym f ∙ h)

    module _ (b : Bool) (f : b ≡ asks_heard Minicomputer a (spanned s p).request) (n-asked : b ≡ false) (r : Knowledge)
        (u : r ≡ exchange_taught true a c k (spanned s p)) (l : i < m) where
      v : r ≡ exchange_learnt a c k (spanned s p)
      v = u ∙ taught_after a c k (spanned s p)

      pub followed_broken : not r.alive ≡ true → Followed s a c m (Err i)
      unfolding passing learning
      followed_broken h =
          let gone = not-true r.alive h in
          let z : passing a c k (due a (m - i) g.rest) ≡ 0 =
          ap (passing a c k) (taken b f l n-asked) ∙ stops a c k r (spanned s p) (due a (m - (i + 1)) first.0) v gone in
          let n : length (due a (m - i) g.rest) ≡ suc (length (due a (m - (i + 1)) first.0)) = ap length (taken b f l n-asked) in
          record {
            held = g.held;
            same = g.same;
            count = omega (arith, g.count);
            few = omega (arith, g.few, g.inside);
            reached = omega (arith, g.size);
          }

      pub one_passed : not r.alive ≡ false → Going s a c m r p.end (i + 1)
      one_passed h =
          let living = not-false r.alive h in
          let more : List Exchange = due a (m - (i + 1)) first.0 in
          let z : passing a c k (due a (m - i) g.rest) ≡ suc (passing a c r more) =
          ap (passing a c k) (taken b f l n-asked) ∙ passes a c k r (spanned s p) more v living in
          let n : length (due a (m - i) g.rest) ≡ suc (length more) = ap length (taken b f l n-asked) in
          record {
            inside = (places s at x w y e p d).inside;
            few = omega (arith, g.few, places s at x w y e p d);
            most = omega arith;
            held = g.held;
            same = g.same;
            rest = first.0;
            from = first.1;
            behind = sym (drop-drop 1 i g.held) ∙ ap (drop 1) (g.behind ∙ first.2);
            count = omega (arith, g.count);
            known = g.known ∙ (ap (learning a c k) (taken b f l n-asked) ∙ learns a c k r (spanned s p) more v);
            size = omega (arith, g.size);
          }

pub ruleset following = (going_none, followed_all, followed_end, followed_cut, followed_asked, followed_broken, one_passed)

-- ---- what was read of a recording
module _ (s : List ℕ) (k : Refusal) (e : read_as (Err k) ≡ summary (recording_of s)) where
  -- it is refused by that number
  unread_so : recording_of s ≡ J (refusal_number k)
  unread_so = go (recording_of s) (sym e)
    where
      go : (y : Recording) → summary y ≡ J-number (refusal_number k) → y ≡ J (refusal_number k)
      go (J m) h = let i : m ≡ refusal_number k = cc in ap J i
      go (recorded a c es) h = absurd (never (cc))

  pub judged-refused : refused (refusal_number k) ≡ judgement_of s
  unfolding judgement_of
  judged-refused = sym (ap judgement_for unread_so)

  pub why_refused : unexplained (refusal_number k) ≡ why_of s
  unfolding why_of
  why_refused = sym (ap why_for unread_so)

  pub known-refused : (n : ℕ) → (unread (refusal_number k), no_sets) ≡ known_of s n
  unfolding known_of
  known-refused n = sym (ap (known_for n) unread_so)

module _ (s : List ℕ) (x : Recorded) (e : read_as (Ok x) ≡ summary (recording_of s)) where
  abbrev a : ℕ
  a = x.address

  abbrev c : ℕ
  c = x.access

  abbrev n : ℕ
  n = x.count

  pub read_so : (es : List Exchange) × (recording_of s ≡ recorded a c es) × (length es ≡ n)
  read_so = go (recording_of s) (sym e)
    where
      go : (y : Recording) → summary y ≡ counted a c n → (es : List Exchange) × (y ≡ recorded a c es) × (length es ≡ n)
      go (J m) h = absurd (never (cc))
      go (recorded b d es) h =
          let p : b ≡ a = cc in
          let q : d ≡ c = cc in
          (es, ap (λ (i : ℕ). recorded i d es) p ∙ ap (λ (i : ℕ). recorded a i es) q, (cc))

  pub read_formed : WellFormed s a c
  read_formed = record { held = read_so.0; same = read_so.1 }

  -- ---- all of them are followed
  module _ (r : Result Progress ℕ) (f : Followed s a c n r) where
    -- they are those that were counted
    all_taken : (recording_of s ≡ recorded a c f.held) × (length f.held ≡ n) × (take n f.held ≡ f.held)
    all_taken =
        let h : recorded a c f.held ≡ recorded a c read_so.0 = sym f.same ∙ read_so.1 in
        let es : f.held ≡ read_so.0 = cc in
        let l : length f.held ≡ n = ap length es ∙ read_so.2 in
        (f.same, l, ap (λ (i : ℕ). take i f.held) (sym l) ∙ take-length f.held)

    -- those that are judged
    abbrev judged_ones : List Exchange
    judged_ones = judgeable a f.held

    due_all : due a n f.held ≡ judged_ones
    due_all = let (same, l, t) = all_taken in ap (judgeable a) t

    passed_so : passed (exchange_learnt a c) living (start a c) judged_ones ≡ passed_in r
    passed_so = sym (f.count ∙ ap (passed (exchange_learnt a c) living (start a c)) due_all)

    judged_by : judgement_of s ≡ judged (answer_from (exchange_learnt a c) living (passed_in r) (length judged_ones) n)
    unfolding judgement_of answer_of
    judged_by =
        let (same, l, t) = all_taken in
        ap judgement_for same ∙ (ap (λ (i : ℕ). judged (answer_from (exchange_learnt a c) living i (length judged_ones) (length f.held))) passed_so
        ∙ ap (λ (i : ℕ). judged (answer_from (exchange_learnt a c) living (passed_in r) (length judged_ones) i)) l)

    why_by_lem : why_of s ≡ why_by a c f.held (passed_in r) (length judged_ones) n
    unfolding why_of
    why_by_lem =
        let (same, l, t) = all_taken in
        ap why_for same ∙ (ap (λ (i : ℕ). why_by a c f.held i (length judged_ones) (length f.held)) passed_so
        ∙ ap (λ (i : ℕ). why_by a c f.held (passed_in r) (length judged_ones) i) l)

  -- one does not pass
  module _ (p : ℕ) (f : Followed s a c n (Err p)) where
    fewer-passed : p < length (judged_ones (Err p) f)
    fewer-passed = let k = ap length (due_all (Err p) f) in omega (arith, f.reached)

    pub judged-refuted : judged (refuted (p + 1) n) ≡ judgement_of s
    judged-refuted = sym (judged_by (Err p) f ∙ simp (lt-ltb p (length (judged_ones (Err p) f)) fewer-passed))

    pub breaks : Breaks s a c n p
    breaks =
        let (same, l, t) = all_taken (Err p) f in
        record {
          held = f.held;
          same = same;
          counted = l;
          passing = passed_so (Err p) f;
          fewer = fewer-passed;
          inside = omega (arith, l, fewer-passed, before_few (asks a) f.held);
        }

  -- all pass
  module _ (p : Progress) (f : Followed s a c n (Ok p)) where
    abbrev all_judged : List Exchange
    all_judged = judged_ones (Ok p) f

    all_passed : p.passed ≡ length all_judged
    all_passed = f.reached.0 ∙ ap length (due_all (Ok p) f)

    -- one is left, which asks for a kept batch
    module _ (fewer : p.passed < n) where
      one_left : length all_judged < n
      one_left = let e = all_passed in omega arith

      pub judged-halted : judged (not_judged (p.passed + 1) n) ≡ judgement_of s
      judged-halted =
          ap (λ (i : ℕ). judged (not_judged (i + 1) n)) all_passed
          ∙ sym (judged_by (Ok p) f ∙ simp (le-ltb p.passed (length all_judged) (let e = all_passed in omega arith), lt-ltb (length all_judged) n one_left))

      pub why_halted : unjudged (p.passed + 1) n ≡ why_of s
      why_halted =
          ap (λ (i : ℕ). unjudged (i + 1) n) all_passed
          ∙ sym (why_by_lem (Ok p) f ∙ simp (le-ltb p.passed (length all_judged) (let e = all_passed in omega arith), lt-ltb (length all_judged) n one_left))

    -- none is
    module _ (every : n ≤ p.passed) where
      none_left : n ≤ length all_judged
      none_left = let e = all_passed in omega arith

      pub judged-fits : judged (fits n) ≡ judgement_of s
      judged-fits =
          sym (judged_by (Ok p) f ∙ simp (le-ltb p.passed (length all_judged) (let e = all_passed in omega arith), le-ltb (length all_judged) n none_left))

      pub why_fits : fitting n ≡ why_of s
      why_fits =
          sym (why_by_lem (Ok p) f ∙ simp (le-ltb p.passed (length all_judged) (let e = all_passed in omega arith), le-ltb (length all_judged) n none_left))

  -- ---- so many of them are followed, or all
  module _ (k m : ℕ) (least : m ≡ min k n) where
    module _ (r : Result Progress ℕ) (f : Followed s a c m r) where
      abbrev judged_now : List Exchange
      judged_now = due a m f.held

      -- as many are held as were counted
      held_long : length f.held ≡ n
      held_long =
          let h : recorded a c f.held ≡ recorded a c read_so.0 = sym f.same ∙ read_so.1 in
          let i : f.held ≡ read_so.0 = cc in
          ap length i ∙ read_so.2

      least_held : min k (length f.held) ≡ m
      least_held = ap (min k) held_long ∙ sym least

      same-taken : take k f.held ≡ take m f.held
      same-taken = sym (take_min k f.held) ∙ ap (λ (i : ℕ). take i f.held) least_held

      taken_long : length (take m f.held) ≡ m
      taken_long = ap length (sym same-taken) ∙ (length-take k f.held ∙ least_held)

      known_by_lem : known_of s k ≡ known_by (passed_in r) (length judged_now) (length (take m f.held)) (learnt (exchange_learnt a c) (start a c) judged_now)
      unfolding known_of
      known_by_lem =
          ap (known_for k) f.same
          ∙ (ap (λ (es : List Exchange). known_after a c es) same-taken
          ∙ ap (λ (i : ℕ). known_by i (length judged_now) (length (take m f.held)) (learnt (exchange_learnt a c) (start a c) judged_now)) (sym f.count))

    pub known-broken : (p : ℕ) → Followed s a c m (Err p) → (broken (p + 1), no_sets) ≡ known_of s k
    known-broken p f = sym (known_by_lem (Err p) f ∙ simp (lt-ltb p (length (judged_now (Err p) f)) f.reached))

    module _ (p : Progress) (f : Followed s a c m (Ok p)) where
      pub known-halted : p.passed < m → (halted (p.passed + 1), no_sets) ≡ known_of s k
      known-halted h =
          let l = f.reached.0 in
          ap (λ (i : ℕ). (halted (i + 1), no_sets)) l
          ∙ sym (known_by_lem (Ok p) f ∙ simp (le-ltb p.passed (length (judged_now (Ok p) f)) (omega arith), lt-ltb (length (judged_now (Ok p) f)) (length (take m f.held)) (omega (arith, taken_long (Ok p) f))))

      pub known-sets : m ≤ p.passed → (sets, p.known.codes) ≡ known_of s k
      known-sets h =
          let l = f.reached.0 in
          sym (known_by_lem (Ok p) f ∙ simp (le-ltb p.passed (length (judged_now (Ok p) f)) (omega arith), le-ltb (length (judged_now (Ok p) f)) (length (take m f.held)) (omega (arith, taken_long (Ok p) f)))
          (ap (λ (y : Knowledge). (sets, y.codes)) (sym f.reached.1)))

pub ruleset judging = (read_formed, judged-refused, judged-refuted, judged-halted, judged-fits)

pub ruleset knowing = (read_formed, known-refused, known-broken, known-halted, known-sets)

pub ruleset explaining = (read_formed, breaks, why_refused, why_halted, why_fits)

-- ---- the exchange behind those that passed
pub breaks_formed : (s : List ℕ) (a c n p : ℕ) → Breaks s a c n p → WellFormed s a c
breaks_formed s a c n p b = record { held = b.held; same = b.same }

module _ (s : List ℕ) (a c n p : ℕ) (b : Breaks s a c n p) where
  abbrev es : List Exchange
  es = b.held

  module _ (r : Result Progress ℕ) (f : Followed s a c p r) where
    -- they are the same exchanges
    same-held : f.held ≡ es
    same-held = let h : recorded a c f.held ≡ recorded a c es = sym f.same ∙ b.same in cc

    -- the first p of them are judged
    due_so : due a p f.held ≡ take p (judgeable a es)
    due_so = ap (due a p) same-held ∙ before_taken (asks a) es p

    first_so : take p (judgeable a es) ≡ take p es
    first_so = before_first (asks a) es p (let l = b.fewer in omega arith)

    -- all of those pass
    count_so : passed_in r ≡ p
    count_so =
        f.count ∙ (ap (passed (exchange_learnt a c) living (start a c)) due_so
        ∙ (ap (λ (i : ℕ). passed (exchange_learnt a c) living (start a c) (take i (judgeable a es))) (sym b.passing)
        ∙ (passed_those (exchange_learnt a c) living (judgeable a es) (start a c) ∙ b.passing)))

  pub never_broken : (r : Result Progress ℕ) → Followed s a c p r → (i : ℕ) → r ≡ Err i → ⊥
  never_broken r g i z =
      let f : Followed s a c p (Err i) = subst (Followed s a c p) z g in
      let q = count_so (Err i) f in
      let l = length-take p (judgeable a es) in
      let k = ap length (due_so (Err i) f) in
      omega (arith, f.reached)

  module _ (r : Result Progress ℕ) (g : Followed s a c p r) (o : Progress) (z : r ≡ Ok o) where
    f : Followed s a c p (Ok o)
    f = subst (Followed s a c p) z g

    known_so : o.known ≡ learnt (exchange_learnt a c) (start a c) (take p es)
    known_so = f.reached.1 ∙ ap (learnt (exchange_learnt a c) (start a c)) (due_so (Ok o) f ∙ first_so (Ok o) f)

    module _ (x : Result (Option Spans) Refusal) (w : x ≡ exchange_at s o.at) where
      by_place : (y : Result (Option Spans) Refusal) → x ≡ y → whole (get_or es p (exchange [] []) ∷ drop (suc p) es) ≡ unrolled s y
      by_place y e =
          let l : p < length es = omega (arith, b.fewer, before_few (asks a) es) in
          sym (f.reached.2 ∙ (ap whole (ap (λ (i : ℕ). drop i f.held) (count_so (Ok o) f) ∙ ap (drop p) (same-held (Ok o) f)) ∙ ap whole (drop-cons es p (exchange [] []) l)))
          ∙ (unroll s o.at ∙ ap (unrolled s) (sym w ∙ e))

      pub never_cut : (n : Refusal) → x ≡ Err n → ⊥
      never_cut n e = let h : whole (get_or es p (exchange [] []) ∷ drop (suc p) es) ≡ cut = by_place (Err n) e in never (cc)

      module _ (y : Option Spans) (e : x ≡ Ok y) where
        pub never_end : y ≡ None → ⊥
        never_end d = let h : whole (get_or es p (exchange [] []) ∷ drop (suc p) es) ≡ whole [] = by_place (Ok None) (e ∙ ap Ok d) in never (cc)

        pub why_refuted : (q : Spans) (u : Reason) → y ≡ Some q → u ≡ reason_of a c o.known (spanned s q) → because (p + 1) n u ≡ why_of s
        unfolding why_of
        why_refuted q u d v =
            let g = begun (spanned s q) (exchanges_in (length s) (drop q.end s)) (get_or es p (exchange [] []) ∷ drop (suc p) es) (by_place (Ok (Some q)) (e ∙ ap Ok d)) in
            let first : spanned s q ≡ get_or es p (exchange [] []) = let h = g.2 in cc in
            let reason_so : u ≡ reason_of a c (learnt (exchange_learnt a c) (start a c) (take p es)) (get_or es p (exchange [] [])) =
            v ∙ (ap (λ (k : Knowledge). reason_of a c k (spanned s q)) known_so ∙ ap (reason_of a c (learnt (exchange_learnt a c) (start a c) (take p es))) first) in
            ap (because (p + 1) n) reason_so
            ∙ sym (ap why_for b.same ∙ (ap (λ (i : ℕ). why_by a c es i (length (judgeable a es)) (length es)) b.passing
            ∙ (ap (why_by a c es p (length (judgeable a es))) b.counted ∙ simp (lt-ltb p (length (judgeable a es)) b.fewer))))

pub ruleset breaking = (breaks_formed, never_broken, never_end, never_cut, why_refuted)
