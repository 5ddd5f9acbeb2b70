-- What a caller can rely on, for any numbers, bytes and lengths: which numbers are answered, what a refusal or a silence leaves, and
-- that the stored bytes read back as the record after. Each follows from the definitions by their cases. Assumes nothing.
use Prim.Native.Nat.{ℕ, ◌+◌, ◌≤◌, ◌<◌}
use mathlib.Core.Bool.{Bool, true, false}
use mathlib.Core.Path.{◌≡◌, refl, sym, ap, subst, ◌∙◌}
use mathlib.Core.List.{List}
use mathlib.Core.Logic.{◌⊎◌, inl, inr}
use native.Mathlib.Omega.{arith}
use lib.Dec.{leb}
use lib.ListN.{length, take}
use borrow.Author.Tests.{eq-eqb, ne_eqb, le-leb, leb-true}
use Rattle.base.specs.Test.{unless, between}
use Rattle.base.specs.Lists.{over}
use Rattle.state.specs.declared.Record.{Record}
use Rattle.state.specs.Event.{after}
use Rattle.state.proofs.Kept.{after_kept}
use Rattle.stored.specs.Layout.{current}
use Rattle.stored.specs.Form as stored
use Rattle.stored.specs.Form.{K, done, stored_length, stored_form, low_record}
use Rattle.stored.proofs.RoundTrip.{form_read, read_refusal}
use Rattle.frame.specs.declared.Kind.{Kind}
use Rattle.frame.specs.Frame.{all_text, frame_of, text_in, within_limits, marks_right, check_right}
use Rattle.frame.specs.Numbers.{Answer, H, S, accepted, unit}
use Rattle.frame.specs.Answer as frame
use Rattle.frame.proofs.Laws.{frame-length, tail_low, framed, found_sizes, taken}
use Rattle.frame.proofs.RoundTrip.{read_built}
use Rattle.controller.specs.Call.{Outcome, call_of}
use Rattle.controller.proofs.Theorems.{Answered, every_input, call_keeps_valid}
use Rattle.controller.proofs.Exactly.{never_first}
use Rattle.several.specs.Several.{Several, several_of}
use Rattle.several.proofs.Theorems.{several-valid, several-heard}
use Rattle.exports.specs.Bytes.{silence_answer, stored_answer, no_such, host_left, is_kind, kind_of, is_event, event_of, has_room, open_of, in_place, call_left, call_bytes, SeveralLeft, several_numbers, nothing_taken, several_left, several_bytes, panel_bytes, stored_bytes, build_bytes, read_bytes}
use Rattle.exports.proofs.Steps.{tail_high, record_valid, open_read_lem, opened_by, open_tells, opened-valid}
use Rattle.exports.proofs.InPlace.{either, Within, open_cases, answers, replies}

-- K1 to K4 or K6, by the numbers that are answered for them
abbrev pub StoredAnswer : ℕ → Type 0
StoredAnswer n = Within 201 204 n ⊎ (n ≡ 206)

pub stored_high : (n : ℕ) → StoredAnswer n → 100 ≤ n
stored_high n (inl w) = omega arith
stored_high n (inr e) = omega arith

pub record_number : (s : List ℕ) → ((open_of s).0 ≡ 0) ⊎ StoredAnswer (open_of s).0
record_number s =
    opened_by s (λ (p : ℕ × Record). (p.0 ≡ 0) ⊎ StoredAnswer p.0) (λ n r e. inr (inl (let w = read_refusal s n r e in omega (arith, w.low, w.high))))
    (λ r e b f. either (λ (n : ℕ). (n ≡ 0) ⊎ StoredAnswer n) b 206 0 (inr (inr refl)) (inl refl))

-- ---- a record that is lent to be written in its place, whatever is done with it
module _ {A : Type 0} (s : List ℕ) (refusal : ℕ → A) (on : Record → A) where
  -- on bytes that are stored right, by their room
  module _ (r : Record) (e : stored.read_of s ≡ (done, r)) where
    read_so : in_place (open_of s) refusal on ≡ in_place (unless (has_room s) 206 0, r) refusal on
    read_so = ap (λ (p : ℕ × Record). in_place p refusal on) (open_read_lem s (done, r) e)

    with_room : has_room s ≡ true → in_place (open_of s) refusal on ≡ on r
    with_room room = simp room at read_so

    without_room : has_room s ≡ false → in_place (open_of s) refusal on ≡ refusal 206
    without_room none = simp none at read_so

-- ---- `khuyapesh_call`

-- on bytes that are stored right, in the version that is written, it answers as `call_of` says
module _ (kind : ℕ) (s q o : List ℕ) where
  module _ (r : Record) where
    abbrev called : Outcome
    called = call_of (kind_of kind) r q o

    left_heard : called.silence ≡ 0 → call_left called s o ≡ (called.reported, (stored_form called.after, called.buffer))
    unfolding call_left
    left_heard h = simp (eq-eqb _ _ h)

    left_silent : (called.silence ≡ 0 → ⊥) → call_left called s o ≡ (silence_answer called.silence, (s, o))
    unfolding call_left
    left_silent h = simp (ne_eqb _ _ h)

    module _ (known : kind ≤ 1) (e : stored.read_of s ≡ (done, r)) where
      module _ (room : has_room s ≡ true) where
        whole : call_bytes kind s q o ≡ call_left called s o
        unfolding call_bytes
        whole = simp (le-leb kind 1 known) (with_room s (λ n. (n, (s, o))) (λ t. call_left (call_of (kind_of kind) t q o) s o) r e room)

        pub call-heard : called.silence ≡ 0 → call_bytes kind s q o ≡ (called.reported, (stored_form called.after, called.buffer))
        call-heard h = whole ∙ left_heard h

        pub call-silent : (called.silence ≡ 0 → ⊥) → call_bytes kind s q o ≡ (silence_answer called.silence, (s, o))
        call-silent h = whole ∙ left_silent h

      -- those of an older version meet K6, and all stays
      pub call_older : has_room s ≡ false → call_bytes kind s q o ≡ (206, (s, o))
      unfolding call_bytes
      call_older none = simp (le-leb kind 1 known) (without_room s (λ n. (n, (s, o))) (λ t. call_left (call_of (kind_of kind) t q o) s o) r e none)

  never_silent : (r : Record) → open_of s ≡ (0, r) → (called r).silence ≡ 1 → ⊥
  never_silent r e = never_first (kind_of kind) r q o (opened-valid s r e)

  -- "the reply's length", "or no such kind, then K1 to K4, then K6, then S2 to S8"; "a refusal or silence leaves every lent byte as it was"
  call_answers : (Within 7 64 (call_bytes kind s q o).0 ⊎ (Within 102 108 (call_bytes kind s q o).0 ⊎ (StoredAnswer (call_bytes kind s q o).0 ⊎ ((call_bytes kind s q o).0 ≡ 300)))) × (100 ≤ (call_bytes kind s q o).0 → (call_bytes kind s q o).1 ≡ (s, o))
  unfolding call_bytes call_left
  call_answers =
      answers (open_of s) StoredAnswer (record_number s) kind (s, o) called (λ r. (stored_form (called r).after, (called r).buffer)) o
      (λ r. Answered (kind_of kind) r q o) (λ r. every_input (kind_of kind) r q o) (λ r x. (x.heard, (x.low, x.high))) never_silent

  pub call-numbers : Within 7 64 (call_bytes kind s q o).0 ⊎ (Within 102 108 (call_bytes kind s q o).0 ⊎ (StoredAnswer (call_bytes kind s q o).0 ⊎ ((call_bytes kind s q o).0 ≡ 300)))
  call-numbers = call_answers.0

  pub call_keeps : 100 ≤ (call_bytes kind s q o).0 → (call_bytes kind s q o).1 ≡ (s, o)
  call_keeps = call_answers.1

  -- "the record after it in place of the stored record": it is what the stored bytes then read as
  pub call_stores : (call_bytes kind s q o).0 < 100 → stored.read_of (call_bytes kind s q o).1.0 ≡ (done, (call_of (kind_of kind) (stored.read_of s).1 q o).after)
  unfolding call_bytes call_left
  call_stores =
      replies (open_of s) StoredAnswer (record_number s) kind (s, o) called (λ r. (stored_form (called r).after, (called r).buffer)) o
      (λ r. Answered (kind_of kind) r q o) (λ r. every_input (kind_of kind) r q o) (λ r x. (x.heard, (x.low, x.high))) never_silent
      (λ p r. stored.read_of p.0 ≡ (done, (call_of (kind_of kind) (stored.read_of s).1 q o).after)) stored_high
      (λ r e x.
      form_read (called r).after (call_keeps_valid (kind_of kind) r q o (opened-valid s r e))
      ∙ ap (λ (y : stored.Outcome × Record). (done, (call_of (kind_of kind) y.1 q o).after)) (sym (open_tells s r e).0))

-- ---- `khuyapesh_several`
module _ (s b o : List ℕ) where
  module _ (r : Record) where
    abbrev served : Several
    served = several_of r b o

    abbrev served_left : SeveralLeft
    served_left = several_numbers 0 served.taken served.answered served.written (stored_form served.after) served.buffer

    module _ (e : stored.read_of s ≡ (done, r)) where
      -- a record that was read is valid, so there is no silence
      left_served : several_left served s o ≡ served_left
      unfolding several_left
      left_served = simp (eq-eqb _ _ (several-heard r b o (record_valid s done r e)))

      -- on bytes that are stored right, in the version that is written, it answers as `several_of` says
      pub several_served : has_room s ≡ true
          → several_bytes s b o ≡ several_numbers 0 served.taken served.answered served.written (stored_form served.after) served.buffer
      unfolding several_bytes
      several_served room = with_room s (λ n. nothing_taken n s o) (λ t. several_left (several_of t b o) s o) r e room ∙ left_served

  several_cases : (P : SeveralLeft → Type 0) → ((n : ℕ) → StoredAnswer n → P (nothing_taken n s o))
      → ((r : Record) → stored.read_of s ≡ (done, r) → P (served_left r)) → P (several_bytes s b o)
  unfolding several_bytes
  several_cases P refused answered =
      open_cases (open_of s) StoredAnswer (record_number s) (λ n. nothing_taken n s o) (λ r. several_left (served r) s o) P refused
      (λ r e. let f = (open_tells s r e).0 in subst P (sym (left_served r f)) (answered r f))

  -- 0, or "K1 to K4, then K6"; so 101 never comes back
  pub several_numbers_lem : ((several_bytes s b o).answer ≡ 0) ⊎ StoredAnswer (several_bytes s b o).answer
  several_numbers_lem =
      several_cases (λ (y : SeveralLeft). (y.answer ≡ 0) ⊎ StoredAnswer y.answer) (λ n w. inr w) (λ r e. inl refl)

  -- "the three numbers are 0 and nothing else is changed"
  pub several_keeps : 100 ≤ (several_bytes s b o).answer → several_bytes s b o ≡ nothing_taken (several_bytes s b o).answer s o
  several_keeps =
      several_cases (λ (y : SeveralLeft). 100 ≤ y.answer → y ≡ nothing_taken y.answer s o) (λ n w h. refl) (λ r e h. absurd (omega arith))

  -- the stored bytes then read as the record after the last frame
  pub several_stores : (several_bytes s b o).answer ≡ 0 → stored.read_of (several_bytes s b o).stored ≡ (done, (several_of (stored.read_of s).1 b o).after)
  several_stores =
      several_cases (λ (y : SeveralLeft). y.answer ≡ 0 → stored.read_of y.stored ≡ (done, (several_of (stored.read_of s).1 b o).after))
      (λ n w h. absurd (omega (arith, stored_high n w)))
      (λ r e h.
      form_read (served r).after (several-valid r b o (record_valid s done r e))
      ∙ ap (λ (y : stored.Outcome × Record). (done, (several_of y.1 b o).after)) (sym e))

-- ---- `khuyapesh_panel`
module _ (event number : ℕ) (s : List ℕ) where
  panel_cases : (P : ℕ × List ℕ → Type 0) → P (no_such, s) → ((n : ℕ) → StoredAnswer n → P (n, s))
      → ((r : Record) → stored.read_of s ≡ (done, r) → P (0, stored_form (after (event_of event number) r))) → P (panel_bytes event number s)
  unfolding panel_bytes
  panel_cases P none refused stored-so =
      either P (is_event event) (no_such, s) (in_place (open_of s) (λ n. (n, s)) (λ r. (0, stored_form (after (event_of event number) r)))) none
      (open_cases (open_of s) StoredAnswer (record_number s) (λ n. (n, s)) (λ r. (0, stored_form (after (event_of event number) r))) P refused
      (λ r e. stored-so r (open_tells s r e).0))

  pub panel_numbers : ((panel_bytes event number s).0 ≡ 0) ⊎ (StoredAnswer (panel_bytes event number s).0 ⊎ ((panel_bytes event number s).0 ≡ 300))
  panel_numbers =
      panel_cases (λ (p : ℕ × List ℕ). (p.0 ≡ 0) ⊎ (StoredAnswer p.0 ⊎ (p.0 ≡ 300))) (inr (inr refl)) (λ n w. inr (inl w)) (λ r e. inl refl)

  pub panel_keeps : 100 ≤ (panel_bytes event number s).0 → (panel_bytes event number s).1 ≡ s
  panel_keeps = panel_cases (λ (p : ℕ × List ℕ). 100 ≤ p.0 → p.1 ≡ s) (λ h. refl) (λ n w h. refl) (λ r e h. absurd (omega arith))

  pub panel_stores : (panel_bytes event number s).0 ≡ 0 → stored.read_of (panel_bytes event number s).1 ≡ (done, after (event_of event number) (stored.read_of s).1)
  panel_stores =
      panel_cases (λ (p : ℕ × List ℕ). p.0 ≡ 0 → stored.read_of p.1 ≡ (done, after (event_of event number) (stored.read_of s).1)) (λ h. absurd (omega arith))
      (λ n w h. absurd (omega (arith, stored_high n w)))
      (λ r e h.
      form_read (after (event_of event number) r) (after_kept r (record_valid s done r e) (event_of event number))
      ∙ ap (λ (y : stored.Outcome × Record). (done, after (event_of event number) y.1)) (sym e))

-- ---- `khuyapesh_stored`: a refused form gives the low record
pub low_written : (s o : List ℕ) (n : ℕ) (r : Record) → stored_length current ≤ length o → stored.read_of s ≡ (K n, r) → stored_bytes s o ≡ (200 + n, over (stored_form low_record) o)
unfolding stored_bytes
low_written s o n r l e =
    simp (le-leb _ _ l) (ap (λ (p : stored.Outcome × Record). (stored_answer p.0, over (stored_form p.1) o)) e
    ∙ ap (λ (x : Record). (200 + n, over (stored_form x) o)) (read_refusal s n r e).low_beside)

-- ---- `khuyapesh_build` and `khuyapesh_read`

-- H1 to H3, or a frame
abbrev BuiltSo : List ℕ → Answer × List ℕ → Type 0
BuiltSo o (H n, b) = Within 1 3 n × (b ≡ o)
BuiltSo o (S n, b) = ⊥
BuiltSo o (accepted n, b) = Unit {0}
BuiltSo o (unit a n, b) = ⊥

built_known : (k : Kind) (t o : List ℕ) → BuiltSo o (frame.build_of k t o)
unfolding frame.build_of
built_known k t o = go (leb 64 (length o)) (between 4 60 (length t)) (all_text t)
  where
    go : (a b c : Bool) → BuiltSo o (unless a (H 1, o) (unless b (H 2, o) (unless c (H 3, o) (accepted (length (frame_of k t)), over (frame_of k t) o))))
    go false b c = (omega arith, refl)
    go true false c = (omega arith, refl)
    go true true false = (omega arith, refl)
    go true true true = tt

-- H1, S3 to S6, or a text
abbrev TextSo : List ℕ → Answer × List ℕ → Type 0
TextSo o (H n, b) = (n ≡ 1) × (b ≡ o)
TextSo o (S n, b) = Within 3 6 n × (b ≡ o)
TextSo o (accepted n, b) = Unit {0}
TextSo o (unit a n, b) = ⊥

abbrev located : (n : ℕ) (b c d e : Bool) → Answer
located n b c d e = unless b (S 3) (unless c (S 4) (unless d (S 5) (unless e (S 6) (accepted n))))

text-known : (k : Kind) (f o : List ℕ) → TextSo o (frame.read_of k f o)
unfolding frame.read_of frame.locate_of
text-known k f o = go (leb 64 (length o)) (within_limits k (length f)) (marks_right k f) (check_right k f) (all_text (text_in k f))
  where
    go : (a b c d e : Bool)
        → TextSo o (unless a (H 1, o) (located (length (text_in k f)) b c d e, frame.copied (located (length (text_in k f)) b c d e) (text_in k f) o))
    go false b c d e = (refl, refl)
    go true false c d e = (omega arith, refl)
    go true true false d e = (omega arith, refl)
    go true true true false e = (omega arith, refl)
    go true true true true false = (omega arith, refl)
    go true true true true true = tt

module _ (kind : ℕ) (t o : List ℕ) where
  build_cases : (P : ℕ × List ℕ → Type 0) → P (no_such, o) → ((n : ℕ) → Within 1 3 n → P (400 + n, o))
      → ((n : ℕ) (b : List ℕ) → kind ≤ 1 → frame.build_of (kind_of kind) t o ≡ (accepted n, b) → Within 7 64 n → P (n, b)) → P (build_bytes kind t o)
  unfolding build_bytes
  build_cases P none refused built = known (is_kind kind) refl
    where
      sizes : (n : ℕ) (b : List ℕ) → frame.build_of (kind_of kind) t o ≡ (accepted n, b) → Within 7 64 n
      sizes n b e = let f = framed (kind_of kind) t o b n e in omega (arith, frame-length (kind_of kind) t, tail_low (kind_of kind), tail_high (kind_of kind), f.size, f.low, f.high)

      go : (x : Answer × List ℕ) → kind ≤ 1 → frame.build_of (kind_of kind) t o ≡ x → BuiltSo o x → P (host_left x)
      go (H n, b) l e w = subst (λ (y : List ℕ). P (400 + n, y)) (sym w.1) (refused n w.0)
      go (S n, b) l e w = absurd w
      go (accepted n, b) l e w = built n b l e (sizes n b e)
      go (unit a n, b) l e w = absurd w

      known : (c : Bool) → is_kind kind ≡ c → P (unless c (no_such, o) (host_left (frame.build_of (kind_of kind) t o)))
      known true e = go (frame.build_of (kind_of kind) t o) (leb-true kind 1 e) refl (built_known (kind_of kind) t o)
      known false e = none

  -- "the frame's length; or 300, then 401 to 403"
  pub build_numbers : Within 7 64 (build_bytes kind t o).0 ⊎ (Within 401 403 (build_bytes kind t o).0 ⊎ ((build_bytes kind t o).0 ≡ 300))
  build_numbers =
      build_cases (λ (p : ℕ × List ℕ). Within 7 64 p.0 ⊎ (Within 401 403 p.0 ⊎ (p.0 ≡ 300))) (inr (inr refl)) (λ n w. inr (inl (omega arith))) (λ n b l e w. inl w)

  pub build_keeps : 100 ≤ (build_bytes kind t o).0 → (build_bytes kind t o).1 ≡ o
  build_keeps = build_cases (λ (p : ℕ × List ℕ). 100 ≤ p.0 → p.1 ≡ o) (λ h. refl) (λ n w h. refl) (λ n b l e w h. absurd (omega arith))

  -- reading what was built gives the text
  pub read_back : (o' : List ℕ) → 64 ≤ length o' → (build_bytes kind t o).0 < 100
      → read_bytes kind (take (build_bytes kind t o).0 (build_bytes kind t o).1) o' ≡ (length t, over t o')
  unfolding read_bytes
  read_back o' room =
      build_cases (λ (p : ℕ × List ℕ). p.0 < 100 → read_bytes kind (take p.0 p.1) o' ≡ (length t, over t o')) (λ h. absurd (omega arith)) (λ n w h. absurd (omega arith))
      (λ n b l e w h. simp (le-leb kind 1 l) (ap host_left (read_built (kind_of kind) t o o' b n room e)))

module _ (kind : ℕ) (f o : List ℕ) where
  read_cases : (P : ℕ × List ℕ → Type 0) → P (no_such, o) → P (401, o) → ((n : ℕ) → Within 3 6 n → P (silence_answer n, o))
      → ((n : ℕ) (b : List ℕ) → Within 4 60 n → P (n, b)) → P (read_bytes kind f o)
  unfolding read_bytes
  read_cases P none refused silenced text =
      either P (is_kind kind) (no_such, o) (host_left (frame.read_of (kind_of kind) f o)) none (go (frame.read_of (kind_of kind) f o) refl (text-known (kind_of kind) f o))
    where
      sizes : (n : ℕ) (b : List ℕ) → frame.read_of (kind_of kind) f o ≡ (accepted n, b) → Within 4 60 n
      sizes n b e = let h = found_sizes (kind_of kind) f n (taken (kind_of kind) f o b n e).text in (h.low, h.high)

      go : (x : Answer × List ℕ) → frame.read_of (kind_of kind) f o ≡ x → TextSo o x → P (host_left x)
      go (H n, b) e w = subst (λ (y : List ℕ). P (400 + n, y)) (sym w.1) (subst (λ (m : ℕ). P (400 + m, o)) (sym w.0) refused)
      go (S n, b) e w = subst (λ (y : List ℕ). P (silence_answer n, y)) (sym w.1) (silenced n w.0)
      go (accepted n, b) e w = text n b (sizes n b e)
      go (unit a n, b) e w = absurd w

  -- "the text's length; or 300, then 401, then 103 to 106"
  pub read_numbers : Within 4 60 (read_bytes kind f o).0 ⊎ (Within 103 106 (read_bytes kind f o).0 ⊎ (((read_bytes kind f o).0 ≡ 401) ⊎ ((read_bytes kind f o).0 ≡ 300)))
  read_numbers =
      read_cases (λ (p : ℕ × List ℕ). Within 4 60 p.0 ⊎ (Within 103 106 p.0 ⊎ ((p.0 ≡ 401) ⊎ (p.0 ≡ 300)))) (inr (inr (inr refl))) (inr (inr (inl refl)))
      (λ n w. inr (inl (omega arith))) (λ n b w. inl w)

  pub read_keeps : 100 ≤ (read_bytes kind f o).0 → (read_bytes kind f o).1 ≡ o
  read_keeps = read_cases (λ (p : ℕ × List ℕ). 100 ≤ p.0 → p.1 ≡ o) (λ h. refl) (λ h. refl) (λ n w h. refl) (λ n b w h. absurd (omega arith))
