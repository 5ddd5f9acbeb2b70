-- What the code's returns give is what the definitions of specs/ say: one law for each return. Assumes nothing.
use Prim.Native.Nat.{ℕ, ◌+◌, ◌^◌, ◌≤◌, ◌<◌}
use mathlib.Core.Bool.{Bool, true, false}
use mathlib.Core.Path.{◌≡◌, refl, sym, ap, subst, ◌∙◌}
use mathlib.Core.List.{List}
use mathlib.Core.Logic.{⊎_elim}
use native.Mathlib.Omega.{arith}
use lib.Dec.{eqb, leb}
use lib.ListN.{length}
use borrow.Author.Tests.{ne_eqb, eqb-true, eqb-false, le-leb, lt-leb, leb-true}
use Rattle.base.proofs.Lists.{over_all}
use Rattle.base.specs.Test.{pick, unless}
use Rattle.base.proofs.Tests.{by_test}
use Rattle.base.specs.Lists.{over}
use Rattle.state.specs.declared.Record.{Record}
use Rattle.state.specs.declared.Event.{Event}
use Rattle.state.specs.Event.{after}
use Rattle.state.specs.Valid.{valid}
use Rattle.state.proofs.Kept.{after_kept}
use Rattle.std.specs.Prelude.{Option, Some, None, Result, Ok, Err}
use Rattle.stored.specs.declared.Refusal.{Refusal}
use Rattle.stored.specs.declared.WriteRefusal.{WriteRefusal}
use Rattle.stored.specs.declared.WriteRefusal.TheVariants as write
use Rattle.std.specs.Result.{IsOk}
use Rattle.stored.specs.Layout.{current}
use Rattle.stored.specs.Form as stored
use Rattle.stored.specs.Form.{K, done, refusal_number, low_record, reading_as, written_as, stored_length, stored_form, write_of}
use Rattle.stored.proofs.RoundTrip.{stored_180, form-length, read_valid, read_tells}
use Rattle.stored.proofs.Versions.{by_versions}
use Rattle.frame.specs.declared.Kind.{Kind}
use Rattle.frame.specs.declared.Kind.TheVariants.{Minicomputer, Terminal}
use Rattle.frame.specs.declared.Silence.{Silence}
use Rattle.frame.specs.declared.UnknownKind.{UnknownKind}
use Rattle.frame.specs.declared.BuildRefusal.{BuildRefusal}
use Rattle.frame.specs.declared.BuildRefusal.TheVariants as build
use Rattle.frame.specs.declared.ReadRefusal.{ReadRefusal}
use Rattle.frame.specs.declared.ReadRefusal.TheVariants as text
use Rattle.frame.specs.Frame.{tail_of}
use Rattle.frame.specs.Numbers.{kind_numbered, silence_number, length_in, built_as, read_as}
use Rattle.frame.specs.Answer as frame
use Rattle.frame.proofs.Laws.{silence_low, frame-length, built_framed, found_sizes, taken}
use Rattle.controller.specs.Call.{Outcome, outcome_as, call_of}
use Rattle.controller.proofs.Theorems.{Silenced, Answered, every_input, call_keeps_valid}
use Rattle.several.specs.declared.Report.{Report}
use Rattle.several.specs.Several.{Several, several_held, several_of, several_of_record}
use Rattle.several.specs.Answers as answers
use Rattle.several.proofs.Theorems.{several-valid, several-heard}
use Rattle.exports.specs.Bytes.{silence_answer, stored_answer, no_such, host_answer, host_left, is_kind, kind_of, is_event, event_of, has_room, Opened, open_read, open_of, in_place, left_of, call_left, call_bytes, SeveralLeft, several_numbers, several_as, reported_as, nothing_taken, several_left, several_bytes, panel_bytes, stored_bytes, build_bytes, read_bytes}

-- ---- kinds
never : ◌≡◌ {A = ℕ} 0 1 → ⊥
never e = omega arith

module _ (n : ℕ) (x : Result Kind UnknownKind) (e : x ≡ kind_numbered n) where
  by_number : (b d : Bool) → eqb n 0 ≡ b → eqb n 1 ≡ d → x ≡ pick b (Ok Minicomputer) (pick d (Ok Terminal) (Err record { 0 = n }))
  by_number b d p q = e ∙ simp (p, q)

  pub kind_is : (k : Kind) → x ≡ Ok k → (is_kind n ≡ true) × (k ≡ kind_of n)
  kind_is k i = go (eqb n 0) (eqb n 1) refl refl
    where
      go : (b d : Bool) → eqb n 0 ≡ b → eqb n 1 ≡ d → (is_kind n ≡ true) × (k ≡ kind_of n)
      go true d p q = let y = by_number true d p q in (le-leb n 1 (omega (arith, eqb-true n 0 p)), simp p (cc))
      go false true p q = let y = by_number false true p q in (le-leb n 1 (omega (arith, eqb-true n 1 q)), simp p (cc))
      go false false p q = let y = by_number false false p q in absurd (never (cc))

  pub kind_none : (u : UnknownKind) → x ≡ Err u → is_kind n ≡ false
  kind_none u i = go (eqb n 0) (eqb n 1) refl refl
    where
      go : (b d : Bool) → eqb n 0 ≡ b → eqb n 1 ≡ d → is_kind n ≡ false
      go true d p q = let y = by_number true d p q in absurd (never (cc))
      go false true p q = let y = by_number false true p q in absurd (never (cc))
      go false false p q = lt-leb n 1 (let i = eqb-false n 0 p in let j = eqb-false n 1 q in omega arith)

-- ---- lengths fit their answer
pub tail_high : (k : Kind) → tail_of k ≤ 3
tail_high Minicomputer = omega arith
tail_high Terminal = omega arith

pub built_high : (k : Kind) (t o b : List ℕ) (r : Result ℕ BuildRefusal) → (built_as r, b) ≡ frame.build_of k t o → length_in (built_as r) ≤ 64
built_high k t o b (Err build.ShortBuffer) e = omega arith
built_high k t o b (Err build.TextLength) e = omega arith
built_high k t o b (Err build.TextByte) e = omega arith
built_high k t o b (Ok n) e = let f = built_framed k t o b (Ok n) n e refl in omega (arith, frame-length k t, tail_high k, f.size, f.high)

pub text_high : (k : Kind) (f o b : List ℕ) (r : Result ℕ ReadRefusal) → (read_as r, b) ≡ frame.read_of k f o → length_in (read_as r) ≤ 64
text_high k f o b (Err text.ShortBuffer) e = omega arith
text_high k f o b (Err (text.Silent s)) e = omega arith
text_high k f o b (Ok n) e = let h = found_sizes k f n (taken k f o b n (sym e)).text in omega (arith, h.high)

-- ---- the host side
module _ (n : ℕ) (o : List ℕ) (i : Result Kind UnknownKind) (e : i ≡ kind_numbered n) where
  module _ (u : UnknownKind) (z : i ≡ Err u) where
    pub build_none : (t : List ℕ) → (no_such, o) ≡ build_bytes n t o
    unfolding build_bytes
    build_none t = simp (kind_none n i e u z)

    pub read_none : (f : List ℕ) → (no_such, o) ≡ read_bytes n f o
    unfolding read_bytes
    read_none f = simp (kind_none n i e u z)

  module _ (k : Kind) (z : i ≡ Ok k) (x : ℕ) (b : List ℕ) where
    pub build_answered : (t : List ℕ) (r : Result ℕ BuildRefusal) → (built_as r, b) ≡ frame.build_of k t o → x ≡ host_answer (built_as r) → (x, b) ≡ build_bytes n t o
    unfolding build_bytes
    build_answered t r h q =
        let (known, same) = kind_is n i e k z in
        ap (λ (y : ℕ). (y, b)) q ∙ (ap host_left h ∙ (ap (λ (j : Kind). host_left (frame.build_of j t o)) same ∙ simp known))

    pub read_answered : (f : List ℕ) (r : Result ℕ ReadRefusal) → (read_as r, b) ≡ frame.read_of k f o → x ≡ host_answer (read_as r) → (x, b) ≡ read_bytes n f o
    unfolding read_bytes
    read_answered f r h q =
        let (known, same) = kind_is n i e k z in
        ap (λ (y : ℕ). (y, b)) q ∙ (ap host_left h ∙ (ap (λ (j : Kind). host_left (frame.read_of j f o)) same ∙ simp known))

pub ruleset hosting = (build_none, read_none, build_answered, read_answered, built_high, text_high)

-- ---- reading and writing stored bytes
pub record_valid : (s : List ℕ) (a : stored.Outcome) (r : Record) → stored.read_of s ≡ (a, r) → valid r ≡ true
record_valid s a r e = ap (λ (p : stored.Outcome × Record). valid p.1) (sym e) ∙ read_valid s

-- what writing a valid record leaves
written : (r : Record) (o b : List ℕ) (w : Result (Unit {0}) WriteRefusal) → valid r ≡ true → stored_length current ≤ length o → (written_as w, b) ≡ write_of r o → b ≡ over (stored_form r) o
unfolding write_of
written r o b w v l e =
    let d : write_of r o ≡ (done, over (stored_form r) o) = simp (v, le-leb _ _ l) in
    ap (λ (p : stored.Outcome × List ℕ). p.1) (e ∙ d)

write_ok : (r : Record) (o b : List ℕ) (w : Result (Unit {0}) WriteRefusal) → valid r ≡ true → stored_length current ≤ length o → (written_as w, b) ≡ write_of r o → IsOk w
unfolding write_of
write_ok r o b w v l e =
    let d : write_of r o ≡ (done, over (stored_form r) o) = simp (v, le-leb _ _ l) in
    go w (ap (λ (p : stored.Outcome × List ℕ). p.0) (e ∙ d))
  where
    go : (w : Result (Unit {0}) WriteRefusal) → written_as w ≡ done → IsOk w
    go (Ok u) h = refl
    go (Err write.InvalidRecord) h = absurd (never (cc))
    go (Err write.ShortBuffer) h = absurd (never (cc))

-- ---- `khuyapesh_stored`
pub stored_short : (s o : List ℕ) → length o < 180 → (206, o) ≡ stored_bytes s o
unfolding stored_bytes
stored_short s o h = simp (stored_180, lt-leb 180 (length o) h)

pub stored_roomy : (o : List ℕ) → 180 ≤ length o → has_room o ≡ true
stored_roomy o h = le-leb _ _ (omega (arith, stored_180))

module _ (s o b : List ℕ) (h : has_room o ≡ true) (x : Result Record Refusal) (e : reading_as x ≡ stored.read_of s) (r : Record) (w : Result (Unit {0}) WriteRefusal) (d : (written_as w, b) ≡ write_of r o) where
  module _ (a : stored.Outcome) (f : (a, r) ≡ stored.read_of s) where
    room : stored_length current ≤ length o
    room = leb-true _ _ h

    write_done : IsOk w
    write_done = write_ok r o b w (record_valid s a r (sym f)) room d

    written_so : (n : ℕ) → n ≡ stored_answer a → (n, b) ≡ stored_bytes s o
    unfolding stored_bytes
    written_so n q =
        ap (λ (y : List ℕ). (n, y)) (written r o b w (record_valid s a r (sym f)) room d) ∙ (ap (λ (y : ℕ). (y, over (stored_form r) o)) q
        ∙ (ap (λ (p : stored.Outcome × Record). (stored_answer p.0, over (stored_form p.1) o)) f ∙ simp (le-leb _ _ room)))

  module _ (z : x ≡ Ok r) where
    whole_so : (done, r) ≡ stored.read_of s
    whole_so = sym (ap reading_as z) ∙ e

    pub whole_ok : IsOk w
    whole_ok = write_done done whole_so

    pub whole_written : (0, b) ≡ stored_bytes s o
    whole_written = written_so done whole_so 0 refl

  -- the low record beside a refusal
  module _ (k : Refusal) (z : x ≡ Err k) (low : r ≡ low_record) where
    low_so : (K (refusal_number k), r) ≡ stored.read_of s
    low_so = ap (λ (y : Record). (K (refusal_number k), y)) low ∙ (sym (ap reading_as z) ∙ e)

    pub low_ok : IsOk w
    low_ok = write_done (K (refusal_number k)) low_so

    pub low_written : (n : ℕ) → n ≡ stored_answer (K (refusal_number k)) → (n, b) ≡ stored_bytes s o
    low_written n q = written_so (K (refusal_number k)) low_so n q

pub ruleset storing = (stored_short, whole_ok, whole_written, low_ok, low_written)

-- ---- a record that is lent to be written in its place

-- by what was read
pub open_read_lem : (s : List ℕ) (x : stored.Outcome × Record) → stored.read_of s ≡ x → open_of s ≡ open_read x (has_room s)
unfolding open_of
open_read_lem s x e = ap (λ (p : stored.Outcome × Record). open_read p (has_room s)) e

-- the returns of `open_record`
module _ (s : List ℕ) (x : Result Record Refusal) (e : reading_as x ≡ stored.read_of s) where
  read_so : (y : Result Record Refusal) → x ≡ y → open_of s ≡ open_read (reading_as y) (has_room s)
  read_so y z = open_read_lem s (reading_as y) (sym e ∙ ap reading_as z)

  pub open_refused : (w : Refusal) (n : ℕ) → x ≡ Err w → n ≡ stored_answer (K (refusal_number w)) → Opened {S = Record} (Err n) (open_of s)
  open_refused w n z f = (ap (λ (p : ℕ × Record). p.0) (read_so (Err w) z) ∙ sym f, λ h. omega arith)

  module _ (r : Record) (z : x ≡ Ok r) where
    by_room : (b : Bool) → has_room s ≡ b → open_of s ≡ (unless b 206 0, r)
    by_room b h = read_so (Ok r) z ∙ ap (λ (y : Bool). open_read (done, r) y) h

    pub open_no_room : length s < 180 → Opened {S = Record} (Err 206) (open_of s)
    open_no_room l = (ap (λ (p : ℕ × Record). p.0) (by_room false (simp stored_180 (lt-leb 180 (length s) l))), λ h. omega arith)

    pub open_whole : 180 ≤ length s → Opened (Ok r) (open_of s)
    open_whole l = by_room true (simp stored_180 (le-leb 180 (length s) l))

pub ruleset opening = (open_refused, open_no_room, open_whole)

-- what was opened, or the answer of a refusal, and what is then left, whatever it is
module _ {S : Type 0} (x : ℕ × S) (r : Result S ℕ) (e : Opened r x) where
  pub opens : (s : S) → r ≡ Ok s → x ≡ (0, s)
  opens s z = let f : Opened (Ok s) x = subst (λ (y : Result S ℕ). Opened y x) z e in f

  pub refuses : (n : ℕ) → r ≡ Err n → (x.0 ≡ n) × (n ≡ 0 → ⊥)
  refuses n z = let f : Opened (Err n) x = subst (λ (y : Result S ℕ). Opened y x) z e in f

  module _ {A : Type 0} (refusal : ℕ → A) (on : S → A) where
    pub left_refused : (n : ℕ) → r ≡ Err n → refusal n ≡ in_place x refusal on
    left_refused n z =
        let (m, h) = refuses n z in
        let y : in_place (n, x.1) refusal on ≡ in_place x refusal on = ap (λ (i : ℕ). in_place (i, x.1) refusal on) (sym m) in
        simp (ne_eqb n 0 h) at y

    pub left_opened : (s : S) → r ≡ Ok s → on s ≡ in_place x refusal on
    left_opened s z = sym (ap (λ (p : ℕ × S). in_place p refusal on) (opens s z))

-- the cases
pub opened_by : (s : List ℕ) (P : ℕ × Record → Type 0) → ((n : ℕ) (r : Record) → stored.read_of s ≡ (K n, r) → P (200 + n, r))
    → ((r : Record) → stored.read_of s ≡ (done, r) → (b : Bool) → has_room s ≡ b → P (unless b 206 0, r)) → P (open_of s)
unfolding open_of
opened_by s P refused whole = go (stored.read_of s) refl
  where
    go : (x : stored.Outcome × Record) → stored.read_of s ≡ x → P (open_read x (has_room s))
    go (K n, r) e = refused n r e
    go (done, r) e = whole r e (has_room s) refl

-- what an answer of 0 tells: the record was read whole, and there is room
pub open_tells : (s : List ℕ) (r : Record) → open_of s ≡ (0, r) → (stored.read_of s ≡ (done, r)) × (has_room s ≡ true)
open_tells s r = opened_by s (λ (p : ℕ × Record). p ≡ (0, r) → (stored.read_of s ≡ (done, r)) × (has_room s ≡ true)) (λ n t e z. refused (200 + n) t (omega arith) z) whole
  where
    refused : (n : ℕ) (t : Record) → 1 ≤ n → ◌≡◌ {A = ℕ × Record} (n, t) (0, r) → (stored.read_of s ≡ (done, r)) × (has_room s ≡ true)
    refused n t l z = let y : n ≡ 0 = ap (λ (p : ℕ × Record). p.0) z in absurd (omega arith)

    whole : (t : Record) → stored.read_of s ≡ (done, t) → (b : Bool) → has_room s ≡ b → ◌≡◌ {A = ℕ × Record} (unless b 206 0, t) (0, r)
        → (stored.read_of s ≡ (done, r)) × (has_room s ≡ true)
    whole t e true f z = (e ∙ ap (λ (p : ℕ × Record). (done, p.1)) z, f)
    whole t e false f z = refused 206 t (omega arith) z

-- so the record is valid, its bytes are of the version that is written, and a valid record takes their place
module _ (s : List ℕ) (r : Record) (h : open_of s ≡ (0, r)) where
  pub opened-valid : valid r ≡ true
  opened-valid = record_valid s done r (open_tells s r h).0

  opened-length : length s ≡ stored_length current
  unfolding stored_length
  opened-length =
      let t = read_tells s r (open_tells s r h).0 in
      let version : ℕ = stored.version_of (length s) in
      let low = leb-true (stored_length current) (length s) (open_tells s r h).1 in
      let high = leb-true (stored_length version) (stored_length current) (by_versions (λ v. leb (stored_length v) (stored_length current)) refl version t.known) in
      let long : length s ≡ stored_length version = t.long in
      omega arith

  pub replaced : (t : Record) (b : List ℕ) (w : Result (Unit {0}) WriteRefusal) → valid t ≡ true → (written_as w, b) ≡ write_of t s → b ≡ stored_form t
  replaced t b w v e =
      let l = opened-length in
      written t s b w v (omega arith) e ∙ over_all (stored_form t) s (omega (arith, form-length t))

  pub replaced_ok : (t : Record) (b : List ℕ) (w : Result (Unit {0}) WriteRefusal) → valid t ≡ true → (written_as w, b) ≡ write_of t s → IsOk w
  replaced_ok t b w v e = let l = opened-length in write_ok t s b w v (omega arith) e

-- ---- `khuyapesh_panel`
module _ (n p : ℕ) (s : List ℕ) (v : Option Event) (i : v ≡ pick (is_event n) (Some (event_of n p)) None) where
  by_event : (b : Bool) → is_event n ≡ b → v ≡ pick b (Some (event_of n p)) None
  by_event b e = i ∙ ap (λ (x : Bool). pick x (Some (event_of n p)) None) e

  pub panel_none : v ≡ None → (no_such, s) ≡ panel_bytes n p s
  unfolding panel_bytes
  panel_none z =
      by_test (is_event n) (λ t. let y = by_event true t in absurd (never (cc))) (λ t. simp t)

  module _ (x : Event) (z : v ≡ Some x) (a : Result Record ℕ) (e : Opened a (open_of s)) where
    known : (is_event n ≡ true) × (x ≡ event_of n p)
    known = by_test (is_event n) (λ t. let y = by_event true t in (t, cc)) (λ t. let y = by_event false t in absurd (never (cc)))

    pub panel_refused : (m : ℕ) → a ≡ Err m → (m, s) ≡ panel_bytes n p s
    unfolding panel_bytes
    panel_refused m f = simp (known.0) (left_refused (open_of s) a e (λ k. (k, s)) (λ y. (0, stored_form (after (event_of n p) y))) m f)

    module _ (r t : Record) (w : Result (Unit {0}) WriteRefusal) (b : List ℕ) (f : a ≡ Ok r) (h : t ≡ after x r) (d : (written_as w, b) ≡ write_of t s) where
      happened : t ≡ after (event_of n p) r
      happened = h ∙ ap (λ (y : Event). after y r) known.1

      opened_so : open_of s ≡ (0, r)
      opened_so = opens (open_of s) a e r f

      happened-valid : valid t ≡ true
      happened-valid = ap valid happened ∙ after_kept r (opened-valid s r opened_so) (event_of n p)

      pub panel_ok : IsOk w
      panel_ok = replaced_ok s r opened_so t b w happened-valid d

      pub panel_stored : (0, b) ≡ panel_bytes n p s
      unfolding panel_bytes
      panel_stored =
          ap (λ (y : List ℕ). (0, y)) (replaced s r opened_so t b w happened-valid d ∙ ap stored_form happened)
          ∙ simp (known.0) (left_opened (open_of s) a e (λ m. (m, s)) (λ y. (0, stored_form (after (event_of n p) y))) r f)

pub ruleset happening = (panel_none, panel_refused, panel_ok, panel_stored)

-- ---- a silence leaves all as it was, whatever it is answered by
pub quiet_left : (answer : ℕ → ℕ) (c : Outcome) (s o b : List ℕ) (n x : ℕ) → b ≡ c.buffer → c.silence ≡ n → 1 ≤ n → (1 ≤ c.silence → c.buffer ≡ o) → x ≡ answer n
    → (x, (s, b)) ≡ left_of (λ r. r) answer c s o
quiet_left answer c s o b n x same e l f i =
    let z : c.silence ≡ 0 → ⊥ = λ y. omega arith in
    ap (λ (y : ℕ). (y, (s, b))) (i ∙ ap answer (sym e)) ∙ (ap (λ (y : List ℕ). (answer c.silence, (s, y))) (same ∙ f (omega arith)) ∙ simp (ne_eqb _ _ z))

-- ---- a reply leaves itself, and the form of the record after it in place of the one that was read
pub heard_left : (answer : ℕ → ℕ) (c : Outcome) (s o d b : List ℕ) (r t : Record) (m : ℕ) (w : Result (Unit {0}) WriteRefusal) → record { silence = 0; reported = m; after = t; buffer = b } ≡ c
    → open_of s ≡ (0, r) → valid c.after ≡ true → (written_as w, d) ≡ write_of t s → (m, (d, b)) ≡ left_of (λ r. r) answer c s o
heard_left answer c s o d b r t m w h f v i =
    ap (λ (y : List ℕ). (m, (y, b))) (replaced s r f t d w (ap (λ (y : Outcome). valid y.after) h ∙ v) i) ∙ ap (λ (y : Outcome). left_of (λ r. r) answer y s o) h

-- ---- one call on a record
module _ (k : Kind) (r : Record) (q o : List ℕ) (a : Result ℕ Silence) (t : Record) (b : List ℕ) (e : outcome_as a t b ≡ call_of k r q o) where
  -- a silence leaves the buffer
  silent-buffer : 1 ≤ (call_of k r q o).silence → (call_of k r q o).buffer ≡ o
  silent-buffer h =
      ⊎_elim (λ (x : Silenced k r q o). x.same-buffer) (λ (x : Answered k r q o). absurd (omega (arith, x.heard))) (every_input k r q o)

  pub left_silent : (s : List ℕ) (w : Silence) (x : ℕ) → a ≡ Err w → x ≡ silence_answer (silence_number w) → (x, (s, b)) ≡ call_left (call_of k r q o) s o
  unfolding call_left
  left_silent s w x h i =
      let c : (call_of k r q o).silence ≡ silence_number w = ap (λ (y : Outcome). y.silence) (sym e) ∙ ap (λ (y : Result ℕ Silence). (outcome_as y t b).silence) h in
      quiet_left silence_answer (call_of k r q o) s o b (silence_number w) x (ap (λ (y : Outcome). y.buffer) e) c (silence_low w) silent-buffer i

  module _ (m : ℕ) (h : a ≡ Ok m) where
    heard : outcome_as (Ok m) t b ≡ call_of k r q o
    heard = ap (λ (y : Result ℕ Silence). outcome_as y t b) (sym h) ∙ e

    pub reply_fits : m < 2 ^ 32
    reply_fits =
        let c : m ≡ (call_of k r q o).reported = ap (λ (y : Outcome). y.reported) heard in
        ⊎_elim (λ (x : Silenced k r q o). omega (arith, x.nothing)) (λ (x : Answered k r q o). omega (arith, x.high)) (every_input k r q o)

    module _ (s d : List ℕ) (w : Result (Unit {0}) WriteRefusal) (f : open_of s ≡ (0, r)) (i : (written_as w, d) ≡ write_of t s) where
      pub reply_ok : IsOk w
      reply_ok = replaced_ok s r f t d w (ap (λ (y : Outcome). valid y.after) heard ∙ call_keeps_valid k r q o (opened-valid s r f)) i

      pub left_reply : (m, (d, b)) ≡ call_left (call_of k r q o) s o
      unfolding call_left
      left_reply = heard_left silence_answer (call_of k r q o) s o d b r t m w heard f (call_keeps_valid k r q o (opened-valid s r f)) i

pub ruleset calling = (left_silent, reply_fits, reply_ok, left_reply)

-- ---- `khuyapesh_call`
module _ (n : ℕ) (s q o : List ℕ) (i : Result Kind UnknownKind) (e : i ≡ kind_numbered n) where
  pub call_none : (u : UnknownKind) → i ≡ Err u → (no_such, (s, o)) ≡ call_bytes n s q o
  unfolding call_bytes
  call_none u z = simp (kind_none n i e u z)

  module _ (k : Kind) (z : i ≡ Ok k) (a : Result Record ℕ) (f : Opened a (open_of s)) where
    pub call_refused : (m : ℕ) → a ≡ Err m → (m, (s, o)) ≡ call_bytes n s q o
    unfolding call_bytes
    call_refused m h =
        simp ((kind_is n i e k z).0) (left_refused (open_of s) a f (λ x. (x, (s, o))) (λ t. call_left (call_of (kind_of n) t q o) s o) m h)

    pub call_answered : (r : Record) (y : ℕ) (d b : List ℕ) → a ≡ Ok r → (y, (d, b)) ≡ call_left (call_of k r q o) s o → (y, (d, b)) ≡ call_bytes n s q o
    unfolding call_bytes
    call_answered r y d b h g =
        let (known, same) = kind_is n i e k z in
        g ∙ (ap (λ (j : Kind). call_left (call_of j r q o) s o) same
        ∙ simp known (left_opened (open_of s) a f (λ x. (x, (s, o))) (λ t. call_left (call_of (kind_of n) t q o) s o) r h))

pub ruleset serving = (call_none, call_refused, call_answered, opens)

-- ---- several frames on a record
module _ (r : Record) (q o : List ℕ) (a : Result Report Silence) (t : Record) (b : List ℕ) (g : answers.several_as a t b ≡ several_held call_of valid r q o) (s : List ℕ) (f : open_of s ≡ (0, r)) where
  e : answers.several_as a t b ≡ several_of r q o
  e = g ∙ several_of_record r q o

  -- a record that was read is valid, so there is no silence
  pub never_silent : (w : Silence) (n : ℕ) → a ≡ Err w → several_as (Err n) s b ≡ several_left (several_of r q o) s o
  never_silent w n h =
      let c : silence_number w ≡ (several_of r q o).silence = ap (λ (y : Result Report Silence). (answers.several_as y t b).silence) (sym h) ∙ ap (λ (y : Several). y.silence) e in
      absurd (omega (arith, silence_low w, several-heard r q o (opened-valid s r f)))

  module _ (p : Report) (d : List ℕ) (w : Result (Unit {0}) WriteRefusal) (h : a ≡ Ok p) (i : (written_as w, d) ≡ write_of t s) where
    served : answers.several_as (Ok p) t b ≡ several_of r q o
    served = ap (λ (y : Result Report Silence). answers.several_as y t b) (sym h) ∙ e

    served-valid : valid t ≡ true
    served-valid = ap (λ (y : Several). valid y.after) served ∙ several-valid r q o (opened-valid s r f)

    pub served_ok : IsOk w
    served_ok = replaced_ok s r f t d w served-valid i

    pub left_served : several_as (Ok p) d b ≡ several_left (several_of r q o) s o
    unfolding several_left
    left_served =
        ap (λ (y : List ℕ). several_numbers 0 p.taken p.answered p.written y b) (replaced s r f t d w served-valid i) ∙ ap (λ (y : Several). several_left y s o) served

pub ruleset hearing = (never_silent, served_ok, left_served)

-- ---- `khuyapesh_several`
module _ (s q o : List ℕ) (a : Result Record ℕ) (e : Opened a (open_of s)) where
  pub several_refused : (n : ℕ) → a ≡ Err n → several_as (Err n) s o ≡ several_bytes s q o
  unfolding several_bytes
  several_refused n h = left_refused (open_of s) a e (λ m. nothing_taken m s o) (λ t. several_left (several_of t q o) s o) n h

  pub several_answered : (r : Record) (y : SeveralLeft) → a ≡ Ok r → y ≡ several_left (several_of r q o) s o → y ≡ several_bytes s q o
  unfolding several_bytes
  several_answered r y h f = f ∙ left_opened (open_of s) a e (λ m. nothing_taken m s o) (λ t. several_left (several_of t q o) s o) r h

pub ruleset taking = (several_refused, several_answered, opens)

-- what is reported, handed out
pub reported_lem : (x : Result Report ℕ) (n p u w : ℕ) (s o : List ℕ) → reported_as x ≡ (n, (p, (u, w))) → several_numbers n p u w s o ≡ several_as x s o
reported_lem (Ok r) n p u w s o e = sym (ap (λ (y : ℕ × (ℕ × (ℕ × ℕ))). several_numbers y.0 y.1.0 y.1.1.0 y.1.1.1 s o) e)
reported_lem (Err m) n p u w s o e = sym (ap (λ (y : ℕ × (ℕ × (ℕ × ℕ))). several_numbers y.0 y.1.0 y.1.1.0 y.1.1.1 s o) e)

pub handed_out : (x : Result Report ℕ) (y : SeveralLeft) (n p u w : ℕ) (s o : List ℕ) → several_as x s o ≡ y → reported_as x ≡ (n, (p, (u, w))) → several_numbers n p u w s o ≡ y
handed_out x y n p u w s o e f = reported_lem x n p u w s o f ∙ e
