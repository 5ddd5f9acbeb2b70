-- One law for each return of `call` and of what answers a text. Assumes nothing.
use Prim.Native.Nat.{ℕ, ◌+◌, ◌-◌, ◌≤◌, ◌<◌}
use mathlib.Core.Bool.{Bool, true}
use mathlib.Core.Path.{◌≡◌, refl, sym, ap, ◌∙◌}
use mathlib.Core.List.{List, ◌∷◌, ◌++◌}
use native.Mathlib.Omega.{arith}
use lib.ListN.{length, take, drop, get_or, length-take, length-drop}
use borrow.Rule.Slice.PartMut.{put_mid}
use borrow.Author.Tests.{le-leb, lt-leb}
use Rattle.state.specs.declared.Record.{Record}
use Rattle.state.specs.Field.{address, get}
use Rattle.state.specs.Valid.{valid}
use Rattle.frame.specs.declared.Kind.{Kind}
use Rattle.frame.specs.declared.Silence.{Silence}
use Rattle.frame.specs.declared.BuildRefusal.{BuildRefusal}
use Rattle.frame.specs.declared.BuildRefusal.TheVariants as build
use Rattle.frame.specs.Frame.{all_text, frame_of, text_in}
use Rattle.frame.specs.Numbers.{Answer, accepted, built_as, length_in}
use Rattle.frame.specs.Answer.{build_of, address_of}
use Rattle.base.specs.Lists.{over}
use Rattle.base.proofs.Lists.{over-length, over-over}
use Rattle.frame.proofs.Laws.{framed_built, frame-length, over-held, part_back}
use Rattle.command.specs.declared.Request.{Request}
use Rattle.command.specs.declared.Refusal.{Refusal}
use Rattle.command.specs.declared.Writing.{Writing}
use Rattle.std.specs.Prelude.{Option, Some, None, Result, Ok, Err}
use Rattle.std.specs.Result.{result_unwrap_or}
use Rattle.text.specs.Word.{digits}
use Rattle.command.specs.Answer.{reply_text, record_after}
use Rattle.command.specs.Request.{asked_in, Answered, served_of, answer_as, effect_of, effect_as, served_as}
use Rattle.command.proofs.Agree.{answer_by-steps, record_by_steps}
use Rattle.reply.specs.Reply.{text_for, laid_text, written_of}
use Rattle.text.proofs.Printable.{Text}
use Rattle.reply.proofs.Laws.{longest, served_answers, text_legal}
use Rattle.controller.specs.Call.{OutcomeOf, Outcome, HeldLaws, silent, answered, unless_silent, replied, reply_of, call_of, outcome_as, text, hearing_of, heard_as}
use Rattle.controller.proofs.Hearing.{told_by, by_reader_lem, heard_by, by_hearing, told, text_there}

-- ---- the reply to a text

-- the steps write the reply's text
pub text_by_steps : (t : List ℕ) (r : Record) → text_for (served_of (asked_in t) r).0 r ≡ reply_text t r
unfolding text_for reply_text
text_by_steps t r = ap (λ (xs : List ℕ). digits 2 r.address ++ xs) (answer_by-steps t r)

-- a text laid from the second byte on, and closed
closed : (k : Kind) (x o ys b : List ℕ) (n : ℕ) (y : Answer) → 64 ≤ length o → 4 ≤ length x → length x ≤ 60 → all_text x ≡ true
    → n ≡ length x → ys ≡ over x (take (length o - 1) (drop 1 o))
    → (y, b) ≡ build_of k (take n (drop 1 (put_mid 1 (length o - 1) o ys))) (put_mid 1 (length o - 1) o ys)
    → (y ≡ accepted (length (frame_of k x))) × (b ≡ over (frame_of k x) o)
closed k x o ys b n y room low high legal size laid built =
    let held : List ℕ = over (get_or o 0 0 ∷ x) o in
    let back : put_mid 1 (length o - 1) o ys ≡ held = part_back x o ys (omega arith) laid in
    let text : take n (drop 1 held) ≡ x = over-held x o n (get_or o 0 0) (sym size) in
    let same : length held ≡ length o = over-length (get_or o 0 0 ∷ x) o (omega arith) in
    let longer : length (get_or o 0 0 ∷ x) ≤ length (frame_of k x) = omega (arith, frame-length k x) in
    let made : build_of k x held ≡ (accepted (length (frame_of k x)), over (frame_of k x) held) =
    framed_built k x held (over (frame_of k x) held) (length (frame_of k x)) (record { room = omega arith; low = low; high = high; text = legal; size = refl; left = refl }) in
    let all : ◌≡◌ {A = Answer × List ℕ} (y, b) (accepted (length (frame_of k x)), over (frame_of k x) held) =
    built ∙ (ap (λ (l : List ℕ). build_of k (take n (drop 1 l)) l) back ∙ (ap (λ (l : List ℕ). build_of k l held) text ∙ made)) in
    (ap (λ (p : Answer × List ℕ). p.0) all, ap (λ (p : Answer × List ℕ). p.1) all ∙ over-over (frame_of k x) (get_or o 0 0 ∷ x) o longer)

-- the length of what was built, 0 if nothing was
length_so : (f : Result ℕ BuildRefusal) → result_unwrap_or f 0 ≡ length_in (built_as f)
length_so (Err build.ShortBuffer) = refl
length_so (Err build.TextLength) = refl
length_so (Err build.TextByte) = refl
length_so (Ok n) = refl

-- the same, for a text that was written so
pub sent : (k : Kind) (x o ys b : List ℕ) (n m : ℕ) (f : Result ℕ BuildRefusal) → 64 ≤ length o → Text 4 (2 + longest) x
    → (n, ys) ≡ laid_text x (take (length o - 1) (drop 1 o))
    → (built_as f, b) ≡ build_of k (take n (drop 1 (put_mid 1 (length o - 1) o ys))) (put_mid 1 (length o - 1) o ys)
    → m ≡ result_unwrap_or f 0 → (m ≡ length (frame_of k x)) × (b ≡ over (frame_of k x) o)
unfolding laid_text
sent k x o ys b n m f room legal write build size =
    let long : 60 ≤ length (take (length o - 1) (drop 1 o)) = simp (length-take, length-drop) (omega arith) in
    let wrote : ◌≡◌ {A = ℕ × List ℕ} (n, ys) (length x, over x (take (length o - 1) (drop 1 o))) =
    write ∙ simp (le-leb 60 (length (take (length o - 1) (drop 1 o))) long) in
    let c = closed k x o ys b n (built_as f) room legal.low (let h = legal.high in omega arith) legal.bytes
    (ap (λ (p : ℕ × List ℕ). p.0) wrote) (ap (λ (p : ℕ × List ℕ). p.1) wrote) build in
    (size ∙ (length_so f ∙ ap length_in c.0), c.1)

-- what `reply_to` returns, for a text that was served so
pub reply_made : (k : Kind) (t o ys b : List ℕ) (r : Record) (s : Result Request Refusal) (n m : ℕ) (f : Result ℕ BuildRefusal) (e : Option Writing) → 64 ≤ length o
    → served_as s r ≡ served_of (asked_in t) r → (n, ys) ≡ written_of (answer_as s) r (take (length o - 1) (drop 1 o))
    → (built_as f, b) ≡ build_of k (take n (drop 1 (put_mid 1 (length o - 1) o ys))) (put_mid 1 (length o - 1) o ys)
    → m ≡ result_unwrap_or f 0 → e ≡ effect_of s → outcome_as (Ok m) (effect_as e r) b ≡ reply_of k r t o
unfolding written_of reply_of
reply_made k t o ys b r s n m f e room served write build size left =
    let a : Answered = (served_of (asked_in t) r).0 in
    let text_is : text_for (answer_as s) r ≡ text_for a r = ap (λ (p : Answered × Record). text_for p.0 r) served in
    let record_is : effect_as e r ≡ record_after t r = ap (λ (x : Option Writing). effect_as x r) left ∙ (ap (λ (p : Answered × Record). p.1) served ∙ record_by_steps t r) in
    let (reported, laid) = sent k (text_for a r) o ys b n m f room (text_legal a r (served_answers (asked_in t) r))
    (write ∙ ap (λ (x : List ℕ). laid_text x (take (length o - 1) (drop 1 o))) text_is) build size in
    let size_is : m ≡ length (frame_of k (reply_text t r)) = reported ∙ ap (λ (l : List ℕ). length (frame_of k l)) (text_by_steps t r) in
    let left_is : b ≡ over (frame_of k (reply_text t r)) o = laid ∙ ap (λ (l : List ℕ). over (frame_of k l) o) (text_by_steps t r) in
    simp (record_is, size_is, left_is, le-leb 64 (length o) room)

pub reply_short : (k : Kind) (r : Record) (t o : List ℕ) → length o < 64 → silent 2 r o ≡ reply_of k r t o
unfolding reply_of
reply_short k r t o h = simp (lt-leb 64 (length o) h)

-- ---- the silences
module _ (k : Kind) (r : Record) (q o : List ℕ) where
  -- a call by what the frame's reader tells
  abbrev pub by_reader : Answer → Outcome
  by_reader x = told_by (λ (n : ℕ). silent n r o) k (get address r) q (replied k (text_in k q) r o) x

  pub call_by_reader : valid r ≡ true → 64 ≤ length o → call_of k r q o ≡ by_reader (address_of k q)
  unfolding call_of
  call_by_reader v room = simp v (by_reader_lem (λ (n : ℕ). silent n r o) k (get address r) q (replied k (text_in k q) r o) (length o) room)

  pub call-short : valid r ≡ true → length o < 64 → call_of k r q o ≡ silent 2 r o
  unfolding call_of
  call-short v h = simp (v, lt-leb 64 (length o) h)

-- ---- the call, of whatever a unit holds, by what is heard
module _ {S : Type 0} {valid : S → Bool} {address : S → ℕ} {reply_text : List ℕ → S → List ℕ} {held_after : List ℕ → S → S}
    {changed : Option Writing → S → S} {replied called : Kind → S → List ℕ → List ℕ → OutcomeOf S} (laws : HeldLaws valid address reply_text held_after changed replied called) where
  module _ (k : Kind) (s : S) (q o : List ℕ) (b : Bool) (good : b ≡ valid s) (a : ℕ) (unit : a ≡ address s)
      (h : Result ℕ Silence) (e : heard_as h ≡ hearing_of k b a q (length o)) where
    abbrev reply : OutcomeOf S
    reply = answered k (reply_text (text_in k q) s) (held_after (text_in k q) s) o

    call_by_hearing : (x : Result ℕ Silence) → h ≡ x → called k s q o ≡ heard_by (λ (n : ℕ). silent n s o) k a q reply (heard_as x)
    call_by_hearing x z =
        laws.call k s q o
        ∙ (ap (λ (y : Bool). unless_silent (λ (n : ℕ). silent n s o) k y (address s) q (length o) reply) (sym good)
        ∙ (ap (λ (d : ℕ). unless_silent (λ (n : ℕ). silent n s o) k b d q (length o) reply) (sym unit)
        ∙ (by_hearing (λ (n : ℕ). silent n s o) k a q reply b (length o) ∙ ap (heard_by (λ (n : ℕ). silent n s o) k a q reply) (sym e ∙ ap heard_as z))))

    pub silent_call : (w : Silence) → h ≡ Err w → outcome_as (Err w) s o ≡ called k s q o
    silent_call w z = sym (call_by_hearing (Err w) z)

    -- a reply, and what its effect leaves, carried out or not
    module _ (m : ℕ) (x : Result ℕ Silence) (c : Option Writing) (p : List ℕ) (z : h ≡ Ok m) (w : outcome_as x (changed c s) p ≡ replied k s (take (m + 1 - 1) (drop 1 q)) o) where
      answered_so : outcome_as x (changed c s) p ≡ called k s q o
      answered_so =
          let is_text : text m ≡ hearing_of k b a q (length o) = sym (ap heard_as z) ∙ e in
          let t = told k b a q (length o) m is_text in
          let there = text_there k b a q (length o) m is_text in
          let made : replied k s (text_in k q) o ≡ reply = laws.reply k s (text_in k q) o ∙ simp (le-leb 64 (length o) t.enough) in
          w ∙ (ap (λ (y : List ℕ). replied k s y o) there ∙ (made ∙ sym (call_by_hearing (Ok m) z)))

      pub changed_call : (v : Writing) (s' : S) → c ≡ Some v → s' ≡ changed (Some v) s → outcome_as x s' p ≡ called k s q o
      changed_call v s' f i = ap (λ (y : S). outcome_as x y p) (i ∙ ap (λ (d : Option Writing). changed d s) (sym f)) ∙ answered_so

      pub unchanged_call : c ≡ None → outcome_as x s p ≡ called k s q o
      unchanged_call f = ap (λ (y : S). outcome_as x y p) (sym (laws.unchanged s) ∙ ap (λ (d : Option Writing). changed d s) (sym f)) ∙ answered_so
