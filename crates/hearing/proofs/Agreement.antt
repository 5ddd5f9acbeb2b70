-- When an exchange agrees with a record, and which record follows. A request that names the record's address is answered: the reply
-- agrees exactly if it is a frame whose text is the address digits and the reply that the code's steps give. Any other request meets
-- silence. A call is taken by what the request's reader tells, and a frame by its round trip. Assumes nothing.
use Prim.Native.Nat.{ℕ, ◌≤◌}
use mathlib.Core.Bool.{Bool, true, false}
use mathlib.Core.Path.{◌≡◌, refl, sym, ap, subst, ◌∙◌}
use mathlib.Core.List.{List, [], ◌++◌}
use mathlib.Core.Logic.{◌↔◌}
use native.Mathlib.Omega.{arith}
use lib.Dec.{eqb}
use lib.ListN.{length, take, drop, replicate, take-append-drop}
use lib.Seq.{take_at, drop_at}
use borrow.Author.Tests.{eq-eqb, eqb-true}
use Rattle.base.specs.Test.{unless}
use Rattle.base.specs.Lists.{over}
use Rattle.state.specs.declared.Record.{Record}
use Rattle.state.specs.Field.{address, get}
use Rattle.state.specs.Valid.{valid}
use Rattle.frame.specs.declared.Kind.TheVariants.{Minicomputer}
use Rattle.frame.specs.Frame.{frame_of, text_in}
use Rattle.frame.specs.Numbers.{Answer, H, S, accepted, unit}
use Rattle.frame.specs.Answer.{locate_of, read_of}
use Rattle.base.proofs.Lists.{over-take}
use Rattle.frame.proofs.Laws.{found, found_located, Taken, taken, named}
use Rattle.frame.proofs.RoundTrip.{reframed}
use Rattle.text.specs.Word.{digits}
use Rattle.command.specs.Answer.{verdict, reply_for, reply_text, record_after}
use Rattle.command.specs.Request.{asked_in, answer_text, served_of}
use Rattle.command.proofs.Agree.{answer_by-steps, record_by_steps}
use Rattle.text.proofs.Words.{digits-length}
use Rattle.controller.specs.Call.{Outcome, silent, replied}
use Rattle.controller.proofs.Steps.{by_reader, call_by_reader}
use Rattle.controller.proofs.Theorems.{host_reads}
use Rattle.recording.specs.Form.{Exchange}
use Rattle.recording.specs.Alone.{called, Agrees, next}
use Rattle.hearing.specs.Hearing.{asked, heard, told}
use Rattle.hearing.proofs.Says.{due_by, reader, Names, FromUnit}

-- ---- frames

-- what is located is the frame of its text
located_frame : (f u : List ℕ) (n : ℕ) → locate_of Minicomputer f ≡ accepted n → text_in Minicomputer f ≡ u → f ≡ frame_of Minicomputer u
located_frame f u n e t = sym (reframed Minicomputer f n (found Minicomputer f n e)) ∙ ap (frame_of Minicomputer) t

-- what the code's steps reply to the request, behind the address digits, and the record that they leave
abbrev pub step_reply : Exchange → Record → List ℕ
step_reply e r = answer_text (served_of (asked_in (asked e)) r).0 r

abbrev pub step_record : Exchange → Record → Record
step_record e r = (served_of (asked_in (asked e)) r).1

-- ---- one exchange, from one valid record with the address a
module _ (a : ℕ) (r : Record) (e : Exchange) (own : get address r ≡ a) (v : valid r ≡ true) where
  -- a call by what the request's reader tells
  by_reader_lem : List ℕ → Answer → Outcome
  by_reader_lem o y = by_reader Minicomputer r e.request o y

  read : (o : List ℕ) → 64 ≤ length o → called r e o ≡ by_reader_lem o (reader a e)
  unfolding by_reader_lem
  read o l = call_by_reader Minicomputer r e.request o v l

  -- the silence that is due goes out
  pub met : (o : List ℕ) → 64 ≤ length o → (called r e o).silence ≡ due_by a (reader a e)
  unfolding by_reader_lem
  met o l = ap (λ (x : Outcome). x.silence) (read o l) ∙ go (reader a e)
    where
      unit_so : (t : Bool) → (unless t (silent 8 r o) (replied Minicomputer (asked e) r o)).silence ≡ unless t 8 0
      unit_so true = refl
      unit_so false = refl

      go : (y : Answer) → (by_reader_lem o y).silence ≡ due_by a y
      go (S n) = refl
      go (unit b n) = unit_so (eqb b r.address) ∙ ap (λ (i : ℕ). unless (eqb b i) 8 0) own
      go (H n) = refl
      go (accepted n) = refl

  -- ---- a request that meets silence

  -- nothing is reported, and the record stays
  record Quiet (x : Outcome) : Type 0 where
    nothing : x.reported ≡ 0
    same_record : x.after ≡ r

  module _ (other : Names a e → ⊥) where
    quiet : (o : List ℕ) → 64 ≤ length o → Quiet (called r e o)
    unfolding by_reader_lem
    quiet o l = subst Quiet (sym (read o l)) (go (reader a e) refl)
      where
        unit_so : (b n : ℕ) → reader a e ≡ unit b n → (t : Bool) → eqb b r.address ≡ t
            → Quiet (unless t (silent 8 r o) (replied Minicomputer (asked e) r o))
        unit_so b n q true i = absurd (other (n, q ∙ ap (λ (x : ℕ). unit x n) (eqb-true b r.address i ∙ own)))
        unit_so b n q false i = record { nothing = refl; same_record = refl }

        go : (y : Answer) → reader a e ≡ y → Quiet (by_reader_lem o y)
        go (S n) q = record { nothing = refl; same_record = refl }
        go (unit b n) q = unit_so b n q (eqb b r.address) refl
        go (H n) q = record { nothing = refl; same_record = refl }
        go (accepted n) q = record { nothing = refl; same_record = refl }

    pub silence_exactly : Agrees r e ↔ e.reply ≡ []
    silence_exactly = (
      λ g.
          let o : List ℕ = replicate 64 0 in
          sym (g o refl).1 ∙ ap (λ (i : ℕ). take i (called r e o).buffer) (quiet o (omega arith)).nothing,
      λ h o l.
          let n = (quiet o (omega arith)).nothing in
          (n ∙ sym (ap length h), ap (λ (i : ℕ). take i (called r e o).buffer) n ∙ sym h),
    )

    pub silence_after : next r e ≡ r
    silence_after = (quiet (replicate 64 0) (omega arith)).same_record

  -- ---- a request that is answered
  module _ (n : ℕ) (h : reader a e ≡ unit a n) where
    -- the reply's text and its frame
    abbrev text : List ℕ
    text = reply_text (asked e) r

    abbrev frame : List ℕ
    frame = frame_of Minicomputer text

    answered : (o : List ℕ) → 64 ≤ length o → called r e o ≡ replied Minicomputer (asked e) r o
    unfolding by_reader_lem
    answered o l = read o l ∙ (ap (by_reader_lem o) h ∙ ap (λ (t : Bool). unless t (silent 8 r o) (replied Minicomputer (asked e) r o)) (eq-eqb a r.address (sym own)))

    shown : (o : List ℕ) → 64 ≤ length o → take (called r e o).reported (called r e o).buffer ≡ frame
    shown o l = ap (λ (x : Outcome). take x.reported x.buffer) (answered o l) ∙ over-take frame o (length frame) refl

    pub frame_exactly : Agrees r e ↔ e.reply ≡ frame_of Minicomputer (reply_text (asked e) r)
    frame_exactly = (
      λ g. sym (g (replicate 64 0) refl).1 ∙ shown (replicate 64 0) (omega arith),
      λ s o l. (ap (λ (x : Outcome). x.reported) (answered o (omega arith)) ∙ sym (ap length s), shown o (omega arith) ∙ sym s),
    )

    pub answer_after : next r e ≡ record_after (asked e) r
    answer_after = ap (λ (x : Outcome). x.after) (answered (replicate 64 0) (omega arith))

    -- ---- the same by the code's steps

    -- the host side reads the reply's frame back
    read_back : (o : List ℕ) → 64 ≤ length o → read_of Minicomputer frame o ≡ (accepted (length text), over text o)
    read_back o l =
        ap (λ (f : List ℕ). read_of Minicomputer f o) (sym (shown o l))
        ∙ host_reads Minicomputer r e.request o o (ap (λ (x : Outcome). x.silence) (answered o l)) l

    -- a reply that agrees is a frame with the reply's text
    reply_located : Agrees r e → (locate_of Minicomputer e.reply ≡ accepted (length text)) × (heard e ≡ text)
    reply_located g =
        let o : List ℕ = replicate 64 0 in
        let t : Taken Minicomputer frame o (over text o) (length text) =
        taken Minicomputer frame o (over text o) (length text) (read_back o (omega arith)) in
        let s = frame_exactly.0 g in (
          ap (locate_of Minicomputer) s ∙ found_located Minicomputer frame (length text) t.text,
          ap (text_in Minicomputer) s
              ∙ (sym (over-take (text_in Minicomputer frame) o (length text) t.text.size)
              ∙ (ap (take (length text)) t.left ∙ over-take text o (length text) refl)),
        )

    text_parts : text ≡ digits 2 a ++ step_reply e r
    unfolding reply_text
    text_parts =
        ap (λ (i : ℕ). digits 2 i ++ reply_for (verdict (asked e) r) (asked e) r) own
        ∙ ap (λ (xs : List ℕ). digits 2 a ++ xs) (sym (answer_by-steps (asked e) r))

    pub reply_exactly : Agrees r e ↔ ((m : ℕ) × FromUnit a e m) × (step_reply e r ≡ told e)
    reply_exactly = (tells, agrees)
      where
        tells : Agrees r e → ((m : ℕ) × FromUnit a e m) × (step_reply e r ≡ told e)
        tells g =
            let l = reply_located g in
            let s : heard e ≡ digits 2 a ++ step_reply e r = l.1 ∙ text_parts in (
              (length text, (l.0, ap (take 2) s ∙ take_at (digits 2 a) (step_reply e r) 2 (digits-length 2 a))),
              sym (ap (drop 2) s ∙ drop_at (digits 2 a) (step_reply e r) 2 (digits-length 2 a)),
            )

        agrees : ((m : ℕ) × FromUnit a e m) × (step_reply e r ≡ told e) → Agrees r e
        agrees ((m, (located, named)), b) =
            let s : heard e ≡ text =
            sym (take-append-drop 2 (heard e)) ∙ (ap (λ (xs : List ℕ). xs ++ told e) named
            ∙ (ap (λ (xs : List ℕ). digits 2 a ++ xs) (sym b) ∙ sym text_parts)) in
            frame_exactly.1 (located_frame e.reply text m located s)

    pub reply_after : next r e ≡ step_record e r
    reply_after = answer_after ∙ sym (record_by_steps (asked e) r)
