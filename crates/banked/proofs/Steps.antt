-- One law for each return of the banked call and of the functions below it. Assumes nothing.
use Prim.Native.Nat.{ℕ, ◌-◌, ◌≤◌, ◌<◌}
use mathlib.Core.Bool.{Bool, true, false}
use mathlib.Core.Path.{◌≡◌, refl, sym, ap, ◌∙◌}
use mathlib.Core.List.{List, ◌++◌}
use lib.Dec.{eqb}
use lib.ListN.{length, take, drop}
use borrow.Author.Tests.{le-leb, lt-leb}
use Rattle.base.specs.Test.{pick}
use Rattle.state.specs.declared.Record.{Record}
use Rattle.state.specs.Field.{address, get}
use Rattle.bank.specs.Bank.{is_kept, batch_at, newest_of}
use Rattle.frame.specs.declared.Kind.{Kind}
use Rattle.frame.specs.declared.Silence.{Silence}
use Rattle.frame.specs.declared.BuildRefusal.{BuildRefusal}
use Rattle.std.specs.Prelude.{Option, Some, None, Result, Ok}
use Rattle.std.specs.Result.{result_unwrap_or}
use Rattle.frame.specs.Frame.{frame_of}
use Rattle.frame.specs.Numbers.{built_as}
use Rattle.frame.specs.Answer.{build_of}
use borrow.Rule.Slice.PartMut.{put_mid}
use Rattle.text.specs.Word.{digits}
use Rattle.command.specs.Commands.{ET, code_in, applied}
use Rattle.command.specs.Answer.{Verdict, NO, accepted, behind_code, arguments_in, record_for}
use Rattle.command.specs.Answer as tables
use Rattle.command.specs.Request.{batch_in}
use Rattle.command.proofs.Beside.{batch_told, none_told, verdict_other, verdict_batch, own_code, batch_changes_none}
use Rattle.reply.specs.declared.Kept.{Kept}
use Rattle.reply.specs.Reply.{laid_text, kept_words, kept_text}
use Rattle.reply.proofs.Laws.{kept_legal}
use Rattle.controller.specs.Call.{Outcome, silent, answered, outcome_as, text, hearing_of, heard_as}
use Rattle.controller.specs.Call as controller
use Rattle.controller.proofs.Steps.{sent}
use Rattle.banked.specs.declared.Banked.{Banked}
use Rattle.banked.specs.Banked.{with, asks_batch, asked, verdict, reply_for, bank_for, reply_text, held_after, replied, reply_of}
use Rattle.banked.specs.Steps.{answer_by, answer_for, bank_after, changed_as, banked_laws}
use Rattle.command.specs.declared.Writing.{Writing}
use Rattle.command.specs.Request.{effect_as}
use Rattle.banked.proofs.Phases.{bank_kept}

-- ---- the reply to a text
pub reply_short : (k : Kind) (b : Banked) (t o : List ℕ) → length o < 64 → silent 2 (changed_as None b) o ≡ reply_of k b t o
unfolding reply_of
reply_short k b t o h = ap (λ (s : Banked). silent 2 s o) (banked_laws.unchanged b) ∙ simp (lt-leb 64 (length o) h)

-- RT R NNN: the answer's text is the reply's, and nothing changes
module _ (t : List ℕ) (b : Banked) (asks : asks_batch t ≡ true) where
  pub batch_text : kept_text (get address b.state) (answer_for (asked t) b.bank) ≡ reply_text t b
  unfolding kept_text reply_text answer_for newest_of
  batch_text =
      ap (λ (x : List ℕ). digits 2 (get address b.state) ++ x) (go (is_kept (asked t) b.bank) (verdict_batch t b.state asks b.bank.count))
    where
      go : (c : Bool) → verdict t b ≡ pick c accepted (NO 3)
          → kept_words (answer_by (asked t) (pick c (Some (batch_at (asked t) b.bank)) None)) ≡ reply_for (verdict t b) t b
      go true e = sym (ap (λ (v : Verdict). reply_for v t b) e ∙ simp asks)
      go false e = sym (ap (λ (v : Verdict). reply_for v t b) e)

  pub batch_held : held_after t b ≡ b
  unfolding held_after applied
  batch_held = go (verdict t b)
    where
      not-stored : eqb (code_in t) ET ≡ false
      not-stored = ap (λ (c : ℕ). eqb c ET) (own_code (code_in t) (behind_code t) asks)

      go : (v : Verdict) → with (record_for v t b.state) (bank_for v t b) ≡ b
      go (NO n) = refl
      go accepted = simp (batch_changes_none t b.state asks (arguments_in t), not-stored)

-- any other text: the reply's text and the record afterwards are document 01's, and the phases tell of the bank
module _ (t : List ℕ) (b : Banked) (other : asks_batch t ≡ false) where
  pub same-verdict : verdict t b ≡ tables.verdict t b.state
  same-verdict = verdict_other b.bank.count t b.state other

  pub other_text : tables.reply_text t b.state ≡ reply_text t b
  unfolding reply_text tables.reply_text
  other_text =
      ap (λ (u : List ℕ). digits 2 (get address b.state) ++ u) (go (tables.verdict t b.state) ∙ ap (λ (v : Verdict). reply_for v t b) (sym same-verdict))
    where
      go : (v : Verdict) → tables.reply_for v t b.state ≡ reply_for v t b
      go (NO n) = refl
      go accepted = simp other

  pub other_record : tables.record_after t b.state ≡ (held_after t b).state
  unfolding held_after tables.record_after
  other_record = ap (λ (v : Verdict). record_for v t b.state) (sym same-verdict)

  pub other_bank : bank_after b.bank b.state (tables.record_after t b.state) ≡ (held_after t b).bank
  unfolding held_after tables.record_after
  other_bank = bank_kept t b.state b.bank ∙ ap (λ (v : Verdict). bank_for v t b) (sym same-verdict)

module _ (k : Kind) (b : Banked) (t o : List ℕ) (room : 64 ≤ length o) where
  replied_so : replied k t b o ≡ reply_of k b t o
  unfolding reply_of
  replied_so = simp (le-leb 64 (length o) room)

  module _ (y : Option ℕ) (e : y ≡ batch_in t) where
    pub batch_replied : (number : ℕ) (x : Option Kept) (ys p : List ℕ) (n m : ℕ) (f : Result ℕ BuildRefusal) → y ≡ Some number → x ≡ answer_for number b.bank
        → (n, ys) ≡ laid_text (kept_text (get address b.state) x) (take (length o - 1) (drop 1 o))
        → (built_as f, p) ≡ build_of k (take n (drop 1 (put_mid 1 (length o - 1) o ys))) (put_mid 1 (length o - 1) o ys)
        → m ≡ result_unwrap_or f 0 → outcome_as (Ok m) (changed_as None b) p ≡ reply_of k b t o
    batch_replied number x ys p n m f z w write build size =
        let (asks, number_is) = batch_told t number (sym e ∙ z) in
        let a : ℕ = get address b.state in
        let text_is : kept_text a x ≡ reply_text t b = ap (kept_text a) (w ∙ ap (λ (i : ℕ). answer_for i b.bank) number_is) ∙ batch_text t b asks in
        let (reported, left) = sent k (kept_text a x) o ys p n m f room (kept_legal a x) write build size in
        let made : outcome_as (Ok m) b p ≡ answered k (kept_text a x) b o =
        ap (λ (i : ℕ). outcome_as (Ok i) b p) reported ∙ ap (λ (l : List ℕ). outcome_as (Ok (length (frame_of k (kept_text a x)))) b l) left in
        ap (λ (s : Banked). outcome_as (Ok m) s p) (banked_laws.unchanged b) ∙ made ∙ (ap (λ (u : List ℕ). answered k u b o) text_is ∙ (ap (λ (u : Banked). answered k (reply_text t b) u o) (sym (batch_held t b asks)) ∙ replied_so))

    pub other_replied : (a : Result ℕ Silence) (c : Option Writing) (p : List ℕ) → y ≡ None
        → outcome_as a (effect_as c b.state) p ≡ controller.reply_of k b.state t o → outcome_as a (changed_as c b) p ≡ reply_of k b t o
    unfolding controller.reply_of
    other_replied a c p z w =
        let other : asks_batch t ≡ false = none_told t (sym e ∙ z) in
        let made : outcome_as a (effect_as c b.state) p ≡ controller.replied k t b.state o = w ∙ simp (le-leb 64 (length o) room) in
        let u_is : effect_as c b.state ≡ tables.record_after t b.state = ap (λ (x : Outcome). x.after) made in
        let k_is : bank_after b.bank b.state (effect_as c b.state) ≡ (held_after t b).bank = ap (bank_after b.bank b.state) u_is ∙ other_bank t b other in
        let held_is : changed_as c b ≡ held_after t b =
        ap (λ (r : Record). with r (bank_after b.bank b.state (effect_as c b.state))) (u_is ∙ other_record t b other) ∙ ap (with (held_after t b).state) k_is in
        ap (λ (x : Outcome). record { silence = x.silence; reported = x.reported; after = changed_as c b; buffer = x.buffer }) made
        ∙ (ap (λ (s : Banked). answered k (tables.reply_text t b.state) s o) held_is ∙ (ap (λ (l : List ℕ). answered k l (held_after t b) o) (other_text t b other) ∙ replied_so))
