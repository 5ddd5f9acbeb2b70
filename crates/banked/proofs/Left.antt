-- What record and bank are after a call, each as one equation, for any record, bank, kind of link, request bytes and reply buffer: an
-- accepted ET from Stopped or Done adds the batch that it ended, no other call changes the bank, and the record is document 01's. By the
-- cases of a call: a silence, a refusal, and an accepted request. Assumes nothing.
use Prim.Native.Nat.{ℕ}
use mathlib.Core.Bool.{Bool, true, false, ◌&&◌}
use mathlib.Core.Path.{◌≡◌, refl, sym, ap, ◌∙◌}
use mathlib.Core.List.{List}
use mathlib.Core.Logic.{⊎_elim}
use native.Mathlib.Omega.{arith}
use lib.Dec.{eqb}
use lib.ListN.{length}
use borrow.Author.Tests.{eq-eqb, ne_eqb}
use Rattle.base.specs.Test.{pick}
use Rattle.base.proofs.Tests.{by_test, and_left}
use Rattle.state.specs.declared.Record.{Record}
use Rattle.state.specs.Field.{address, phase, get}
use Rattle.state.specs.Valid as state
use Rattle.bank.specs.declared.Bank.{Bank}
use Rattle.bank.specs.Bank.{batch_of, batches_in, keep_of, kept}
use Rattle.bank.specs.Bank as bank
use Rattle.bank.proofs.Theorems.{valid_tell, keep_batches}
use Rattle.frame.specs.declared.Kind.{Kind}
use Rattle.frame.specs.Frame.{text_in}
use Rattle.command.specs.Commands.{code_in, stores_batch}
use Rattle.command.specs.Answer.{Verdict, NO, accepted, record_after}
use Rattle.command.proofs.Beside.{verdict-alone}
use Rattle.controller.specs.Call.{Outcome, OutcomeOf, silent, Hearing, S, text, hearing_of, call_of}
use Rattle.controller.specs.Call as controller
use Rattle.controller.proofs.Hearing.{heard_by, by_hearing}
use Rattle.controller.proofs.Theorems as alone
use Rattle.banked.specs.declared.Banked.{Banked}
use Rattle.banked.specs.Banked.{valid, asks_batch, verdict, bank_for, held_after, replied, banked_of}
use Rattle.banked.specs.Steps.{stored_between, bank_after}
use Rattle.banked.proofs.Phases.{halted, not-idle}
use Rattle.banked.proofs.Steps.{batch_held, other_record, other_bank}
use Rattle.banked.proofs.Theorems.{Silenced, Answered, every_input}

abbrev pub is_accepted : Verdict → Bool
is_accepted (NO n) = false
is_accepted accepted = true

-- the request is heard, it is ET from Stopped or Done, and it is accepted
abbrev pub stores : Kind → Banked → List ℕ → List ℕ → Bool
stores k b q o = eqb (banked_of k b q o).silence 0 && (is_accepted (verdict (text_in k q) b) && stores_batch (code_in (text_in k q)) (get phase b.state))

-- the record that a text leaves is document 01's, whatever the bank
pub record_alone : (t : List ℕ) (b : Banked) → (held_after t b).state ≡ record_after t b.state
record_alone t b =
    by_test (asks_batch t)
    (λ asks. ap (λ (h : Banked). h.state) (batch_held t b asks) ∙ sym (alone.refusal_keeps t b.state 1 (verdict-alone t b.state asks)))
    (λ other. sym (other_record t b other))

module _ (k : Kind) (b : Banked) (q o : List ℕ) where
  -- a silence, or a reply: what is left of what is held
  by_silence : {A : Type 0} (part : Banked → A) → part (banked_of k b q o).after ≡ pick (eqb (banked_of k b q o).silence 0) (part (held_after (text_in k q) b)) (part b)
  by_silence part =
      ⊎_elim
      (λ (s : Silenced k b q o). let l = s.low in simp (ne_eqb (banked_of k b q o).silence 0 (λ z. omega arith)) (ap part s.same_record))
      (λ (a : Answered k b q o). simp (eq-eqb (banked_of k b q o).silence 0 a.heard) (ap part a.next_record)) (every_input k b q o)

  -- the bank: "Demand 2 adds the bank to what ET changes"
  pub bank_exactly : (banked_of k b q o).after.bank ≡ pick (stores k b q o) (keep_of (batch_of b.state) b.bank) b.bank
  unfolding held_after
  bank_exactly = by_silence (λ h. h.bank) ∙ go (eqb (banked_of k b q o).silence 0) (verdict (text_in k q) b)
    where
      go : (h : Bool) (v : Verdict)
          → pick h (bank_for v (text_in k q) b) b.bank ≡ pick (h && (is_accepted v && stores_batch (code_in (text_in k q)) (get phase b.state))) (keep_of (batch_of b.state) b.bank) b.bank
      go true (NO n) = refl
      go true accepted = refl
      go false v = refl

  -- the batches that are kept, oldest first
  pub batches_exactly : bank.valid b.bank ≡ true → batches_in (banked_of k b q o).after.bank ≡ pick (stores k b q o) (kept (batch_of b.state) (batches_in b.bank)) (batches_in b.bank)
  batches_exactly w = ap batches_in bank_exactly ∙ go (stores k b q o)
    where
      go : (s : Bool) → batches_in (pick s (keep_of (batch_of b.state) b.bank) b.bank) ≡ pick s (kept (batch_of b.state) (batches_in b.bank)) (batches_in b.bank)
      go true = keep_batches (batch_of b.state) b.bank (valid_tell b.bank w)
      go false = refl

  -- the record: document 01's, whatever the bank
  pub record_exactly : (banked_of k b q o).after.state ≡ pick (eqb (banked_of k b q o).silence 0) (record_after (text_in k q) b.state) b.state
  record_exactly = by_silence (λ h. h.state) ∙ ap (λ (r : Record). pick (eqb (banked_of k b q o).silence 0) r b.state) (record_alone (text_in k q) b)

  -- and it is the one that the controller without a bank leaves
  pub record_as_alone : valid b ≡ true → (banked_of k b q o).after.state ≡ (call_of k b.state q o).after
  unfolding valid banked_of call_of
  record_as_alone v =
      ap (λ (c : OutcomeOf Banked). c.after.state) (by_hearing (λ (n : ℕ). silent n b o) k a q (replied k (text_in k q) b o) (valid b) (length o))
      ∙ (go (hearing_of k (valid b) a q (length o))
      ∙ sym (ap (λ (c : Outcome). c.after) (by_hearing (λ (n : ℕ). silent n b.state o) k a q (controller.replied k (text_in k q) b.state o) (state.valid b.state) (length o))
      ∙ ap (λ (g : Bool). (heard_by (λ (n : ℕ). silent n b.state o) k a q (controller.replied k (text_in k q) b.state o) (hearing_of k g a q (length o))).after) alike))
    where
      a : ℕ
      a = get address b.state

      alike : state.valid b.state ≡ valid b
      alike = and_left (state.valid b.state) (bank.valid b.bank) v ∙ sym v

      go : (h : Hearing) → (heard_by (λ (n : ℕ). silent n b o) k a q (replied k (text_in k q) b o) h).after.state
          ≡ (heard_by (λ (n : ℕ). silent n b.state o) k a q (controller.replied k (text_in k q) b.state o) h).after
      go (S n) = refl
      go (text n) = record_alone (text_in k q) b

-- ---- the phases before and after tell whether a batch was stored
stays : (r : Record) (k : Bank) → k ≡ bank_after k r r
unfolding bank_after stored_between
stays r k = by_test (halted (get phase r)) (λ h. simp (h, not-idle (get phase r) h)) (λ h. simp h)

module _ (k : Kind) (b : Banked) (q o : List ℕ) where
  text_by_phases : (t : List ℕ) → (held_after t b).bank ≡ bank_after b.bank b.state (held_after t b).state
  text_by_phases t =
      by_test (asks_batch t)
      (λ asks.
      let same = batch_held t b asks in
      ap (λ (h : Banked). h.bank) same ∙ (stays b.state b.bank ∙ ap (λ (h : Banked). bank_after b.bank b.state h.state) (sym same)))
      (λ other. sym (other_bank t b other) ∙ ap (bank_after b.bank b.state) (other_record t b other))

  pub by_phases : (banked_of k b q o).after.bank ≡ bank_after b.bank b.state (banked_of k b q o).after.state
  by_phases =
      ⊎_elim
      (λ (s : Silenced k b q o).
      ap (λ (h : Banked). h.bank) s.same_record
      ∙ (stays b.state b.bank ∙ ap (λ (h : Banked). bank_after b.bank b.state h.state) (sym s.same_record)))
      (λ (a : Answered k b q o).
      ap (λ (h : Banked). h.bank) a.next_record
      ∙ (text_by_phases (text_in k q) ∙ ap (λ (h : Banked). bank_after b.bank b.state h.state) (sym a.next_record))) (every_input k b q o)

  -- where none was stored the bank is as it was
  pub unstored : stored_between b.state (banked_of k b q o).after.state ≡ false → (banked_of k b q o).after.bank ≡ b.bank
  unfolding bank_after
  unstored e = by_phases ∙ simp e
