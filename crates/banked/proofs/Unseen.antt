-- A request that asks for no kept batch, or is silent, gets from a controller with a valid bank what it gets without one: silence, length,
-- record and buffer are document 01's, whatever the bank. What is held stays valid, and the address stays. Assumes nothing.
use Prim.Native.Nat.{ℕ, ◌≤◌}
use mathlib.Core.Bool.{Bool, true, false}
use mathlib.Core.Path.{◌≡◌, sym, ap, ◌∙◌}
use mathlib.Core.List.{List}
use native.Mathlib.Omega.{arith}
use lib.ListN.{length}
use borrow.Author.Tests.{le-leb}
use Rattle.base.specs.Test.{pick}
use Rattle.base.proofs.FirstFailing.{not_both}
use Rattle.base.proofs.Tests.{by_test, and_yes, and_left, and_right, between_low, between_high}
use Rattle.state.specs.declared.Record.{Record}
use Rattle.state.specs.declared.Range.{Range}
use Rattle.state.specs.declared.ParameterKind.TheVariants.{Factor}
use Rattle.state.specs.Parameter.{kind_range, recipe_place}
use Rattle.state.specs.Field.{address, phase, recipe, preset, raw, number, value, get}
use Rattle.state.specs.Valid.{within}
use Rattle.state.specs.Valid as state
use Rattle.state.proofs.Kept.{field_in}
use Rattle.state.proofs.Parameters.{range-given-kind}
use Rattle.bank.specs.Bank.{all_within, batch_valid, batch_of, keep_of}
use Rattle.bank.specs.Bank as bank
use Rattle.bank.proofs.Theorems.{valid_tell, keep_valid}
use Rattle.frame.specs.declared.Kind.{Kind}
use Rattle.frame.specs.Frame.{text_in}
use Rattle.command.specs.Commands.{code_in, stores_batch}
use Rattle.command.specs.Answer.{Verdict, NO, accepted}
use Rattle.command.specs.Answer as tables
use Rattle.controller.specs.Call.{Outcome, OutcomeOf, silent, answered, Hearing, S, text, hearing_of, call_of}
use Rattle.controller.specs.Call as controller
use Rattle.controller.proofs.Hearing.{heard_by, by_hearing}
use Rattle.controller.proofs.Theorems.{call_keeps_valid, address_kept}
use Rattle.banked.specs.declared.Banked.{Banked}
use Rattle.banked.specs.Banked.{with, beside, valid, asks_batch, verdict, bank_for, reply_text, held_after, replied, banked_of, asks_heard}
use Rattle.banked.proofs.Steps.{other_text, other_record, batch_held}

-- ---- a text that asks for no kept batch
module _ (k : Kind) (t : List ℕ) (b : Banked) (o : List ℕ) (other : asks_batch t ≡ false) where
  pub replied-beside : replied k t b o ≡ beside (controller.replied k t b.state o) (held_after t b).bank
  replied-beside =
      ap (λ (x : List ℕ). answered k x (held_after t b) o) (sym (other_text t b other))
      ∙ ap (λ (r : Record). answered k (tables.reply_text t b.state) (with r (held_after t b).bank) o) (sym (other_record t b other))

-- ---- a request

-- what is heard by a unit that holds what is valid, and lends a buffer with room
heard_alike : (k : Kind) (good : Bool) (a : ℕ) (q : List ℕ) (room : ℕ) → good ≡ true → 64 ≤ room → hearing_of k good a q room ≡ hearing_of k true a q 64
unfolding hearing_of
heard_alike k good a q room g l = simp (g, le-leb 64 room l)

module _ (k : Kind) (b : Banked) (q o : List ℕ) (v : valid b ≡ true) (room : 64 ≤ length o) where
  abbrev a : ℕ
  a = get address b.state

  pub valid_record : state.valid b.state ≡ true
  unfolding valid
  valid_record = and_left (state.valid b.state) (bank.valid b.bank) v

  pub valid_bank : bank.valid b.bank ≡ true
  unfolding valid
  valid_bank = and_right (state.valid b.state) (bank.valid b.bank) v

  banked_heard : banked_of k b q o ≡ heard_by (λ (n : ℕ). silent n b o) k a q (replied k (text_in k q) b o) (hearing_of k true a q 64)
  unfolding banked_of
  banked_heard =
      by_hearing (λ (n : ℕ). silent n b o) k a q (replied k (text_in k q) b o) (valid b) (length o)
      ∙ ap (heard_by (λ (n : ℕ). silent n b o) k a q (replied k (text_in k q) b o)) (heard_alike k (valid b) a q (length o) v room)

  call-heard : call_of k b.state q o ≡ heard_by (λ (n : ℕ). silent n b.state o) k a q (controller.replied k (text_in k q) b.state o) (hearing_of k true a q 64)
  unfolding call_of
  call-heard =
      by_hearing (λ (n : ℕ). silent n b.state o) k a q (controller.replied k (text_in k q) b.state o) (state.valid b.state) (length o)
      ∙ ap (heard_by (λ (n : ℕ). silent n b.state o) k a q (controller.replied k (text_in k q) b.state o)) (heard_alike k (state.valid b.state) a q (length o) valid_record room)

  -- "what the banked call answers to any other request is the call's, whatever the valid bank"
  pub unseen : asks_heard k a q ≡ false → banked_of k b q o ≡ beside (call_of k b.state q o) (banked_of k b q o).after.bank
  unfolding asks_heard
  unseen e =
      go (hearing_of k true a q 64) (by_hearing (λ (n : ℕ). false) k a q (asks_batch (text_in k q)) true 64) banked_heard call-heard
    where
      go : (h : Hearing) → asks_heard k a q ≡ heard_by (λ (n : ℕ). false) k a q (asks_batch (text_in k q)) h
          → banked_of k b q o ≡ heard_by (λ (n : ℕ). silent n b o) k a q (replied k (text_in k q) b o) h
          → call_of k b.state q o ≡ heard_by (λ (n : ℕ). silent n b.state o) k a q (controller.replied k (text_in k q) b.state o) h
          → banked_of k b q o ≡ beside (call_of k b.state q o) (banked_of k b q o).after.bank
      go (S n) f g h = g ∙ (ap (λ (c : Outcome). beside c b.bank) (sym h) ∙ ap (beside (call_of k b.state q o)) (ap (λ (c : OutcomeOf Banked). c.after.bank) (sym g)))
      go (text n) f g h =
          g ∙ (replied-beside k (text_in k q) b o (sym f ∙ e)
          ∙ (ap (λ (c : Outcome). beside c (held_after (text_in k q) b).bank) (sym h)
          ∙ ap (beside (call_of k b.state q o)) (ap (λ (c : OutcomeOf Banked). c.after.bank) (sym g))))

  -- one that does is answered from the bank, and changes nothing
  pub seen : asks_heard k a q ≡ true → banked_of k b q o ≡ answered k (reply_text (text_in k q) b) b o
  unfolding asks_heard
  seen e =
      go (hearing_of k true a q 64) (by_hearing (λ (n : ℕ). false) k a q (asks_batch (text_in k q)) true 64) banked_heard
    where
      go : (h : Hearing) → asks_heard k a q ≡ heard_by (λ (n : ℕ). false) k a q (asks_batch (text_in k q)) h
          → banked_of k b q o ≡ heard_by (λ (n : ℕ). silent n b o) k a q (replied k (text_in k q) b o) h → banked_of k b q o ≡ answered k (reply_text (text_in k q) b) b o
      go (S n) f g = not_both (asks_heard k a q) e f
      go (text n) f g = g ∙ ap (λ (h : Banked). answered k (reply_text (text_in k q) b) h o) (batch_held (text_in k q) b (sym f ∙ e))

-- ---- what is held stays valid, whatever is asked

-- the batch of a valid record is valid
pub batch_valid_lem : (r : Record) → state.valid r ≡ true → batch_valid (batch_of r) ≡ true
unfolding batch_of batch_valid all_within
batch_valid_lem r v =
    let i = field_in r v recipe (omega arith) in
    let few = between_high _ _ (get recipe r) i in
    let low = between_low _ _ (get recipe r) i in
    let factor_in : within (kind_range Factor) (get (value (recipe_place (get recipe r) Factor)) r) ≡ true =
    ap (λ (g : Range). within g (get (value (recipe_place (get recipe r) Factor)) r)) (range-given-kind (get recipe r) Factor low few)
    ∙ field_in r v (value (recipe_place (get recipe r) Factor)) (omega arith) in
    simp (field_in r v number (omega arith), i, factor_in, field_in r v raw (omega arith), field_in r v preset (omega arith))

module _ (t : List ℕ) (b : Banked) (v : state.valid b.state ≡ true) (w : bank.valid b.bank ≡ true) where
  pub bank_left-valid : bank.valid (held_after t b).bank ≡ true
  unfolding held_after
  bank_left-valid = go (verdict t b)
    where
      picked : (s : Bool) → bank.valid (pick s (keep_of (batch_of b.state) b.bank) b.bank) ≡ true
      picked true = keep_valid (batch_of b.state) b.bank (valid_tell b.bank w) (batch_valid_lem b.state v)
      picked false = w

      go : (u : Verdict) → bank.valid (bank_for u t b) ≡ true
      go (NO n) = w
      go accepted = picked (stores_batch (code_in t) (get phase b.state))

module _ (k : Kind) (b : Banked) (q o : List ℕ) (v : valid b ≡ true) (room : 64 ≤ length o) where
  pub stays_valid : valid (banked_of k b q o).after ≡ true
  unfolding valid
  stays_valid =
      by_test (asks_heard k (get address b.state) q)
      (λ e. ap (λ (c : OutcomeOf Banked). valid c.after) (seen k b q o v room e) ∙ v)
      (λ e. and_yes (state.valid (banked_of k b q o).after.state) (bank.valid (banked_of k b q o).after.bank)
      (ap (λ (c : OutcomeOf Banked). state.valid c.after.state) (unseen k b q o v room e) ∙ call_keeps_valid k b.state q o (valid_record k b q o v room))
      bank_stays)
    where
      bank_stays : bank.valid (banked_of k b q o).after.bank ≡ true
      bank_stays = go (hearing_of k true (get address b.state) q 64) (banked_heard k b q o v room)
        where
          go : (h : Hearing) → banked_of k b q o ≡ heard_by (λ (n : ℕ). silent n b o) k (get address b.state) q (replied k (text_in k q) b o) h
              → bank.valid (banked_of k b q o).after.bank ≡ true
          go (S n) g = ap (λ (c : OutcomeOf Banked). bank.valid c.after.bank) g ∙ valid_bank k b q o v room
          go (text n) g =
              ap (λ (c : OutcomeOf Banked). bank.valid c.after.bank) g ∙ bank_left-valid (text_in k q) b (valid_record k b q o v room) (valid_bank k b q o v room)

  pub same_address : get address (banked_of k b q o).after.state ≡ get address b.state
  same_address =
      by_test (asks_heard k (get address b.state) q)
      (λ e. ap (λ (c : OutcomeOf Banked). get address c.after.state) (seen k b q o v room e))
      (λ e. ap (λ (c : OutcomeOf Banked). get address c.after.state) (unseen k b q o v room e) ∙ address_kept k b.state q o)
