-- What RT R NNN shows of a valid record and bank, and what it shows directly after a call that stored a batch: 001 is the batch that was
-- ended, and each older one is asked for by one more than before. By the laws of the bank and of a frame that is heard. Assumes nothing.
use Prim.Native.Nat.{ℕ, ◌+◌, ◌≤◌, ◌<◌}
use mathlib.Core.Bool.{Bool, true, false}
use mathlib.Core.Path.{◌≡◌, refl, sym, ap, subst, ◌∙◌}
use mathlib.Core.List.{List, ◌++◌}
use native.Mathlib.Omega.{arith}
use lib.ListN.{length}
use Rattle.base.specs.Text.{text}
use Rattle.base.specs.Test.{pick, all_between}
use Rattle.base.proofs.Tests.{between_yes}
use Rattle.state.specs.Field.{address, phase, raw, get}
use Rattle.state.proofs.Validity.{valid_tell}
use Rattle.bank.specs.declared.Bank.{Bank}
use Rattle.std.specs.Prelude.{Some, None}
use Rattle.bank.specs.Bank.{most, batch_of, keep_of, is_kept, batch_at, newest_of}
use Rattle.bank.proofs.Theorems.{Valid, stored_newest, stored-first, stored_older, stored_kept, stored_gone}
use Rattle.bank.proofs.Theorems as bank
use Rattle.frame.specs.declared.Kind.{Kind}
use Rattle.frame.specs.Frame.{frame_of, text_in}
use Rattle.text.specs.Word.{digits, equal}
use Rattle.text.proofs.Printable.{Text, text_wider, text_joined, text-digits, text-labelled}
use Rattle.text.proofs.Words.{value-digits, digits_all}
use Rattle.command.specs.Commands.{code_in, digits_between, batch_asked, batch_shown, stores_batch}
use Rattle.command.specs.Answer.{accepted, refusal_text}
use Rattle.reply.specs.Reply.{kept_words, kept_text}
use Rattle.controller.specs.Call.{silent, answered}
use Rattle.controller.proofs.ReadBack.{named, numbered, frame-heard}
use Rattle.banked.specs.declared.Banked.{Banked}
use Rattle.banked.specs.Banked.{valid, asks_batch, asked, verdict, reply_text, held_after, replied, banked_of}
use Rattle.banked.specs.Steps.{answer_by, answer_for}
use Rattle.banked.proofs.Steps.{batch_text, batch_held}
use Rattle.banked.proofs.Unseen.{valid_record, valid_bank, stays_valid, same_address}
use Rattle.banked.proofs.Theorems.{Answered, is_answered}
use Rattle.banked.proofs.Left.{bank_exactly}

-- "RT R NNN"
abbrev pub request : ℕ → List ℕ
request n = text "RT R " ++ digits 3 n

-- asked this, the call shows that in a frame of the same kind, and changes nothing
abbrev pub Shows : Kind → Banked → List ℕ → List ℕ → List ℕ → Type 0
Shows k b o question shown =
    banked_of k b (frame_of k (digits 2 (get address b.state) ++ question)) o ≡ answered k (digits 2 (get address b.state) ++ shown) b o

-- ---- what is asked
module _ (a n : ℕ) where
  asks : asks_batch (digits 2 a ++ request n) ≡ true
  unfolding batch_asked code_in digits equal digits_between
  asks = simp (digits_all 3 n)

  asks_for : n < 1000 → asked (digits 2 a ++ request n) ≡ n
  unfolding digits
  asks_for small = value-digits 3 n small

  legal : Text 4 60 (digits 2 a ++ request n)
  unfolding all_between
  legal = text_wider 10 10 4 60 _ (omega arith) (omega arith) (text_joined 2 2 8 8 (digits 2 a) (request n) (text-digits 2 a) (text-labelled (text "RT R ") 3 n refl))

-- ---- what is shown: "RT R VVVVVVVV NNN", or NO03 "if fewer than NNN are kept or NNN is 000"
abbrev pub shown_for : ℕ → Bank → List ℕ
shown_for n k = pick (is_kept n k) (batch_shown (batch_at n k).raw n) (refusal_text 3)

shown_so : (t : List ℕ) (b : Banked) → asks_batch t ≡ true → reply_text t b ≡ digits 2 (get address b.state) ++ shown_for (asked t) b.bank
unfolding kept_text answer_for newest_of
shown_so t b h = sym (batch_text t b h) ∙ go (is_kept (asked t) b.bank)
  where
    go : (c : Bool) → digits 2 (get address b.state) ++ kept_words (answer_by (asked t) (pick c (Some (batch_at (asked t) b.bank)) None))
        ≡ digits 2 (get address b.state) ++ pick c (batch_shown (batch_at (asked t) b.bank).raw (asked t)) (refusal_text 3)
    go true = refl
    go false = refl

pub batch_read_lem : (k : Kind) (b : Banked) (o : List ℕ) → valid b ≡ true → 64 ≤ length o → (n : ℕ) → n < 1000 → Shows k b o (request n) (shown_for n b.bank)
unfolding banked_of
batch_read_lem k b o v room n small =
    let a : ℕ = get address b.state in
    let t : List ℕ = digits 2 a ++ request n in
    let low : a ≤ 99 = (valid_tell b.state (valid_record k b t o v room)).scalars.address_high in
    frame-heard (λ m. silent m b o) k (valid b) a (length o) (λ x. replied k x b o) t v room (legal a n) (named a 0x52 0x54 _ refl refl) (numbered a 0x52 0x54 _ low)
    ∙ (ap (λ (x : List ℕ). answered k x (held_after t b) o) (shown_so t b (asks a n) ∙ ap (λ (m : ℕ). digits 2 a ++ shown_for m b.bank) (asks_for a n small))
    ∙ ap (λ (h : Banked). answered k (digits 2 a ++ shown_for n b.bank) h o) (batch_held t b (asks a n)))

-- RT R 000 is refused, whatever is kept
pub batch_zero : (k : Kind) (b : Banked) (o : List ℕ) → valid b ≡ true → 64 ≤ length o → Shows k b o (text "RT R 000") (text "NO03")
unfolding digits
batch_zero k b o v room = batch_read_lem k b o v room 0 (omega arith)

-- ---- read-back over two calls: the first stored a batch, the second is of either kind with any buffer of 64 bytes or more
module _ (k k' : Kind) (b : Banked) (q o o' : List ℕ) (heard : (banked_of k b q o).silence ≡ 0) (ok : verdict (text_in k q) b ≡ accepted)
    (ends : stores_batch (code_in (text_in k q)) (get phase b.state) ≡ true) (room : 64 ≤ length o') where
  abbrev next : Banked
  next = (banked_of k b q o).after

  -- asked so, the second call shows this, with its bytes, and changes nothing; the address is that of the record before
  abbrev pub ShowsNext : List ℕ → List ℕ → Type 0
  ShowsNext question shown =
      banked_of k' next (frame_of k' (digits 2 (get address b.state) ++ question)) o' ≡ answered k' (digits 2 (get address b.state) ++ shown) next o'

  replied_so : Answered k b q o
  replied_so = is_answered k b q o heard

  valid_next : valid next ≡ true
  valid_next = stays_valid k b q o replied_so.valid_record replied_so.room

  bank_next : next.bank ≡ keep_of (batch_of b.state) b.bank
  bank_next = bank_exactly k b q o ∙ simp (heard, ok, ends)

  whole : Valid b.bank
  whole = bank.valid_tell b.bank (valid_bank k b q o replied_so.valid_record replied_so.room)

  shows_next : (n : ℕ) → n < 1000 → (shown : List ℕ) → shown_for n (keep_of (batch_of b.state) b.bank) ≡ shown → ShowsNext (request n) shown
  shows_next n small shown e =
      subst (λ (a : ℕ). banked_of k' next (frame_of k' (digits 2 a ++ request n)) o' ≡ answered k' (digits 2 a ++ shown) next o')
      (same_address k b q o replied_so.valid_record replied_so.room)
      (subst (λ (x : List ℕ). Shows k' next o' (request n) x) (ap (shown_for n) bank_next ∙ e) (batch_read_lem k' next o' valid_next room n small))

  -- "with 001 the newest": the raw volume before ET
  pub newest_after : ShowsNext (text "RT R 001") ((text "RT R " ++ digits 8 (get raw b.state)) ++ text " 001")
  unfolding digits batch_of
  newest_after =
      shows_next 1 (omega arith) (batch_shown (get raw b.state) 1)
      (simp (stored-first (batch_of b.state) b.bank whole, stored_newest (batch_of b.state) b.bank whole))

  module _ (n : ℕ) (low : 1 ≤ n) where
    -- each that stays shows what it showed before ET, by one more than the number that it had
    pub older_after : n ≤ b.bank.count → n < most
        → Shows k' b o' (request n) (batch_shown (batch_at n b.bank).raw n) × ShowsNext (request (n + 1)) (batch_shown (batch_at n b.bank).raw (n + 1))
    older_after high few = (
      subst (λ (x : List ℕ). Shows k' b o' (request n) x) (simp (between_yes 1 b.bank.count n low high)) (batch_read_lem k' b o' replied_so.valid_record room n (omega arith)),
      shows_next (n + 1) (omega arith) (batch_shown (batch_at n b.bank).raw (n + 1))
          (simp (stored_kept (batch_of b.state) b.bank whole n low high few, stored_older (batch_of b.state) b.bank whole n low high few)),
    )

    -- "if fewer than NNN are kept": those that were not kept before, and the oldest of a hundred, which gave its room
    pub gone_after : n + 1 < 1000 → (n ≤ b.bank.count → n < most → ⊥) → ShowsNext (request (n + 1)) (text "NO03")
    unfolding digits
    gone_after small gone = shows_next (n + 1) small (refusal_text 3) (simp (stored_gone (batch_of b.state) b.bank whole n low gone))
