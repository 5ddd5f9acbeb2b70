-- When a call with a bank is silent and with which silence, and when it says NO and with which number, each as "if and only if", for any
-- record, bank, kind of link, request bytes and reply buffer. By controller's laws of whatever is held and whatever rows refuse. Assumes
-- nothing.
use Prim.Native.Nat.{ℕ, ◌+◌, ◌<◌}
use mathlib.Core.Bool.{Bool, true, false}
use mathlib.Core.Path.{◌≡◌, refl, sym, ◌∙◌}
use mathlib.Core.List.{List, map}
use mathlib.Core.Logic.{◌↔◌}
use native.Mathlib.Omega.{arith}
use lib.ListN.{length, get_or, length-map, get_or-map}
use Rattle.base.specs.Test.{pick, all_distinct, member}
use Rattle.base.proofs.FirstFailing.{FirstFailing, NoneFails, failing, not_both}
use Rattle.base.proofs.Tests.{by_test, never, member_at}
use Rattle.state.specs.Field.{address, get}
use Rattle.bank.specs.Bank.{is_kept}
use Rattle.frame.specs.declared.Kind.{Kind}
use Rattle.frame.specs.Frame.{text_in}
use Rattle.command.specs.Refusals.{Row, refusals, refusals_beside, row_number}
use Rattle.command.specs.Answer.{NO, accepted, verdict_beside}
use Rattle.command.specs.Answer as tables
use Rattle.command.proofs.Tables.{no_row}
use Rattle.command.proofs.Beside.{verdict_batch}
use Rattle.controller.specs.Call.{reply_in}
use Rattle.controller.proofs.Theorems.{no_by_row}
use Rattle.controller.proofs.Exactly.{tests_of, outcome_failing, number_exactly, zero_exactly, not_n, accepted-not-N, one_row_of, FirstOf, NoneOf, no_frame_of, Tells, tells}
use Rattle.controller.proofs.Buffers.{frame-shown}
use Rattle.banked.specs.declared.Banked.{Banked}
use Rattle.banked.specs.Banked.{valid, asks_batch, asked, verdict, reply_for, reply_text, held_after, banked_of}
use Rattle.banked.proofs.Steps.{same-verdict}
use Rattle.banked.proofs.Theorems.{is_answered, reply_legal, refusal_keeps}

-- ---- silence n if and only if test n is the first that fails
abbrev pub tests : Kind → Banked → List ℕ → List ℕ → List Bool
tests k b q o = tests_of k (valid b) (get address b.state) q (length o)

module _ (k : Kind) (b : Banked) (q o : List ℕ) where
  silence_failing : (banked_of k b q o).silence ≡ failing 1 (tests k b q o)
  unfolding banked_of
  silence_failing = outcome_failing k (valid b) (get address b.state) b (held_after (text_in k q) b) q o (reply_text (text_in k q) b) (banked_of k b q o) refl

  pub silence_exactly : (i : ℕ) → (banked_of k b q o).silence ≡ i + 1 ↔ FirstFailing (tests k b q o) i
  silence_exactly = number_exactly (tests k b q o) (banked_of k b q o).silence silence_failing

  pub heard_exactly : (banked_of k b q o).silence ≡ 0 ↔ NoneFails (tests k b q o)
  heard_exactly = zero_exactly (tests k b q o) (banked_of k b q o).silence silence_failing

-- ---- the rows, with as many batches as are kept
abbrev pub rows_beside : Banked → List Row
rows_beside b = refusals_beside b.bank.count

-- no two have the same number
pub one_row : (n i j : ℕ) → i < length (refusals_beside n) → j < length (refusals_beside n)
    → row_number (get_or (refusals_beside n) i no_row) ≡ row_number (get_or (refusals_beside n) j no_row) → i ≡ j
unfolding all_distinct
one_row n = one_row_of (refusals_beside n) refl

-- no accepted reply begins with "N"
not-refused : (t : List ℕ) (b : Banked) → not_n (reply_for accepted t b) ≡ true
not-refused t b = by_test (asks_batch t) (λ e. simp e) (λ e. simp e (accepted-not-N t b.state))

-- ---- NO n goes out if and only if row n's own condition holds and no earlier row's does
module _ (k : Kind) (b : Banked) (q o : List ℕ) (heard : (banked_of k b q o).silence ≡ 0) where
  abbrev t : List ℕ
  t = text_in k q

  -- what the call put at the start of the buffer is the frame of the address digits, "NO" and two digits
  abbrev pub SendsNo : ℕ → Type 0
  SendsNo n = reply_in (banked_of k b q o) ≡ no_frame_of k (get address b.state) n

  sent_tells : Tells (rows_beside b) t b.state k (get address b.state) (reply_in (banked_of k b q o))
  unfolding verdict_beside reply_text
  sent_tells =
      tells (rows_beside b) refl t b.state (λ v. reply_for v t b) (λ n. refl) (not-refused t b) k (get address b.state) (reply_legal t b) (reply_in (banked_of k b q o))
      (frame-shown (is_answered k b q o heard))

  verdict_exactly : (n : ℕ) → n < 100 → SendsNo n ↔ verdict t b ≡ NO n
  unfolding verdict_beside
  verdict_exactly = sent_tells.verdict

  pub no_exactly : (n : ℕ) → n < 100 → SendsNo n ↔ FirstOf (rows_beside b) t b.state n
  no_exactly = sent_tells.row

  -- no row applies if and only if what goes out is no NO
  pub accepted_exactly : NoneOf (rows_beside b) t b.state ↔ ((n : ℕ) → n < 100 → SendsNo n → ⊥)
  accepted_exactly = sent_tells.none

  -- a NO leaves record and bank as they were
  pub no_keeps : (n : ℕ) → n < 100 → SendsNo n → (banked_of k b q o).after ≡ b
  no_keeps n l e = (is_answered k b q o heard).next_record ∙ refusal_keeps t b n ((verdict_exactly n l).0 e)

  -- NO03 "if fewer than NNN are kept or NNN is 000", and else never
  pub kept_refusal_exactly : SendsNo 3 ↔ ((asks_batch t ≡ true) × (is_kept (asked t) b.bank ≡ false))
  kept_refusal_exactly = (λ e. not_kept ((verdict_exactly 3 (omega arith)).0 e), λ h. (verdict_exactly 3 (omega arith)).1 (batch_verdict h.0 ∙ simp h.1))
    where
      batch_verdict : asks_batch t ≡ true → verdict t b ≡ pick (is_kept (asked t) b.bank) accepted (NO 3)
      batch_verdict asks = verdict_batch t b.state asks b.bank.count

      -- without a bank no row has the number 3
      no_such_row : tables.verdict t b.state ≡ NO 3 → ⊥
      no_such_row e =
          let (i, f, m) = no_by_row t b.state 3 e in
          not_both (member 3 (map row_number refusals))
          (member_at (row_number no_row) 3 (map row_number refusals) i (omega (arith, f.listed, length-map refusals row_number)) (get_or-map row_number refusals i no_row ∙ m)) refl

      not_kept : verdict t b ≡ NO 3 → (asks_batch t ≡ true) × (is_kept (asked t) b.bank ≡ false)
      not_kept e =
          by_test (asks_batch t)
          (λ asks. (asks, by_test (is_kept (asked t) b.bank) (λ h. let z : accepted ≡ NO 3 = sym (batch_verdict asks ∙ simp h) ∙ e in absurd (never (cc))) (λ h. h)))
          (λ other. absurd (no_such_row (sym (same-verdict t b other) ∙ e)))
