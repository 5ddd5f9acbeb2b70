-- What is proved of every call with a bank, for any record, bank, kind of link, request bytes and reply buffer: a reply or a named silence,
-- and what a refusal or a silence leaves. By controller's law of any outcome; the reply's text is that of one of reply's answers. Assumes
-- nothing.
use Prim.Native.Nat.{ℕ, ◌+◌, ◌≤◌}
use mathlib.Core.Path.{◌≡◌, refl, ap, subst}
use mathlib.Core.List.{List}
use mathlib.Core.Logic.{◌⊎◌, ⊎_elim}
use native.Mathlib.Omega.{arith}
use lib.Dec.{leb}
use lib.ListN.{length}
use Rattle.base.proofs.Tests.{by_test}
use Rattle.state.specs.Field.{address, get}
use Rattle.frame.specs.declared.Kind.{Kind}
use Rattle.frame.specs.Frame.{text_in}
use Rattle.text.proofs.Printable.{Text}
use Rattle.command.specs.Answer.{Verdict, NO, record_for}
use Rattle.reply.proofs.Laws.{longest, kept_legal}
use Rattle.controller.proofs.Theorems.{SilentOutcome, ReplyOutcome, every_outcome}
use Rattle.controller.proofs.Theorems as controller
use Rattle.controller.proofs.Buffers.{Alike, outcomes_alike}
use Rattle.banked.specs.declared.Banked.{Banked}
use Rattle.banked.specs.Banked.{with, valid, asks_batch, asked, verdict, bank_for, reply_text, held_after, banked_of}
use Rattle.banked.specs.Steps.{answer_for}
use Rattle.banked.proofs.Steps.{batch_text, other_text}

-- ---- every input gets a reply or exactly one named silence
abbrev pub Silenced : Kind → Banked → List ℕ → List ℕ → Type 0
Silenced k b q o = SilentOutcome (banked_of k b q o) b o

abbrev pub Answered : Kind → Banked → List ℕ → List ℕ → Type 0
Answered k b q o = ReplyOutcome (banked_of k b q o) (valid b) k (reply_text (text_in k q) b) (held_after (text_in k q) b) o

-- a reply's text is legal, and its frame fits the buffer
pub reply_legal : (t : List ℕ) (b : Banked) → Text 4 (2 + longest) (reply_text t b)
reply_legal t b =
    by_test (asks_batch t)
    (λ asks. subst (Text 4 (2 + longest)) (batch_text t b asks) (kept_legal (get address b.state) (answer_for (asked t) b.bank)))
    (λ other. subst (Text 4 (2 + longest)) (other_text t b other) (controller.reply_legal t b.state))

pub every_input : (k : Kind) (b : Banked) (q o : List ℕ) → Silenced k b q o ⊎ Answered k b q o
unfolding banked_of
every_input k b q o =
    every_outcome k (valid b) (get address b.state) b (held_after (text_in k q) b) q o (reply_text (text_in k q) b) (reply_legal (text_in k q) b) (banked_of k b q o) refl

pub is_answered : (k : Kind) (b : Banked) (q o : List ℕ) → (banked_of k b q o).silence ≡ 0 → Answered k b q o
is_answered k b q o h = ⊎_elim (λ (s : Silenced k b q o). let l = s.low in absurd (omega arith)) (λ (a : Answered k b q o). a) (every_input k b q o)

-- ---- "A refusal or silence leaves the record unchanged", and the bank with it; "a silence leaves the reply buffer unchanged too"
pub refusal_keeps : (t : List ℕ) (b : Banked) (n : ℕ) → verdict t b ≡ NO n → held_after t b ≡ b
unfolding held_after
refusal_keeps t b n h = ap (λ (v : Verdict). with (record_for v t b.state) (bank_for v t b)) h

pub silence_keeps : (k : Kind) (b : Banked) (q o : List ℕ) → 1 ≤ (banked_of k b q o).silence → ((banked_of k b q o).after ≡ b) × ((banked_of k b q o).buffer ≡ o)
silence_keeps k b q o l =
    ⊎_elim (λ (s : Silenced k b q o). (s.same_record, s.same-buffer)) (λ (a : Answered k b q o). let h = a.heard in absurd (omega arith)) (every_input k b q o)

-- ---- what the reply buffer held before does not matter: both have room, or neither has
pub banked_alike : (k : Kind) (b : Banked) (q o o' : List ℕ) → leb 64 (length o) ≡ leb 64 (length o') → Alike (banked_of k b q o) (banked_of k b q o')
unfolding banked_of
banked_alike k b q o o' e = outcomes_alike k (valid b) (get address b.state) q (reply_text (text_in k q) b) b (held_after (text_in k q) b) o o' e
