-- Document 02, L7: one call of the controller with a bank of finished batches beside its record.
use Rattle.std.specs.Prelude.{ℕ, Bool, true, false, ◌&&◌, List, ◌++◌, leb, length}
use Rattle.base.specs.Test.{pick, unless}
use Rattle.state.specs.declared.Record.{Record}
use Rattle.state.specs.Field.{address, phase, get}
use Rattle.state.specs.Valid as state
use Rattle.bank.specs.declared.Bank.{Bank}
use Rattle.bank.specs.Bank.{batch_of, keep_of, batch_at}
use Rattle.bank.specs.Bank as bank
use Rattle.frame.specs.declared.Kind.{Kind}
use Rattle.frame.specs.Frame.{text_in}
use Rattle.text.specs.Word.{digits}
use Rattle.command.specs.Commands.{code_in, commands, row_of, printed, batch_asked, batch_number, batch_shown, stores_batch}
use Rattle.command.specs.Answer.{Verdict, NO, accepted, behind_code, arguments_in, verdict_beside, refusal_text, record_for}
use Rattle.controller.specs.Call.{OutcomeOf, Outcome, silent, answered, unless_silent}
use Rattle.banked.specs.declared.Banked.{Banked}

-- the record with address, phase and so on, and a bank beside it
abbrev pub with : Record → Bank → Banked
with r k = record { state = r; bank = k }

-- what a call of the record alone leaves, with a bank beside it
abbrev pub beside : Outcome → Bank → OutcomeOf Banked
beside c k = record { silence = c.silence; reported = c.reported; after = with c.after k; buffer = c.buffer }

-- "S1 .. also for a bank with over 100 batches or a field out of its range"
unfoldable pub valid : Banked → Bool
valid b = state.valid b.state && bank.valid b.bank

-- that of the unit
abbrev pub address_of : Banked → ℕ
address_of b = get address b.state

-- ---- a text t that is for this unit

-- the text asks for a kept batch, and for which
abbrev pub asks_batch : List ℕ → Bool
asks_batch t = batch_asked (code_in t) (behind_code t)

abbrev pub asked : List ℕ → ℕ
asked t = batch_number (behind_code t)

-- the first refusal that applies, by the number of batches that are kept
abbrev pub verdict : List ℕ → Banked → Verdict
verdict t b = verdict_beside b.bank.count t b.state

-- "RT R NNN answers "RT R VVVVVVVV NNN", with 001 the newest"; else document 01's reply
abbrev pub reply_for : Verdict → List ℕ → Banked → List ℕ
reply_for (NO n) t b = refusal_text n
reply_for accepted t b =
    pick (asks_batch t) (batch_shown (batch_at (asked t) b.bank).raw (asked t)) (printed ((row_of (code_in t) commands).reply (arguments_in t)) b.state)

-- "At ET from Stopped or Done store number, recipe, factor, raw and preset": what the record held before it
abbrev pub bank_for : Verdict → List ℕ → Banked → Bank
bank_for (NO n) t b = b.bank
bank_for accepted t b = pick (stores_batch (code_in t) (get phase b.state)) (keep_of (batch_of b.state) b.bank) b.bank

-- "address digits, then the reply"
unfoldable pub reply_text : List ℕ → Banked → List ℕ
reply_text t b = digits 2 (get address b.state) ++ reply_for (verdict t b) t b

-- the record afterwards is document 01's
unfoldable pub held_after : List ℕ → Banked → Banked
held_after t b = with (record_for (verdict t b) t b.state) (bank_for (verdict t b) t b)

abbrev pub replied : Kind → List ℕ → Banked → List ℕ → OutcomeOf Banked
replied k t b o = answered k (reply_text t b) (held_after t b) o

-- S2, or the reply
unfoldable pub reply_of : Kind → Banked → List ℕ → List ℕ → OutcomeOf Banked
reply_of k b t o = unless (leb 64 (length o)) (silent 2 b o) (replied k t b o)

-- ---- the call: document 01's silences, and then the reply; q is the lent request, o the lent reply buffer
unfoldable pub banked_of : Kind → Banked → List ℕ → List ℕ → OutcomeOf Banked
banked_of k b q o = unless_silent (λ n. silent n b o) k (valid b) (get address b.state) q (length o) (replied k (text_in k q) b o)

-- ---- "such request not silent": a request for a kept batch that S3 to S8 let pass, for the unit with address a; what it holds is valid and
-- the reply buffer has room, so that S1 and S2 do
unfoldable pub asks_heard : Kind → ℕ → List ℕ → Bool
asks_heard k a q = unless_silent (λ n. false) k true a q 64 (asks_batch (text_in k q))
