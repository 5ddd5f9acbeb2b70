-- Document 01's controller without a bank, replayed: what the judge's steps are exact for. No statement is made of it: `proofs/Unseen.antt` shows
-- that without a request for a kept batch it comes to what the statement says.
use Rattle.std.specs.Prelude.{ℕ, true, ◌≡◌, List, length}
use Rattle.state.specs.declared.Record.{Record}
use Rattle.state.specs.Field.{address, access, get}
use Rattle.state.specs.Valid.{valid}
use Rattle.frame.specs.declared.Kind.TheVariants.{Minicomputer}
use Rattle.controller.specs.Call.{Outcome, call_of}
use Rattle.recording.specs.Form.{Exchange}
use Rattle.recording.specs.Replay.{SomeAgrees, SomeLeads}
use Rattle.recording.specs.Statement as statement
use Rattle.recording.specs.Known.{Reason, BecauseOf}

abbrev pub call : Record → List ℕ → List ℕ → Outcome
call r q o = call_of Minicomputer r q o

abbrev pub called : Record → Exchange → List ℕ → Outcome
called r e o = call r e.request o

abbrev pub AgreesIn : Record → Exchange → List ℕ → Type 0
AgreesIn r e o = statement.AgreesIn call r e o

abbrev pub Agrees : Record → Exchange → Type 0
Agrees r e = statement.Agrees call r e

abbrev pub next : Record → Exchange → Record
next r e = statement.next call r e

pub record Start (a c : ℕ) (r : Record) : Type 0 where
  pub valid_record : valid r ≡ true
  pub same_address : get address r ≡ a
  pub same-access : get access r ≡ c

abbrev pub Fits : ℕ → ℕ → List Exchange → Type 0
Fits a c es = SomeAgrees next Agrees (Start a c) es

-- what is known of it, and why an exchange refutes
abbrev pub MayHold : ℕ → ℕ → List Exchange → Record → Type 0
MayHold a c es r = SomeLeads next Agrees (Start a c) es r

abbrev pub Meets : ℕ → ℕ → Exchange → ℕ → Type 0
Meets a c e n = (r : Record) → Start a c r → (o : List ℕ) → length o ≡ 64 → (called r e o).silence ≡ n

abbrev pub Gives : ℕ → ℕ → Exchange → Record → Type 0
Gives a c e r = Start a c r × Agrees r e

abbrev pub Because : ℕ → ℕ → List Exchange → Exchange → Reason → Type 0
Because a c es e reason = BecauseOf (Meets a c e) (MayHold a c es) (Gives a c e) e reason
