-- Document 01, demand 3: "a single statement about the entire list of exchanges"; 02, L7: "replayed from a record with any bank that S1 lets
-- pass".
use Rattle.std.specs.Prelude.{ℕ, Bool, true, ◌≡◌, List, length, replicate}
use Rattle.state.specs.Field.{address, access, get}
use Rattle.frame.specs.declared.Kind.TheVariants.{Minicomputer}
use Rattle.controller.specs.Call.{OutcomeOf, reply_in}
use Rattle.banked.specs.declared.Banked.{Banked}
use Rattle.banked.specs.Banked.{valid, banked_of, asks_heard}
use Rattle.recording.specs.Form.{Exchange, Recording, J, recorded, recording_of}
use Rattle.recording.specs.Replay.{Answer, SomeAgrees, Right}

-- ---- one exchange with a controller that holds some state: what a call of it comes to, by the request and the reply buffer
module _ {S : Type 0} (call : S → List ℕ → List ℕ → OutcomeOf S) where
  -- "An exchange agrees if the reported length equals the recorded length byte of the reply (0: silence) and the buffer's bytes up
  -- to that length equal the recorded reply."
  abbrev pub AgreesIn : S → Exchange → List ℕ → Type 0
  AgreesIn s e o = ((call s e.request o).reported ≡ length e.reply) × (reply_in (call s e.request o) ≡ e.reply)

  -- "with a reply buffer of 64 bytes, whatever they hold"
  abbrev pub Agrees : S → Exchange → Type 0
  Agrees s e = (o : List ℕ) → length o ≡ 64 → AgreesIn s e o

  -- "Each call gets the record that the last one returned, also after a NO or a silence."
  abbrev pub next : S → Exchange → S
  next s e = (call s e.request (replicate 64 0)).after

-- ---- the controller with its bank: "the recorded request, of any length and bytes, is one call of the controller, kind minicomputer"
abbrev pub called : Banked → List ℕ → List ℕ → OutcomeOf Banked
called b q o = banked_of Minicomputer b q o

-- "replayed from a valid record with the header's address and access, the other fields being any in their ranges"; "a record with any bank that
-- S1 lets pass"
pub record Start (a c : ℕ) (b : Banked) : Type 0 where
  pub all_valid : valid b ≡ true
  pub same_address : get address b.state ≡ a
  pub same-access : get access b.state ≡ c

-- for some such record all of the exchanges agree
abbrev pub Fits : ℕ → ℕ → List Exchange → Type 0
Fits a c es = SomeAgrees (next called) (Agrees called) (Start a c) es

-- "such request not silent": RT R NNN, for the unit with the header's address; what was replied does not matter
abbrev pub asks : ℕ → Exchange → Bool
asks a e = asks_heard Minicomputer a e.request

-- ---- the judge's answer: `refused Jn`, or as above
pub data Judgement : Type 0 where
  refused : ℕ → Judgement
  judged : Answer → Judgement

abbrev pub RightOf : Recording → Judgement → Type 0
RightOf (J n) (refused m) = m ≡ n
RightOf (J n) (judged a) = ⊥
RightOf (recorded a c es) (refused m) = ⊥
RightOf (recorded a c es) (judged answer) = Right (asks a) (Fits a c) es answer

-- demand 3, of a recording's bytes and the answer to them
abbrev pub Demand3 : List ℕ → Judgement → Type 0
Demand3 bs j = RightOf (recording_of bs) j
