-- Document 02, L5: "One board, up to sixteen addresses."
-- rs are the lent records, q is the lent request, o the lent reply buffer.
use Rattle.std.specs.Prelude.{ℕ, Bool, true, ◌&&◌, List, [], ◌∷◌, map, eqb, leb, length, Result, Ok, Err}
use Rattle.base.specs.Test.{pick, unless, between, all_distinct}
use Rattle.state.specs.declared.Record.{Record}
use Rattle.state.specs.Field.{address, get}
use Rattle.state.specs.Valid.{valid}
use Rattle.frame.specs.declared.Kind.{Kind}
use Rattle.frame.specs.declared.Silence.{Silence}
use Rattle.frame.specs.Frame.{address_in, text_in}
use Rattle.frame.specs.Numbers.{silence_in}
use Rattle.frame.specs.Answer.{address_of}
use Rattle.controller.specs.Call as one
use Rattle.controller.specs.Call.{call_of}
use Rattle.board.specs.declared.Refusal.{Refusal}
use Rattle.board.specs.declared.Refusal.TheVariants as refusal

-- what a call leaves: the number of the silence, 0 if there is a reply; the reported length; the records; the reply buffer
pub record Outcome : Type 0 where
  pub silence : ℕ
  pub reported : ℕ
  pub records : List Record
  pub buffer : List ℕ

-- a refusal or silence changes no record and no byte
abbrev pub silent : ℕ → List Record → List ℕ → Outcome
silent n rs o = record { silence = n; reported = 0; records = rs; buffer = o }

-- S10 "a record not valid": whichever it is
unfoldable pub all_valid : List Record → Bool
all_valid [] = true
all_valid (r ∷ rs) = valid r && all_valid rs

-- S11 "an address twice": whosever it is
abbrev pub addresses : List Record → List ℕ
addresses rs = map (get address) rs

-- the first record is called and those behind it stay; the first record stays, whatever is left behind it
abbrev pub first : one.Outcome → List Record → Outcome
first c rs = record { silence = c.silence; reported = c.reported; records = c.after ∷ rs; buffer = c.buffer }

abbrev pub behind : Record → Outcome → Outcome
behind r x = record { silence = x.silence; reported = x.reported; records = r ∷ x.records; buffer = x.buffer }

-- the address that a request names
abbrev pub asked : Kind → List ℕ → ℕ
asked k q = address_in (text_in k q)

-- "the request goes to the record with its address. Every other record stays"; S8: no record has that address
unfoldable pub dispatched : ℕ → Kind → List Record → List ℕ → List ℕ → Outcome
dispatched a k [] q o = silent 8 [] o
dispatched a k (r ∷ rs) q o = pick (eqb a (get address r)) (first (call_of k r q o) rs) (behind r (dispatched a k rs q o))

-- "Refusals, in place of S1: S9 empty list or over 16, S10 a record not valid, S11 an address twice; then S2 to S8", of which
-- S3 to S7 are told by the frame's reader
unfoldable pub board_of : Kind → List Record → List ℕ → List ℕ → Outcome
board_of k rs q o =
    unless (between 1 16 (length rs)) (silent 9 rs o)
    (unless (all_valid rs) (silent 10 rs o)
    (unless (all_distinct (addresses rs)) (silent 11 rs o)
    (unless (leb 64 (length o)) (silent 2 rs o)
    (unless (eqb (silence_in (address_of k q)) 0) (silent (silence_in (address_of k q)) rs o)
    (dispatched (asked k q) k rs q o)))))

-- ---- the code's answer as document 02 numbers it: a silence's number and length 0, or no silence and the reply's length
abbrev pub refusal_number : Refusal → ℕ
refusal_number refusal.ListLength = 9
refusal_number refusal.InvalidRecord = 10
refusal_number refusal.AddressTwice = 11

abbrev pub Answer : Type 0
Answer = Result (Result ℕ Silence) Refusal

abbrev pub answer_silence : Answer → ℕ
answer_silence (Err w) = refusal_number w
answer_silence (Ok a) = one.answer_silence a

abbrev pub answer_length : Answer → ℕ
answer_length (Err w) = 0
answer_length (Ok a) = one.answer_length a

abbrev pub outcome_as : Answer → List Record → List ℕ → Outcome
outcome_as a rs o = record { silence = answer_silence a; reported = answer_length a; records = rs; buffer = o }
