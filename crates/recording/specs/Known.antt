-- What a recording tells of the record, and why a refutation is one: two statements beside demand 3, which know nothing of a judge.
use Rattle.std.specs.Prelude.{ℕ, ◌-◌, ◌≤◌, Bool, true, ◌≡◌, List, [], ◌∷◌, ◌++◌, ◌↔◌, length, take}
use Rattle.state.specs.declared.Record.{Record}
use Rattle.state.specs.Field.{Field, get, Held}
use Rattle.state.specs.Valid.{full_length}
use Rattle.bank.specs.declared.Bank.{Bank}
use Rattle.banked.specs.Banked.{with}
use Rattle.banked.specs.declared.Banked.{Banked}
use Rattle.recording.specs.Form.{Exchange, Recording, J, recorded, recording_of}
use Rattle.recording.specs.Replay as replay
use Rattle.recording.specs.Replay.{SomeLeads, NoneAsked, Right}
use Rattle.recording.specs.Statement.{called, Agrees, next, Start, Fits, asks}

-- ---- what is known

-- "the records that a right controller may hold after the first k exchanges are those r for which some start record (valid, header's
-- address and access) gives those k exchanges as recorded and is r after them"; es are these exchanges; with whatever bank
abbrev pub MayHold : ℕ → ℕ → List Exchange → Record → Type 0
MayHold a c es r = (k : Bank) × SomeLeads (next called) (Agrees called) (Start a c) es (with r k)

-- "for each field, its set": whether a number is in it
abbrev pub Sets : Type 0
Sets = Field → ℕ → Bool

-- "it lies in the product of the sets"
abbrev pub InProduct : Sets → Record → Type 0
InProduct sets r = (full_length r ≡ true) × ((f : Field) → Held f → sets f (get f r) ≡ true)

-- what is told of the record after the first k exchanges: Jn, the exchange that refutes, the one at which it is not judged, or the sets
pub data Told : Type 0 where
  refused : ℕ → Told
  refuted : ℕ → Told
  not_judged : ℕ → Told
  known : Sets → Told

-- "k beyond the last counts as the last"; the exchange that refutes, or is not judged, is the one that demand 3 names
abbrev pub ToldOf : Recording → ℕ → Told → Type 0
ToldOf (J n) k (refused m) = m ≡ n
ToldOf (J n) k (refuted i) = ⊥
ToldOf (J n) k (not_judged i) = ⊥
ToldOf (J n) k (known sets) = ⊥
ToldOf (recorded a c es) k (refused m) = ⊥
ToldOf (recorded a c es) k (refuted i) = (i ≤ k) × Right (asks a) (Fits a c) es (replay.refuted i (length es))
ToldOf (recorded a c es) k (not_judged i) = (i ≤ k) × Right (asks a) (Fits a c) es (replay.not_judged i (length es))
ToldOf (recorded a c es) k (known sets) =
    NoneAsked (asks a) (take k es) × Fits a c (take k es) × ((r : Record) → InProduct sets r ↔ MayHold a c (take k es) r)

abbrev pub RightlyTold : List ℕ → ℕ → Told → Type 0
RightlyTold bs k t = ToldOf (recording_of bs) k t

-- ---- why a refutation is one

-- "a reply where silence was due (with the number Sn of the request)"; "silence where a reply was due"; "reply bytes that no valid record
-- gives to this request, whatever its fields"; "field f": its set before the exchange, and what this reply needs of it
pub data Reason : Type 0 where
  answered : ℕ → Reason
  unanswered : Reason
  impossible : Reason
  conflict : Field → (ℕ → Bool) → (ℕ → Bool) → Reason

-- each record with the header's address and access meets the request with this silence; 0: with a reply
abbrev pub Meets : ℕ → ℕ → Exchange → ℕ → Type 0
Meets a c e n = (b : Banked) → Start a c b → (o : List ℕ) → length o ≡ 64 → (called b e.request o).silence ≡ n

-- such a record that gives the exchange as recorded, with some bank
abbrev pub Gives : ℕ → ℕ → Exchange → Record → Type 0
Gives a c e r = (k : Bank) × Start a c (with r k) × Agrees called (with r k) e

-- the numbers that a field has in the records with a property
abbrev pub NumbersOf : (Record → Type 0) → Field → (ℕ → Bool) → Type 0
NumbersOf P f set = (n : ℕ) → set n ≡ true ↔ ((r : Record) × P r × (get f r ≡ n))

-- what holds of each reason of an exchange e: by the silences that are met, the records that may be held before it, and those that give it
abbrev pub BecauseOf : (ℕ → Type 0) → (Record → Type 0) → (Record → Type 0) → Exchange → Reason → Type 0
BecauseOf Met Held Given e (answered n) = (e.reply ≡ [] → ⊥) × (1 ≤ n) × Met n
BecauseOf Met Held Given e unanswered = (e.reply ≡ []) × Met 0
BecauseOf Met Held Given e impossible = (e.reply ≡ [] → ⊥) × Met 0 × ((r : Record) → Given r → ⊥)
-- "the set of f before the exchange and what this reply needs of f have nothing in common": "no record whose field f lies in its set gives
-- this reply; so the field named alone refutes it", though some record does
BecauseOf Met Held Given e (conflict f before needed) =
    NumbersOf Held f before × NumbersOf Given f needed × ((n : ℕ) → before n ≡ true → needed n ≡ true → ⊥)
    × ((r : Record) → Given r → before (get f r) ≡ true → ⊥) × ((r : Record) × Given r)

-- es are the exchanges before e
abbrev pub Because : ℕ → ℕ → List Exchange → Exchange → Reason → Type 0
Because a c es e reason = BecauseOf (Meets a c e) (MayHold a c es) (Gives a c e) e reason

-- the answer, as demand 3 has it, and for a refutation the reason: Jn; fits N; not judged at I; refuted at I of N, and why
pub data Why : Type 0 where
  unread : ℕ → Why
  fitting : ℕ → Why
  unjudged : ℕ → ℕ → Why
  because : ℕ → ℕ → Reason → Why

abbrev pub WhyOf : Recording → Why → Type 0
WhyOf (J n) (unread m) = m ≡ n
WhyOf (J n) (fitting m) = ⊥
WhyOf (J n) (unjudged i m) = ⊥
WhyOf (J n) (because i m reason) = ⊥
WhyOf (recorded a c es) (unread m) = ⊥
WhyOf (recorded a c es) (fitting n) = Right (asks a) (Fits a c) es (replay.fits n)
WhyOf (recorded a c es) (unjudged i n) = Right (asks a) (Fits a c) es (replay.not_judged i n)
WhyOf (recorded a c es) (because i n reason) =
    Right (asks a) (Fits a c) es (replay.refuted i n)
    × ((e : Exchange) × (take i es ≡ take (i - 1) es ++ (e ∷ [])) × Because a c (take (i - 1) es) e reason)

abbrev pub RightlyReasoned : List ℕ → Why → Type 0
RightlyReasoned bs why = WhyOf (recording_of bs) why
