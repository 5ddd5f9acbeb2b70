-- The steps of the code, as its private functions promise them; a reader of the entry's promise need not read these.
use Rattle.std.specs.Prelude.{ℕ, List, [], ◌∷◌, ◌++◌, eqb, take, drop, Option, None, Some, Result, Ok, Err}
use Rattle.base.specs.Test.{pick}
use Rattle.state.specs.declared.Record.{Record}
use Rattle.state.specs.Field.{address, get}
use Rattle.frame.specs.Numbers as numbers
use Rattle.stored.specs.declared.Refusal.{Refusal}
use Rattle.stored.specs.Form.{refusal_number, write_of}
use Rattle.board.specs.Board as board
use Rattle.storedboard.specs.StoredBoard.{each, Left}

-- the number n of Kn, 0 if all records are read
abbrev pub read_as : Result (Unit {0}) Refusal → ℕ
read_as (Ok u) = 0
read_as (Err k) = refusal_number k

-- the address that a frame names
unfoldable pub target : numbers.Answer → Option ℕ
target (numbers.unit a n) = Some a
target (numbers.S n) = None
target (numbers.H n) = None
target (numbers.accepted n) = None

-- the first record with address a is written in its place, if it is valid and the place is whole; all else stays
unfoldable pub saved : ℕ → List Record → List ℕ → List ℕ
saved a [] s = s
saved a (r ∷ rs) s = pick (eqb a (get address r)) ((write_of r (take each s)).1 ++ drop each s) (take each s ++ saved a rs (drop each s))

-- and that if there is one, and there was no silence
abbrev pub saved_for : Option ℕ → List Record → List ℕ → List ℕ
saved_for None rs s = s
saved_for (Some a) rs s = saved a rs s

unfoldable pub saved_of : ℕ → Option ℕ → List Record → List ℕ → List ℕ
saved_of silence a rs s = pick (eqb silence 0) (saved_for a rs s) s

-- what the board's call, to that address, leaves over the stored bytes
unfoldable pub lent_of : Option ℕ → board.Outcome → List ℕ → Left
lent_of a c s = record { refused = 0; silence = c.silence; reported = c.reported; stored = saved_of c.silence a c.records s; buffer = c.buffer }
