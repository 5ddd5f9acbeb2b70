-- The steps of the code, as its private functions promise them; a reader of the entry's promise need not read these.
use Rattle.std.specs.Prelude.{ℕ, List, Result, Ok, Err, ok_or, position, ◌==◌, leb, length}
use Rattle.base.specs.Test.{unless, between, all_distinct}
use Rattle.state.specs.declared.Record.{Record}
use Rattle.frame.specs.declared.Kind.{Kind}
use Rattle.frame.specs.declared.Silence.{Silence}
use Rattle.frame.specs.Numbers as numbers
use Rattle.frame.specs.Numbers.{silence_number}
use Rattle.frame.specs.Answer.{address_of}
use Rattle.board.specs.declared.Refusal.{Refusal}
use Rattle.board.specs.Board.{all_valid, addresses, refusal_number}

-- the number of a list's refusal, 0 if there is none
unfoldable pub refused_of : List Record → ℕ
refused_of rs =
    unless (between 1 16 (length rs)) 9
    (unless (all_valid rs) 10
    (unless (all_distinct (addresses rs)) 11
    0))

abbrev pub checked_as : Result (Unit {0}) Refusal → ℕ
checked_as (Ok u) = 0
checked_as (Err w) = refusal_number w

-- the place of the first record with an address, or S8
abbrev pub place_of : ℕ → List Record → Result ℕ ℕ
place_of a rs = ok_or (position (λ r. r.address == a) rs) 8

-- by the frame: a silence, or the place of its address
abbrev pub way_to : numbers.Answer → List Record → Result ℕ ℕ
way_to (numbers.unit a m) rs = place_of a rs
way_to (numbers.S w) rs = Err w
way_to (numbers.H w) rs = Err 0
way_to (numbers.accepted w) rs = Err 0

-- where the request goes, or the number of the silence
unfoldable pub found_of : Kind → List Record → List ℕ → ℕ → Result ℕ ℕ
found_of k rs q room = unless (leb 64 room) (Err 2) (way_to (address_of k q) rs)

abbrev pub found_as : Result ℕ Silence → Result ℕ ℕ
found_as (Ok i) = Ok i
found_as (Err w) = Err (silence_number w)
