-- Document 02, L5, over bytes: a board whose records are lent end to end in their stored form.
-- s are these bytes, q is the lent request, o the lent reply buffer.
use Rattle.std.specs.Prelude.{ℕ, zero, suc, ◌/◌, ◌%◌, List, [], ◌∷◌, ◌++◌, map, eqb, length, take, drop, Result, Ok, Err}
use Rattle.base.specs.Test.{pick, unless, between}
use Rattle.state.specs.declared.Record.{Record}
use Rattle.state.specs.Field.{address, get}
use Rattle.stored.specs.Layout.{current}
use Rattle.stored.specs.Form as stored
use Rattle.stored.specs.Form.{K, done, refusal_number, stored_length, stored_form, read_of}
use Rattle.frame.specs.declared.Kind.{Kind}
use Rattle.board.specs.Board as board
use Rattle.board.specs.Board.{Outcome, asked, board_of, answer_silence, answer_length}
use Rattle.stored.specs.declared.Refusal.{Refusal}

-- the bytes of one record
abbrev pub each : ℕ
each = stored_length current

-- ---- reading: how many records there are, the stored forms of n of them, and these records
abbrev pub count_in : List ℕ → ℕ
count_in s = length s / each

unfoldable pub forms_in : ℕ → List ℕ → List (List ℕ)
forms_in zero s = []
forms_in (suc n) s = take each s ∷ forms_in n (drop each s)

abbrev pub records_in : List (List ℕ) → List Record
records_in bs = map (λ b. (read_of b).1) bs

-- the number n of Kn, 0 if there is none; and that of the first record that is refused
abbrev pub refusal_in : stored.Outcome → ℕ
refusal_in (K n) = n
refusal_in done = 0

unfoldable pub first_refused : List (List ℕ) → ℕ
first_refused [] = 0
first_refused (b ∷ bs) = pick (eqb (refusal_in (read_of b).0) 0) (first_refused bs) (refusal_in (read_of b).0)

-- ---- writing: the record with address a takes its place; all other bytes stay
unfoldable pub written : ℕ → List Record → List ℕ → List ℕ
written a [] s = s
written a (r ∷ rs) s = pick (eqb a (get address r)) (stored_form r ++ drop each s) (take each s ++ written a rs (drop each s))

-- ---- what a call leaves: the number of the stored form's refusal, 0 if there is none; the number of the silence, 0 if there
-- is none; the reported length; the stored bytes; the reply buffer
pub record Left : Type 0 where
  pub refused : ℕ
  pub silence : ℕ
  pub reported : ℕ
  pub stored : List ℕ
  pub buffer : List ℕ

-- a refusal or silence changes no byte
abbrev pub refused_by : ℕ → List ℕ → List ℕ → Left
refused_by n s o = record { refused = n; silence = 0; reported = 0; stored = s; buffer = o }

abbrev pub silent_by : ℕ → List ℕ → List ℕ → Left
silent_by n s o = record { refused = 0; silence = n; reported = 0; stored = s; buffer = o }

-- the board's call, to address a
abbrev pub called_on : ℕ → Outcome → List ℕ → Left
called_on a c s =
    record {
      refused = 0;
      silence = c.silence;
      reported = c.reported;
      stored = pick (eqb c.silence 0) (written a c.records s) s;
      buffer = c.buffer;
    }

-- K1 if the bytes are no whole number of records; S9, which goes by their number alone; the first record's K1 to K4, so that
-- S10 cannot come; then the board's call
unfoldable pub stored_board_of : Kind → List ℕ → List ℕ → List ℕ → Left
stored_board_of k s q o =
    let bs = forms_in (count_in s) s in
    unless (eqb (length s % each) 0) (refused_by 1 s o)
    (unless (between 1 16 (count_in s)) (silent_by 9 s o)
    (unless (eqb (first_refused bs) 0) (refused_by (first_refused bs) s o)
    (called_on (asked k q) (board_of k (records_in bs) q o) s)))

-- ---- the board's answer and the code's, as the papers number them
abbrev pub called_as : board.Answer → List ℕ → List ℕ → Left
called_as a s o = record { refused = 0; silence = answer_silence a; reported = answer_length a; stored = s; buffer = o }

abbrev pub left_as : Result board.Answer Refusal → List ℕ → List ℕ → Left
left_as (Err k) s o = refused_by (refusal_number k) s o
left_as (Ok a) s o = called_as a s o
