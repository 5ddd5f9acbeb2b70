-- The same in two steps, as the code takes them: the text alone gives a refusal, or a code with its arguments; the record then decides.
-- All of it is read off the two tables.
use Rattle.std.specs.Prelude.{ℕ, Bool, true, false, not, ◌||◌, Option, Some, None, Result, Ok, Err, List, [], ◌∷◌, ◌++◌, eqb, ltb}
use Rattle.base.specs.Text.{text}
use Rattle.state.specs.declared.Record.{Record}
use Rattle.base.specs.Test.{pick, member}
use Rattle.state.specs.Alarm.{no_alarm}
use Rattle.state.specs.Field.{Field, access, phase, keypad, alarms, level, get, on}
use Rattle.state.specs.Event.{idle, set, running, stopped, done}
use Rattle.command.specs.declared.Reading.{Reading}
use Rattle.command.specs.declared.Reading.TheVariants as reading
use Rattle.command.specs.declared.Writing.{Writing}
use Rattle.command.specs.declared.Writing.TheVariants as writing
use Rattle.command.specs.declared.Request.{Request}
use Rattle.command.specs.declared.Request.TheVariants as request
use Rattle.command.specs.declared.Refusal.{Refusal}
use Rattle.command.specs.declared.Refusal.TheVariants as refusal
use Rattle.command.specs.declared.Phases.{Phases}
use Rattle.command.specs.declared.Phases.TheVariants as phases
use Rattle.command.specs.declared.LevelGuard.{LevelGuard}
use Rattle.command.specs.declared.Guards.{Guards}
use Rattle.command.specs.Commands.{EQ, RS, TN, RR, RC, RT, PV, XV, PC, XC, NR, SB, SA, SP, ET, RE, EA, AR, code_in, Form, numbers, formed, Arguments, none, a_place, a_word, place_behind, last_behind, Reply, acknowledged, printed, Change, applied, commands, row_of, batch_asked, batch_number}
use Rattle.command.specs.Refusals.{Row, by_text, by_arguments, by_field, refusals, arguments_for}
use Rattle.command.specs.Answer.{Verdict, NO, accepted, behind_code, refusal_text}

-- ---- what a text asks for
pub data Asked : Type 0 where
  -- nothing that is served: the number of the first refusal that goes by the text alone
  refused : ℕ → Asked
  -- a code of the table, with arguments
  asked : ℕ → Arguments → Asked

-- the first row that applies of those that go by what stands behind the code, and of those that go by the arguments
unfoldable pub first_by_text : List Row → ℕ → List ℕ → Verdict
first_by_text [] c xs = accepted
first_by_text (by_text m p ∷ rows) c xs = pick (p c xs) (NO m) (first_by_text rows c xs)
first_by_text (by_arguments m p ∷ rows) c xs = first_by_text rows c xs
first_by_text (by_field m codes f p ∷ rows) c xs = first_by_text rows c xs

unfoldable pub first_by_arguments : List Row → ℕ → Arguments → Verdict
first_by_arguments [] c x = accepted
first_by_arguments (by_text m p ∷ rows) c x = first_by_arguments rows c x
first_by_arguments (by_arguments m p ∷ rows) c x = pick (p c x) (NO m) (first_by_arguments rows c x)
first_by_arguments (by_field m codes f p ∷ rows) c x = first_by_arguments rows c x

abbrev pub unless_refused : Verdict → Asked → Asked
unless_refused (NO n) q = refused n
unless_refused accepted q = q

-- by the code and the arguments; PC by place and value is `asked_with PC (a_place i n)`
unfoldable pub asked_with : ℕ → Arguments → Asked
asked_with c x = unless_refused (first_by_arguments refusals c x) (asked c x)

-- by the code and what stands behind it
unfoldable pub asked_for : ℕ → List ℕ → Asked
asked_for c xs = unless_refused (first_by_text refusals c xs) (asked_with c (arguments_for c xs))

unfoldable pub asked_in : List ℕ → Asked
asked_in t = asked_for (code_in t) (behind_code t)

-- the kept batch that a text asks for, by its number
unfoldable pub batch_in : List ℕ → Option ℕ
batch_in t = pick (batch_asked (code_in t) (behind_code t)) (Some (batch_number (behind_code t))) None

-- ---- what refuses it by the record: the rows that look at a field, each a test of that field's number
pub record Guard : Type 0 where
  pub refusal : ℕ
  pub field : Field
  pub refuses : ℕ → Bool

-- those for code c with arguments x on a link of access a
unfoldable pub guards_in : List Row → ℕ → Arguments → ℕ → List Guard
guards_in [] c x a = []
guards_in (by_text m p ∷ rows) c x a = guards_in rows c x a
guards_in (by_arguments m p ∷ rows) c x a = guards_in rows c x a
guards_in (by_field m codes f p ∷ rows) c x a = pick (member c codes) (record { refusal = m; field = f x; refuses = p c x a } ∷ guards_in rows c x a) (guards_in rows c x a)

abbrev pub guards_of : ℕ → Asked → List Guard
guards_of a (refused n) = []
guards_of a (asked c x) = guards_in refusals c x a

unfoldable pub guarded : List Guard → Record → Verdict
guarded [] r = accepted
guarded (g ∷ gs) r = pick (g.refuses (get g.field r)) (NO g.refusal) (guarded gs r)

-- the first of two verdicts that refuses, or that both accept
abbrev pub and_then : Verdict → Verdict → Verdict
and_then (NO n) v = NO n
and_then accepted v = v

-- ---- what an accepted request shows and changes
abbrev pub reply_of : Asked → Reply
reply_of (refused n) = acknowledged
reply_of (asked c x) = (row_of c commands).reply x

abbrev pub changes_of : Asked → List Change
changes_of (refused n) = []
changes_of (asked c x) = (row_of c commands).effect x

-- ---- the answer, and the record afterwards
pub data Answered : Type 0 where
  no : ℕ → Answered
  shows : Reply → Answered

abbrev pub answer_text : Answered → Record → List ℕ
answer_text (no n) r = refusal_text n
answer_text (shows s) r = printed s r

abbrev pub served_by : Verdict → Asked → Record → Answered × Record
served_by (NO n) q r = (no n, r)
served_by accepted q r = (shows (reply_of q), applied (changes_of q) r)

unfoldable pub served_of : Asked → Record → Answered × Record
served_of (refused n) r = (no n, r)
served_of (asked c x) r = served_by (guarded (guards_of (get access r) (asked c x)) r) (asked c x) r

-- ---- the code's values as these
abbrev pub refusal_number : Refusal → ℕ
refusal_number refusal.UnknownCode = 0
refusal_number refusal.Malformed = 1
refusal_number refusal.Keypad = 2
refusal_number refusal.UnknownParameter = 4
refusal_number refusal.Phase = 5
refusal_number refusal.Range = 6
refusal_number refusal.Level = 7
refusal_number refusal.NotServed = 8
refusal_number refusal.UnknownRecipe = 30
refusal_number refusal.Alarm = 9

abbrev pub decision_as : Result Unit Refusal → Verdict
decision_as (Ok u) = accepted
decision_as (Err k) = NO (refusal_number k)

-- the code and the arguments of a read and of a write
abbrev pub as_read : Reading → ℕ × Arguments
as_read reading.Status = (EQ, none)
as_read reading.Codes = (RS, none)
as_read reading.Number = (TN, none)
as_read reading.Recipe = (RR, none)
as_read reading.Composition = (RC, none)
as_read reading.Raw = (RT, a_word (text "R"))
as_read (reading.Value i) = (PV, a_place i 0)
as_read (reading.Level i) = (XV, a_place i 0)
as_read reading.Alarms = (EA, none)

abbrev pub as_written : Writing → ℕ × Arguments
as_written (writing.SetValue i n) = (PC, a_place i n)
as_written (writing.SetLevel i n) = (XC, a_place i n)
as_written (writing.SelectRecipe n) = (NR, a_place 0 n)
as_written (writing.SetBatch n) = (SB, a_place 0 n)
as_written writing.Start = (SA, none)
as_written writing.Stop = (SP, none)
as_written writing.End = (ET, none)
as_written writing.ClearReset = (RE, a_word (text "BD"))
as_written writing.ClearChanged = (RE, a_word (text "PC"))
as_written writing.ResetAlarms = (AR, none)

abbrev pub reading_as : Reading → Asked
reading_as q = asked (as_read q).0 (as_read q).1

abbrev pub writing_as : Writing → Asked
writing_as q = asked (as_written q).0 (as_written q).1

abbrev pub request_as : Result Request Refusal → Asked
request_as (Err k) = refused (refusal_number k)
request_as (Ok (request.Read q)) = reading_as q
request_as (Ok (request.Write q)) = writing_as q

-- what was served: a request that is accepted, or what refuses it
abbrev pub answer_as : Result Request Refusal → Answered
answer_as (Err k) = no (refusal_number k)
answer_as (Ok (request.Read q)) = shows (reply_of (reading_as q))
answer_as (Ok (request.Write q)) = shows acknowledged

abbrev pub effect_of : Result Request Refusal → Option Writing
effect_of (Err k) = None
effect_of (Ok (request.Read q)) = None
effect_of (Ok (request.Write q)) = Some q

-- the record afterwards
abbrev pub effect_as : Option Writing → Record → Record
effect_as None r = r
effect_as (Some q) r = applied (changes_of (writing_as q)) r

abbrev pub served_as : Result Request Refusal → Record → Answered × Record
served_as q r = (answer_as q, effect_as (effect_of q) r)

-- a write, or what refuses it, as a request
abbrev pub to_write : Result Writing Refusal → Result Request Refusal
to_write (Ok q) = Ok (request.Write q)
to_write (Err k) = Err k

-- ---- guards
abbrev pub keypad_guard : Guard
keypad_guard = record { refusal = 2; field = keypad; refuses = λ n. eqb n on }

-- with a link of access a, at place i; `above` if a new level is above the access
abbrev pub level_guard : ℕ → Bool → ℕ → Guard
level_guard a above i = record { refusal = 7; field = level i; refuses = λ n. ltb a n || above }

abbrev pub phase_guard : List ℕ → Guard
phase_guard ps = record { refusal = 5; field = phase; refuses = λ n. not (member n ps) }

abbrev pub alarm_guard : Guard
alarm_guard = record { refusal = 9; field = alarms; refuses = λ n. not (eqb n no_alarm) }

abbrev pub keypad_guards : Bool → List Guard
keypad_guards b = pick b (keypad_guard ∷ []) []

abbrev pub level_guards : ℕ → Option LevelGuard → List Guard
level_guards a None = []
level_guards a (Some l) = level_guard a l.above l.place ∷ []

abbrev pub phase_guards : Option Phases → List Guard
phase_guards None = []
phase_guards (Some phases.IdleOrDone) = phase_guard (idle ∷ done ∷ []) ∷ []
phase_guards (Some phases.SetOrStopped) = phase_guard (set ∷ stopped ∷ []) ∷ []
phase_guards (Some phases.Running) = phase_guard (running ∷ []) ∷ []
phase_guards (Some phases.SetStoppedOrDone) = phase_guard (set ∷ stopped ∷ done ∷ []) ∷ []

abbrev pub alarm_guards : Bool → List Guard
alarm_guards b = pick b (alarm_guard ∷ []) []

abbrev pub guards_as : ℕ → Guards → List Guard
guards_as a g = keypad_guards g.keypad ++ (level_guards a g.level ++ (phase_guards g.phases ++ alarm_guards g.alarms))

abbrev pub plain_guards : Bool → Option Phases → Guards
plain_guards b ps = record { keypad = b; level = None; phases = ps; alarms = false }

-- ---- steps of reading a text

-- the number of a form without a parameter code
unfoldable pub last_of : ℕ → ℕ → List ℕ → Result ℕ Refusal
last_of least most xs = pick (formed (numbers false least most) xs) (Ok (last_behind false most xs)) (Err refusal.Malformed)

-- the place and the number of a form with one
unfoldable pub numbers_of : ℕ → ℕ → List ℕ → Result (ℕ × ℕ) Refusal
numbers_of least most xs = pick (formed (numbers true least most) xs) (Ok (place_behind true xs, last_behind true most xs)) (Err refusal.Malformed)

-- a request if what follows the code has the form
abbrev pub whole : Form → List ℕ → Request → Result Request Refusal
whole f xs q = pick (formed f xs) (Ok q) (Err refusal.Malformed)
