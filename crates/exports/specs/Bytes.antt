-- include/khuyapesh.h: what each function answers and what every lent byte then is, by the definitions of documents 01 and
-- 02.
-- s are the stored bytes, q the request, t a text, f a frame, and o the buffer that is written.
use Rattle.std.specs.Prelude.{ℕ, ◌+◌, ◌≡◌, ◌≤◌, Bool, Option, Some, None, Result, Ok, Err, List, [], eqb, leb, length}
use Rattle.base.specs.Test.{pick, unless}
use Rattle.base.specs.Lists.{over}
use Rattle.state.specs.declared.Record.{Record}
use Rattle.state.specs.declared.Event.{Event}
use Rattle.state.specs.declared.Event.TheVariants.{Pulses, Still, KeypadOn, KeypadOff, PowerBack, AlarmOn, AlarmOff}
use Rattle.state.specs.Event.{after}
use Rattle.state.specs.Field.{flag_number}
use Rattle.stored.specs.Layout.{current}
use Rattle.stored.specs.Form as stored
use Rattle.stored.specs.Form.{K, done, stored_length, stored_form}
use Rattle.frame.specs.declared.Kind.{Kind}
use Rattle.frame.specs.declared.Kind.TheVariants.{Minicomputer, Terminal}
use Rattle.frame.specs.Answer as frame
use Rattle.frame.specs.Numbers.{Answer, H, S, accepted, unit}
use Rattle.controller.specs.Call.{OutcomeOf, Outcome, call_of}
use Rattle.several.specs.Several.{SeveralOn, Several, several_of}
use Rattle.bank.specs.declared.Bank.{Bank}
use Rattle.bank.specs.Bank.{batches_in}
use Rattle.storedbank.specs.StoredBank as storedbank
use Rattle.storedbank.specs.StoredBank.{bank_length, bank_form}
use Rattle.banked.specs.declared.Banked.{Banked}
use Rattle.banked.specs.Banked.{with, banked_of}
use Rattle.banked.specs.Steps.{stored_between}
use Rattle.several.specs.Beside.{banked_several_of}
use Rattle.board.specs.Board as board
use Rattle.board.specs.Board.{answer_length}
use Rattle.storedboard.specs.StoredBoard.{Left, left_as, stored_board_of}
use Rattle.drum.specs.Drum.{Told, Q, short, request, end, stop}
use Rattle.drumstate.specs.State as drumstate
use Rattle.recording.specs.Replay.{fits, refuted, not_judged}
use Rattle.recording.specs.Statement.{Judgement, judged, refused, asks}
use Rattle.recording.specs.declared.Spans.{Spans}
use Rattle.recording.specs.declared.Refusal as recording
use Rattle.recording.specs.Form.{refusal_number}
use Rattle.knowledge.specs.declared.Knowledge.{Knowledge}
use Rattle.knowledge.specs.Knowledge.{room_for, lent_in, may_hold}
use Rattle.hearing.specs.Hearing.{exchange, exchange_learnt}
use Rattle.reason.specs.declared.Reason.{Reason}
use Rattle.reason.specs.declared.Reason.TheVariants as reason
use Rattle.judging.specs.Judge.{Telling, unread, broken, halted, sets, known_of, Caused, unexplained, fitting, unjudged, because}
use Rattle.several.specs.declared.Report.{Report}
use Rattle.stored.specs.declared.Refusal.{Refusal}
use Rattle.exports.specs.declared.WhyNumbers.{WhyNumbers}

-- ---- the numbers

-- "100 + n   silence Sn"
abbrev pub silence_answer : ℕ → ℕ
silence_answer n = 100 + n

-- "200 + n   stored form refused, Kn"
abbrev pub stored_answer : stored.Outcome → ℕ
stored_answer (K n) = 200 + n
stored_answer done = 0

-- "300       no such kind or event"
abbrev pub no_such : ℕ
no_such = 300

-- "400 + n   host side refused, Hn"; or the length. Building and reading answer no address.
abbrev pub host_answer : Answer → ℕ
host_answer (H n) = 400 + n
host_answer (S n) = silence_answer n
host_answer (accepted n) = n
host_answer (unit a n) = n

-- "500 + n   recording refused, Jn"
abbrev pub recording_answer : ℕ → ℕ
recording_answer n = 500 + n

-- "KHUYAPESH_MINICOMPUTER 0", "KHUYAPESH_TERMINAL 1"
abbrev pub is_kind : ℕ → Bool
is_kind n = leb n 1

abbrev pub kind_of : ℕ → Kind
kind_of n = pick (eqb n 0) Minicomputer Terminal

-- "KHUYAPESH_PULSES 0", "KHUYAPESH_STILL 1", "KHUYAPESH_KEYPAD_ON 2", "KHUYAPESH_KEYPAD_OFF 3", "KHUYAPESH_POWER_BACK 4",
-- "KHUYAPESH_ALARM_ON 5", "KHUYAPESH_ALARM_OFF 6"; the number is "the count of pulses .. or the alarm's number"
abbrev pub is_event : ℕ → Bool
is_event n = leb n 6

abbrev pub event_of : ℕ → ℕ → Event
event_of n number =
    pick (eqb n 0) (Pulses number)
    (pick (eqb n 1) Still (pick (eqb n 2) KeypadOn (pick (eqb n 3) KeypadOff (pick (eqb n 4) PowerBack (pick (eqb n 5) (AlarmOn number) (AlarmOff number))))))

-- a buffer has room for the form that is written; "in place of the stored record" the bytes of an older version have not
abbrev pub has_room : List ℕ → Bool
has_room s = leb (stored_length current) (length s)

-- ---- a record that is lent to be written in its place: 0 or the answer of a refusal, and the record

-- "K1 to K4, then K6 for a stored record of version 1", by what was read and whether there is room
abbrev pub open_answer : stored.Outcome → Bool → ℕ
open_answer (K n) room = stored_answer (K n)
open_answer done room = unless room (stored_answer (K 6)) 0

abbrev pub open_read : stored.Outcome × Record → Bool → ℕ × Record
open_read (a, r) room = (open_answer a room, r)

unfoldable pub open_of : List ℕ → ℕ × Record
open_of s = open_read (stored.read_of s) (has_room s)

-- the code's: what was opened, or the answer of a refusal
abbrev pub Opened : {S : Type 0} → Result S ℕ → ℕ × S → Type 0
Opened (Ok r) x = x ≡ (0, r)
Opened (Err n) x = (x.0 ≡ n) × (n ≡ 0 → ⊥)

-- what a refusal leaves, by its answer, or what is done with what was opened
abbrev pub in_place : {A S : Type 0} → ℕ × S → (ℕ → A) → (S → A) → A
in_place (n, r) refusal on = pick (eqb n 0) (on r) (refusal n)

-- ---- khuyapesh_call: the answer, the stored bytes and the reply buffer

-- "the reply's length, with the reply at the start of the reply buffer, .., and the record after it in place of the stored
-- record"; "a refusal or silence leaves every lent byte as it was"
unfoldable pub call_left : Outcome → List ℕ → List ℕ → ℕ × (List ℕ × List ℕ)
call_left c s o = pick (eqb c.silence 0) (c.reported, (stored_form c.after, c.buffer)) (silence_answer c.silence, (s, o))

-- the same on another link, where `state` is the record of what is held and `answer` a silence's answer
abbrev pub left_of : {S : Type 0} → (S → Record) → (ℕ → ℕ) → OutcomeOf S → List ℕ → List ℕ → ℕ × (List ℕ × List ℕ)
left_of state answer c s o = pick (eqb c.silence 0) (c.reported, (stored_form (state c.after), c.buffer)) (answer c.silence, (s, o))

-- "no such kind, then K1 to K4, then K6 .., then S2 to S8"
unfoldable pub call_bytes : ℕ → List ℕ → List ℕ → List ℕ → ℕ × (List ℕ × List ℕ)
call_bytes kind s q o =
    unless (is_kind kind) (no_such, (s, o))
    (in_place (open_of s) (λ n. (n, (s, o))) (λ r. call_left (call_of (kind_of kind) r q o) s o))

-- ---- khuyapesh_several: the answer, what is reported, the stored bytes and the reply buffer
pub record SeveralLeft : Type 0 where
  pub answer : ℕ
  pub taken : ℕ
  pub answered : ℕ
  pub written : ℕ
  pub stored : List ℕ
  pub reply : List ℕ

abbrev pub several_numbers : ℕ → ℕ → ℕ → ℕ → List ℕ → List ℕ → SeveralLeft
several_numbers n p a u s o = record { answer = n; taken = p; answered = a; written = u; stored = s; reply = o }

-- "the three numbers are 0 and nothing else is changed"
abbrev pub nothing_taken : ℕ → List ℕ → List ℕ → SeveralLeft
nothing_taken n s o = several_numbers n 0 0 0 s o

abbrev pub several_as : Result Report ℕ → List ℕ → List ℕ → SeveralLeft
several_as (Ok p) s o = several_numbers 0 p.taken p.answered p.written s o
several_as (Err n) s o = nothing_taken n s o

-- the code's answer and what is reported
abbrev pub reported_as : Result Report ℕ → ℕ × (ℕ × (ℕ × ℕ))
reported_as (Ok p) = (0, (p.taken, (p.answered, p.written)))
reported_as (Err n) = (n, (0, (0, 0)))

unfoldable pub several_left : Several → List ℕ → List ℕ → SeveralLeft
several_left c s o =
    pick (eqb c.silence 0)
    (several_numbers 0 c.taken c.answered c.written (stored_form c.after) c.buffer)
    (nothing_taken (silence_answer c.silence) s o)

-- "K1 to K4, then K6"; b are the lent bytes
unfoldable pub several_bytes : List ℕ → List ℕ → List ℕ → SeveralLeft
several_bytes s b o = in_place (open_of s) (λ n. nothing_taken n s o) (λ r. several_left (several_of r b o) s o)

-- ---- a bank that is lent beside the record: b are its bytes

-- "K7 for the bank"
abbrev pub bank_answer : storedbank.Outcome → ℕ
bank_answer (storedbank.K n) = 200 + n
bank_answer storedbank.done = 0

-- "then K1 to K4 or K6 for the record ..., then K7 for the bank"
unfoldable pub open_banked : List ℕ → List ℕ → ℕ × Banked
open_banked s b =
    (unless (eqb (open_of s).0 0) (open_of s).0 (bank_answer (storedbank.open_of b).0), with (open_of s).1 (storedbank.open_of b).1)

-- "the bank after it in its place": where a batch was stored it is written over the start of the bytes, and else it stands there
abbrev pub bank_left : Banked → Banked → List ℕ → List ℕ
bank_left h c b = pick (stored_between h.state c.state) (over (bank_form (batches_in c.bank)) b) b

-- the code's part of that, whatever the bank
unfoldable pub saved_bank : Record → Record → Bank → List ℕ → List ℕ
saved_bank r t k b = pick (stored_between r t) (storedbank.write_of k b).1 b

-- ---- khuyapesh_banked_call: the answer, the stored bytes, the bank's and the reply buffer
unfoldable pub banked_left : Banked → OutcomeOf Banked → List ℕ → List ℕ → List ℕ → ℕ × (List ℕ × (List ℕ × List ℕ))
banked_left h c s b o =
    pick (eqb c.silence 0) (c.reported, (stored_form c.after.state, (bank_left h c.after b, c.buffer)))
    (silence_answer c.silence, (s, (b, o)))

-- "no such kind, then .."
unfoldable pub banked_bytes : ℕ → List ℕ → List ℕ → List ℕ → List ℕ → ℕ × (List ℕ × (List ℕ × List ℕ))
banked_bytes kind s b q o =
    unless (is_kind kind) (no_such, (s, (b, o)))
    (in_place (open_banked s b) (λ n. (n, (s, (b, o)))) (λ h. banked_left h (banked_of (kind_of kind) h q o) s b o))

-- ---- khuyapesh_banked_several: as khuyapesh_several, and the bank's bytes
unfoldable pub banked_several_left : SeveralOn Banked → List ℕ → List ℕ → List ℕ → SeveralLeft × List ℕ
banked_several_left c s b o =
    pick (eqb c.silence 0)
    (several_numbers 0 c.taken c.answered c.written (stored_form c.after.state) c.buffer, over (bank_form (batches_in c.after.bank)) b)
    (nothing_taken (silence_answer c.silence) s o, b)

-- t are the lent bytes
unfoldable pub banked_several_bytes : List ℕ → List ℕ → List ℕ → List ℕ → SeveralLeft × List ℕ
banked_several_bytes s b t o =
    in_place (open_banked s b) (λ n. (nothing_taken n s o, b)) (λ h. banked_several_left (banked_several_of h t o) s b o)

-- ---- khuyapesh_bank: the answer and the buffer
-- "writes the bank that was read to the start of out, the rest of which stays. Answers K6 if out is shorter than what would be written, with out
-- untouched; else .. or K7, and then the bank written is the empty one"
unfoldable pub bank_bytes : List ℕ → List ℕ → ℕ × List ℕ
bank_bytes b o =
    unless (leb (bank_length (storedbank.read_of b).1.count) (length o)) (206, o)
    (bank_answer (storedbank.read_of b).0, over (bank_form (batches_in (storedbank.read_of b).1)) o)

-- ---- khuyapesh_board: the answer, the stored bytes and the reply buffer

-- "the reply's length", or a silence
abbrev pub heard_answer : ℕ → ℕ → ℕ
heard_answer silence reported = pick (eqb silence 0) reported (silence_answer silence)

-- "K1 .., S9 .., the first record's K1 to K4; S11, S2 to S8"
abbrev pub board_answer : Left → ℕ
board_answer x = unless (eqb x.refused 0) (stored_answer (K x.refused)) (heard_answer x.silence x.reported)

unfoldable pub board_left : Left → ℕ × (List ℕ × List ℕ)
board_left x = (board_answer x, (x.stored, x.buffer))

-- "no such kind, then .."
unfoldable pub board_bytes : ℕ → List ℕ → List ℕ → List ℕ → ℕ × (List ℕ × List ℕ)
board_bytes kind s q o = unless (is_kind kind) (no_such, (s, o)) (board_left (stored_board_of (kind_of kind) s q o))

-- what the code's answer alone tells, and that a number has room for it
abbrev pub answer_left : Result board.Answer Refusal → Left
answer_left a = left_as a [] []

abbrev pub Tellable : Result board.Answer Refusal → Type 0
Tellable (Err k) = Unit {0}
Tellable (Ok a) = answer_length a ≤ 64

-- ---- khuyapesh_panel: the answer and the stored bytes

-- "0, with the record after it in place of the stored record"; "no such event, then K1 to K4, then K6"
unfoldable pub panel_bytes : ℕ → ℕ → List ℕ → ℕ × List ℕ
panel_bytes event number s =
    unless (is_event event) (no_such, s)
    (in_place (open_of s) (λ n. (n, s)) (λ r. (0, stored_form (after (event_of event number) r))))

-- ---- khuyapesh_stored: the answer and the buffer

-- "writes the record that was read, in its stored form, to the start of out, the rest of which stays. Answers 0; or 201 to
-- 204, and then the record written is the low one ..; or 206 if out is under KHUYAPESH_STORED_LENGTH bytes, with out untouched"
unfoldable pub stored_bytes : List ℕ → List ℕ → ℕ × List ℕ
stored_bytes s o =
    unless (has_room o) (stored_answer (K 6), o)
    (stored_answer (stored.read_of s).0, over (stored_form (stored.read_of s).1) o)

-- ---- khuyapesh_build and khuyapesh_read: the answer and the buffer
abbrev pub host_left : Answer × List ℕ → ℕ × List ℕ
host_left (a, o) = (host_answer a, o)

-- "the frame's length; or 300, then 401 to 403"
unfoldable pub build_bytes : ℕ → List ℕ → List ℕ → ℕ × List ℕ
build_bytes kind t o = unless (is_kind kind) (no_such, o) (host_left (frame.build_of (kind_of kind) t o))

-- "the text's length; or 300, then 401, then 103 to 106"
unfoldable pub read_bytes : ℕ → List ℕ → List ℕ → ℕ × List ℕ
read_bytes kind f o = unless (is_kind kind) (no_such, o) (host_left (frame.read_of (kind_of kind) f o))

-- ---- khuyapesh_drum_begin and khuyapesh_drum_take: the answer, the state and the request buffer

-- "the next request's length"; "0 at the end; 600 + n for Qn ..; 700 + step for a wrong reply; 401 for a request buffer under 64 bytes"
abbrev pub drum_answer : Told → ℕ
drum_answer (Q n) = 600 + n
drum_answer short = 401
drum_answer (request n) = n
drum_answer end = 0
drum_answer (stop i) = 700 + i

unfoldable pub drum_left : drumstate.Left → ℕ × (List ℕ × List ℕ)
drum_left x = (drum_answer x.told, (x.state, x.buffer))

-- ---- khuyapesh_judge: the answer, the place and the count
-- "0 for `fits N`, with 0 in *place and N in *count; 1 for `refuted at I of N`, with I in *place and N in *count; 2 for `not judged at I`, with I
-- in *place and N in *count; 500 + n for `refused Jn`, with 0 in both"
unfoldable pub judge_numbers : Judgement → ℕ × (ℕ × ℕ)
judge_numbers (judged (fits n)) = (0, (0, n))
judge_numbers (judged (refuted i n)) = (1, (i, n))
judge_numbers (judged (not_judged i n)) = (2, (i, n))
judge_numbers (refused n) = (recording_answer n, (0, 0))

-- ---- khuyapesh_known: the answer, the place and the sets
abbrev pub known_left : Telling × List ℕ → List ℕ → ℕ × (ℕ × List ℕ)
known_left (unread n, cs) o = (recording_answer n, (0, o))
known_left (broken i, cs) o = (1, (i, o))
known_left (halted i, cs) o = (2, (i, o))
known_left (sets, cs) o = (0, (0, over cs o))

-- "H1 for under KHUYAPESH_FIELDS sets, then J1 to J5"
unfoldable pub known_numbers : List ℕ → ℕ → List ℕ → ℕ × (ℕ × List ℕ)
known_numbers bs k o = unless (room_for o) (401, (0, o)) (known_left (known_of bs k) o)

-- ---- khuyapesh_learn: the answer and the sets
abbrev pub learnt_left : Knowledge → List ℕ → ℕ × List ℕ
learnt_left k o = pick k.alive (0, over k.codes o) (1, o)

unfoldable pub learn_numbers : ℕ → ℕ → List ℕ → List ℕ → List ℕ → ℕ × List ℕ
learn_numbers a c q reply o =
    unless (room_for o) (401, o) (pick (asks a (exchange q reply)) (2, o) (learnt_left (exchange_learnt a c (lent_in o) (exchange q reply)) o))

-- ---- khuyapesh_may_hold
abbrev pub may_hold_number : ℕ → ℕ → ℕ → ℕ
may_hold_number field set n = flag_number (may_hold field set n)

-- ---- khuyapesh_why: the answer, the place, the number, what is held and what is needed
abbrev pub reason_numbers : ℕ → Reason → ℕ × (ℕ × (ℕ × (ℕ × ℕ)))
reason_numbers i (reason.Answered n) = (1, (i, (n, (0, 0))))
reason_numbers i reason.Unanswered = (2, (i, (0, (0, 0))))
reason_numbers i reason.Impossible = (3, (i, (0, (0, 0))))
reason_numbers i (reason.Field f held needed) = (4, (i, (f, (held, needed))))

-- the code's numbers as these
abbrev pub why_as : WhyNumbers → ℕ × (ℕ × (ℕ × (ℕ × ℕ)))
why_as x = (x.answer, (x.place, (x.number, (x.held, x.needed))))

unfoldable pub why_numbers : Caused → ℕ × (ℕ × (ℕ × (ℕ × ℕ)))
why_numbers (unexplained n) = (recording_answer n, (0, (0, (0, 0))))
why_numbers (fitting n) = (0, (0, (0, (0, 0))))
why_numbers (unjudged i n) = (5, (i, (0, (0, 0))))
why_numbers (because i n why) = reason_numbers i why

-- ---- khuyapesh_exchange: the answer, and where the request and the reply are
unfoldable pub exchange_numbers : Result (Option Spans) recording.Refusal → ℕ × (ℕ × (ℕ × (ℕ × ℕ)))
exchange_numbers (Ok None) = (1, (0, (0, (0, 0))))
exchange_numbers (Err k) = (recording_answer (refusal_number k), (0, (0, (0, 0))))
exchange_numbers (Ok (Some p)) = (0, (p.request, (p.stop, (p.reply, p.end))))
