-- Document 01, "Worked on the bench record": the starred examples, controller and judge together, as one table under one statement; and
-- 02, L2 and L7, on the judge. The replies are computed on the definition that the promise of `call` cites. A recording's row is its length, demand 3 itself, and the line
-- that `write` lays: the judge's answer is computed on its definition and is right by the theorem. Assumes nothing.
use Prim.Native.Nat.{ℕ, ◌+◌}
use Prim.Native.String.{String}
use mathlib.Core.Path.{◌≡◌, refl, subst}
use mathlib.Core.List.{List, [], ◌∷◌, ◌++◌, map}
use lib.ListN.{length}
use Rattle.base.proofs.Tests.{◌also◌}
use Rattle.command.specs.Bench.{bench}
use Rattle.base.specs.Text.{text}
use Rattle.controller.specs.Worked as controller
use Rattle.controller.specs.Worked.{Step, EQ-frame, status-frame, OK-frame, framed, ◌gets◌, replies, check}
use Rattle.recording.specs.Replay.{fits, refuted, not_judged, before_asked}
use Rattle.recording.specs.Statement.{Judgement, judged, Demand3}
use Rattle.hearing.specs.Hearing.{silence_said, reply_said, said_of, exchange_learnt}
use Rattle.judging.specs.Judge.{judgement_of}
use Rattle.recording.specs.Form.{recording_of, exchanges_in}
use Rattle.recording.specs.Progress.{passed, answer_of}
use Rattle.base.specs.Test.{all_between}
use Rattle.state.specs.Parameter.{code_at as parameter_code, range_at, place_of, place_in}
use Rattle.frame.specs.Frame.{within_limits, marks_right, check_right, xor_from, text_in, names_unit, address_in, frame_of}
use Rattle.frame.specs.Answer.{address_of, locate_of}
use Rattle.text.specs.Word.{newline, digits, width_in, decimal, equal, value_from, number_for}
use Rattle.command.specs.Commands.{code_in, formed, digits_between, row_of, batch_asked}
use Rattle.banked.specs.Banked.{asks_heard}
use Rattle.command.specs.Request.{first_by_text, first_by_arguments, asked_with, asked_for, asked_in, guards_in}
use Rattle.knowledge.specs.Sets.{mask_from, bit, flag_code}
use Rattle.knowledge.specs.Knowledge.{code_at, restricted, told, becoming, advanced, replacing, start}
use Rattle.showing.specs.Heard.{number_behind, weight_lit, characters_formed}
use Rattle.showing.specs.Shown.{shown, bits_shown, characters_shown, status_shown, word_shown, codes_shown, list_shown}
use Rattle.learning.specs.Learn as through
use Rattle.learning.specs.Learn.{heard_of, learn_of, refused_by, moved}
use Rattle.judging.proofs.Theorem.{judgement_right}
use Rattle.line.specs.Line.{line_of}

-- frames sent to the bench record one after the other, each with the reply that it must get;
-- or a recording, how many bytes it has, its answer, and the line that is printed
pub data Example : Type 0 where
  calls : List Step → Example
  recording : List ℕ → ℕ → Judgement → String → Example

abbrev pub Holds : Example → Type 0
Holds (calls steps) = replies bench (map (λ s. s.request) steps) ≡ map (λ s. (length s.reply, s.reply)) steps
Holds (recording bs n j s) = (length bs ≡ n) × Demand3 bs j × (line_of j ≡ text s ++ newline)

abbrev pub AllHold : List Example → Type 0
AllHold [] = Unit {0}
AllHold (e ∷ es) = Holds e × AllHold es

-- ---- recordings of address 1 and access 2, of under 256 bytes

-- "one length byte and the request frame, one length byte and the reply frame"
abbrev pub laid : List Step → List ℕ
laid [] = []
laid (s ∷ ss) = length s.request ∷ (s.request ++ (length s.reply ∷ (s.reply ++ laid ss)))

abbrev pub recorded : List Step → List ℕ
recorded ss = 1 ∷ 0 ∷ (5 + length (laid ss)) ∷ 1 ∷ 2 ∷ laid ss

-- "EQ "000000"; PC 032 10150 OK; RC .."
abbrev pub drum : List ℕ → List ℕ
drum composition = recorded (EQ-frame gets status-frame ∷ framed "01PC 032 10150" gets OK-frame ∷ framed "01RC" gets composition ∷ [])

-- "01 00 05 01 02"
abbrev pub none : List ℕ
none = 0x01 ∷ 0x00 ∷ 0x05 ∷ 0x01 ∷ 0x02 ∷ []

-- "SP NO05, SA NO05, SB 500 NO05"
abbrev pub no_phase : List ℕ
no_phase = recorded (framed "01SP" gets framed "01NO05" ∷ framed "01SA" gets framed "01NO05" ∷ framed "01SB 500" gets framed "01NO05" ∷ [])

-- "SA NO02, SB 1 NO05"
abbrev pub keypad_off : List ℕ
keypad_off = recorded (framed "01SA" gets framed "01NO02" ∷ framed "01SB 1" gets framed "01NO05" ∷ [])

-- 02, L2: with the flag off a value is set, and EQ shows the flag so; the second time the value held is known
abbrev pub unknown-replaced : String → List ℕ
unknown-replaced status = recorded (EQ-frame gets status-frame ∷ framed "01PC 032 10150" gets OK-frame ∷ EQ-frame gets framed status ∷ [])

abbrev pub known-replaced : String → List ℕ
known-replaced status =
    recorded
    (EQ-frame gets status-frame ∷ framed "01PV 032" gets framed "01PV 032 00010150" ∷ framed "01PC 032 10150" gets OK-frame ∷ EQ-frame gets framed status ∷ [])

-- 02, L7: a kept batch is asked for between EQ and one more exchange
abbrev pub batch_asked_lem : List ℕ → List ℕ
batch_asked_lem question =
    recorded (EQ-frame gets status-frame ∷ question gets framed "01RT R 00000500 001" ∷ EQ-frame gets framed "01000800" ∷ [])

-- ---- the table
abbrev pub table : List Example
table =
    calls controller.table
    -- "Recording 01 00 05 01 02: `fits 0`."
    ∷ recording none 5 (judged (fits 0)) "fits 0"
    -- "It is 85 bytes and prints `refuted at 3 of 3`. With "RC 04 00010012" instead: `fits 3`."
    ∷ recording (drum (framed "01RC 03 00010012")) 85 (judged (refuted 3 3)) "refuted at 3 of 3"
    ∷ recording (drum (framed "01RC 04 00010012")) 85 (judged (fits 3)) "fits 3"
    -- "refuted at 3, no phase is left"
    ∷ recording no_phase 69 (judged (refuted 3 3)) "refuted at 3 of 3"
    -- "refuted at 2"
    ∷ recording keypad_off 47 (judged (refuted 2 2)) "refuted at 2 of 2"
    -- "the old value could be equal or not, the flag may then be either"
    ∷ recording (unknown-replaced "01000000") 77 (judged (fits 3)) "fits 3"
    ∷ recording (unknown-replaced "01000800") 77 (judged (fits 3)) "fits 3"
    -- "exactly if the value differs from the one held; else the flag stays"
    ∷ recording (known-replaced "01000000") 112 (judged (fits 4)) "fits 4"
    ∷ recording (known-replaced "01000800") 112 (judged (refuted 4 4)) "refuted at 4 of 4"
    -- "At the first such request not silent the judge writes `not judged at I`"; with another letter it is NO01
    ∷ recording (batch_asked_lem (framed "01RT R 001")) 88 (judged (not_judged 2 3)) "not judged at 2"
    ∷ recording (batch_asked_lem (framed "01RT G 001")) 88 (judged (refuted 2 3)) "refuted at 2 of 3"
    ∷ []

-- a recording's row as it is computed, with the answer of the judge's definition
abbrev Computed : Example → Type 0
Computed (calls steps) = Holds (calls steps)
Computed (recording bs n j s) = (length bs ≡ n) × (judgement_of bs ≡ j) × (line_of j ≡ text s ++ newline)

abbrev AllComputed : List Example → Type 0
AllComputed [] = Unit {0}
AllComputed (e ∷ es) = Computed e × AllComputed es

computed : AllComputed table
unfolding check judgement_of recording_of exchanges_in before_asked asks_heard batch_asked answer_of passed exchange_learnt said_of reply_said silence_said address_of locate_of within_limits marks_right check_right xor_from text_in all_between names_unit address_in frame_of digits equal value_from asked_in asked_for asked_with first_by_text first_by_arguments guards_in row_of code_in formed digits_between heard_of learn_of number_behind number_for through.passed refused_by shown status_shown characters_formed weight_lit characters_shown bits_shown list_shown codes_shown word_shown moved restricted told code_at becoming advanced replacing flag_code start mask_from bit parameter_code range_at place_of place_in width_in decimal line_of
computed = (
  controller.worked,
  (refl, refl, refl) also (refl, refl, refl) also (refl, refl, refl) also (refl, refl, refl) also (refl, refl, refl) also
      (refl, refl, refl) also (refl, refl, refl) also (refl, refl, refl) also (refl, refl, refl) also (refl, refl, refl) also (refl, refl, refl) also tt,
)

-- and that answer is right by the theorem
right : (e : Example) → Computed e → Holds e
right (calls steps) h = h
right (recording bs n j s) h = (h.0, subst (Demand3 bs) h.1 (judgement_right bs), h.2)

all_right : (es : List Example) → AllComputed es → AllHold es
all_right [] h = h
all_right (e ∷ es) h = (right e h.0, all_right es h.1)

pub worked : AllHold table
worked = all_right table computed
