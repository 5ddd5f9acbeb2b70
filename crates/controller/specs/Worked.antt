-- Document 01, "Worked on the bench record", and rows for 02: the starred examples of the controller as whole frames, computed on the
-- definition that the promise of `call` cites. One table under one statement. Assumes nothing.
use Rattle.std.specs.Prelude.{ℕ, ◌≡◌, refl, List, [], ◌∷◌, ◌++◌, map, length, take, replicate}
use Prim.Native.String.{String}
use Rattle.std.specs.Int.Bits.{bit_xor}
use Rattle.base.specs.Test.{all_between}
use Rattle.base.specs.Text.{text}
use Rattle.state.specs.declared.Record.{Record}
use Rattle.state.specs.Parameter.{code_at, place_in, place_of, range_at}
use Rattle.state.specs.Alarm.{character_values}
use Rattle.state.specs.Field.{phase_of, put}
use Rattle.state.specs.Valid.{all_in, valid}
use Rattle.frame.specs.declared.Kind.TheVariants.{Minicomputer}
use Rattle.frame.specs.Frame.{names_unit, address_in, xor_from, frame_of, text_in, within_limits, marks_right, check_right}
use Rattle.base.specs.Lists.{over}
use Rattle.text.specs.Word.{digits, value_from, equal}
use Rattle.command.specs.Status.{weight_in, status_characters, alarm_characters, codes_on}
use Rattle.command.specs.Commands.{code_in, digits_between, formed, applied, row_of}
use Rattle.command.specs.Answer.{first_of, verdict, reply_text, record_after}
use Rattle.command.specs.Bench.{bench}
use Rattle.controller.specs.Call.{Outcome, call_of}

-- a request frame, and the reply frame that it must get
pub record Step : Type 0 where
  pub request : List ℕ
  pub reply : List ℕ

-- ---- the frame of a quoted text, in words of its own and not those of the definitions that are computed below
-- the exclusive or of the bytes and 03
unfoldable pub check : List ℕ → ℕ
check [] = 0x03
check (x ∷ xs) = bit_xor x (check xs)

abbrev pub framed : String → List ℕ
framed s = 0x02 ∷ (text s ++ (0x03 ∷ check (text s) ∷ 0x7f ∷ []))

-- ---- the frames that document 01 prints
abbrev pub EQ-frame : List ℕ
EQ-frame = 0x02 ∷ 0x30 ∷ 0x31 ∷ 0x45 ∷ 0x51 ∷ 0x03 ∷ 0x16 ∷ 0x7f ∷ []

-- "Here the check equals STX."
abbrev pub status-frame : List ℕ
status-frame = 0x02 ∷ 0x30 ∷ 0x31 ∷ 0x30 ∷ 0x30 ∷ 0x30 ∷ 0x30 ∷ 0x30 ∷ 0x30 ∷ 0x03 ∷ 0x02 ∷ 0x7f ∷ []

abbrev pub OK-frame : List ℕ
OK-frame = 0x02 ∷ 0x30 ∷ 0x31 ∷ 0x4f ∷ 0x4b ∷ 0x03 ∷ 0x06 ∷ 0x7f ∷ []

pub framing : framed "01EQ" ∷ framed "01000000" ∷ framed "01OK" ∷ [] ≡ EQ-frame ∷ status-frame ∷ OK-frame ∷ []
unfolding check
framing = refl

-- ---- the examples, in the order of the documents
infix 70 ◌gets◌
abbrev pub ◌gets◌ : List ℕ → List ℕ → Step
q gets a = record { request = q; reply = a }

abbrev pub table : List Step
table =
    EQ-frame gets status-frame
    ∷ framed "01RC" gets framed "01RC 03 00010012"
    ∷ framed "01PC 807 5" gets framed "01NO07"
    -- 02, L2: the value that is held leaves the flag off
    ∷ framed "01PC 032 10012" gets OK-frame
    ∷ EQ-frame gets status-frame
    ∷ framed "01PC 032 10150" gets OK-frame
    ∷ framed "01PV 032" gets framed "01PV 032 00010150"
    ∷ EQ-frame gets framed "01000800"
    ∷ framed "01SB 500" gets OK-frame
    ∷ framed "01TN" gets framed "01TN 0001"
    ∷ EQ-frame gets framed "01120800"
    ∷ framed "01SA" gets OK-frame
    ∷ EQ-frame gets framed "015:0800"
    ∷ framed "01RS" gets framed "01RS BD PC TP RL "
    -- Running
    ∷ framed "01PC 032 7999" gets framed "01NO06"
    ∷ framed "01PC 032 8000" gets framed "01NO05"
    ∷ framed "01PC 807 5" gets framed "01NO07"
    -- 02, L1: no alarm
    ∷ framed "01EA" gets framed "0100000"
    ∷ []

-- ---- the calls: a reply buffer of 64 bytes; each call gets the record that the last returned
abbrev pub called : Record → List ℕ → Outcome
called r q = call_of Minicomputer r q (replicate 64 0xee)

-- the reported length, and the buffer's bytes up to it
abbrev pub heard : Outcome → ℕ × List ℕ
heard o = (o.reported, take o.reported o.buffer)

unfoldable pub replies : Record → List (List ℕ) → List (ℕ × List ℕ)
replies r [] = []
replies r (q ∷ qs) = heard (called r q) ∷ replies (called r q).after qs

pub worked : replies bench (map (λ s. s.request) table) ≡ map (λ s. (length s.reply, s.reply)) table
unfolding replies check bench call_of valid all_in range_at place_of place_in within_limits marks_right check_right xor_from text_in all_between names_unit address_in frame_of over reply_text record_after verdict first_of code_in formed digits_between value_from equal row_of digits weight_in status_characters alarm_characters character_values codes_on code_at applied put phase_of
worked = refl
