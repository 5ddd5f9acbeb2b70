-- Document 02, L4, on the bench record: streams as the serial card hands them over, computed on the definition that the promise of `call`
-- cites. One table under one statement. Assumes nothing.
use Rattle.std.specs.Prelude.{ℕ, ◌-◌, ◌≡◌, refl, List, [], ◌∷◌, ◌++◌, map, drop, replicate}
use Rattle.base.specs.Test.{all_between}
use Rattle.base.specs.Lists.{over}
use Rattle.state.specs.Parameter.{place_in, place_of, range_at, code_at}
use Rattle.state.specs.Field.{phase_of, put}
use Rattle.state.specs.Valid.{all_in, valid}
use Rattle.frame.specs.Frame.{names_unit, address_in, xor_from, frame_of, text_in, within_limits, marks_right, check_right}
use Rattle.text.specs.Word.{digits, value_from, equal}
use Rattle.command.specs.Status.{weight_in, status_characters, codes_on}
use Rattle.command.specs.Commands.{code_in, digits_between, formed, applied, row_of}
use Rattle.command.specs.Answer.{first_of, verdict, reply_text, record_after}
use Rattle.state.specs.declared.Record.{Record}
use Rattle.command.specs.Bench.{bench}
use Rattle.controller.specs.Call.{call_of}
use Rattle.controller.specs.Worked.{check, framed, EQ-frame, status-frame, OK-frame}
use Rattle.several.specs.Several.{through, searched, Heard, heard_from, called_record}
use Rattle.several.specs.OneByOne.{looks_from}

-- bytes and reply room; how many bytes are taken and frames answered, and the replies
pub record Case : Type 0 where
  pub received : List ℕ
  pub room : ℕ
  pub taken : ℕ
  pub answered : ℕ
  pub replies : List ℕ

-- a frame with a wrong check
abbrev pub wrong_check : List ℕ
wrong_check = 0x02 ∷ 0x30 ∷ 0x31 ∷ 0x45 ∷ 0x51 ∷ 0x03 ∷ 0x17 ∷ 0x7f ∷ []

-- STX among the two bytes behind an ETX: no text (S3); no PAD (S4)
abbrev pub no_text : List ℕ
no_text = 0x02 ∷ 0x03 ∷ EQ-frame

abbrev pub no_pad : List ℕ
no_pad = 0x02 ∷ 0x30 ∷ 0x31 ∷ 0x45 ∷ 0x51 ∷ 0x03 ∷ EQ-frame

abbrev pub table : List Case
table =
    -- bytes that are skipped, two frames, and the start of a third
    record { received = 0x41 ∷ 0x7f ∷ (EQ-frame ++ (EQ-frame ++ (0x02 ∷ 0x30 ∷ []))); room = 200; taken = 18; answered = 2; replies = status-frame ++ status-frame }
    -- each with the record that the one before left
    ∷ record {
      received = framed "01PC 032 10150" ++ (framed "01PV 032" ++ EQ-frame);
      room = 200;
      taken = 38;
      answered = 3;
      replies = OK-frame ++ (framed "01PV 032 00010150" ++ framed "01000800");
    }
    -- an answer is due and 63 bytes are left; 64 are
    ∷ record { received = EQ-frame ++ EQ-frame; room = 75; taken = 8; answered = 1; replies = status-frame }
    ∷ record { received = EQ-frame ++ EQ-frame; room = 76; taken = 16; answered = 2; replies = status-frame ++ status-frame }
    -- S8 and S5 need no room
    ∷ record { received = framed "02EQ" ++ wrong_check; room = 0; taken = 16; answered = 0; replies = [] }
    -- "Here the check equals STX.": the controller's own reply comes back to it, S7
    ∷ record { received = status-frame ++ EQ-frame; room = 64; taken = 20; answered = 1; replies = status-frame }
    -- a byte outside 0x20..0x7E is a break; if it is STX, the next start
    ∷ record { received = 0x02 ∷ 0x30 ∷ EQ-frame; room = 64; taken = 10; answered = 1; replies = status-frame }
    -- ETX with one follower, and with two
    ∷ record { received = 0x02 ∷ 0x03 ∷ 0x16 ∷ []; room = 64; taken = 0; answered = 0; replies = [] }
    ∷ record { received = 0x02 ∷ 0x03 ∷ 0x16 ∷ 0x7f ∷ []; room = 64; taken = 4; answered = 0; replies = [] }
    -- 60 text bytes and the end; a 61st; ETX behind 60
    ∷ record { received = 0x02 ∷ replicate 60 0x41; room = 64; taken = 0; answered = 0; replies = [] }
    ∷ record { received = 0x02 ∷ replicate 61 0x41; room = 64; taken = 62; answered = 0; replies = [] }
    ∷ record { received = 0x02 ∷ (replicate 60 0x41 ++ (0x03 ∷ [])); room = 64; taken = 0; answered = 0; replies = [] }
    -- a frame that starts inside one with S3, and inside one with S4
    ∷ record { received = no_text; room = 64; taken = 10; answered = 1; replies = status-frame }
    ∷ record { received = no_pad; room = 64; taken = 14; answered = 1; replies = status-frame }
    ∷ []

abbrev pub heard_of : Case → ℕ × ℕ × List ℕ
heard_of e = let h : Heard Record = heard_from called_record 0 e.room bench e.received in (h.taken, h.answered, h.replies)

pub worked : map heard_of table ≡ map (λ e. (e.taken, e.answered, e.replies)) table
unfolding heard_from searched through check bench call_of valid all_in range_at place_of place_in within_limits marks_right check_right xor_from text_in all_between names_unit address_in frame_of over reply_text record_after verdict first_of code_in formed digits_between value_from equal row_of digits weight_in status_characters codes_on code_at applied put phase_of
worked = refl

-- ---- with S3 and S4 it counts where the walk goes on: at p+1 one frame is answered, after the frame of n bytes none
abbrev pub both_ways : ℕ → List ℕ → ℕ × ℕ
both_ways n s = ((heard_from called_record 0 64 bench (drop 1 s)).answered, (heard_from called_record (n - 1) 64 bench (drop 1 s)).answered)

pub differ : both_ways 4 no_text ∷ both_ways 8 no_pad ∷ [] ≡ (1, 0) ∷ (1, 0) ∷ []
unfolding heard_from searched through bench call_of valid all_in range_at place_of place_in within_limits marks_right check_right xor_from text_in all_between names_unit address_in frame_of over reply_text record_after verdict first_of code_in formed digits_between value_from equal row_of digits weight_in status_characters codes_on code_at applied put phase_of
differ = refl

-- ---- a byte that is looked at four times: the fourth of two frames with S3 that share two bytes
pub four_looks : looks_from called_record 0 0 bench (0x02 ∷ 0x03 ∷ 0x02 ∷ 0x03 ∷ 0x41 ∷ 0x41 ∷ []) 3 ≡ 4
unfolding looks_from searched through bench call_of valid all_in range_at place_of place_in within_limits
four_looks = refl
