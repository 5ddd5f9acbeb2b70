-- Document 02, L7, on the bench record with an empty bank beside it: a batch that ends and is asked for in one stream, computed on the
-- definition that the promise of `call` over a record with a bank cites. Assumes nothing.
use Rattle.std.specs.Prelude.{ℕ, ◌≡◌, refl, List, [], ◌∷◌}
use Rattle.base.specs.Test.{all_between}
use Rattle.base.specs.Lists.{over}
use Rattle.state.specs.Parameter.{place_in, place_of, range_at, code_at}
use Rattle.state.specs.Field.{phase_of, put}
use Rattle.state.specs.Valid.{all_in}
use Rattle.state.specs.Valid as state
use Rattle.frame.specs.Frame.{names_unit, address_in, xor_from, frame_of, text_in, within_limits, marks_right, check_right}
use Rattle.text.specs.Word.{digits, value_from, equal}
use Rattle.bank.specs.Bank.{all_within, batch_valid, batch_of, all_valid, keep_of, empty_bank}
use Rattle.bank.specs.Bank as bank
use Rattle.command.specs.Commands.{code_in, digits_between, formed, applied, row_of, batch_asked}
use Rattle.command.specs.Answer.{first_of, verdict_beside}
use Rattle.command.specs.Bench.{bench}
use Rattle.controller.specs.Worked.{check, framed, OK-frame}
use Rattle.banked.specs.declared.Banked.{Banked}
use Rattle.banked.specs.Banked.{with, valid, reply_text, held_after, banked_of}
use Rattle.several.specs.Several.{through, searched, Heard, heard_from}
use Rattle.several.specs.OneByOne.{end_to_end}
use Rattle.several.specs.Beside.{called_banked}

abbrev pub asked : List (List ℕ)
asked =
    framed "01RT R 001" ∷ framed "01SB 500" ∷ framed "01SA" ∷ framed "01SP" ∷ framed "01ET" ∷ framed "01RT R 001" ∷ framed "01RT R 002" ∷ []

abbrev pub replied : List (List ℕ)
replied =
    framed "01NO03" ∷ OK-frame ∷ OK-frame ∷ OK-frame ∷ OK-frame ∷ framed "01RT R 00000000 001" ∷ framed "01NO03" ∷ []

abbrev pub heard_beside : ℕ × List ℕ × ℕ
heard_beside = let h : Heard Banked = heard_from called_banked 0 200 (with bench empty_bank) (end_to_end asked) in (h.answered, h.replies, h.after.bank.count)

-- every frame is answered, with the bank that the one before left
pub worked_beside : heard_beside ≡ (7, end_to_end replied, 1)
unfolding end_to_end heard_from searched through check bench banked_of valid state.valid bank.valid all_valid batch_valid all_within keep_of batch_of all_in range_at place_of place_in within_limits marks_right check_right xor_from text_in all_between names_unit address_in frame_of over reply_text held_after verdict_beside first_of code_in formed digits_between value_from equal row_of digits code_at applied put phase_of batch_asked
worked_beside = refl
