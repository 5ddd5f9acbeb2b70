-- A drum change on document 01's bench record with an empty bank beside it, computed on the definitions that the promises cite: recipe 3,
-- factor 10150, preset 500. Assumes nothing.
use Rattle.std.specs.Prelude.{ℕ, ◌≡◌, refl, List, [], ◌∷◌, replicate}
use Rattle.base.specs.Test.{all_between}
use Rattle.base.specs.Lists.{over}
use Rattle.text.specs.Word.{digits, value_from, equal}
use Rattle.state.specs.Parameter.{code_at, place_in, place_of, range_at}
use Rattle.state.specs.Field.{phase_of, put}
use Rattle.state.specs.Valid.{all_in, valid}
use Rattle.bank.specs.Bank.{all_valid, empty_bank}
use Rattle.bank.specs.Bank as bank
use Rattle.frame.specs.Frame.{names_unit, address_in, xor_from, frame_of, text_in, within_limits, marks_right, check_right}
use Rattle.command.specs.Commands.{code_in, digits_between, formed, applied, batch_asked, row_of}
use Rattle.command.specs.Answer.{first_of, verdict_beside}
use Rattle.command.specs.Bench.{bench}
use Rattle.controller.specs.Worked.{check, framed}
use Rattle.banked.specs.Banked.{with, reply_text, held_after, banked_of}
use Rattle.banked.specs.Banked as banked
use Rattle.drum.specs.Drum.{asks, wants, request_frame, reply_frame, checked, awaits, Told, end, stop, hands_out, begin_of, take_of}
use Rattle.drum.specs.Turns.{handed_out}
use Rattle.skid.specs.Exchange.{Lent, Both, both, exchanged}

-- the frames that are handed out over as many exchanges as buffers are lent, and what is told at last
unfoldable pub shown : List Lent → Both → List (List ℕ) × Told
shown [] w = ([], w.change.told)
shown (l ∷ ls) w = let rest = shown ls (exchanged l w) in (handed_out w.change ∷ rest.0, rest.1)

-- n exchanges with the bench record and an empty bank, the change begun for an address
abbrev pub on_bench : ℕ → ℕ → List (List ℕ) × Told
on_bench n a =
    shown (replicate n (record { reply = replicate 64 0xee; next = replicate 64 0xdd })) (both (begin_of a 3 10150 500 (replicate 64 0xdd)) (with bench empty_bank))

pub worked : on_bench 5 1 ∷ on_bench 1 2 ∷ []
    ≡ (framed "01NR 03" ∷ framed "01PC 032 00010150" ∷ framed "01PV 032" ∷ framed "01RC" ∷ framed "01SB 000500" ∷ [], end)
    -- another unit's address: its silence is a wrong reply to NR
    ∷ (framed "02NR 03" ∷ [], stop 1)
    ∷ []
unfolding shown exchanged check bench begin_of checked take_of awaits hands_out request_frame reply_frame asks wants banked_of banked.valid bank.valid all_valid valid all_in range_at place_of place_in within_limits marks_right check_right xor_from text_in all_between names_unit address_in frame_of over reply_text held_after verdict_beside first_of batch_asked code_in formed digits_between value_from equal row_of digits code_at applied put phase_of
worked = refl
