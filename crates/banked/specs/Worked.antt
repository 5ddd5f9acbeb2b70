-- 02, L7, worked on the bench record with a bank beside it: whole frames, computed on the definition that the promise of `call` cites. One
-- table under one statement. Assumes nothing.
use Rattle.std.specs.Prelude.{ℕ, zero, suc, ◌≡◌, refl, List, [], ◌∷◌, map, replicate}
use Rattle.base.specs.Test.{all_between}
use Rattle.base.specs.Lists.{over}
use Rattle.state.specs.declared.Record.{Record}
use Rattle.state.specs.Parameter.{code_at, place_in, place_of, range_at}
use Rattle.state.specs.Field.{phase, keypad, raw, put, phase_of, on}
use Rattle.state.specs.Event.{stopped, done}
use Rattle.state.specs.Valid.{all_in}
use Rattle.state.specs.Valid as state
use Rattle.bank.specs.declared.Batch.{Batch}
use Rattle.bank.specs.Bank.{most, all_within, batch_valid, batch_of, all_valid, bank_of, keep_of, empty_bank}
use Rattle.bank.specs.Bank as bank
use Rattle.frame.specs.declared.Kind.TheVariants.{Minicomputer}
use Rattle.frame.specs.Frame.{names_unit, address_in, xor_from, frame_of, text_in, within_limits, marks_right, check_right}
use Rattle.text.specs.Word.{digits, value_from, equal}
use Rattle.command.specs.Commands.{code_in, digits_between, formed, applied, row_of, batch_asked}
use Rattle.command.specs.Answer.{first_of, verdict_beside}
use Rattle.command.specs.Bench.{bench}
use Rattle.controller.specs.Call.{OutcomeOf, reply_in}
use Rattle.controller.specs.Worked.{Step, check, framed, OK-frame, ◌gets◌}
use Rattle.banked.specs.declared.Banked.{Banked}
use Rattle.banked.specs.Banked.{with, valid, reply_text, held_after, banked_of}

-- what is held at the start, and the requests with their replies; each call gets what the last left
pub record Run : Type 0 where
  pub start : Banked
  pub steps : List Step

infix 70 ◌sees◌
abbrev pub ◌sees◌ : Banked → List Step → Run
b sees ss = record { start = b; steps = ss }

-- the bench record in a phase, with a raw volume
abbrev pub bench_in : ℕ → ℕ → Record
bench_in p n = put phase p (put raw n bench)

-- a hundred batches, oldest first: the raw volumes from 100 down to 1
unfoldable pub descending : ℕ → List Batch
descending zero = []
descending (suc n) = record { number = 1; recipe = 3; factor = 10012; raw = suc n; preset = 500 } ∷ descending n

abbrev pub table : List Run
table =
    -- nothing is kept yet, and ET from Set stores nothing
    with bench empty_bank
    sees (framed "01RT R 001" gets framed "01NO03"
    ∷ framed "01RT R 000" gets framed "01NO03"
    ∷ framed "01RT G 001" gets framed "01NO01"
    ∷ framed "01RT R 1" gets framed "01NO01"
    ∷ framed "01RT R" gets framed "01RT R 00000000"
    ∷ framed "02RT R 001" gets []
    ∷ framed "01SB 500" gets OK-frame
    ∷ framed "01ET" gets OK-frame
    ∷ framed "01RT R 001" gets framed "01NO03"
    -- from Stopped it does, and a refused ET does not
    ∷ framed "01SB 500" gets OK-frame
    ∷ framed "01SA" gets OK-frame
    ∷ framed "01SP" gets OK-frame
    ∷ framed "01ET" gets OK-frame
    ∷ framed "01ET" gets framed "01NO05"
    ∷ framed "01RT R 001" gets framed "01RT R 00000000 001"
    ∷ framed "01RT R 002" gets framed "01NO03"
    ∷ [])
    -- Stopped at 12345; the next batch makes it the second
    ∷ with (bench_in stopped 12345) empty_bank
    sees (framed "01RT R" gets framed "01RT R 00012345"
    ∷ framed "01ET" gets OK-frame
    ∷ framed "01RT R 001" gets framed "01RT R 00012345 001"
    ∷ framed "01SB 500" gets OK-frame
    ∷ framed "01SA" gets OK-frame
    ∷ framed "01SP" gets OK-frame
    ∷ framed "01ET" gets OK-frame
    ∷ framed "01RT R 001" gets framed "01RT R 00000000 001"
    ∷ framed "01RT R 002" gets framed "01RT R 00012345 002"
    ∷ framed "01RT R 003" gets framed "01NO03"
    ∷ [])
    -- Done, with the keypad on
    ∷ with (put keypad on (bench_in done 12345)) empty_bank sees (framed "01ET" gets framed "01NO02" ∷ framed "01RT R 001" gets framed "01NO03" ∷ [])
    -- Done at 12345, with a hundred batches: the oldest gives its room
    ∷ with (bench_in done 12345) (bank_of most (descending most))
    sees (framed "01RT R 100" gets framed "01RT R 00000100 100"
    ∷ framed "01ET" gets OK-frame
    ∷ framed "01RT R 001" gets framed "01RT R 00012345 001"
    ∷ framed "01RT R 002" gets framed "01RT R 00000001 002"
    ∷ framed "01RT R 100" gets framed "01RT R 00000099 100"
    ∷ framed "01RT R 101" gets framed "01NO03"
    ∷ [])
    ∷ []

-- ---- the calls: a reply buffer of 64 bytes
abbrev pub called : Banked → List ℕ → OutcomeOf Banked
called b q = banked_of Minicomputer b q (replicate 64 0xee)

unfoldable pub replies : Banked → List (List ℕ) → List (List ℕ)
replies b [] = []
replies b (q ∷ qs) = reply_in (called b q) ∷ replies (called b q).after qs

pub worked : map (λ r. replies r.start (map (λ s. s.request) r.steps)) table ≡ map (λ r. map (λ s. s.reply) r.steps) table
unfolding replies check descending bench banked_of valid state.valid all_in bank.valid all_valid batch_valid all_within keep_of batch_of range_at place_of place_in within_limits marks_right check_right xor_from text_in all_between names_unit address_in frame_of over reply_text held_after verdict_beside first_of code_in formed digits_between batch_asked value_from equal row_of digits code_at applied put phase_of
worked = refl
