-- 02, L9, worked on document 01's bench record: whole frames, computed on the definition that the promise of `call` cites. One table under one
-- statement; the replies are an independent program's. Assumes nothing.
use Rattle.std.specs.Prelude.{ℕ, ◌≡◌, refl, List, [], ◌∷◌, map, replicate}
use Rattle.base.specs.Lists.{over}
use Rattle.state.specs.declared.Record.{Record}
use Rattle.state.specs.Parameter.{place_in, place_of, range_at}
use Rattle.state.specs.Field.{access, phase, keypad, phase_of, put, on}
use Rattle.state.specs.Event.{running}
use Rattle.state.specs.Valid.{all_in, valid}
use Rattle.command.specs.Commands.{applied, row_of}
use Rattle.command.specs.Request.{first_by_arguments, asked_with, guards_in, guarded, served_of}
use Rattle.command.specs.Bench.{bench}
use Rattle.crc.specs.Crc.{shifted, shifted_times, crc_from, crc_of, crc_bytes, sealed, crc_right}
use Rattle.controller.specs.Call.{Outcome, reply_in}
use Rattle.modbus.specs.Request.{asked_read, asked_write, asked_frame, asked_of}
use Rattle.modbus.specs.Reply.{registers}
use Rattle.modbus.specs.Call.{written_of, served_by, modbus_of}

-- a request, the number of its silence (0: none), and its reply
pub record Step : Type 0 where
  pub request : List ℕ
  pub silence : ℕ
  pub reply : List ℕ

infix 70 ◌gets◌
abbrev pub ◌gets◌ : List ℕ → List ℕ → Step
q gets a = record { request = q; silence = 0; reply = a }

infix 70 ◌meets◌
abbrev pub ◌meets◌ : List ℕ → ℕ → Step
q meets n = record { request = q; silence = n; reply = [] }

-- the record at the start, and the requests; each call gets the record that the last left
pub record Run : Type 0 where
  pub start : Record
  pub steps : List Step

-- PC 032 10150 and PC 032 7999
abbrev pub write_10150 : List ℕ
write_10150 = 0x01 ∷ 0x10 ∷ 0x00 ∷ 0x0e ∷ 0x00 ∷ 0x02 ∷ 0x04 ∷ 0x00 ∷ 0x00 ∷ 0x27 ∷ 0xa6 ∷ 0xe9 ∷ 0xa9 ∷ []

abbrev pub write_7999 : List ℕ
write_7999 = 0x01 ∷ 0x10 ∷ 0x00 ∷ 0x0e ∷ 0x00 ∷ 0x02 ∷ 0x04 ∷ 0x00 ∷ 0x00 ∷ 0x1f ∷ 0x3f ∷ 0x3a ∷ 0x03 ∷ []

abbrev pub illegal_value : List ℕ
illegal_value = 0x01 ∷ 0x90 ∷ 0x03 ∷ 0x0c ∷ 0x01 ∷ []

abbrev pub device_failure : List ℕ
device_failure = 0x01 ∷ 0x90 ∷ 0x04 ∷ 0x4d ∷ 0xc3 ∷ []

abbrev pub on_bench : List Step
on_bench =
    -- a read of 032's pair
    (0x01 ∷ 0x03 ∷ 0x00 ∷ 0x0e ∷ 0x00 ∷ 0x02 ∷ 0xa5 ∷ 0xc8 ∷ []) gets (0x01 ∷ 0x03 ∷ 0x04 ∷ 0x00 ∷ 0x00 ∷ 0x27 ∷ 0x1c ∷ 0xe0 ∷ 0x0a ∷ [])
    -- PC 032 10150
    ∷ write_10150 gets (0x01 ∷ 0x10 ∷ 0x00 ∷ 0x0e ∷ 0x00 ∷ 0x02 ∷ 0x20 ∷ 0x0b ∷ [])
    -- the pair again
    ∷ (0x01 ∷ 0x03 ∷ 0x00 ∷ 0x0e ∷ 0x00 ∷ 0x02 ∷ 0xa5 ∷ 0xc8 ∷ []) gets (0x01 ∷ 0x03 ∷ 0x04 ∷ 0x00 ∷ 0x00 ∷ 0x27 ∷ 0xa6 ∷ 0x61 ∷ 0xb9 ∷ [])
    -- from the low word of one to the high word of the next
    ∷ (0x01 ∷ 0x03 ∷ 0x00 ∷ 0x0f ∷ 0x00 ∷ 0x02 ∷ 0xf4 ∷ 0x08 ∷ []) gets (0x01 ∷ 0x03 ∷ 0x04 ∷ 0x27 ∷ 0xa6 ∷ 0x00 ∷ 0x00 ∷ 0x10 ∷ 0xa4 ∷ [])
    -- NO06
    ∷ write_7999 gets illegal_value
    -- NO07: 807 has level 3
    ∷ (0x01 ∷ 0x10 ∷ 0x00 ∷ 0x3c ∷ 0x00 ∷ 0x02 ∷ 0x04 ∷ 0x00 ∷ 0x00 ∷ 0x00 ∷ 0x05 ∷ 0x30 ∷ 0xed ∷ []) gets device_failure
    -- a value of nine digits and more is out of range
    ∷ (0x01 ∷ 0x10 ∷ 0x00 ∷ 0x0e ∷ 0x00 ∷ 0x02 ∷ 0x04 ∷ 0xff ∷ 0xff ∷ 0xff ∷ 0xff ∷ 0x73 ∷ 0xb7 ∷ []) gets illegal_value
    -- at an odd register
    ∷ (0x01 ∷ 0x10 ∷ 0x00 ∷ 0x0f ∷ 0x00 ∷ 0x02 ∷ 0x04 ∷ 0x00 ∷ 0x00 ∷ 0x27 ∷ 0xa6 ∷ 0x28 ∷ 0x65 ∷ []) gets (0x01 ∷ 0x90 ∷ 0x02 ∷ 0xcd ∷ 0xc1 ∷ [])
    -- outside
    ∷ (0x01 ∷ 0x03 ∷ 0x00 ∷ 0x3f ∷ 0x00 ∷ 0x02 ∷ 0xf4 ∷ 0x07 ∷ []) gets (0x01 ∷ 0x83 ∷ 0x02 ∷ 0xc0 ∷ 0xf1 ∷ [])
    -- count before place
    ∷ (0x01 ∷ 0x03 ∷ 0x27 ∷ 0x0f ∷ 0x00 ∷ 0x00 ∷ 0x7f ∷ 0x7d ∷ []) gets (0x01 ∷ 0x83 ∷ 0x03 ∷ 0x01 ∷ 0x31 ∷ [])
    -- one register at 9999
    ∷ (0x01 ∷ 0x03 ∷ 0x27 ∷ 0x0f ∷ 0x00 ∷ 0x01 ∷ 0xbe ∷ 0xbd ∷ []) gets (0x01 ∷ 0x83 ∷ 0x02 ∷ 0xc0 ∷ 0xf1 ∷ [])
    -- 126 registers
    ∷ (0x01 ∷ 0x03 ∷ 0x00 ∷ 0x00 ∷ 0x00 ∷ 0x7e ∷ 0xc5 ∷ 0xea ∷ []) gets (0x01 ∷ 0x83 ∷ 0x03 ∷ 0x01 ∷ 0x31 ∷ [])
    -- a write of one register
    ∷ (0x01 ∷ 0x10 ∷ 0x00 ∷ 0x0e ∷ 0x00 ∷ 0x01 ∷ 0x02 ∷ 0x00 ∷ 0x00 ∷ 0xa7 ∷ 0x7e ∷ []) gets illegal_value
    -- function 01
    ∷ (0x01 ∷ 0x01 ∷ 0x00 ∷ 0x00 ∷ 0x00 ∷ 0x01 ∷ 0xfd ∷ 0xca ∷ []) gets (0x01 ∷ 0x81 ∷ 0x01 ∷ 0x81 ∷ 0x90 ∷ [])
    -- function 0, four bytes
    ∷ (0x01 ∷ 0x00 ∷ 0x00 ∷ 0x20 ∷ []) gets (0x01 ∷ 0x80 ∷ 0x01 ∷ 0x80 ∷ 0x00 ∷ [])
    -- M5
    ∷ (0x02 ∷ 0x03 ∷ 0x00 ∷ 0x00 ∷ 0x00 ∷ 0x01 ∷ 0x84 ∷ 0x39 ∷ []) meets 5
    -- M5, slave 0
    ∷ (0x00 ∷ 0x03 ∷ 0x00 ∷ 0x00 ∷ 0x00 ∷ 0x01 ∷ 0x85 ∷ 0xdb ∷ []) meets 5
    -- M6
    ∷ (0x01 ∷ 0x80 ∷ 0x01 ∷ 0x80 ∷ []) meets 6
    -- M7
    ∷ (0x01 ∷ 0x03 ∷ 0x00 ∷ 0x00 ∷ 0x00 ∷ 0x01 ∷ 0x00 ∷ 0x0a ∷ 0x63 ∷ []) meets 7
    -- M8
    ∷ (0x01 ∷ 0x10 ∷ 0x00 ∷ 0x0e ∷ 0x00 ∷ 0x02 ∷ 0x20 ∷ 0x0b ∷ []) meets 8
    -- M4
    ∷ (0x01 ∷ 0x03 ∷ 0x00 ∷ 0x0e ∷ 0x00 ∷ 0x02 ∷ 0x00 ∷ 0x00 ∷ []) meets 4
    -- M3
    ∷ (0x01 ∷ 0x03 ∷ 0x00 ∷ []) meets 3
    ∷ []

abbrev pub table : List Run
table =
    record { start = bench; steps = on_bench }
    -- NO02, behind NO06
    ∷ record { start = put keypad on bench; steps = write_10150 gets device_failure ∷ write_7999 gets illegal_value ∷ [] }
    -- NO05, behind NO06
    ∷ record { start = put phase running bench; steps = write_10150 gets device_failure ∷ write_7999 gets illegal_value ∷ [] }
    -- M1
    ∷ record { start = put access 4 bench; steps = write_10150 meets 1 ∷ [] }
    ∷ []

-- each call has a reply buffer of 256 bytes
abbrev pub called : Record → List ℕ → Outcome
called r q = modbus_of r q (replicate 256 0xee)

unfoldable pub replies : Record → List (List ℕ) → List (ℕ × List ℕ)
replies r [] = []
replies r (q ∷ qs) = ((called r q).silence, reply_in (called r q)) ∷ replies (called r q).after qs

pub worked : map (λ r. replies r.start (map (λ s. s.request) r.steps)) table ≡ map (λ r. map (λ s. (s.silence, s.reply)) r.steps) table
unfolding replies bench modbus_of served_by asked_of asked_frame asked_read asked_write registers written_of valid all_in range_at place_of place_in asked_with first_by_arguments served_of guards_in guarded row_of applied put phase_of over sealed crc_bytes crc_of crc_from shifted_times shifted crc_right
worked = refl
