-- Checks of known frames, computed on the definition: one table under one statement. Assumes nothing.
use Rattle.std.specs.Prelude.{ℕ, ◌≡◌, refl, List, [], ◌∷◌, map}
use Rattle.crc.specs.Crc.{shifted, shifted_times, crc_from, crc_of, crc_bytes}

pub record Example : Type 0 where
  pub body : List ℕ
  pub check : List ℕ

abbrev pub table : List Example
table =
    -- the standard's own example: the CRC of 02 07 is 1241 hex, so 41 goes first
    record { body = 0x02 ∷ 0x07 ∷ []; check = 0x41 ∷ 0x12 ∷ [] }
    -- no bytes at all: the register as it was loaded
    ∷ record { body = []; check = 0xff ∷ 0xff ∷ [] }
    -- document 002's two whole frames, chapter 7
    ∷ record { body = 0x7b ∷ 0x10 ∷ 0x07 ∷ 0xd0 ∷ 0x00 ∷ 0x01 ∷ 0x02 ∷ 0x00 ∷ 0x02 ∷ []; check = 0x59 ∷ 0xa3 ∷ [] }
    ∷ record { body = 0x7b ∷ 0x10 ∷ 0x03 ∷ 0x78 ∷ 0x00 ∷ 0x01 ∷ 0x02 ∷ 0x00 ∷ 0x02 ∷ []; check = 0x05 ∷ 0x8b ∷ [] }
    -- what masters of the standard send and take: a read of 64 registers, a write of a pair, an exception
    ∷ record { body = 0x01 ∷ 0x03 ∷ 0x00 ∷ 0x00 ∷ 0x00 ∷ 0x40 ∷ []; check = 0x44 ∷ 0x3a ∷ [] }
    ∷ record { body = 0x01 ∷ 0x10 ∷ 0x00 ∷ 0x0e ∷ 0x00 ∷ 0x02 ∷ 0x04 ∷ 0x00 ∷ 0x00 ∷ 0x27 ∷ 0xa6 ∷ []; check = 0xe9 ∷ 0xa9 ∷ [] }
    ∷ record { body = 0x01 ∷ 0x90 ∷ 0x04 ∷ []; check = 0x4d ∷ 0xc3 ∷ [] }
    ∷ []

pub worked : map (λ e. crc_bytes e.body) table ≡ map (λ e. e.check) table
unfolding shifted shifted_times crc_from crc_of crc_bytes
worked = refl
