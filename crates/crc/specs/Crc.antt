-- Document 02, L9, "the standard's CRC": MODBUS over Serial Line, specification and implementation guide V1.02, section 6.2.2, "CRC
-- Generation". Its steps, bit by bit, each beside what renders it; and a frame that ends with its check.
use Rattle.std.specs.Prelude.{ℕ, zero, suc, ◌+◌, ◌-◌, ◌/◌, ◌%◌, Bool, ◌&&◌, List, [], ◌∷◌, ◌++◌, eqb, leb, length, take, get_or, Option, Some, None}
use Rattle.std.specs.Int.Bits.{bit_xor}
use Rattle.base.specs.Test.{pick}
use Rattle.base.specs.Lists.{over}

-- 4. ".. the polynomial value 0xA001 (1010 0000 0000 0001)."
abbrev pub polynomial : ℕ
polynomial = 0xa001

-- 3. "Shift the CRC register one bit to the right (toward the LSB), zero-filling the MSB. Extract and examine the LSB."
-- 4. "(If the LSB was 0): Repeat Step 3 (another shift). (If the LSB was 1): Exclusive OR the CRC register with the polynomial value .."
unfoldable pub shifted : ℕ → ℕ
shifted register = pick (eqb (register % 2) 1) (bit_xor (register / 2) polynomial) (register / 2)

-- 5. "Repeat Steps 3 and 4 until 8 shifts have been performed."
unfoldable pub shifted_times : ℕ → ℕ → ℕ
shifted_times zero register = register
shifted_times (suc n) register = shifted_times n (shifted register)

-- 2. "Exclusive OR the first 8-bit byte of the message with the low-order byte of the 16-bit CRC register, putting the result in the CRC
-- register."
-- 6. "Repeat Steps 2 through 5 for the next 8-bit byte of the message. Continue doing this until all bytes have been processed."
unfoldable pub crc_from : ℕ → List ℕ → ℕ
crc_from register [] = register
crc_from register (x ∷ xs) = crc_from (shifted_times 8 (bit_xor register x)) xs

-- 1. "Load a 16-bit register with FFFF hex (all 1's)."
-- 7. "The final content of the CRC register is the CRC value."
unfoldable pub crc_of : List ℕ → ℕ
crc_of xs = crc_from 0xffff xs

-- "Placing the CRC into the Message": "the low-order byte will be transmitted first, followed by the high-order byte"
unfoldable pub crc_bytes : List ℕ → List ℕ
crc_bytes xs = crc_of xs % 256 ∷ crc_of xs / 256 ∷ []

-- a body, and its check behind it
unfoldable pub sealed : List ℕ → List ℕ
sealed b = b ++ crc_bytes b

-- the body of a frame: all but its last two bytes
abbrev pub body_in : List ℕ → List ℕ
body_in f = take (length f - 2) f

-- the last two bytes are the check of those before them
unfoldable pub crc_right : List ℕ → Bool
crc_right f =
    leb 2 (length f)
    && (eqb (get_or f (length f - 2) 0) (crc_of (body_in f) % 256) && eqb (get_or f (length f - 2 + 1) 0) (crc_of (body_in f) / 256))

-- the check laid behind the first n bytes of a buffer, with the length up to its end; without room none, and the buffer as it was
unfoldable pub seal_of : ℕ → List ℕ → Option ℕ × List ℕ
seal_of n o = pick (leb (n + 2) (length o)) (Some (n + 2), over (sealed (take n o)) o) (None, o)
