-- Document 02, L9: what a Modbus request asks for, or why it is refused.
use Rattle.std.specs.Prelude.{ℕ, ◌+◌, ◌*◌, ◌/◌, ◌%◌, Bool, not, ◌&&◌, ◌||◌, List, eqb, leb, length, get_or}
use Rattle.base.specs.Test.{pick, unless, between}
use Rattle.state.specs.Parameter.{parameter_count}
use Rattle.crc.specs.Crc.{crc_right}

-- "registers 2i and 2i+1": two for each parameter
abbrev pub register_count : ℕ
register_count = 2 * parameter_count

-- ---- the parts of a request, as the standard places them; numbers have their high byte first
abbrev pub word_at : List ℕ → ℕ → ℕ
word_at q i = get_or q i 0 * 256 + get_or q (i + 1) 0

abbrev pub slave_in : List ℕ → ℕ
slave_in q = get_or q 0 0

abbrev pub function_in : List ℕ → ℕ
function_in q = get_or q 1 0

-- the first register
abbrev pub start_in : List ℕ → ℕ
start_in q = word_at q 2

-- how many registers
abbrev pub count_in : List ℕ → ℕ
count_in q = word_at q 4

-- a write's "byte count"
abbrev pub byte_count_in : List ℕ → ℕ
byte_count_in q = get_or q 6 0

-- a write's two registers, "high word first"
abbrev pub value_in : List ℕ → ℕ
value_in q = word_at q 7 * 65536 + word_at q 9

-- "function 03 (read) and 16 (write)"
abbrev pub is_read : List ℕ → Bool
is_read q = eqb (function_in q) 3

abbrev pub is_write : List ℕ → Bool
is_write q = eqb (function_in q) 16

-- ---- what a request comes to: a silence M1 to M8; an exception; a read from a register on, of so many; a write at a place, of a value
pub data Asked : Type 0 where
  M : ℕ → Asked
  exception : ℕ → Asked
  reads : ℕ → ℕ → Asked
  writes : ℕ → ℕ → Asked

-- "03 a read count not 1..125", then "02 registers outside"
unfoldable pub asked_read : List ℕ → Asked
asked_read q =
    unless (between 1 125 (count_in q)) (exception 3)
    (unless (leb (start_in q + count_in q) register_count) (exception 2)
    (reads (start_in q) (count_in q)))

-- "03 .. a write count not 2 or byte count not 4", then "02 registers outside or a write at an odd one"; "a write takes exactly one whole pair"
unfoldable pub asked_write : List ℕ → Asked
asked_write q =
    unless (eqb (count_in q) 2 && eqb (byte_count_in q) 4) (exception 3)
    (unless (leb (start_in q + count_in q) register_count && eqb (start_in q % 2) 0) (exception 2)
    (writes (start_in q / 2) (value_in q)))

-- "exception 01 other function"
abbrev pub asked_function : List ℕ → Asked
asked_function q = pick (is_read q) (asked_read q) (pick (is_write q) (asked_write q) (exception 1))

-- M7 "a read not of 8 bytes"; M8 "a write not of 9 bytes and its byte count", which no frame under 9 bytes is
abbrev pub read_whole : List ℕ → Bool
read_whole q = not (is_read q) || eqb (length q) 8

abbrev pub write_whole : List ℕ → Bool
write_whole q = not (is_write q) || eqb (length q) (9 + byte_count_in q)

-- "Refusals, in this order": M3 "a frame not of 4 to 256 bytes", M4 "a bad CRC", M5 "another slave", M6 "a function over 127", M7, M8; of
-- the slave with address a, which is never 0: "(0 too)"
unfoldable pub asked_frame : ℕ → List ℕ → Asked
asked_frame a q =
    unless (between 4 256 (length q)) (M 3)
    (unless (crc_right q) (M 4)
    (unless (eqb (slave_in q) a) (M 5)
    (unless (leb (function_in q) 127) (M 6)
    (unless (read_whole q) (M 7)
    (unless (write_whole q) (M 8)
    (asked_function q))))))

-- M1 "S1", M2 "a reply buffer under 256", and then by the frame; `good` if what the unit holds is valid; so much reply room is lent
unfoldable pub asked_of : Bool → ℕ → List ℕ → ℕ → Asked
asked_of good a q room = unless good (M 1) (unless (leb 256 room) (M 2) (asked_frame a q))
