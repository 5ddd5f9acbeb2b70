-- The frames that a master of the standard sends for functions 03 and 16; the same change on the Smith link, and the replies to both.
use Rattle.std.specs.Prelude.{ℕ, ◌*◌, ◌/◌, ◌%◌, List, [], ◌∷◌, ◌++◌}
use Rattle.base.specs.Text.{text}
use Rattle.state.specs.Parameter.{code_at}
use Rattle.text.specs.Word.{space, digits}
use Rattle.crc.specs.Crc.{sealed}
use Rattle.modbus.specs.Reply.{two_bytes, refusal, echoed}

-- a number of four bytes, the high one first; so a pair's high word comes first
abbrev pub four_bytes : ℕ → List ℕ
four_bytes v = two_bytes (v / 65536) ++ two_bytes (v % 65536)

-- slave a, 3, the first register, how many
unfoldable pub read_request : ℕ → ℕ → ℕ → List ℕ
read_request a s n = sealed (a ∷ 3 ∷ (two_bytes s ++ two_bytes n))

-- slave a, 16, the pair of place i, two registers, four bytes, the value
unfoldable pub write_request : ℕ → ℕ → ℕ → List ℕ
write_request a i v = sealed (a ∷ 16 ∷ (two_bytes (2 * i) ++ (0 ∷ 2 ∷ 4 ∷ four_bytes v)))

-- "PC ppp v" for the parameter at place i, with all 8 digits, to the unit with address a
abbrev pub change_text : ℕ → ℕ → ℕ → List ℕ
change_text a i v = digits 2 a ++ (text "PC " ++ (digits 3 (code_at i) ++ (space ∷ digits 8 v)))

-- what PC is answered there, and beside it the body of the reply to the write q: "03 PC's NO06; 04 PC's NO02, NO07 or NO05"
abbrev pub twins : List ℕ → List (List ℕ × List ℕ)
twins q =
    (text "OK", echoed q)
    ∷ (text "NO06", refusal 3 q)
    ∷ (text "NO02", refusal 4 q)
    ∷ (text "NO07", refusal 4 q)
    ∷ (text "NO05", refusal 4 q)
    ∷ []
