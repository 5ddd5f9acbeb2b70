-- Document 01, "Frames": the form of a frame, for either kind of link.
use Rattle.std.specs.Prelude.{ℕ, ◌+◌, ◌-◌, ◌*◌, List, [], ◌∷◌, ◌++◌, Bool, true, ◌&&◌, Option, Some, None, eqb, length, drop, take, get_or}
use Rattle.base.specs.Test.{pick, between, all_between}
use Rattle.std.specs.Int.Bits.{bit_xor}
use Rattle.frame.specs.declared.Kind.{Kind}
use Rattle.frame.specs.declared.Kind.TheVariants.{Minicomputer, Terminal}

-- ---- the marks: "STX (02), text, ETX (03), check, PAD (7F)"; "'*', text, CR, LF"
abbrev pub stx : ℕ
stx = 0x02

abbrev pub etx : ℕ
etx = 0x03

abbrev pub pad : ℕ
pad = 0x7f

abbrev pub star : ℕ
star = 0x2a

abbrev pub cr : ℕ
cr = 0x0d

abbrev pub lf : ℕ
lf = 0x0a

-- ---- the text: "4 to 60 bytes, each 0x20..0x7E"
abbrev pub is_text : ℕ → Bool
is_text x = between 0x20 0x7e x

abbrev pub all_text : List ℕ → Bool
all_text xs = all_between 0x20 0x7e xs

-- "two address digits, two capital letters": of the text's first four bytes
abbrev pub is_digit : ℕ → Bool
is_digit x = between 0x30 0x39 x

abbrev pub is_capital : ℕ → Bool
is_capital x = between 0x41 0x5a x

unfoldable pub names_unit : List ℕ → Bool
names_unit t = is_digit (get_or t 0 0) && (is_digit (get_or t 1 0) && (is_capital (get_or t 2 0) && is_capital (get_or t 3 0)))

-- the number that the two address digits are
unfoldable pub address_in : List ℕ → ℕ
address_in t = (get_or t 0 0 - 0x30) * 10 + (get_or t 1 0 - 0x30)

-- that number, if the text names a unit
unfoldable pub unit_in : List ℕ → Option ℕ
unit_in t = pick (names_unit t) (Some (address_in t)) None

-- ---- the frame

-- the exclusive or of a and all bytes of the list
unfoldable pub xor_from : ℕ → List ℕ → ℕ
xor_from a [] = a
xor_from a (x ∷ xs) = xor_from (bit_xor a x) xs

-- "The check is the exclusive or of all bytes after STX up to and including ETX."
abbrev pub check_of : List ℕ → ℕ
check_of t = xor_from 0 (t ++ (etx ∷ []))

-- the frame of a text
unfoldable pub frame_of : Kind → List ℕ → List ℕ
frame_of Minicomputer t = stx ∷ (t ++ (etx ∷ check_of t ∷ pad ∷ []))
frame_of Terminal t = star ∷ (t ++ (cr ∷ lf ∷ []))

-- ---- what is tested of received bytes

-- how many bytes follow the text
abbrev pub tail_of : Kind → ℕ
tail_of Minicomputer = 3
tail_of Terminal = 2

-- the text of a frame: all but the first byte and the tail
unfoldable pub text_in : Kind → List ℕ → List ℕ
text_in k f = take (length f - tail_of k - 1) (drop 1 f)

-- S3: "Minicomputer frame: .. 8 to 64 bytes"; "Terminal frame: .. 7 to 63 bytes"
unfoldable pub within_limits : Kind → ℕ → Bool
within_limits Minicomputer n = between 8 64 n
within_limits Terminal n = between 7 63 n

-- the byte at i from the end, counted from 1
abbrev pub from_end : List ℕ → ℕ → ℕ
from_end f i = get_or f (length f - i) 0

-- S4: "a fixed mark (first byte; ETX and PAD; CR and LF)"
unfoldable pub marks_right : Kind → List ℕ → Bool
marks_right Minicomputer f = eqb (get_or f 0 0) stx && (eqb (from_end f 3) etx && eqb (from_end f 1) pad)
marks_right Terminal f = eqb (get_or f 0 0) star && (eqb (from_end f 2) cr && eqb (from_end f 1) lf)

-- S5: "check wrong (minicomputer)": of all bytes after the first up to the check
unfoldable pub check_right : Kind → List ℕ → Bool
check_right Minicomputer f = eqb (xor_from 0 (take (length f - 2 - 1) (drop 1 f))) (from_end f 2)
check_right Terminal f = true
