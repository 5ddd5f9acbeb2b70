-- What a recorded reply says, behind its address digits.
use Rattle.std.specs.Prelude.{ℕ, ◌+◌, ◌-◌, ◌*◌, ◌^◌, Bool, true, false, ◌&&◌, Option, Some, None, List, [], ◌∷◌, eqb, length, take, drop}
use Rattle.std.specs.Int.Bits.{bit_and}
use Rattle.base.specs.Text.{text}
use Rattle.base.specs.Test.{pick, unless, between}
use Rattle.state.specs.Alarm.{character_widths}
use Rattle.state.specs.Field.{flag_number}
use Rattle.text.specs.Word.{equal, number_for}
use Rattle.command.specs.Status.{Bit}

-- a text starts with a word
abbrev pub starts_with : List ℕ → List ℕ → Bool
starts_with w b = equal (take (length w) b) w

-- a number of so many digits behind a word, and nothing else
unfoldable pub number_behind : List ℕ → ℕ → List ℕ → Option ℕ
number_behind w width b = pick (eqb (length b) (length w + width) && starts_with w b) (number_for (drop (length w) b)) None

-- "reply NO and two digits"
abbrev pub refusal_in : List ℕ → Option ℕ
refusal_in b = number_behind (text "NO") 2 b

-- ---- EQ: a character for each list of bits, 0x30 and the weights of those that are set; no other bit is set

-- the bit of weight w is set in a character
abbrev pub lit : ℕ → ℕ → Bool
lit w x = eqb (bit_and x w) w

unfoldable pub weight_lit : ℕ → List Bit → ℕ
weight_lit x [] = 0
weight_lit x (b ∷ bs) = b.weight * flag_number (lit b.weight x) + weight_lit x bs

unfoldable pub characters_formed : List ℕ → List (List Bit) → Bool
characters_formed [] [] = true
characters_formed [] (bs ∷ bss) = false
characters_formed (x ∷ xs) [] = false
characters_formed (x ∷ xs) (bs ∷ bss) = eqb x (0x30 + weight_lit x bs) && characters_formed xs bss

-- ---- EA: the alarms that characters are, behind those that make a; each has so many bits as it shows alarms, and no other is set
unfoldable pub alarms_from : ℕ → List ℕ → List ℕ → Option ℕ
alarms_from a [] [] = Some a
alarms_from a [] (x ∷ xs) = None
alarms_from a (w ∷ ws) [] = None
alarms_from a (w ∷ ws) (x ∷ xs) = unless (between 0x30 (0x30 + (2 ^ w - 1)) x) None (alarms_from (a * 2 ^ w + (x - 0x30)) ws xs)

abbrev pub alarms_read : List ℕ → Option ℕ
alarms_read b = alarms_from 0 character_widths b
