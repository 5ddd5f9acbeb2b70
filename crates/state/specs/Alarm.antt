-- Document 02, L1: "the nineteen system alarms of EA in source document 000", kept in one number of nineteen bits.
use Rattle.std.specs.Prelude.{ℕ, ◌+◌, ◌-◌, ◌/◌, ◌%◌, ◌^◌, Bool, List, [], ◌∷◌, ◌++◌, map, eqb, length}
use Prim.Native.String.{String}
use Rattle.std.specs.Int.Bits.{bit_and, bit_or}
use Rattle.base.specs.Test.{pick, between}
use Rattle.base.specs.Text.{text}
use Rattle.text.specs.Word.{equal}

-- 000, "Response to Enquire Alarms – Systems": A1 to A5, each from its 8 down; A5's 8 is reserved and stands for no alarm
abbrev pub alarm_rows : List (List String)
alarm_rows =
    ("DA: RAM Corrupt" ∷ "DA: Flash Error" ∷ "DA: RAM Bad" ∷ "DA: ROM Bad" ∷ [])
    ∷ ("DA: Passcodes Reset" ∷ "DA: Prog Error" ∷ "DA: Watchdog" ∷ "DA: Flash Backup Bad" ∷ [])
    ∷ ("U3: User Alarm 3" ∷ "U2: User Alarm 2" ∷ "U1: User Alarm 1" ∷ "PA: Powerfail Alarm" ∷ [])
    ∷ ("CL: Clean Line" ∷ "CM: Communications" ∷ "U5: User Alarm 5" ∷ "U4: User Alarm 4" ∷ [])
    ∷ ("PP: PTB PRN" ∷ "SP: Shared PRN" ∷ "OA: Overrun" ∷ [])
    ∷ []

-- "PA and U1 to U5"
abbrev pub resettable : List String
resettable = "PA: Powerfail Alarm" ∷ "U1: User Alarm 1" ∷ "U2: User Alarm 2" ∷ "U3: User Alarm 3" ∷ "U4: User Alarm 4" ∷ "U5: User Alarm 5" ∷ []

-- ---- "numbered 1 to 19 from A1's 8 on, the reserved bit not counted"
abbrev pub in_order : List (List String) → List String
in_order [] = []
in_order (row ∷ rows) = row ++ in_order rows

abbrev pub alarm_names : List String
alarm_names = in_order alarm_rows

abbrev pub alarm_count : ℕ
alarm_count = length alarm_names

-- the number of an alarm among those from number k on; 0 if it is none of them
unfoldable pub number_from : ℕ → List String → String → ℕ
number_from k [] a = 0
number_from k (b ∷ bs) a = pick (equal (text a) (text b)) k (number_from (k + 1) bs a)

abbrev pub alarm_number : String → ℕ
alarm_number a = number_from 1 alarm_names a

-- ---- the alarms that are on, as one number: the first alarm has the highest bit
abbrev pub weight_of : ℕ → ℕ
weight_of k = 2 ^ (alarm_count - k)

unfoldable pub weights : List ℕ → ℕ
weights [] = 0
weights (k ∷ ks) = weight_of k + weights ks

abbrev pub no_alarm : ℕ
no_alarm = 0

-- all nineteen
abbrev pub all_alarms : ℕ
all_alarms = 524287

-- the alarm numbered k is on
abbrev pub alarm_on : ℕ → ℕ → Bool
alarm_on k n = eqb (n / weight_of k % 2) 1

-- "A panel event raises or clears one alarm, numbered 1 to 19"
abbrev pub is_alarm : ℕ → Bool
is_alarm k = between 1 alarm_count k

abbrev pub raised : ℕ → ℕ → ℕ
raised k n = bit_or n (weight_of k)

abbrev pub cleared : ℕ → ℕ → ℕ
cleared k n = bit_and n (all_alarms - weight_of k)

-- "AR .. switches off PA and U1 to U5; the others stay until the panel clears them"
unfoldable pub lasting_alarms : ℕ
lasting_alarms = all_alarms - weights (map alarm_number resettable)

abbrev pub lasting : ℕ → ℕ
lasting n = bit_and n lasting_alarms

-- ---- "five characters": the values of A1 to A5, from how many alarms each of them shows; the alarms of the last have the lowest bits
abbrev pub character_widths : List ℕ
character_widths = map (λ (row : List String). length row) alarm_rows

abbrev pub total : List ℕ → ℕ
total [] = 0
total (w ∷ ws) = w + total ws

unfoldable pub character_values : List ℕ → ℕ → List ℕ
character_values [] n = []
character_values (w ∷ ws) n = n / 2 ^ total ws % 2 ^ w ∷ character_values ws n

abbrev pub alarm_values : ℕ → List ℕ
alarm_values n = character_values character_widths n
