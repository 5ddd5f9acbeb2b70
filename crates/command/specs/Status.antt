-- Document 01, "Commands", and 02, L1: the six status characters of EQ, the five of EA and the status codes of RS. Each sign of EQ and RS
-- goes by a test of one field.
use Rattle.std.specs.Prelude.{ℕ, ◌+◌, ◌*◌, Bool, not, List, [], ◌∷◌, ◌++◌, map, eqb}
use Prim.Native.String.{String}
use Rattle.base.specs.Text.{text}
use Rattle.state.specs.declared.Record.{Record}
use Rattle.base.specs.Test.{pick, member}
use Rattle.state.specs.Alarm.{no_alarm, alarm_values}
use Rattle.state.specs.Field.{Field, phase, keypad, flow, changed, reset, powerfail, alarms, get, on, flag_number}
use Rattle.state.specs.Event.{set, running, stopped, done}
use Rattle.text.specs.Word.{space}

-- ---- a test of one field
pub record Test : Type 0 where
  pub field : Field
  pub holds : ℕ → Bool

abbrev pub is_on : Field → Test
is_on f = record { field = f; holds = λ n. eqb n on }

abbrev pub in_phases : List ℕ → Test
in_phases ps = record { field = phase; holds = λ n. member n ps }

-- "if any alarm is on"
abbrev pub any_alarm : Test
any_alarm = record { field = alarms; holds = λ n. not (eqb n no_alarm) }

abbrev pub passes : Test → Record → Bool
passes t r = t.holds (get t.field r)

-- ---- EQ: the bits of a character
pub record Bit : Type 0 where
  pub weight : ℕ
  pub if : Test

abbrev pub bit : ℕ → Test → Bit
bit w t = record { weight = w; if = t }

-- "A1 = 8 keypad, 4 Running, 2 flow, 1 Set/Running/Stopped."
abbrev pub first : List Bit
first = bit 8 (is_on keypad) ∷ bit 4 (in_phases (running ∷ [])) ∷ bit 2 (is_on flow) ∷ bit 1 (in_phases (set ∷ running ∷ stopped ∷ [])) ∷ []

-- "A2 = 8 Running/Stopped, 4 Done, 2 batch reset."
abbrev pub second : List Bit
second = bit 8 (in_phases (running ∷ stopped ∷ [])) ∷ bit 4 (in_phases (done ∷ [])) ∷ bit 2 (is_on reset) ∷ []

-- 02: "EQ's A3 shows 1 .. if any alarm is on"
abbrev pub third : List Bit
third = bit 1 any_alarm ∷ []

-- "A4 = 8 changed, 1 power fail."
abbrev pub fourth : List Bit
fourth = bit 8 (is_on changed) ∷ bit 1 (is_on powerfail) ∷ []

-- "A5 and A6 = 0."
abbrev pub characters : List (List Bit)
characters = first ∷ second ∷ third ∷ fourth ∷ [] ∷ [] ∷ []

-- the weights of the bits whose tests hold
unfoldable pub weight_in : Record → List Bit → ℕ
weight_in r [] = 0
weight_in r (b ∷ bs) = b.weight * flag_number (passes b.if r) + weight_in r bs

-- "value n from 0 to 15 is the byte 0x30+n"
unfoldable pub status_characters : Record → List ℕ
status_characters r = map (λ bs. 0x30 + weight_in r bs) characters

-- ---- EA: "five characters, the reserved bit always 0"
unfoldable pub alarm_characters : ℕ → List ℕ
alarm_characters n = map (λ v. 0x30 + v) (alarm_values n)

-- ---- RS
pub record Code : Type 0 where
  pub letters : List ℕ
  pub if : Test

abbrev pub code : String → Test → Code
code s t = record { letters = text s; if = t }

-- "RS codes, in 000's order: FL flow, BD, PC, PF, PW keypad, TD Done, TP Running/Stopped, RL Running."
abbrev pub phase_codes : List Code
phase_codes =
    code "TD" (in_phases (done ∷ []))
    ∷ code "TP" (in_phases (running ∷ stopped ∷ []))
    ∷ code "RL" (in_phases (running ∷ []))
    ∷ []

abbrev pub flag_codes : List Code
flag_codes =
    code "FL" (is_on flow)
    ∷ code "BD" (is_on reset)
    ∷ code "PC" (is_on changed)
    ∷ code "PF" (is_on powerfail)
    ∷ code "PW" (is_on keypad)
    ∷ phase_codes

-- 02: "RS shows AL first, if any alarm is on"
abbrev pub status_codes : List Code
status_codes = code "AL" any_alarm ∷ flag_codes

-- "each code and a space"
unfoldable pub codes_on : List Code → Record → List ℕ
codes_on [] r = []
codes_on (c ∷ cs) r = pick (passes c.if r) (c.letters ++ (space ∷ [])) [] ++ codes_on cs r
