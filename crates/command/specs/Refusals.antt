-- Document 01, "Commands", second table, with the rows of 02, L1 and L7: the refusals, "first that applies".
use Rattle.std.specs.Prelude.{ℕ, Bool, not, ◌&&◌, ◌||◌, List, [], ◌∷◌, ◌++◌, map, eqb, ltb}
use Rattle.base.specs.Text.{text}
use Rattle.state.specs.declared.Record.{Record}
use Rattle.base.specs.Test.{pick, between, member}
use Rattle.state.specs.Parameter.{parameter_count, range_at}
use Rattle.state.specs.Alarm.{no_alarm}
use Rattle.state.specs.Field.{Field, access, phase, keypad, recipe, alarms, level, get, field_range, on}
use Rattle.state.specs.Valid.{within}
use Rattle.state.specs.Event.{idle, set, running, stopped, done}
use Rattle.text.specs.Word.{one_of}
use Rattle.command.specs.Commands.{RT, PV, XV, PC, XC, NR, SB, SA, SP, ET, RE, AR, Command, commands, row_of, formed, Arguments, arguments_of, behind_space, batch_asked, batch_number}

-- a row: its number, and when it applies to a code c: by what stands behind the code; by the arguments x there; or, for some codes, by the
-- number n that one field of the record holds, on a link of access a
pub data Row : Type 0 where
  by_text : ℕ → (ℕ → List ℕ → Bool) → Row
  by_arguments : ℕ → (ℕ → Arguments → Bool) → Row
  by_field : ℕ → List ℕ → (Arguments → Field) → (ℕ → Arguments → ℕ → ℕ → Bool) → Row

-- the code is one of these
abbrev pub of : List ℕ → ℕ → Bool
of codes c = member c codes

-- the arguments behind the code, by the form that the code has
abbrev pub arguments_for : ℕ → List ℕ → Arguments
arguments_for c xs = arguments_of (row_of c commands).form xs

abbrev pub applies : Row → ℕ → List ℕ → Record → Bool
applies (by_text m p) c xs r = p c xs
applies (by_arguments m p) c xs r = p c (arguments_for c xs)
applies (by_field m codes f p) c xs r = of codes c && p c (arguments_for c xs) (get access r) (get (f (arguments_for c xs)) r)

abbrev pub row_number : Row → ℕ
row_number (by_text m p) = m
row_number (by_arguments m p) = m
row_number (by_field m codes f p) = m

-- NO00 "code not in the table"
abbrev pub unknown_code : ℕ → List ℕ → Bool
unknown_code c xs = not (of (map (λ (k : Command). k.code) commands) c)

-- "NO08's five requests": "RT G, RT N, RT P, RT M; RE PF"
abbrev pub not_served : ℕ → List ℕ → Bool
not_served c xs =
    (of (RT ∷ []) c && behind_space (one_of (text "G" ∷ text "N" ∷ text "P" ∷ text "M" ∷ [])) xs)
    || (of (RE ∷ []) c && behind_space (one_of (text "PF" ∷ [])) xs)

-- NO01 "code followed by anything but a space, or arguments not of the form, or missing, or too many; NO08's five requests aside"
abbrev pub malformed : ℕ → List ℕ → Bool
malformed c xs = not (formed (row_of c commands).form xs) && not (not_served c xs)

-- with a bank RT R NNN is of the form
abbrev pub malformed_beside : ℕ → List ℕ → Bool
malformed_beside c xs = malformed c xs && not (batch_asked c xs)

-- NO03 "if fewer than NNN are kept or NNN is 000"; n are kept
abbrev pub not_kept : ℕ → ℕ → List ℕ → Bool
not_kept n c xs = batch_asked c xs && not (between 1 n (batch_number xs))

-- NO04 "parameter code not in the list (PV, XV, PC, XC)"
abbrev pub listed : ℕ → Bool
listed i = ltb i parameter_count

abbrev pub unknown_parameter : ℕ → Arguments → Bool
unknown_parameter c x = of (PV ∷ XV ∷ PC ∷ XC ∷ []) c && not (listed x.place)

-- NO30 "NR recipe not 01..08"
abbrev pub unknown_recipe : ℕ → Arguments → Bool
unknown_recipe c x = of (NR ∷ []) c && not (within (field_range recipe) x.number)

-- NO06 "PC value out of range; XC level over 3; SB of 0"
abbrev pub out_of_range : ℕ → Arguments → Bool
out_of_range c x =
    (of (PC ∷ []) c && not (within (range_at x.place) x.number)) || (of (XC ∷ []) c && ltb 3 x.number) || (of (SB ∷ []) c && eqb x.number 0)

-- NO02 "keypad on (PC, XC, NR, SB, SA, ET, RE; never SP)"; 02: "AR NO02"
abbrev pub keypad_taken : ℕ → Arguments → ℕ → ℕ → Bool
keypad_taken c x a n = eqb n on

-- NO07 "PC, XC: the parameter's level is above the access; XC: l above the access"
abbrev pub level_above : ℕ → Arguments → ℕ → ℕ → Bool
level_above c x a n = ltb a n || (of (XC ∷ []) c && ltb a x.number)

-- NO05 "phase: PC, NR, SB need Idle or Done; SA Set or Stopped; SP Running; ET Set, Stopped or Done"
abbrev pub needed : ℕ → List ℕ
needed c =
    pick (of (PC ∷ NR ∷ SB ∷ []) c) (idle ∷ done ∷ [])
    (pick (of (SA ∷ []) c) (set ∷ stopped ∷ []) (pick (of (SP ∷ []) c) (running ∷ []) (set ∷ stopped ∷ done ∷ [])))

abbrev pub wrong_phase : ℕ → Arguments → ℕ → ℕ → Bool
wrong_phase c x a n = not (member n (needed c))

-- 02: "SA gets NO09, after NO05, while an alarm is on"
abbrev pub an_alarm_on : ℕ → Arguments → ℕ → ℕ → Bool
an_alarm_on c x a n = not (eqb n no_alarm)

-- | reply | when |
-- with the test for NO01, and the row that a bank adds: "NO03, after NO30"
abbrev pub refusals_with : (ℕ → List ℕ → Bool) → List Row → List Row
refusals_with wrong_form kept =
    by_text 0 unknown_code
    ∷ by_text 1 wrong_form
    ∷ by_text 8 not_served
    ∷ by_arguments 4 unknown_parameter
    ∷ by_arguments 30 unknown_recipe
    ∷ kept
    ++ by_arguments 6 out_of_range
    ∷ by_field 2 (PC ∷ XC ∷ NR ∷ SB ∷ SA ∷ ET ∷ RE ∷ AR ∷ []) (λ x. keypad) keypad_taken
    ∷ by_field 7 (PC ∷ XC ∷ []) (λ x. level x.place) level_above
    ∷ by_field 5 (PC ∷ NR ∷ SB ∷ SA ∷ SP ∷ ET ∷ []) (λ x. phase) wrong_phase
    ∷ by_field 9 (SA ∷ []) (λ x. alarms) an_alarm_on
    ∷ []

-- without a bank
abbrev pub refusals : List Row
refusals = refusals_with malformed []

-- with a bank of n batches
abbrev pub refusals_beside : ℕ → List Row
refusals_beside n = refusals_with malformed_beside (by_text 3 (not_kept n) ∷ [])
