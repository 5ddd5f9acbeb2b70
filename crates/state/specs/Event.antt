-- Document 01, "What the panel does", with the alarms of 02, L1; the phase changes of SB, SA, SP and ET; what AR leaves; and
-- what a value that is set does to a flag (02, L2).
use Rattle.std.specs.Prelude.{ℕ, ◌+◌, ◌%◌, Bool, ◌&&◌, ◌||◌, eqb, leb, ltb}
use Rattle.state.specs.declared.Phase.TheVariants.{Idle, Set, Running, Stopped, Done}
use Rattle.state.specs.declared.Event.{Event}
use Rattle.state.specs.declared.Event.TheVariants.{Pulses, Still, KeypadOn, KeypadOff, PowerBack, AlarmOn, AlarmOff}
use Rattle.state.specs.declared.Record.{Record}
use Rattle.base.specs.Test.{pick}
use Rattle.state.specs.Alarm.{is_alarm, raised, cleared, lasting}
use Rattle.state.specs.Field.{Field, phase, keypad, flow, reset, powerfail, preset, raw, number, alarms, phase_number, on, off, field_range, get, put}
use Rattle.state.specs.Valid.{valid}

-- the phases by number
abbrev pub idle : ℕ
idle = phase_number Idle

abbrev pub set : ℕ
set = phase_number Set

abbrev pub running : ℕ
running = phase_number Running

abbrev pub stopped : ℕ
stopped = phase_number Stopped

abbrev pub done : ℕ
done = phase_number Done

abbrev pub in_phase : ℕ → Record → Bool
in_phase p r = eqb (get phase r) p

-- ---- the panel

-- "raw grows by n modulo 100,000,000"
abbrev pub counted : ℕ → Record → Record
counted n r = put raw ((get raw r + n) % 100000000) r

-- "if Running and raw+n before the modulo reaches preset, Done"
abbrev pub finished : ℕ → Record → Record → Record
finished n r s = pick (in_phase running r && leb (get preset r) (get raw r + n)) (put phase done s) s

-- "Pulses n ..: 0 changes nothing; else flow on; unless Idle, raw grows ..; if Running and .., Done"
unfoldable pub pulses : ℕ → Record → Record
pulses n r = pick (eqb n 0) r (put flow on (pick (in_phase idle r) r (finished n r (counted n r))))

-- "Power back: power fail on, flow off, Running becomes Stopped."
unfoldable pub power_back : Record → Record
power_back r = put powerfail on (put flow off (pick (in_phase running r) (put phase stopped r) r))

-- "Keypad on: only in Idle or Done, else no change."
unfoldable pub keypad_on : Record → Record
keypad_on r = pick (in_phase idle r || in_phase done r) (put keypad on r) r

-- "A panel event raises or clears one alarm"; "a panel event for an alarm outside 1..19 changes nothing"
unfoldable pub alarm_changed : ℕ → (ℕ → ℕ) → Record → Record
alarm_changed k change r = pick (is_alarm k) (put alarms (change (get alarms r)) r) r

abbrev pub happened : Event → Record → Record
happened (Pulses n) r = pulses n r
happened Still r = put flow off r
happened KeypadOn r = keypad_on r
happened KeypadOff r = put keypad off r
happened PowerBack r = power_back r
happened (AlarmOn k) r = alarm_changed k (λ n. raised k n) r
happened (AlarmOff k) r = alarm_changed k (λ n. cleared k n) r

-- "A record that is not valid comes back unchanged."
unfoldable pub after : Event → Record → Record
after e r = pick (valid r) (happened e r) r

-- ---- the phase changes of the commands

-- "batch number +1 (9999 goes to 1)"
abbrev pub next_number : ℕ → ℕ
next_number n = pick (ltb n (field_range number).high) (n + 1) (field_range number).low

-- SB n: "phase Set, preset n, raw 0, batch reset on, batch number +1"
unfoldable pub batch_set : ℕ → Record → Record
batch_set n r = put phase set (put preset n (put raw 0 (put reset on (put number (next_number (get number r)) r))))

-- SA: "Running"; SP: "Stopped"; ET: "Idle"
abbrev pub started : Record → Record
started r = put phase running r

abbrev pub halted : Record → Record
halted r = put phase stopped r

abbrev pub ended : Record → Record
ended r = put phase idle r

-- AR: the lasting alarms
abbrev pub alarms_reset : Record → Record
alarms_reset r = put alarms (lasting (get alarms r)) r

-- PC: "switch the flag on exactly if the value differs from the one held; else the flag stays"
abbrev pub flag_after : ℕ → ℕ → ℕ → ℕ
flag_after held new flag = pick (eqb held new) flag on

-- a field gets n, and a flag goes by the number held before
abbrev pub replaced : Field → ℕ → Field → Record → Record
replaced f n flag r = put f n (put flag (flag_after (get f r) n (get flag r)) r)
