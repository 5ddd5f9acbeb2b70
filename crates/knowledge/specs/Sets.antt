-- What one field may hold, as one number: the code of a set. A field of few numbers has a mask; of a field of many numbers either
-- nothing is known or the number itself; of the alarms there is more in between.
use Rattle.std.specs.Prelude.{ℕ, zero, suc, ◌+◌, ◌*◌, ◌/◌, ◌%◌, ◌^◌, Bool, true, ◌&&◌, ◌||◌, eqb, leb}
use Rattle.std.specs.Int.Bits.{bit_or}
use Rattle.base.specs.Test.{pick}
use Rattle.state.specs.Parameter.{recipes}
use Rattle.state.specs.Alarm.{no_alarm, all_alarms, lasting}
use Rattle.state.specs.Field.{Field, address, access, phase, keypad, flow, changed, reset, powerfail, recipe, preset, raw, number, alarms, value, level, field_range, flag_number, on}
use Rattle.state.specs.Valid.{within}
use Rattle.state.specs.Event.{next_number}

-- several: any of some small numbers; single: any, or one; alarmed: one, or any that have just such alarms on
pub data Kind : Type 0 where
  several single alarmed : Kind

abbrev pub kind_of : Field → Kind
kind_of address = single
kind_of access = single
kind_of phase = several
kind_of keypad = several
kind_of flow = several
kind_of changed = several
kind_of reset = several
kind_of powerfail = several
kind_of recipe = several
kind_of preset = single
kind_of raw = single
kind_of number = single
kind_of alarms = alarmed
kind_of (value i) = single
kind_of (level i) = several

-- ---- several: the number n is in the mask if its bit of weight 2 to the n is set
unfoldable pub bit : ℕ → ℕ → Bool
bit m zero = eqb (m % 2) 1
bit m (suc n) = bit (m / 2) n

-- the mask of those of n numbers from i on that pass a test, i in the lowest bit
unfoldable pub mask_from : (ℕ → Bool) → ℕ → ℕ → ℕ
mask_from p zero i = 0
mask_from p (suc n) i = flag_number (p i) + 2 * mask_from p n (i + 1)

-- the numbers that pass a test; no field with a mask goes beyond the last recipe
abbrev pub mask_of : (ℕ → Bool) → ℕ
mask_of p = mask_from p (recipes + 1) 0

-- ---- single: a number that no field can hold stands for any
abbrev pub any_number : ℕ
any_number = 0xffffffff

abbrev pub only : ℕ → ℕ → Bool
only c n = eqb c any_number || eqb c n

-- the batch numbers after those of a set
abbrev pub next_code : ℕ → ℕ
next_code c = pick (eqb c any_number) any_number (next_number c)

-- ---- a flag, where a field of many numbers becomes n (02, L2): by the codes of what the field held and of the flag. Known to be n: the
-- flag stays; known to be another: on; unknown: "where the flag could be off and the old value could be equal or not, the flag may then
-- be either; a flag known to be on stays on"
abbrev pub on_mask : ℕ
on_mask = mask_of (λ n. eqb n on)

abbrev pub or_on : ℕ → ℕ
or_on flag = bit_or flag on_mask

unfoldable pub flag_code : ℕ → ℕ → ℕ → ℕ
flag_code n held flag = pick (eqb held n) flag (pick (eqb held any_number) (or_on flag) on_mask)

-- ---- alarmed: in the lowest bit whether none may be on; above it what may be on if some are: the number of just these (0: nothing), the
-- first number that no alarms have for any of the lasting, and each greater one for any
abbrev pub any_lasting : ℕ
any_lasting = all_alarms + 1

abbrev pub some_in : ℕ → ℕ → Bool
some_in u n = pick (leb u all_alarms) (eqb u n) (pick (eqb u any_lasting) (eqb (lasting n) n) true)

-- a code has 32 bits
abbrev pub above : ℕ → ℕ
above c = c / 2 % 2 ^ 31

unfoldable pub alarms_in : ℕ → ℕ → Bool
alarms_in c n = pick (eqb n no_alarm) (bit c 0) (some_in (above c) n)

-- the numbers that pass a test, which has to be one of whether an alarm is on
abbrev pub none_mask : ℕ
none_mask = 1

abbrev pub some_mask : ℕ
some_mask = 0xfffffffe

abbrev pub alarm_mask : (ℕ → Bool) → ℕ
alarm_mask p = none_mask * flag_number (p no_alarm) + some_mask * flag_number (p 1)

-- just n
unfoldable pub just_alarms : ℕ → ℕ
just_alarms n = pick (eqb n no_alarm) none_mask (2 * n)

-- what AR leaves of each: the lasting of just these; of any, any of the lasting, or none
unfoldable pub reset_code : ℕ → ℕ
reset_code c =
    pick (leb (above c) all_alarms) (pick (eqb (lasting (above c)) no_alarm) none_mask (c % 2 + 2 * lasting (above c)))
    (pick (eqb (above c) any_lasting) (c % 2 + 2 * any_lasting) (none_mask + 2 * any_lasting))

-- ---- a field may hold n, by the code of its set
abbrev pub in_set : Kind → ℕ → ℕ → Bool
in_set several c n = bit c n
in_set single c n = only c n
in_set alarmed c n = alarms_in c n

unfoldable pub has : Field → ℕ → ℕ → Bool
has f c n = within (field_range f) n && in_set (kind_of f) c n

-- the mask of what passes a test, for a field that has one
abbrev pub mask_by : Kind → Field → (ℕ → Bool) → ℕ
mask_by several f p = mask_of (λ n. within (field_range f) n && p n)
mask_by single f p = 0
mask_by alarmed f p = alarm_mask p

abbrev pub mask_in : Field → (ℕ → Bool) → ℕ
mask_in f p = mask_by (kind_of f) f p

-- the code of "any number in the range", and of "n alone"
abbrev pub any_of : Kind → Field → ℕ
any_of several f = mask_by several f (λ n. true)
any_of single f = any_number
any_of alarmed f = any_number

abbrev pub alone_of : Kind → Field → ℕ → ℕ
alone_of several f n = mask_by several f (λ m. eqb m n)
alone_of single f n = n
alone_of alarmed f n = just_alarms n

abbrev pub any : Field → ℕ
any f = any_of (kind_of f) f

abbrev pub alone : Field → ℕ → ℕ
alone f n = alone_of (kind_of f) f n
