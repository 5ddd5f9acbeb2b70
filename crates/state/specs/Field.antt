-- Document 01, "The controller's record", and 02, L1: the fields by name, each read and written as a number.
use Rattle.std.specs.Prelude.{ℕ, zero, suc, ◌+◌, ◌-◌, ◌*◌, ◌/◌, ◌%◌, ◌<◌, Bool, true, false, ◌&&◌, List, [], ◌∷◌, ◌++◌, eqb, leb, ltb, length, get_or, set}
use Rattle.state.specs.declared.Phase.{Phase}
use Rattle.state.specs.declared.Phase.TheVariants.{Idle, Set, Running, Stopped, Done}
use Rattle.state.specs.declared.Record.{Record}
use Rattle.state.specs.declared.Range.{Range}
use Rattle.base.specs.Test.{pick}
use Rattle.state.specs.Parameter.{recipes, range, parameter_count, range_at}
use Rattle.state.specs.Alarm.{no_alarm, all_alarms}

-- the rows of 01's table, and the alarms; `value i` and `level i` are those of the parameter at place i
pub data Field : Type 0 where
  address access phase keypad flow changed reset powerfail recipe preset raw number alarms : Field
  value level : ℕ → Field

-- ---- phases and flags as numbers

-- "phase 0..4 in the order above"
abbrev pub phase_number : Phase → ℕ
phase_number Idle = 0
phase_number Set = 1
phase_number Running = 2
phase_number Stopped = 3
phase_number Done = 4

unfoldable pub phase_of : ℕ → Phase
phase_of n = pick (eqb n 0) Idle (pick (eqb n 1) Set (pick (eqb n 2) Running (pick (eqb n 3) Stopped Done)))

abbrev pub off : ℕ
off = 0

abbrev pub on : ℕ
on = 1

abbrev pub flag_number : Bool → ℕ
flag_number true = on
flag_number false = off

abbrev pub flag_of : ℕ → Bool
flag_of n = eqb n on

-- ---- "range": the one list of every field's low end and high end
abbrev pub field_range : Field → Range
field_range address = range 1 99
field_range access = range 0 3
field_range phase = range 0 4
field_range keypad = range off on
field_range flow = range off on
field_range changed = range off on
field_range reset = range off on
field_range powerfail = range off on
field_range recipe = range 1 recipes
field_range preset = range 0 999999
field_range raw = range 0 99999999
field_range number = range 1 9999
field_range alarms = range no_alarm all_alarms
field_range (value i) = range_at i
field_range (level i) = range 0 3

-- ---- reading a field
abbrev pub get : Field → Record → ℕ
get address r = r.address
get access r = r.access
get phase r = phase_number r.phase
get keypad r = flag_number r.keypad
get flow r = flag_number r.flow
get changed r = flag_number r.changed
get reset r = flag_number r.reset
get powerfail r = flag_number r.powerfail
get recipe r = r.recipe
get preset r = r.preset
get raw r = r.raw
get number r = r.number
get alarms r = r.alarms
get (value i) r = get_or r.values i 0
get (level i) r = get_or r.levels i 0

-- ---- the fields in the order of 01's table, "then for each parameter in rising code" its value and its level

-- all but the parameters'
abbrev pub scalar_fields : List Field
scalar_fields = address ∷ access ∷ phase ∷ keypad ∷ flow ∷ changed ∷ reset ∷ powerfail ∷ recipe ∷ preset ∷ raw ∷ number ∷ alarms ∷ []

abbrev pub scalar_count : ℕ
scalar_count = length scalar_fields

-- a field's position in that order
abbrev pub position : Field → ℕ
position address = 0
position access = 1
position phase = 2
position keypad = 3
position flow = 4
position changed = 5
position reset = 6
position powerfail = 7
position recipe = 8
position preset = 9
position raw = 10
position number = 11
position alarms = 12
position (value i) = scalar_count + 2 * i
position (level i) = scalar_count + 1 + 2 * i

-- the field at a position
unfoldable pub field_at : ℕ → Field
field_at n =
    pick (ltb n scalar_count) (get_or scalar_fields n address)
    (pick (eqb ((n - scalar_count) % 2) 0) (value ((n - scalar_count) / 2)) (level ((n - scalar_count) / 2)))

-- how many fields a record has; those of a parameter beyond the last are not among them
abbrev pub field_count : ℕ
field_count = position (value parameter_count)

abbrev pub Held : Field → Type 0
Held f = position f < field_count

-- the fields of the first n parameters
abbrev pub parameter_fields : ℕ → List Field
parameter_fields zero = []
parameter_fields (suc n) = parameter_fields n ++ (value n ∷ level n ∷ [])

-- all fields with n parameters
abbrev pub fields_for : ℕ → List Field
fields_for n = scalar_fields ++ parameter_fields n

-- ---- writing a field: the record with the number n there, and all else as it was
abbrev pub is : Field → Field → Bool
is f g = eqb (position f) (position g)

-- the list with n at the place that f names, if f is one of a parameter's two fields, by the position of the first parameter's
abbrev pub put_at : ℕ → Field → ℕ → List ℕ → List ℕ
put_at first f n xs = pick (leb first (position f) && eqb ((position f - first) % 2) 0) (set xs ((position f - first) / 2) n) xs

unfoldable pub put : Field → ℕ → Record → Record
put f n r =
    record {
      address = pick (is f address) n r.address;
      access = pick (is f access) n r.access;
      phase = pick (is f phase) (phase_of n) r.phase;
      keypad = pick (is f keypad) (flag_of n) r.keypad;
      flow = pick (is f flow) (flag_of n) r.flow;
      changed = pick (is f changed) (flag_of n) r.changed;
      reset = pick (is f reset) (flag_of n) r.reset;
      powerfail = pick (is f powerfail) (flag_of n) r.powerfail;
      recipe = pick (is f recipe) n r.recipe;
      preset = pick (is f preset) n r.preset;
      raw = pick (is f raw) n r.raw;
      number = pick (is f number) n r.number;
      alarms = pick (is f alarms) n r.alarms;
      values = put_at (position (value 0)) f n r.values;
      levels = put_at (position (level 0)) f n r.levels;
    }

-- ---- the record of given numbers

-- w at each number below n
unfoldable pub listed : (ℕ → ℕ) → ℕ → List ℕ
listed w zero = []
listed w (suc n) = listed w n ++ (w n ∷ [])

unfoldable pub record_from : (Field → ℕ) → Record
record_from w =
    record {
      address = w address;
      access = w access;
      phase = phase_of (w phase);
      keypad = flag_of (w keypad);
      flow = flag_of (w flow);
      changed = flag_of (w changed);
      reset = flag_of (w reset);
      powerfail = flag_of (w powerfail);
      recipe = w recipe;
      preset = w preset;
      raw = w raw;
      number = w number;
      alarms = w alarms;
      values = listed (λ i. w (value i)) parameter_count;
      levels = listed (λ i. w (level i)) parameter_count;
    }
