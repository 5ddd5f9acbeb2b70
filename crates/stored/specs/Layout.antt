-- Document 01, "Stored record", and 02, L1: which numbers of a record each version stores, in how many bytes each, and which numbers these
-- may be. Reading, writing and the length follow from the one list of items.
use Rattle.std.specs.Prelude.{ℕ, zero, suc, ◌+◌, ◌-◌, ◌*◌, ◌/◌, ◌%◌, ◌^◌, Bool, ◌&&◌, List, [], ◌∷◌, ◌++◌, map, eqb, ltb, length}
use Rattle.std.specs.Int.Bits.{bit_and}
use Rattle.base.specs.Test.{pick, member}
use Rattle.state.specs.declared.Record.{Record}
use Rattle.state.specs.declared.Range.{Range}
use Rattle.state.specs.Parameter.{range, parameter_count}
use Rattle.state.specs.Alarm.{all_alarms, alarm_values}
use Rattle.state.specs.Field.{Field, address, access, phase, keypad, flow, changed, reset, powerfail, recipe, preset, raw, number, alarms, value, level, get, put, field_range}
use Rattle.state.specs.Valid.{within}
use Rattle.stored.specs.declared.Slot.{Slot}
use Rattle.stored.specs.declared.ScalarField.{ScalarField}
use Rattle.stored.specs.declared.ScalarField.TheVariants as scalar

-- one stored number: a field alone in so many bytes; several flags together in one byte, the first in the lowest bit; or the alarms
pub data Item : Type 0 where
  alone : ℕ → Field → Item
  together : List Field → Item
  bit_mapped : Item

-- "flags (1 keypad, 2 flow, 4 changed, 8 batch reset, 16 power fail, rest 0)"
abbrev pub flag_fields : List Field
flag_fields = keypad ∷ flow ∷ changed ∷ reset ∷ powerfail ∷ []

-- "address; access; phase 0..4 ..; flags ..; recipe; preset 3 bytes; raw 4; number 2"
abbrev pub scalar_items : List Item
scalar_items =
    alone 1 address ∷ alone 1 access ∷ alone 1 phase ∷ together flag_fields ∷ alone 1 recipe ∷ alone 3 preset ∷ alone 4 raw ∷ alone 2 number ∷ []

-- "then for each parameter in rising code, value 4 and level 1": of the first n parameters
abbrev pub parameter_items : ℕ → List Item
parameter_items zero = []
parameter_items (suc n) = parameter_items n ++ (alone 4 (value n) ∷ alone 1 (level n) ∷ [])

-- the versions that are read, and the one that is written: "writing is version 2"
abbrev pub versions : List ℕ
versions = 1 ∷ 2 ∷ []

abbrev pub current : ℕ
current = 2

-- what each version stores before the parameters: "The stored record becomes version 2 with the alarms in 3 bytes after the number"
abbrev pub scalars_of : ℕ → List Item
scalars_of version = pick (eqb version 1) scalar_items (scalar_items ++ (bit_mapped ∷ []))

-- their places, as the code names them
abbrev pub scalar_place : ScalarField → ℕ
scalar_place scalar.Address = 0
scalar_place scalar.Access = 1
scalar_place scalar.Phase = 2
scalar_place scalar.Flags = 3
scalar_place scalar.Recipe = 4
scalar_place scalar.Preset = 5
scalar_place scalar.Raw = 6
scalar_place scalar.Number = 7
scalar_place scalar.Alarms = 8

abbrev pub items : ℕ → List Item
items version = pick (member version versions) (scalars_of version ++ parameter_items parameter_count) []

-- ---- where each stands: one behind the other, behind "version 1; total length in 2 bytes"
abbrev pub header_width : ℕ
header_width = 3

abbrev pub item_width : Item → ℕ
item_width (alone w f) = w
item_width (together fs) = 1
item_width bit_mapped = 3

abbrev pub widths : List Item → List ℕ
widths xs = map item_width xs

abbrev pub total : List ℕ → ℕ
total [] = 0
total (w ∷ ws) = w + total ws

abbrev pub total_width : List Item → ℕ
total_width xs = total (widths xs)

abbrev pub slot_of : ℕ → ℕ → Range → Slot
slot_of a w g = record { at = a; width = w; range = g }

-- the slot of an item: its place, its width, and the range of the number in it
abbrev pub item_slot : ℕ → Item → Slot
item_slot a (alone w f) = slot_of a w (field_range f)
item_slot a (together fs) = slot_of a 1 (range 0 (2 ^ length fs - 1))
item_slot a bit_mapped = slot_of a 3 (range 0 0xffffff)

unfoldable pub slots_from : ℕ → List Item → List Slot
slots_from at [] = []
slots_from at (x ∷ xs) = item_slot at x ∷ slots_from (at + item_width x) xs

abbrev pub scalar_slots : ℕ → List Slot
scalar_slots version = slots_from header_width (scalars_of version)

-- where the parameters' numbers begin
abbrev pub parameters_at : ℕ → ℕ
parameters_at version = header_width + total_width (scalars_of version)

-- beyond the last place there is an empty slot
abbrev pub no_slot : Slot
no_slot = slot_of 0 0 (range 0 0)

-- ---- the alarms: "the values of A1 to A5 and a zero, four bits each, high half first"
unfoldable pub halves_from : ℕ → List ℕ → ℕ
halves_from a [] = a
halves_from a (v ∷ vs) = halves_from (a * 16 + v) vs

unfoldable pub alarms_stored : ℕ → ℕ
alarms_stored n = halves_from 0 (alarm_values n ++ (0 ∷ []))

-- the alarms that such a number is of
unfoldable pub alarms_in : ℕ → ℕ
alarms_in n = n / 256 * 8 + n / 16 % 8

-- "the reserved bit or last four bits": those that no alarm has
unfoldable pub unused_bits : ℕ
unused_bits = 0xffffff - alarms_stored all_alarms

-- ---- the numbers that an item may have: "K4 a field out of range or an unused flag bit set", "also the reserved bit or last four bits set"
abbrev pub fits : Item → ℕ → Bool
fits (alone w f) n = within (field_range f) n
fits (together fs) n = ltb n (2 ^ length fs)
fits bit_mapped n = within (range 0 0xffffff) n && eqb (bit_and n unused_bits) 0

-- ---- a record as its stored numbers
abbrev pub bits : Record → List Field → ℕ
bits r [] = 0
bits r (f ∷ fs) = get f r + 2 * bits r fs

abbrev pub item_number : Record → Item → ℕ
item_number r (alone w f) = get f r
item_number r (together fs) = bits r fs
item_number r bit_mapped = alarms_stored (get alarms r)

unfoldable pub numbers_of : List Item → Record → List ℕ
numbers_of xs r = map (item_number r) xs

-- ---- the record that stored numbers are: each number goes into its field
unfoldable pub put_bits : List Field → ℕ → Record → Record
put_bits [] n r = r
put_bits (f ∷ fs) n r = put f (n % 2) (put_bits fs (n / 2) r)

abbrev pub put_item : Item → ℕ → Record → Record
put_item (alone w f) n r = put f n r
put_item (together fs) n r = put_bits fs n r
put_item bit_mapped n r = put alarms (alarms_in n) r

unfoldable pub put_all : List Item → List ℕ → Record → Record
put_all [] ns r = r
put_all (x ∷ xs) [] r = r
put_all (x ∷ xs) (n ∷ ns) r = put_all xs ns (put_item x n r)
