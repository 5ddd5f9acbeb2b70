-- Document 01, "Stored record", and 02, L1: the bytes of a record, and what writing and reading answer.
use Rattle.std.specs.Prelude.{ℕ, zero, suc, ◌+◌, ◌*◌, ◌/◌, ◌%◌, Bool, true, false, ◌&&◌, List, [], ◌∷◌, ◌++◌, eqb, leb, length, get_or, take, drop, Option, None, Some, Result, Ok, Err}
use Rattle.std.specs.Int.Bits.{bit_and}
use Rattle.std.proofs.lemmas.List.Edits.{sets}
use Rattle.base.specs.Test.{unless, pick, between, member}
use Rattle.base.specs.Lists.{over}
use Rattle.state.specs.declared.Record.{Record}
use Rattle.state.specs.Field.{value, level, field_range, record_from}
use Rattle.state.specs.Valid.{valid}
use Rattle.stored.specs.declared.Slot.{Slot}
use Rattle.stored.specs.declared.Version.{Version}
use Rattle.stored.specs.declared.Version.TheVariants as version
use Rattle.stored.specs.declared.Refusal.{Refusal}
use Rattle.stored.specs.declared.Refusal.TheVariants as refusal
use Rattle.stored.specs.declared.WriteRefusal.{WriteRefusal}
use Rattle.stored.specs.declared.WriteRefusal.TheVariants as written
use Rattle.stored.specs.Layout.{Item, alone, bit_mapped, versions, current, items, widths, total_width, header_width, parameters_at, item_slot, slots_from, unused_bits, fits, numbers_of, put_all}

-- ---- the code's answers as document 01 numbers them: K1 to K6, or done
pub data Outcome : Type 0 where
  K : ℕ → Outcome
  done : Outcome

abbrev pub refusal_number : Refusal → ℕ
refusal_number refusal.Length = 1
refusal_number refusal.Version = 2
refusal_number refusal.LengthField = 3
refusal_number refusal.Field = 4

abbrev pub header_as : Result (Unit {0}) Refusal → Outcome
header_as (Ok u) = done
header_as (Err k) = K (refusal_number k)

abbrev pub written_as : Result (Unit {0}) WriteRefusal → Outcome
written_as (Err written.InvalidRecord) = K 5
written_as (Err written.ShortBuffer) = K 6
written_as (Ok u) = done

-- ---- numbers as bytes, "high first"
unfoldable pub big_endian : ℕ → ℕ → List ℕ
big_endian zero n = []
big_endian (suc w) n = big_endian w (n / 256) ++ (n % 256 ∷ [])

unfoldable pub number_from : ℕ → List ℕ → ℕ
number_from a [] = a
number_from a (b ∷ bs) = number_from (a * 256 + b) bs

abbrev pub number_of : List ℕ → ℕ
number_of bs = number_from 0 bs

-- numbers one behind the other, each in so many bytes as its width says
unfoldable pub pack : List ℕ → List ℕ → List ℕ
pack [] ns = []
pack (w ∷ ws) [] = []
pack (w ∷ ws) (n ∷ ns) = big_endian w n ++ pack ws ns

-- and back: for each width the number of so many bytes
unfoldable pub unpack : List ℕ → List ℕ → List ℕ
unpack [] bs = []
unpack (w ∷ ws) bs = number_of (take w bs) ∷ unpack ws (drop w bs)

-- the bytes of the numbers that a record has for some items
abbrev pub packed : List Item → Record → List ℕ
packed xs r = pack (widths xs) (numbers_of xs r)

-- the numbers in the slots of stored bytes
abbrev pub number_at : List ℕ → Slot → ℕ
number_at bs s = number_of (take s.width (drop s.at bs))

unfoldable pub numbers_in : List Slot → List ℕ → List ℕ
numbers_in [] bs = []
numbers_in (s ∷ ss) bs = number_at bs s ∷ numbers_in ss bs

-- a number stored in its slot
abbrev pub stored : Slot → ℕ → List ℕ → List ℕ
stored s n o = sets o s.at (big_endian s.width n)

abbrev pub in_slot : Slot → ℕ → Bool
in_slot s n = between s.range.low s.range.high n

unfoldable pub all_fit : List Item → List ℕ → Bool
all_fit [] ns = true
all_fit (x ∷ xs) [] = false
all_fit (x ∷ xs) (n ∷ ns) = fits x n && all_fit xs ns

-- ---- the stored form: the version; "total length in 2 bytes, high first"; then the numbers

-- 01: "177 bytes"; 02: "version 2 .., 180 bytes"; 0 for a version that is not known
unfoldable pub stored_length : ℕ → ℕ
stored_length version = pick (member version versions) (header_width + total_width (items version)) 0

-- the version that has a length; 0 if none has
unfoldable pub version_in : List ℕ → ℕ → ℕ
version_in [] l = 0
version_in (v ∷ vs) l = pick (eqb l (stored_length v)) v (version_in vs l)

abbrev pub version_of : ℕ → ℕ
version_of l = version_in versions l

-- and as the code gives it
abbrev pub version_number : Version → ℕ
version_number version.WithoutAlarms = 1
version_number version.WithAlarms = 2

abbrev pub version_as : Option Version → ℕ
version_as None = 0
version_as (Some v) = version_number v

abbrev pub header_bytes : List ℕ
header_bytes = current ∷ big_endian 2 (stored_length current)

unfoldable pub stored_form : Record → List ℕ
stored_form r = header_bytes ++ packed (items current) r

-- ---- writing: "it refuses K5 record not valid", "K6 a buffer under the written length"; "buffer untouched"
unfoldable pub write_of : Record → List ℕ → Outcome × List ℕ
write_of r o =
    unless (valid r) (K 5, o)
    (unless (leb (stored_length current) (length o)) (K 6, o)
    (done, over (stored_form r) o))

-- ---- reading: "K1 is a length of no known version, K2 a version that isn't the length's", "K3 length field", "K4 a field out of range .."
unfoldable pub header_of : List ℕ → Outcome
header_of bs =
    unless (member (version_of (length bs)) versions) (K 1)
    (unless (eqb (get_or bs 0 0) (version_of (length bs))) (K 2)
    (unless (eqb (number_of (take 2 (drop 1 bs))) (length bs)) (K 3)
    done))

-- "a record with every field at its low end, Idle and flags off"
unfoldable pub low_record : Record
low_record = record_from (λ f. (field_range f).low)

-- "beside the number it then gives" the low record
abbrev pub reading_as : Result Record Refusal → Outcome × Record
reading_as (Ok r) = (done, r)
reading_as (Err k) = (K (refusal_number k), low_record)

-- the same of an answer and the record that was filled in place, which counts only where all was read
abbrev pub filled_as : Result (Unit {0}) Refusal → Record → Outcome × Record
filled_as (Ok u) r = (done, r)
filled_as (Err k) r = (K (refusal_number k), low_record)

-- what the numbers in the slots of some items make of a record: each goes into its field, if all fit
unfoldable pub taken_from : ℕ → List Item → List ℕ → Record → Outcome × Record
taken_from at xs bs r =
    unless (all_fit xs (numbers_in (slots_from at xs) bs)) (K 4, low_record)
    (done, put_all xs (numbers_in (slots_from at xs) bs) r)

-- a field that the version does not store is at its low end: "Version 1 is read as no alarms"
unfoldable pub body_of : List ℕ → Outcome × Record
body_of bs = taken_from header_width (items (version_of (length bs))) bs low_record

-- "beside the number it then gives" the low record
abbrev pub after_header : Outcome → List ℕ → Outcome × Record
after_header (K k) bs = (K k, low_record)
after_header done bs = body_of bs

unfoldable pub read_of : List ℕ → Outcome × Record
read_of bs = after_header (header_of bs) bs

-- the number in a slot, if it lies in its range
unfoldable pub number_read : Slot → List ℕ → Option ℕ
number_read s bs = unless (in_slot s (number_at bs s)) None (Some (number_at bs s))

-- the number of the alarms, if no unused bit is set in it
unfoldable pub alarms_read : Option ℕ → Option ℕ
alarms_read None = None
alarms_read (Some n) = unless (eqb (bit_and n unused_bits) 0) None (Some n)

-- in stored bytes of a version; 0 in one that does not store it
unfoldable pub alarms_at : ℕ → List ℕ → Option ℕ
alarms_at version bs = pick (eqb version 1) (Some 0) (alarms_read (number_read (item_slot (parameters_at 1) bit_mapped) bs))

-- the value and the level of the parameter at place i, if both do, where the parameters begin at `at`
abbrev pub pair_read : Option ℕ → Option ℕ → Option (ℕ × ℕ)
pair_read None l = None
pair_read (Some v) None = None
pair_read (Some v) (Some l) = Some (v, l)

unfoldable pub parameter_read : ℕ → ℕ → List ℕ → Option (ℕ × ℕ)
parameter_read at i bs =
    pair_read (number_read (item_slot (at + 5 * i) (alone 4 (value i))) bs) (number_read (item_slot (at + 5 * i + 4) (alone 1 (level i))) bs)
