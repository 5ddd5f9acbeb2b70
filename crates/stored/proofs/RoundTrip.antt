-- Reading gives back what was written, and writing what was read, by laws over the version; bytes of version 1 are read as the same bytes
-- with no alarm. Assumes nothing.
use Prim.Native.Nat.{ℕ, ◌+◌, ◌^◌, ◌≤◌, ◌<◌}
use mathlib.Core.Bool.{Bool, true, false, ◌&&◌}
use mathlib.Core.Path.{◌≡◌, refl, sym, ap, subst, ◌∙◌}
use mathlib.Core.List.{List, [], ◌∷◌, ◌++◌, map, append-nil}
use native.Mathlib.Omega.{arith}
use lib.Dec.{eqb, leb, ltb}
use lib.ListN.{length, get_or, take, drop, length-append, length-drop, length-map}
use lib.Seq.{drop-drop, take_all, take_at, drop_at, length-take-le}
use borrow.Author.Tests.{eq-eqb, ne_eqb, eqb-true, le-leb, leb-true, ltb-true}
use Rattle.base.specs.Test.{unless, member}
use Rattle.base.specs.Lists.{over}
use Rattle.base.proofs.Tests.{by_test, and_left, and_right, between_high}
use Rattle.state.specs.declared.Record.{Record}
use Rattle.state.specs.Parameter.{parameter_count, range_at}
use Rattle.state.specs.Alarm.{no_alarm}
use Rattle.state.specs.Field.{Field, alarms, position, get, record_from}
use Rattle.state.specs.Valid.{valid}
use Rattle.stored.specs.declared.Slot.{Slot}
use Rattle.stored.specs.Layout.{Item, bit_mapped, scalar_items, parameter_items, versions, current, items, header_width, item_width, widths, total_width, parameters_at, item_slot, slots_from, fits, numbers_of, put_all}
use Rattle.stored.specs.Form.{Outcome, K, done, big_endian, number_from, number_of, pack, unpack, packed, number_at, numbers_in, all_fit, stored_length, version_of, header_bytes, stored_form, write_of, header_of, low_record, taken_from, body_of, after_header, read_of}
use Rattle.base.proofs.Lists.{over-take}
use Rattle.stored.proofs.Bytes.{Bytes, all_bytes_lem, bytes_drop, big_length}
use Rattle.stored.proofs.Packing.{Roomy, number_front, header_back, unpack-length, unpack-pack, pack-unpack, unpack_front}
use Rattle.stored.proofs.Slots.{slot_width, shared_slots}
use Rattle.stored.proofs.Versions.{Known, version_length, none_found, length_version, length-items}
use Rattle.stored.proofs.Alarms.{zero_fits}
use Rattle.stored.proofs.Taking.{version, alarms_slot, no_alarm-put, fit_inside, refused-done, taken-fitting, taken-done, taken_refused}
use Rattle.stored.proofs.Writing.{numbers-length}
use Rattle.stored.proofs.Records.{names_in, all_other, low_valid, numbers_in_lem, record_of_numbers, numbers-valid, numbers_of_record}
-- the stored form is 180 bytes long, and that of version 1 was 177
pub use Rattle.stored.proofs.Slots.{stored_177, stored_180}
-- and so is that of every record
pub use Rattle.stored.proofs.Writing.{form-length}

-- ---- numbers and bytes are inverse, over any items

-- the number in an item's slot
number_at_lem : (at : ℕ) (x : Item) (bs : List ℕ) → number_at bs (item_slot at x) ≡ number_of (take (item_width x) (drop at bs))
number_at_lem at x bs =
    let e = slot_width at x in
    ap (λ (k : ℕ). number_of (take (item_slot at x).width (drop k bs))) e.1 ∙ ap (λ (k : ℕ). number_of (take k (drop at bs))) e.0

-- the numbers in the slots are those of the bytes from the first slot on
numbers_unpacked : (at : ℕ) (xs : List Item) (bs : List ℕ) → numbers_in (slots_from at xs) bs ≡ unpack (widths xs) (drop at bs)
unfolding slots_from numbers_in unpack
numbers_unpacked at [] bs = refl
numbers_unpacked at (x ∷ xs) bs =
    ap (λ (m : ℕ). m ∷ numbers_in (slots_from (at + item_width x) xs) bs) (number_at_lem at x bs) ∙
    ap (λ (ms : List ℕ). number_of (take (item_width x) (drop at bs)) ∷ ms)
    (numbers_unpacked (at + item_width x) xs bs ∙ ap (unpack (widths xs)) (sym (drop-drop (item_width x) at bs)))

-- every number of an item has room in its bytes
abbrev roomy : List Item → Bool
roomy [] = true
roomy (x ∷ xs) = ltb (item_slot 0 x).range.high (256 ^ item_width x) && roomy xs

fitting_roomy : (xs : List Item) (ns : List ℕ) → length ns ≡ length xs → roomy xs ≡ true → all_fit xs ns ≡ true → Roomy (widths xs) ns
unfolding all_fit
fitting_roomy [] [] l f i = tt
fitting_roomy [] (n ∷ ns) l f i = absurd (omega arith)
fitting_roomy (x ∷ xs) [] l f i = absurd (omega arith)
fitting_roomy (x ∷ xs) (n ∷ ns) l f i =
    let s : Slot = item_slot 0 x in
    let high : n ≤ s.range.high = between_high s.range.low s.range.high n (fit_inside 0 x n (and_left (fits x n) (all_fit xs ns) i)) in
    let room : s.range.high < 256 ^ item_width x = ltb-true _ _ (and_left (ltb s.range.high (256 ^ item_width x)) (roomy xs) f) in
    (omega arith, fitting_roomy xs ns (omega arith) (and_right (ltb s.range.high (256 ^ item_width x)) (roomy xs) f) (and_right (fits x n) (all_fit xs ns) i))

numbers_back : (before : List ℕ) (xs : List Item) (ns : List ℕ) (at : ℕ) → length before ≡ at → length ns ≡ length xs → roomy xs ≡ true → all_fit xs ns ≡ true
    → numbers_in (slots_from at xs) (before ++ pack (widths xs) ns) ≡ ns
numbers_back before xs ns at e l f i =
    let b : List ℕ = pack (widths xs) ns in
    numbers_unpacked at xs (before ++ b) ∙
    (ap (unpack (widths xs)) (drop_at before b at e ∙ sym (append-nil b)) ∙ unpack-pack (widths xs) ns [] (fitting_roomy xs ns l f i))

bytes_back : (at : ℕ) (xs : List Item) (bs : List ℕ) → length bs ≡ at + total_width xs → Bytes bs → pack (widths xs) (numbers_in (slots_from at xs) bs) ≡ drop at bs
bytes_back at xs bs l h =
    let d = length-drop at bs in
    ap (pack (widths xs)) (numbers_unpacked at xs bs) ∙
    (pack-unpack (widths xs) (drop at bs) (omega arith) (bytes_drop at bs h) ∙ take_all (total_width xs) (drop at bs) (omega arith))

numbers_read_length : (at : ℕ) (xs : List Item) (bs : List ℕ) → length (numbers_in (slots_from at xs) bs) ≡ length xs
numbers_read_length at xs bs = ap length (numbers_unpacked at xs bs) ∙ (unpack-length (widths xs) (drop at bs) ∙ length-map xs item_width)

-- ---- what an answer tells

-- what writing tells when it is done
pub record Stored (r : Record) (o b : List ℕ) : Type 0 where
  pub valid_record : valid r ≡ true
  pub room : stored_length current ≤ length o
  pub buffer : b ≡ over (stored_form r) o

pub write_tells : (r : Record) (o b : List ℕ) → write_of r o ≡ (done, b) → Stored r o b
unfolding write_of
write_tells r o b e =
    let t = go (valid r) (leb (stored_length current) (length o)) e in
    record { valid_record = t.0; room = leb-true _ _ t.1.0; buffer = t.1.1 }
  where
    go : (p q : Bool) → unless {A = Outcome × List ℕ} p (K 5, o) (unless q (K 6, o) (done, over (stored_form r) o)) ≡ (done, b) → (p ≡ true) × ((q ≡ true) × (b ≡ over (stored_form r) o))
    go true true f = (refl, (refl, sym (ap (λ (x : Outcome × List ℕ). x.1) f)))
    go true false f = absurd (refused-done 6 o b f)
    go false q f = absurd (refused-done 5 o b f)

-- what a good header tells
record Headed (bs : List ℕ) : Type 0 where
  known : Known (version bs)
  first : get_or bs 0 0 ≡ version bs
  field : number_of (take 2 (drop 1 bs)) ≡ length bs

header_tells : (bs : List ℕ) → header_of bs ≡ done → Headed bs
unfolding header_of
header_tells bs e =
    let t = tests (member (version bs) versions) (eqb (get_or bs 0 0) (version bs)) (eqb (number_of (take 2 (drop 1 bs))) (length bs)) e in
    record { known = t.0; first = eqb-true _ _ t.1.0; field = eqb-true _ _ t.1.1 }
  where
    tests : (p q s : Bool) → unless p (K 1) (unless q (K 2) (unless s (K 3) done)) ≡ done → (p ≡ true) × ((q ≡ true) × (s ≡ true))
    tests true true true f = (refl, (refl, refl))
    tests true true false f = let z : ◌≡◌ {A = ℕ} 0 1 = cc in absurd (omega arith)
    tests true false s f = let z : ◌≡◌ {A = ℕ} 0 1 = cc in absurd (omega arith)
    tests false q s f = let z : ◌≡◌ {A = ℕ} 0 1 = cc in absurd (omega arith)

headed-done : (bs : List ℕ) → Headed bs → header_of bs ≡ done
unfolding header_of
headed-done bs h = simp (h.known, eq-eqb _ _ h.first, eq-eqb _ _ h.field)

-- the numbers that bytes have for the items of a version
abbrev numbers_as : ℕ → List ℕ → List ℕ
numbers_as v bs = numbers_in (slots_from header_width (items v)) bs

-- what reading tells when it is done: the bytes are whole, in the version that their length has
pub record Whole (bs : List ℕ) (r : Record) : Type 0 where
  pub known : Known (version bs)
  pub long : length bs ≡ stored_length (version bs)
  pub first : get_or bs 0 0 ≡ version bs
  pub field : number_of (take 2 (drop 1 bs)) ≡ length bs
  pub inside : all_fit (items (version bs)) (numbers_as (version bs) bs) ≡ true
  pub is : r ≡ put_all (items (version bs)) (numbers_as (version bs) bs) low_record

headed-whole : (bs : List ℕ) (r : Record) → Headed bs → all_fit (items (version bs)) (numbers_as (version bs) bs) ≡ true
    → r ≡ put_all (items (version bs)) (numbers_as (version bs) bs) low_record → Whole bs r
headed-whole bs r h i e = record { known = h.known; long = version_length (length bs) h.known; first = h.first; field = h.field; inside = i; is = e }

pub read_tells : (bs : List ℕ) (r : Record) → read_of bs ≡ (done, r) → Whole bs r
unfolding read_of body_of taken_from
read_tells bs r e =
    let a = after (header_of bs) e in
    let b = body (all_fit (items (version bs)) (numbers_as (version bs) bs)) a.1 in
    headed-whole bs r (header_tells bs a.0) b.0 b.1
  where
    after : (h : Outcome) → after_header h bs ≡ (done, r) → (h ≡ done) × (body_of bs ≡ (done, r))
    after (K k) f = absurd (refused-done k low_record r f)
    after done f = (refl, f)

    body : (p : Bool) → unless {A = Outcome × Record} p (K 4, low_record) (done, put_all (items (version bs)) (numbers_as (version bs) bs) low_record) ≡ (done, r)
        → (p ≡ true) × (r ≡ put_all (items (version bs)) (numbers_as (version bs) bs) low_record)
    body true f = (refl, sym (ap (λ (x : Outcome × Record). x.1) f))
    body false f = absurd (refused-done 4 low_record r f)

-- behind a good header the body is read
headed_read : (bs : List ℕ) → header_of bs ≡ done → read_of bs ≡ body_of bs
unfolding read_of
headed_read bs e = ap (λ (h : Outcome). after_header h bs) e

whole_read : (bs : List ℕ) (r : Record) → Whole bs r → read_of bs ≡ (done, r)
unfolding body_of taken_from
whole_read bs r w =
    headed_read bs (headed-done bs (record { known = w.known; first = w.first; field = w.field })) ∙ simp w.inside (ap (λ (x : Record). (done, x)) (sym w.is))

-- what holds of the low record and of every record in whole bytes holds of the record that reading gives
by_reading : (P : Record → Type 0) (bs : List ℕ) → P low_record → ((r : Record) → Whole bs r → P r) → P (read_of bs).1
unfolding read_of body_of taken_from
by_reading P bs low whole = after (header_of bs) refl
  where
    body : (b : Bool) → header_of bs ≡ done → all_fit (items (version bs)) (numbers_as (version bs) bs) ≡ b
        → P (unless {A = Outcome × Record} b (K 4, low_record) (done, put_all (items (version bs)) (numbers_as (version bs) bs) low_record)).1
    body true e i = whole _ (headed-whole bs _ (header_tells bs e) i refl)
    body false e i = low

    after : (h : Outcome) → header_of bs ≡ h → P (after_header h bs).1
    after (K k) e = low
    after done e = body (all_fit (items (version bs)) (numbers_as (version bs) bs)) e refl

-- ---- the stored form
items_roomy : roomy (items current) ≡ true
unfolding range_at
items_roomy = refl

header_length : length header_bytes ≡ header_width
header_length = let b = big_length 2 (stored_length current) in omega arith

-- bytes of the written length are of the version that is written
of_current : (bs : List ℕ) → length bs ≡ stored_length current → version bs ≡ current
of_current bs l = ap version_of l ∙ length_version current refl

-- and have a good header if they begin with its bytes
begun_headed : (rest : List ℕ) → length (header_bytes ++ rest) ≡ stored_length current → Headed (header_bytes ++ rest)
begun_headed rest l =
    let v = of_current (header_bytes ++ rest) l in
    record {
      known = ap (λ (w : ℕ). member w versions) v;
      first = sym v;
      field =
          number_front 2 (stored_length current) rest (omega (arith, stored_180)) ∙ sym l;
    }

module _ (r : Record) (v : valid r ≡ true) where
  form-numbers : numbers_as current (stored_form r) ≡ numbers_of (items current) r
  unfolding stored_form
  form-numbers =
      numbers_back header_bytes (items current) (numbers_of (items current) r) header_width header_length (numbers-length (items current) r) items_roomy (numbers_in_lem r v)

  form-whole : Whole (stored_form r) r
  unfolding stored_form
  form-whole =
      let e = of_current (stored_form r) (form-length r) in
      headed-whole (stored_form r) r (begun_headed (packed (items current) r) (form-length r))
      (ap (λ (u : ℕ). all_fit (items u) (numbers_as u (stored_form r))) e ∙ (ap (all_fit (items current)) form-numbers ∙ numbers_in_lem r v))
      (sym (ap (λ (u : ℕ). put_all (items u) (numbers_as u (stored_form r)) low_record) e ∙
      (ap (λ (ns : List ℕ). put_all (items current) ns low_record) form-numbers ∙ record_of_numbers r v)))

-- reading what was written gives the record
pub read_written : (r : Record) (o b : List ℕ) → write_of r o ≡ (done, b) → read_of (take (stored_length current) b) ≡ (done, r)
read_written r o b e =
    let w = write_tells r o b e in
    ap (λ (x : List ℕ). read_of (take (stored_length current) x)) w.buffer ∙
    (ap read_of (over-take (stored_form r) o (stored_length current) (form-length r)) ∙ whole_read (stored_form r) r (form-whole r w.valid_record))

-- ---- whole bytes are the form of their record, in their own version
abbrev form_of : ℕ → Record → List ℕ
form_of v r = (v ∷ big_endian 2 (stored_length v)) ++ packed (items v) r

module _ (bs : List ℕ) (r : Record) (w : Whole bs r) where
  whole-valid : valid r ≡ true
  whole-valid = ap valid w.is ∙ numbers-valid (version bs) w.known (numbers_as (version bs) bs) w.inside

  whole_numbers : numbers_of (items (version bs)) r ≡ numbers_as (version bs) bs
  whole_numbers =
      ap (numbers_of (items (version bs))) w.is ∙
      numbers_of_record (version bs) w.known (numbers_as (version bs) bs) w.inside (numbers_read_length header_width (items (version bs)) bs)

  whole-form : Bytes bs → form_of (version bs) r ≡ bs
  whole-form h =
      let v : ℕ = version bs in
      let l : length bs ≡ header_width + total_width (items v) = w.long ∙ length-items v w.known in
      let rest : packed (items v) r ≡ drop 3 bs = ap (pack (widths (items v))) whole_numbers ∙ bytes_back header_width (items v) bs l h in
      ap (λ (x : List ℕ). v ∷ (big_endian 2 (stored_length v) ++ x)) rest ∙
      (ap (λ (n : ℕ). v ∷ (big_endian 2 n ++ drop 3 bs)) (sym w.long) ∙ header_back bs v (omega arith) w.first w.field h)

-- writing what was read from bytes of the version that is written gives the bytes
pub written_read : (bs : List ℕ) (r : Record) (o : List ℕ) → ((i : ℕ) → i < length bs → get_or bs i 0 < 256) → length bs ≡ stored_length current → stored_length current ≤ length o
    → read_of bs ≡ (done, r) → write_of r o ≡ (done, over bs o)
unfolding write_of stored_form
written_read bs r o h c l e =
    let w = read_tells bs r e in
    let f : stored_form r ≡ bs = ap (λ (v : ℕ). form_of v r) (sym (of_current bs c)) ∙ whole-form bs r w (all_bytes_lem bs h) in
    simp (whole-valid bs r w, le-leb _ _ l) (ap (λ (x : List ℕ). (done, over x o)) f)

-- so one record has one form in a version
pub one_form : (bs cs : List ℕ) (r : Record) → ((i : ℕ) → i < length bs → get_or bs i 0 < 256) → ((i : ℕ) → i < length cs → get_or cs i 0 < 256) → length bs ≡ length cs
    → read_of bs ≡ (done, r) → read_of cs ≡ (done, r) → bs ≡ cs
one_form bs cs r h g l e f =
    sym (whole-form bs r (read_tells bs r e) (all_bytes_lem bs h)) ∙
    (ap (λ (n : ℕ). form_of (version_of n) r) l ∙ whole-form cs r (read_tells cs r f) (all_bytes_lem cs g))

-- a stored form reads back as its record
pub form_read : (r : Record) → valid r ≡ true → read_of (stored_form r) ≡ (done, r)
form_read r v = whole_read (stored_form r) r (form-whole r v)

-- K1 to K4, and beside the number stands the low record
pub record Refused (n : ℕ) (r : Record) : Type 0 where
  pub low : 1 ≤ n
  pub high : n ≤ 4
  pub low_beside : r ≡ low_record

abbrev Told : Outcome × Record → Type 0
Told (K n, r) = Refused n r
Told (done, r) = Unit {0}

header_told : (bs : List ℕ) → Told (header_of bs, low_record)
unfolding header_of
header_told bs = go (member (version_of (length bs)) versions) (eqb (get_or bs 0 0) (version_of (length bs))) (eqb (number_of (take 2 (drop 1 bs))) (length bs))
  where
    go : (a b c : Bool) → Told (unless a (K 1) (unless b (K 2) (unless c (K 3) done)), low_record)
    go false b c = record { low = omega arith; high = omega arith; low_beside = refl }
    go true false c = record { low = omega arith; high = omega arith; low_beside = refl }
    go true true false = record { low = omega arith; high = omega arith; low_beside = refl }
    go true true true = tt

read_told : (bs : List ℕ) → Told (read_of bs)
unfolding read_of body_of taken_from
read_told bs = go (header_of bs) (header_told bs)
  where
    body : (xs : List Item) (ns : List ℕ) (b : Bool) → Told (unless b (K 4, low_record) (done, put_all xs ns low_record))
    body xs ns true = tt
    body xs ns false = record { low = omega arith; high = omega arith; low_beside = refl }

    go : (h : Outcome) → Told (h, low_record) → Told (after_header h bs)
    go (K n) k = k
    go done k = body _ _ (all_fit (items (version_of (length bs))) (numbers_in (slots_from header_width (items (version_of (length bs)))) bs))

pub read_refusal : (bs : List ℕ) (n : ℕ) (r : Record) → read_of bs ≡ (K n, r) → Refused n r
read_refusal bs n r e = subst Told e (read_told bs)

-- every record that reading gives is valid
pub read_valid : (bs : List ℕ) → valid (read_of bs).1 ≡ true
read_valid bs = by_reading (λ (r : Record). valid r ≡ true) bs low_valid (λ r w. whole-valid bs r w)

-- ---- lengths and versions

-- K1: "a length of no known version", whatever the bytes
pub length-unknown : (bs : List ℕ) → member (length bs) (map stored_length versions) ≡ false → read_of bs ≡ (K 1, low_record)
unfolding read_of header_of
length-unknown bs n = let u : member (version bs) versions ≡ false = ap (λ (v : ℕ). member v versions) (none_found versions (length bs) n) in simp u

-- K2: "a version that isn't the length's"
pub version_other : (v : ℕ) → Known v → (bs : List ℕ) → length bs ≡ stored_length v → (get_or bs 0 0 ≡ v → ⊥) → read_of bs ≡ (K 2, low_record)
unfolding read_of header_of
version_other v k bs l n =
    let e : version bs ≡ v = ap version_of l ∙ length_version v k in
    let u : member (version bs) versions ≡ true = ap (λ (w : ℕ). member w versions) e ∙ k in
    simp (u, ne_eqb (get_or bs 0 0) (version bs) (λ q. n (q ∙ e)))

-- ---- bytes of version 1

-- a field that the version does not store is at its low end
unstored_low : (bs : List ℕ) (g : Field) → names_in (items (version bs)) (position g) ≡ false → get g (read_of bs).1 ≡ get g low_record
unstored_low bs g n =
    by_reading (λ (r : Record). get g r ≡ get g low_record) bs refl
    (λ r w. ap (get g) w.is ∙ all_other (items (version bs)) (numbers_as (version bs) bs) low_record g n)

no_alarm_low : get alarms low_record ≡ no_alarm
unfolding low_record record_from
no_alarm_low = refl

-- "Version 1 is read as no alarms"
pub old_no_alarm : (bs : List ℕ) → length bs ≡ stored_length 1 → get alarms (read_of bs).1 ≡ no_alarm
old_no_alarm bs l =
    unstored_low bs alarms (ap (λ (v : ℕ). names_in (items v) (position alarms)) (ap version_of l ∙ length_version 1 refl)) ∙ no_alarm_low

-- the same bytes as the version that is written has them, with no alarm
abbrev pub upgraded : List ℕ → List ℕ
upgraded bs = header_bytes ++ (take (total_width scalar_items) (drop header_width bs) ++ (0 ∷ 0 ∷ 0 ∷ drop (parameters_at 1) bs))

-- numbers of the same items in the same bytes, wherever these begin
numbers-same : (xs : List Item) (at j : ℕ) (bs cs : List ℕ) → take (total_width xs) (drop at bs) ≡ take (total_width xs) (drop j cs)
    → numbers_in (slots_from at xs) bs ≡ numbers_in (slots_from j xs) cs
numbers-same xs at j bs cs e =
    let front : (k : ℕ) (l : List ℕ) → numbers_in (slots_from k xs) l ≡ unpack (widths xs) (take (total_width xs) (drop k l)) =
    λ k l. numbers_unpacked k xs l ∙ sym (unpack_front (widths xs) (drop k l)) in
    front at bs ∙ (ap (unpack (widths xs)) e ∙ sym (front j cs))

taken-same : (xs : List Item) (at j : ℕ) (bs cs : List ℕ) (r : Record) → take (total_width xs) (drop at bs) ≡ take (total_width xs) (drop j cs)
    → taken_from at xs bs r ≡ taken_from j xs cs r
unfolding taken_from
taken-same xs at j bs cs r e =
    ap (λ (ns : List ℕ). unless {A = Outcome × Record} (all_fit xs ns) (K 4, low_record) (done, put_all xs ns r)) (numbers-same xs at j bs cs e)

module _ (bs : List ℕ) (l : length bs ≡ stored_length 1) where
  abbrev common : List ℕ
  common = take (total_width scalar_items) (drop header_width bs)

  abbrev behind : List ℕ
  behind = 0 ∷ 0 ∷ 0 ∷ drop (parameters_at 1) bs

  common_length : length common ≡ total_width scalar_items
  common_length = length-take-le (total_width scalar_items) (drop header_width bs) (omega (arith, stored_177, length-drop header_width bs))

  upgraded_length : length (upgraded bs) ≡ stored_length current
  upgraded_length =
      let a = length-append header_bytes (common ++ behind) in
      let b = length-append common behind in
      omega (arith, header_length, common_length, length-drop (parameters_at 1) bs, stored_177, stored_180, a, b)

  drop_header : drop header_width (upgraded bs) ≡ common ++ behind
  drop_header = drop_at header_bytes (common ++ behind) header_width header_length

  drop_common : drop (parameters_at 1) (upgraded bs) ≡ behind
  drop_common =
      sym (drop-drop (total_width scalar_items) header_width (upgraded bs)) ∙
      (ap (drop (total_width scalar_items)) drop_header ∙ drop_at common behind (total_width scalar_items) common_length)

  drop-alarms : drop (parameters_at current) (upgraded bs) ≡ drop (parameters_at 1) bs
  drop-alarms = sym (drop-drop 3 (parameters_at 1) (upgraded bs)) ∙ ap (drop 3) drop_common

  common_same : taken_from header_width scalar_items bs low_record ≡ taken_from header_width scalar_items (upgraded bs) low_record
  common_same =
      taken-same scalar_items header_width header_width bs (upgraded bs) low_record
      (sym (ap (take (total_width scalar_items)) drop_header ∙ take_at common behind (total_width scalar_items) common_length))

  module _ (r : Record) (a : get alarms r ≡ no_alarm) where
    alarms_pass : taken_from (parameters_at 1) (bit_mapped ∷ parameter_items parameter_count) (upgraded bs) r ≡ taken_from (parameters_at current) (parameter_items parameter_count) (upgraded bs) r
    unfolding number_from
    alarms_pass =
        let z : number_at (upgraded bs) alarms_slot ≡ 0 = ap (λ (t : List ℕ). number_of (take 3 t)) drop_common in
        taken-fitting (upgraded bs) (parameters_at 1) bit_mapped (parameter_items parameter_count) r 0 (record { inside = ap (fits bit_mapped) z ∙ zero_fits; is = z }) ∙
        ap (λ (s : Record). taken_from (parameters_at current) (parameter_items parameter_count) (upgraded bs) s) (no_alarm-put r a)

    later_same : taken_from (parameters_at 1) (parameter_items parameter_count) bs r ≡ taken_from (parameters_at 1) (bit_mapped ∷ parameter_items parameter_count) (upgraded bs) r
    later_same =
        taken-same (parameter_items parameter_count) (parameters_at 1) (parameters_at current) bs (upgraded bs) r (ap (take (total_width (parameter_items parameter_count))) (sym drop-alarms)) ∙
        sym alarms_pass

  abbrev read : List ℕ
  read = numbers_in shared_slots bs

  common_fit : all_fit scalar_items read ≡ true → taken_from header_width scalar_items bs low_record ≡ (done, put_all scalar_items read low_record)
  unfolding taken_from
  common_fit t = simp t

  common_unfit : all_fit scalar_items read ≡ false → taken_from header_width scalar_items bs low_record ≡ (K 4, low_record)
  unfolding taken_from
  common_unfit t = simp t

  body_same : taken_from header_width (scalar_items ++ parameter_items parameter_count) bs low_record
      ≡ taken_from header_width (scalar_items ++ (bit_mapped ∷ parameter_items parameter_count)) (upgraded bs) low_record
  body_same =
      by_test (all_fit scalar_items read)
      (λ t.
      let s : Record = put_all scalar_items read low_record in
      let d : taken_from header_width scalar_items bs low_record ≡ (done, s) = common_fit t in
      taken-done bs header_width scalar_items (parameter_items parameter_count) low_record s d ∙
      (later_same s (all_other scalar_items read low_record alarms refl ∙ no_alarm_low) ∙
      sym (taken-done (upgraded bs) header_width scalar_items (bit_mapped ∷ parameter_items parameter_count) low_record s (sym common_same ∙ d))))
      (λ t.
      taken_refused bs header_width scalar_items (parameter_items parameter_count) low_record (common_unfit t) ∙
      sym (taken_refused (upgraded bs) header_width scalar_items (bit_mapped ∷ parameter_items parameter_count) low_record (sym common_same ∙ common_unfit t)))

  -- bytes of version 1 are read as these are
  pub old_read : header_of bs ≡ done → read_of bs ≡ read_of (upgraded bs)
  unfolding body_of
  old_read e =
      let v : version bs ≡ 1 = ap version_of l ∙ length_version 1 refl in
      let w : version (upgraded bs) ≡ current = of_current (upgraded bs) upgraded_length in
      headed_read bs e ∙
      (ap (λ (u : ℕ). taken_from header_width (items u) bs low_record) v ∙
      (body_same ∙
      (sym (ap (λ (u : ℕ). taken_from header_width (items u) (upgraded bs) low_record) w) ∙ sym (headed_read (upgraded bs) (headed-done (upgraded bs) (begun_headed (common ++ behind) upgraded_length))))))
