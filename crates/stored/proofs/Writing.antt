-- Numbers stored one behind the other, and what the returns of writing give. Assumes nothing.
use Prim.Native.Nat.{ℕ, zero, suc, ◌+◌, ◌-◌, ◌*◌, ◌/◌, ◌%◌, ◌≤◌, ◌<◌}
use mathlib.Core.Bool.{Bool, true, false, not}
use mathlib.Core.Path.{◌≡◌, refl, sym, ap, ◌∙◌}
use mathlib.Core.List.{List, [], ◌∷◌, ◌++◌, map, append_assoc, append-nil}
use native.Mathlib.Nat.{not-suc-le-zero, le_of_suc-le-suc}
use native.Mathlib.Numerals.{add-one}
use native.Mathlib.Omega.{arith}
use lib.ListN.{length, get_or, take, drop, set, length-set, length-append, length-map}
use lib.Seq.{sets, length-sets}
use borrow.Author.Tests.{le-leb, lt-leb, not-true, not-false}
use borrow.Rule.Slice.PartMut.{put_mid}
use Rattle.base.specs.Lists.{over}
use Rattle.state.specs.declared.Record.{Record}
use Rattle.state.specs.Parameter.{parameter_count}
use Rattle.state.specs.Field.{phase_number}
use Rattle.state.specs.Valid.{valid}
use Rattle.stored.specs.declared.Slot.{Slot}
use Rattle.stored.specs.declared.ScalarField.{ScalarField}
use Rattle.stored.specs.Layout.{Item, alone, together, bit_mapped, parameter_items, current, scalars_of, scalar_place, items, header_width, item_width, widths, total_width, parameters_at, item_slot, slots_from, scalar_slots, no_slot, alarms_stored, item_number, numbers_of, bits, flag_fields}
use Rattle.stored.specs.Form.{K, done, big_endian, pack, packed, stored, stored_length, header_bytes, stored_form, write_of}
use Rattle.stored.proofs.Bytes.{big_length, sets-append, sets_next, sets_over, part_filled}
use Rattle.stored.proofs.Packing.{pack-length, pack-append}
use Rattle.stored.proofs.Slots.{pair, value_slot, level_slot, parameters_width, stored_180, scalar_list, scalar_at}
use Rattle.stored.proofs.Versions.{length_of}
use Rattle.stored.proofs.Alarms.{stored-sum}

-- ---- the numbers of a list of items
map-append : {A B : Type 0} (f : A → B) (xs ys : List A) → map f (xs ++ ys) ≡ map f xs ++ map f ys
map-append f [] ys = refl
map-append f (x ∷ xs) ys = ap (λ (l : List _). f x ∷ l) (map-append f xs ys)

pub numbers-length : (xs : List Item) (r : Record) → length (numbers_of xs r) ≡ length xs
unfolding numbers_of
numbers-length xs r = length-map xs (item_number r)

pub packed-length : (xs : List Item) (r : Record) → length (packed xs r) ≡ total_width xs
packed-length xs r = pack-length (widths xs) (numbers_of xs r) (numbers-length xs r ∙ sym (length-map xs item_width))

pub packed-append : (xs ys : List Item) (r : Record) → packed (xs ++ ys) r ≡ packed xs r ++ packed ys r
unfolding numbers_of
packed-append xs ys r =
    ap (λ (ws : List ℕ). pack ws (map (item_number r) (xs ++ ys))) (map-append item_width xs ys) ∙
    (ap (pack (widths xs ++ widths ys)) (map-append (item_number r) xs ys) ∙
    pack-append (widths xs) (widths ys) (map (item_number r) xs) (map (item_number r) ys) (length-map xs (item_number r) ∙ sym (length-map xs item_width)))

-- ---- one number
slot_stored : (at : ℕ) (x : Item) (n : ℕ) (o : List ℕ) → stored (item_slot at x) n o ≡ sets o at (big_endian (item_width x) n)
slot_stored at (alone w f) n o = refl
slot_stored at (together fs) n o = refl
slot_stored at bit_mapped n o = refl

-- the number at a place, behind those before it
store_next : (at : ℕ) (xs : List Item) (ns : List ℕ) (k : ℕ) (o z : List ℕ) → k < length xs → length ns ≡ length xs → z ≡ sets o at (pack (widths (take k xs)) (take k ns))
    → stored (get_or (slots_from at xs) k no_slot) (get_or ns k 0) z ≡ sets o at (pack (widths (take (suc k) xs)) (take (suc k) ns))
unfolding slots_from pack
store_next at [] ns k o z h l e = absurd (not-suc-le-zero h)
store_next at (x ∷ xs) [] k o z h l e = absurd (omega arith)
store_next at (x ∷ xs) (n ∷ ns) zero o z h l e =
    ap (stored (item_slot at x) n) e ∙ (slot_stored at x n o ∙ ap (sets o at) (sym (append-nil (big_endian (item_width x) n))))
store_next at (x ∷ xs) (n ∷ ns) (suc k) o z h l e =
    let w = big_length (item_width x) n in
    let f : List ℕ = big_endian (item_width x) n in
    let back : (g : List ℕ) → sets (sets o at f) (at + item_width x) g ≡ sets o at (f ++ g) =
    λ g. ap (λ (j : ℕ). sets (sets o at f) (at + j) g) (sym w) ∙ sets-append o at f g in
    store_next (at + item_width x) xs ns k (sets o at f) z (le_of_suc-le-suc h) (omega arith) (e ∙ sym (back (pack (widths (take k xs)) (take k ns))))
    ∙ back (pack (widths (take (suc k) xs)) (take (suc k) ns))

module _ (s : Slot) (n : ℕ) (o ys : List ℕ) (room : s.at + s.width ≤ length o) (filled : ys ≡ big_endian (length (take (s.at + s.width - s.at) (drop s.at o))) n) where
  put_is : put_mid s.at (s.at + s.width - s.at) o ys ≡ stored s n o
  put_is = part_filled s.at s.width n o ys room filled

  pub number_put : (length (put_mid s.at (s.at + s.width - s.at) o ys) ≡ length o) × (put_mid s.at (s.at + s.width - s.at) o ys ≡ stored s n o)
  number_put = (ap length put_is ∙ length-sets o s.at (big_endian s.width n), put_is)

-- ---- the numbers before the parameters'
abbrev pub Scalars : Record → ℕ → List ℕ → List ℕ → Type 0
Scalars r k o z = z ≡ sets o header_width (pack (widths (take k (scalars_of current))) (take k (numbers_of (scalars_of current) r)))

pub scalars_none : (r : Record) (o : List ℕ) → Scalars r 0 o o
unfolding pack
scalars_none r o = refl

pub scalars_more : (r : Record) (k n : ℕ) (f : ScalarField) (s : Slot) (o y z : List ℕ) → k < length scalar_list → n ≡ get_or (numbers_of (scalars_of current) r) (scalar_place (get_or scalar_list k f)) 0
    → s ≡ get_or (scalar_slots current) (scalar_place (get_or scalar_list k f)) no_slot → Scalars r k o y → z ≡ stored s n y → Scalars r (k + 1) o z
scalars_more r k n f s o y z h e i q p =
    let at = scalar_at k f h in
    p ∙ (ap (λ (m : ℕ). stored s m y) (e ∙ ap (λ (j : ℕ). get_or (numbers_of (scalars_of current) r) j 0) at) ∙
    (ap (λ (t : Slot). stored t (get_or (numbers_of (scalars_of current) r) k 0) y) (i ∙ ap (λ (j : ℕ). get_or (scalar_slots current) j no_slot) at) ∙
    (store_next header_width (scalars_of current) (numbers_of (scalars_of current) r) k o y h (numbers-length (scalars_of current) r) q ∙
    ap (λ (j : ℕ). sets o header_width (pack (widths (take j (scalars_of current))) (take j (numbers_of (scalars_of current) r)))) (sym (add-one k)))))

pub scalars_all : (r : Record) (k : ℕ) (o z : List ℕ) → k ≤ length (scalars_of current) → length (scalars_of current) ≤ k → Scalars r k o z → z ≡ sets o header_width (packed (scalars_of current) r)
unfolding numbers_of
scalars_all r k o z l h e =
    let q : k ≡ length (scalars_of current) = omega arith in e ∙ ap (λ (j : ℕ). sets o header_width (pack (widths (take j (scalars_of current))) (take j (numbers_of (scalars_of current) r)))) q

-- ---- the parameters'
abbrev pub Parameters : Record → ℕ → List ℕ → List ℕ → Type 0
Parameters r i o z = z ≡ sets o (parameters_at current) (packed (parameter_items i) r)

pub parameters_none : (r : Record) (o : List ℕ) → Parameters r 0 o o
unfolding pack numbers_of
parameters_none r o = refl

pub parameters_more : (r : Record) (i n m : ℕ) (s t : Slot) (o y x z : List ℕ) → i < parameter_count → Parameters r i o y
    → n ≡ get_or r.values i 0 → s ≡ value_slot (parameters_at current) i → x ≡ stored s n y
    → m ≡ get_or r.levels i 0 → t ≡ level_slot (parameters_at current) i → z ≡ stored t m x → Parameters r (i + 1) o z
unfolding pack numbers_of big_endian
parameters_more r i n m s t o y x z h q en es ex em et ez =
    let v : ℕ = get_or r.values i 0 in
    let l : ℕ = get_or r.levels i 0 in
    let f : List ℕ = packed (parameter_items i) r in
    let w : length f ≡ 5 * i = packed-length (parameter_items i) r ∙ parameters_width i in
    let b : length (big_endian 4 v) ≡ 4 = big_length 4 v in
    let c : length (f ++ big_endian 4 v) ≡ 5 * i + 4 = length-append f (big_endian 4 v) ∙ omega arith in
    let x₁ : x ≡ sets y (parameters_at current + 5 * i) (big_endian 4 v) =
    ex ∙ (ap (λ (k : ℕ). stored s k y) en ∙ ap (λ (u : Slot). stored u v y) es) in
    let z₁ : z ≡ sets x (parameters_at current + 5 * i + 4) (big_endian 1 l) =
    ez ∙ (ap (λ (k : ℕ). stored t k x) em ∙ ap (λ (u : Slot). stored u l x) et) in
    let x₂ : x ≡ sets o (parameters_at current) (f ++ big_endian 4 v) = x₁ ∙ sets_next o y (parameters_at current) (parameters_at current + 5 * i) f (big_endian 4 v) q (omega arith) in
    let z₂ : z ≡ sets o (parameters_at current) ((f ++ big_endian 4 v) ++ big_endian 1 l) =
    z₁ ∙ sets_next o x (parameters_at current) (parameters_at current + 5 * i + 4) (f ++ big_endian 4 v) (big_endian 1 l) x₂ (omega arith) in
    z₂ ∙ (ap (sets o (parameters_at current)) (append_assoc f (big_endian 4 v) (big_endian 1 l) ∙ sym (packed-append (parameter_items i) (pair i) r)) ∙
    ap (λ (j : ℕ). sets o (parameters_at current) (packed (parameter_items j) r)) (sym (add-one i)))

-- ---- the header
module _ (o ys : List ℕ) (room : 3 ≤ length o) (filled : ys ≡ big_endian (length (take 2 (drop 1 (set o 0 current)))) (length_of current)) where
  pub header_put : put_mid 1 2 (set o 0 current) ys ≡ sets o 0 header_bytes
  header_put =
      let l = length-set o 0 current in
      part_filled 1 2 (length_of current) (set o 0 current) ys (omega arith) filled ∙ ap (λ (n : ℕ). sets (set o 0 current) 1 (big_endian 2 n)) (sym stored_180)

  pub header_same : length (put_mid 1 2 (set o 0 current) ys) ≡ length o
  header_same = ap length header_put ∙ length-sets o 0 header_bytes

-- ---- all
pub form-length : (r : Record) → length (stored_form r) ≡ stored_length current
unfolding stored_form stored_length
form-length r =
    let b = big_length 2 (stored_length current) in
    let p = packed-length (items current) r in
    length-append header_bytes (packed (items current) r) ∙ omega arith

module _ (r : Record) (o : List ℕ) (b : Bool) (v : b ≡ valid r) where
  pub write_invalid : not b ≡ true → (K 5, o) ≡ write_of r o
  unfolding write_of
  write_invalid n = simp (sym v ∙ not-true b n)

  pub write_short : not b ≡ false → length o < length_of current → (K 6, o) ≡ write_of r o
  unfolding write_of
  write_short n h = simp (sym v ∙ not-false b n, stored_180, lt-leb (length_of current) (length o) h)

  pub write_whole : (x y z : List ℕ) → not b ≡ false → length_of current ≤ length o → x ≡ sets o 0 header_bytes → y ≡ sets x header_width (packed (scalars_of current) r)
      → z ≡ sets y (parameters_at current) (packed (parameter_items parameter_count) r) → (done, z) ≡ write_of r o
  unfolding write_of stored_form
  write_whole x y z n h ex ey ez =
      let l : length header_bytes ≡ 3 = let c = big_length 2 (stored_length current) in omega arith in
      let m = packed-length (scalars_of current) r in
      let k : length (header_bytes ++ packed (scalars_of current) r) ≡ parameters_at current = length-append header_bytes (packed (scalars_of current) r) ∙ omega arith in
      let y₁ : y ≡ sets o 0 (header_bytes ++ packed (scalars_of current) r) = ey ∙ sets_next o x 0 header_width header_bytes (packed (scalars_of current) r) ex (omega arith) in
      let z₁ : z ≡ sets o 0 ((header_bytes ++ packed (scalars_of current) r) ++ packed (parameter_items parameter_count) r) =
      ez ∙ sets_next o y 0 (parameters_at current) (header_bytes ++ packed (scalars_of current) r) (packed (parameter_items parameter_count) r) y₁ (omega arith) in
      let whole : (header_bytes ++ packed (scalars_of current) r) ++ packed (parameter_items parameter_count) r ≡ stored_form r =
      append_assoc header_bytes (packed (scalars_of current) r) (packed (parameter_items parameter_count) r) ∙
      ap (λ (t : List ℕ). header_bytes ++ t) (sym (packed-append (scalars_of current) (parameter_items parameter_count) r)) in
      let z₂ : z ≡ over (stored_form r) o = z₁ ∙ (ap (sets o 0) whole ∙ sets_over (stored_form r) o (omega (arith, form-length r, stored_180))) in
      ap (λ (t : List ℕ). (done, t)) z₂ ∙ simp (sym v ∙ not-false b n, stored_180, le-leb (length_of current) (length o) h)

-- ---- the number at a place, as the code gives it
abbrev pub scalar_numbers : Record → List ℕ
scalar_numbers r =
    r.address ∷ r.access ∷ phase_number r.phase ∷ bits r flag_fields ∷ r.recipe ∷ r.preset ∷ r.raw ∷ r.number ∷ alarms_stored r.alarms ∷ []

pub number_here : (f : ScalarField) (r : Record) (n : ℕ) → n ≡ get_or (scalar_numbers r) (scalar_place f) 0 → n ≡ get_or (numbers_of (scalars_of current) r) (scalar_place f) 0
unfolding numbers_of
number_here f r n q = q

pub number_alarms : (r : Record) → r.alarms / 8 % 65536 * 256 + r.alarms % 8 * 16 ≡ get_or (numbers_of (scalars_of current) r) 8 0
unfolding numbers_of
number_alarms r = sym (stored-sum r.alarms)
