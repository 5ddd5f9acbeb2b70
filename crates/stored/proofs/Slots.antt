-- The slots of a list of items, place by place: over any list, and then those before the parameters' and those of the parameters.
-- Assumes nothing.
use Prim.Native.Nat.{ℕ, zero, suc, ◌+◌, ◌*◌, ◌≤◌, ◌<◌}
use mathlib.Core.Bool.{Bool, true, ◌&&◌}
use mathlib.Core.Path.{◌≡◌, refl, ap, ◌∙◌}
use mathlib.Core.List.{List, [], ◌∷◌, ◌++◌}
use native.Mathlib.Nat.{not-suc-le-zero, le_of_suc-le-suc}
use native.Mathlib.Omega.{arith}
use lib.Dec.{eqb, leb}
use lib.ListN.{length, get_or}
use borrow.Author.Tests.{eqb-true, leb-true}
use Rattle.base.proofs.Tests.{and_left, and_right, holds_below}
use Rattle.state.specs.declared.Range.{Range}
use Rattle.state.specs.Parameter.{range, range_at}
use Rattle.state.specs.Field.{address, access, phase, recipe, preset, raw, number, value, level, field_range}
use Rattle.stored.specs.declared.Slot.{Slot}
use Rattle.stored.specs.declared.ScalarField.{ScalarField}
use Rattle.stored.specs.declared.ScalarField.TheVariants as scalar
use Rattle.stored.specs.Layout.{Item, alone, together, bit_mapped, scalar_items, parameter_items, current, scalars_of, scalar_place, header_width, item_width, total_width, parameters_at, item_slot, slot_of, slots_from, scalar_slots, no_slot}
use Rattle.stored.specs.Form.{stored_length}

-- ---- any list of items
pub width_append : (xs ys : List Item) → total_width (xs ++ ys) ≡ total_width xs + total_width ys
width_append [] ys = omega arith
width_append (x ∷ xs) ys = let h = width_append xs ys in omega arith

pub slot_width : (at : ℕ) (x : Item) → ((item_slot at x).width ≡ item_width x) × ((item_slot at x).at ≡ at)
slot_width at (alone w f) = (refl, refl)
slot_width at (together fs) = (refl, refl)
slot_width at bit_mapped = (refl, refl)

-- the slots of the first items are the same whatever follows
slots_before : (at : ℕ) (xs ys : List Item) (k : ℕ) → k < length xs → get_or (slots_from at (xs ++ ys)) k no_slot ≡ get_or (slots_from at xs) k no_slot
unfolding slots_from
slots_before at [] ys k h = absurd (not-suc-le-zero h)
slots_before at (x ∷ xs) ys zero h = refl
slots_before at (x ∷ xs) ys (suc k) h = slots_before (at + item_width x) xs ys k (le_of_suc-le-suc h)

-- a slot ends where the items end, or before
pub slot_room : (at : ℕ) (xs : List Item) (k : ℕ) → k < length xs → (get_or (slots_from at xs) k no_slot).at + (get_or (slots_from at xs) k no_slot).width ≤ at + total_width xs
unfolding slots_from
slot_room at [] k h = absurd (not-suc-le-zero h)
slot_room at (x ∷ xs) zero h = let e = slot_width at x in omega arith
slot_room at (x ∷ xs) (suc k) h = let r = slot_room (at + item_width x) xs k (le_of_suc-le-suc h) in omega arith

-- and is of four bytes at most
abbrev restrict : List Item → Bool
restrict [] = true
restrict (x ∷ xs) = leb (item_width x) 4 && restrict xs

slot_restrict : (at : ℕ) (xs : List Item) (k : ℕ) → restrict xs ≡ true → k < length xs → (get_or (slots_from at xs) k no_slot).width ≤ 4
unfolding slots_from
slot_restrict at [] k n h = absurd (not-suc-le-zero h)
slot_restrict at (x ∷ xs) zero n h = let e = slot_width at x in let l : item_width x ≤ 4 = leb-true (item_width x) 4 (and_left (leb (item_width x) 4) (restrict xs) n) in omega arith
slot_restrict at (x ∷ xs) (suc k) n h = slot_restrict (at + item_width x) xs k (and_right (leb (item_width x) 4) (restrict xs) n) (le_of_suc-le-suc h)

-- ---- the parameters' items
pub parameters_width : (n : ℕ) → total_width (parameter_items n) ≡ 5 * n
parameters_width zero = refl
parameters_width (suc n) = let h = parameters_width n in width_append (parameter_items n) _ ∙ omega arith

-- the slots that every version has
abbrev pub shared_slots : List Slot
shared_slots = slots_from header_width scalar_items

-- the two of one parameter
abbrev pub pair : ℕ → List Item
pair i = alone 4 (value i) ∷ alone 1 (level i) ∷ []

-- ---- the length of version 1, and of the version that is written
pub stored_177 : stored_length 1 ≡ 177
unfolding stored_length
stored_177 = refl

pub stored_180 : stored_length current ≡ 180
unfolding stored_length
stored_180 = refl

-- ---- the slots before the parameters', as the code gives them
abbrev pub scalar_table : List Slot
scalar_table =
    slot_of 3 1 (field_range address) ∷ slot_of 4 1 (field_range access) ∷ slot_of 5 1 (field_range phase) ∷ slot_of 6 1 (range 0 31) ∷ slot_of 7 1 (field_range recipe)
    ∷ slot_of 8 3 (field_range preset) ∷ slot_of 11 4 (field_range raw) ∷ slot_of 15 2 (field_range number) ∷ slot_of 17 3 (range 0 0xffffff) ∷ []

table_is : scalar_table ≡ scalar_slots current
unfolding slots_from
table_is = refl

pub scalar_here : (f : ScalarField) (s : Slot) → s ≡ get_or scalar_table (scalar_place f) no_slot → s ≡ get_or (scalar_slots current) (scalar_place f) no_slot
scalar_here f s q = q ∙ ap (λ (l : List Slot). get_or l (scalar_place f) no_slot) table_is

pub scalar_below : (f : ScalarField) → scalar_place f < length (scalars_of current)
scalar_below scalar.Address = omega arith
scalar_below scalar.Access = omega arith
scalar_below scalar.Phase = omega arith
scalar_below scalar.Flags = omega arith
scalar_below scalar.Recipe = omega arith
scalar_below scalar.Preset = omega arith
scalar_below scalar.Raw = omega arith
scalar_below scalar.Number = omega arith
scalar_below scalar.Alarms = omega arith

-- the code's list has each at its place
abbrev pub scalar_list : List ScalarField
scalar_list =
    scalar.Address ∷ scalar.Access ∷ scalar.Phase ∷ scalar.Flags ∷ scalar.Recipe ∷ scalar.Preset ∷ scalar.Raw ∷ scalar.Number ∷ scalar.Alarms ∷ []

pub scalar_at : (k : ℕ) (f : ScalarField) → k < length scalar_list → scalar_place (get_or scalar_list k f) ≡ k
scalar_at k f h =
    eqb-true _ _ (below k (omega arith))
  where
    below : (i : ℕ) → i < 9 → eqb (scalar_place (get_or scalar_list i f)) i ≡ true
    below = holds_below (λ (i : ℕ). eqb (scalar_place (get_or scalar_list i f)) i) 9 refl

-- they lie before the parameters', and are of four bytes at most
module _ (s : Slot) (k : ℕ) (e : s ≡ get_or (scalar_slots current) k no_slot) where
  pub scalar_ends : k < length (scalars_of current) → s.at + s.width ≤ parameters_at current
  scalar_ends h =
      let r = slot_room header_width (scalars_of current) k h in
      let a = ap (λ (t : Slot). t.at) e in
      let w = ap (λ (t : Slot). t.width) e in
      omega arith

  pub scalar_short : k < length (scalars_of current) → s.width ≤ 4
  scalar_short h = let r = slot_restrict header_width (scalars_of current) k refl h in let w = ap (λ (t : Slot). t.width) e in omega arith

  -- those before the alarms are those of every version
  pub scalar_shared : k < length scalar_items → s ≡ get_or shared_slots k no_slot
  scalar_shared h = e ∙ slots_before header_width scalar_items (bit_mapped ∷ []) k h

-- ---- the slots of a parameter's value and level, where the parameters begin at a place
abbrev pub value_slot : ℕ → ℕ → Slot
value_slot at i = item_slot (at + 5 * i) (alone 4 (value i))

abbrev pub level_slot : ℕ → ℕ → Slot
level_slot at i = item_slot (at + 5 * i + 4) (alone 1 (level i))

pub value_is : (at p i : ℕ) (g : Range) (s : Slot) → p ≡ at → g ≡ range_at i → s ≡ slot_of (p + 5 * i) 4 g → s ≡ value_slot at i
value_is at p i g s b e q = q ∙ (ap (λ (n : ℕ). slot_of (n + 5 * i) 4 g) b ∙ ap (slot_of (at + 5 * i) 4) e)

-- where they end, and how wide they are
pub value-ends : (at i : ℕ) (s : Slot) → s ≡ value_slot at i → (s.at + s.width ≡ at + 5 * i + 4) × (s.width ≡ 4)
value-ends at i s e = let a = ap (λ (t : Slot). t.at) e in let w = ap (λ (t : Slot). t.width) e in (omega arith, w)

pub level-ends : (at i : ℕ) (s : Slot) → s ≡ level_slot at i → (s.at + s.width ≡ at + 5 * (i + 1)) × (s.width ≡ 1)
level-ends at i s e = let a = ap (λ (t : Slot). t.at) e in let w = ap (λ (t : Slot). t.width) e in (omega arith, w)
