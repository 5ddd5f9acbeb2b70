-- The versions of the stored record: which one has a length, how long each is and where its parameters begin. By the list of the versions,
-- and what holds of each of them by computation. Assumes nothing.
use Prim.Native.Nat.{ℕ, ◌+◌, ◌*◌, ◌≤◌, ◌<◌}
use mathlib.Core.Bool.{Bool, true, false, ◌&&◌, ◌||◌, false≢true}
use mathlib.Core.Path.{◌≡◌, refl, sym, ap, ◌∙◌}
use mathlib.Core.List.{List, [], ◌∷◌, ◌++◌, map, append_assoc}
use mathlib.Core.Logic.{◌⊎◌, inl, inr, ⊎_elim}
use native.Mathlib.Omega.{arith}
use lib.Dec.{eqb, leb}
use lib.ListN.{length, get_or}
use borrow.Author.Tests.{eq-eqb, ne_eqb, eqb-true, leb-true}
use Rattle.base.specs.Test.{pick, member}
use Rattle.base.proofs.Tests.{by_test, and_left, and_right}
use Rattle.state.specs.Parameter.{parameter_count}
use Rattle.stored.specs.declared.Slot.{Slot}
use Rattle.stored.specs.declared.Version.{Version}
use Rattle.stored.specs.declared.Version.TheVariants as version
use Rattle.stored.specs.Layout.{Item, bit_mapped, scalar_items, parameter_items, versions, current, scalars_of, items, header_width, total_width, parameters_at, scalar_slots, no_slot}
use Rattle.std.specs.Prelude.{Option, Some}
use Rattle.stored.specs.Form.{stored_length, version_in, version_of, version_number, version_as}
use Rattle.stored.proofs.Slots.{width_append, slot_room, scalar_ends, scalar_short, scalar_shared, parameters_width, stored_177, stored_180}

-- ---- a test that holds of each of several numbers holds of one of them
abbrev pub all_of : (ℕ → Bool) → List ℕ → Bool
all_of p [] = true
all_of p (v ∷ vs) = p v && all_of p vs

of_each : (p : ℕ → Bool) (vs : List ℕ) → all_of p vs ≡ true → (v : ℕ) → member v vs ≡ true → p v ≡ true
of_each p [] h v m = absurd (false≢true m)
of_each p (w ∷ vs) h v m =
    by_test (eqb v w)
    (λ e. ap p (eqb-true v w e) ∙ and_left (p w) (all_of p vs) h)
    (λ e. of_each p vs (and_right (p w) (all_of p vs) h) v (ap (λ (b : Bool). b || member v vs) (sym e) ∙ m))

-- ---- known versions
abbrev pub Known : ℕ → Type 0
Known v = member v versions ≡ true

pub by_versions : (p : ℕ → Bool) → all_of p versions ≡ true → (v : ℕ) → Known v → p v ≡ true
by_versions p h v k = of_each p versions h v k

-- ---- the version that has a length

-- there is none, or it is one of the versions and has that length
abbrev Found : List ℕ → ℕ → ℕ → Type 0
Found vs l v = (v ≡ 0) ⊎ ((member v vs ≡ true) × (l ≡ stored_length v))

found : (vs : List ℕ) (l : ℕ) → Found vs l (version_in vs l)
unfolding version_in
found [] l = inl refl
found (v ∷ vs) l = go (eqb l (stored_length v)) (λ h. eqb-true _ _ h) (found vs l)
  where
    go : (b : Bool) → (b ≡ true → l ≡ stored_length v) → Found vs l (version_in vs l) → Found (v ∷ vs) l (pick b v (version_in vs l))
    go true e i = inr (simp (eq-eqb v v refl), e refl)
    go false e i =
        ⊎_elim (λ z. inl z)
        (λ x. inr (by_test (eqb (version_in vs l) v) (λ h. simp h) (λ h. simp h x.0), x.1))
        i

pub version_length : (l : ℕ) → Known (version_of l) → l ≡ stored_length (version_of l)
version_length l k =
    ⊎_elim (λ (z : version_of l ≡ 0). absurd (false≢true (ap (λ (v : ℕ). member v versions) (sym z) ∙ k))) (λ x. x.1) (found versions l)

-- those that the code has are
pub number_known : (v : Version) → Known (version_number v)
number_known version.WithoutAlarms = refl
number_known version.WithAlarms = refl

pub version_found : (o : Option Version) (v : Version) (l : ℕ) → version_as o ≡ version_of l → o ≡ Some v → version_number v ≡ version_of l
version_found o v l e q = sym (ap version_as q) ∙ e

pub of_length : (v : Version) (l : ℕ) → version_number v ≡ version_of l → Known (version_of l)
of_length v l e = ap (λ (w : ℕ). member w versions) (sym e) ∙ number_known v

-- a length that none has
pub none_found : (vs : List ℕ) (l : ℕ) → member l (map stored_length vs) ≡ false → version_in vs l ≡ 0
unfolding version_in
none_found [] l n = refl
none_found (v ∷ vs) l n = go (eqb l (stored_length v)) n (λ m. none_found vs l m)
  where
    go : (b : Bool) → (b || member l (map stored_length vs)) ≡ false → (member l (map stored_length vs) ≡ false → version_in vs l ≡ 0) → pick b v (version_in vs l) ≡ 0
    go true m i = absurd (false≢true (sym m))
    go false m i = i m

-- each version has a length of its own
pub length_version : (v : ℕ) → Known v → version_of (stored_length v) ≡ v
unfolding version_in stored_length
length_version v k = eqb-true _ _ (by_versions (λ (w : ℕ). eqb (version_of (stored_length w)) w) refl v k)

-- ---- how long each is
items_parts : (v : ℕ) → Known v → items v ≡ scalars_of v ++ parameter_items parameter_count
items_parts v k = ap (λ (b : Bool). pick b (scalars_of v ++ parameter_items parameter_count) []) k

pub length-items : (v : ℕ) → Known v → stored_length v ≡ header_width + total_width (items v)
unfolding stored_length
length-items v k = ap (λ (b : Bool). pick b (header_width + total_width (items v)) 0) k

length_parts : (v : ℕ) → Known v → stored_length v ≡ parameters_at v + 5 * parameter_count
length_parts v k =
    let w = width_append (scalars_of v) (parameter_items parameter_count) in
    let p = parameters_width parameter_count in
    let i : total_width (items v) ≡ total_width (scalars_of v ++ parameter_items parameter_count) = ap total_width (items_parts v k) in
    length-items v k ∙ omega arith

-- the parameters of no version begin before those of the first
parameters_high : (v : ℕ) → Known v → parameters_at 1 ≤ parameters_at v
parameters_high v k = leb-true _ _ (by_versions (λ (w : ℕ). leb (parameters_at 1) (parameters_at w)) refl v k)

-- the bytes of a version reach as far as its parameters' numbers
version_room : (l : ℕ) → Known (version_of l) → parameters_at (version_of l) + 5 * parameter_count ≤ l
version_room l k = let e = version_length l k in let p = length_parts (version_of l) k in omega arith

-- and so behind the header and the numbers that every version has
version_long : (l : ℕ) → Known (version_of l) → parameters_at 1 + 5 * parameter_count ≤ l
version_long l k = let r = version_room l k in let h = parameters_high (version_of l) k in omega arith

pub header_room : (l : ℕ) → Known (version_of l) → header_width ≤ l
header_room l k = let r = version_long l k in omega arith

pub scalar_room : (l : ℕ) → Known (version_of l) → (k : ℕ) (t : Slot) → k < length scalar_items → t ≡ get_or (scalar_slots current) k no_slot → (t.at + t.width ≤ l) × (t.width ≤ 4)
scalar_room l known k t h i =
    let r = version_long l known in
    let s = slot_room header_width scalar_items k h in
    let a = ap (λ (u : Slot). u.at) (scalar_shared t k i h) in
    let w = ap (λ (u : Slot). u.width) (scalar_shared t k i h) in
    (omega arith, scalar_short t k i (omega arith))

pub parameters_room : (l v : ℕ) → Known (version_of l) → v ≡ version_of l → parameters_at v + 5 * parameter_count ≤ l
parameters_room l v k e = let r = version_room l k in let p : parameters_at v ≡ parameters_at (version_of l) = ap parameters_at e in omega arith

pub alarms_reach : (l v : ℕ) → Known (version_of l) → v ≡ version_of l → parameters_at v ≤ l
alarms_reach l v k e = let r = parameters_room l v k e in omega arith

-- ---- what a version stores behind the numbers that every version has
abbrev pub later : ℕ → List Item
later v = pick (eqb v 1) [] (bit_mapped ∷ [])

scalars_parts : (v : ℕ) → scalars_of v ≡ scalar_items ++ later v
scalars_parts v = by_test (eqb v 1) (λ h. simp h) (λ h. simp h)

pub body_parts : (v : ℕ) → Known v → items v ≡ scalar_items ++ (later v ++ parameter_items parameter_count)
body_parts v k =
    items_parts v k ∙
    (ap (λ (xs : List Item). xs ++ parameter_items parameter_count) (scalars_parts v) ∙ append_assoc scalar_items (later v) (parameter_items parameter_count))

pub later_width : (v : ℕ) → parameters_at 1 + total_width (later v) ≡ parameters_at v
later_width v = by_test (eqb v 1) (λ h. simp h) (λ h. simp h)

-- ---- as the code has them
abbrev pub length_of : ℕ → ℕ
length_of v = parameters_at v + 5 * parameter_count

module _ (l : ℕ) where
  version_is : (v : ℕ) → Known v → l ≡ length_of v → v ≡ version_of l
  version_is v k e = sym (length_version v k) ∙ ap version_of (sym (e ∙ sym (length_parts v k)))

  pub version_now : l ≡ length_of current → current ≡ version_of l
  version_now e = version_is current refl e

  pub version_before : l ≡ length_of 1 → 1 ≡ version_of l
  version_before e = version_is 1 refl e

  pub version_none : (l ≡ length_of current → ⊥) → (l ≡ length_of 1 → ⊥) → 0 ≡ version_of l
  version_none n m = sym (none_found versions l (simp (stored_177, stored_180, ne_eqb _ _ n, ne_eqb _ _ m)))

pub ruleset versioning = (version_now, version_before, version_none)

pub alarms_room : (v : Version) → v ≡ version.WithAlarms → (t : Slot) → t ≡ get_or (scalar_slots current) 8 no_slot → (l : ℕ) → parameters_at (version_number v) ≤ l → (t.at + t.width ≤ l) × (t.width ≤ 4)
alarms_room v z t q l h =
    let b : parameters_at (version_number v) ≡ parameters_at current = simp z in
    let e = scalar_ends t 8 q (omega arith) in
    (omega arith, scalar_short t 8 q (omega arith))
