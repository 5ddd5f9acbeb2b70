-- Reading a field after writing one. Assumes nothing.
use Prim.Native.Nat.{ℕ, zero, suc, ◌+◌, ◌-◌, ◌*◌, ◌/◌, ◌%◌, ◌≤◌, ◌<◌}
use mathlib.Core.Bool.{Bool, true, false, ◌&&◌}
use mathlib.Core.Path.{◌≡◌, refl, sym, ap, ◌∙◌, subst}
use mathlib.Core.List.{List, map}
use native.Mathlib.Omega.{arith}
use lib.Dec.{eqb, leb, ltb}
use lib.ListN.{length, get_or, set, length-set, get_or-map, get_or-eq_default}
use lib.Seq.{get_or-set_same, get_or-set_other}
use borrow.Author.Tests.{eq-eqb, ne_eqb, eqb-true, eqb-false, le-leb, leb-true, le-ltb, ltb-true, ltb-false}
use Rattle.state.specs.declared.Phase.{Phase}
use Rattle.state.specs.declared.Phase.TheVariants.{Idle, Set, Running, Stopped, Done}
use Rattle.state.specs.declared.Record.{Record}
use Rattle.base.specs.Test.{pick, between}
use Rattle.state.specs.Parameter.{parameter_count}
use Rattle.state.specs.Field.{Field, address, access, phase, keypad, flow, changed, reset, powerfail, recipe, preset, raw, number, alarms, value, level, get, put, put_at, is, position, field_at, field_range, scalar_fields, scalar_count, phase_number, phase_of, flag_number, flag_of, off, on, Held}
use Rattle.state.specs.Valid.{within}
use Rattle.base.proofs.Tests.{by_test, and_no, and_left, and_right, between_high, holds_below}

-- a phase and a flag are known by their numbers
pub phase_back : (p : Phase) → phase_of (phase_number p) ≡ p
unfolding phase_of
phase_back Idle = refl
phase_back Set = refl
phase_back Running = refl
phase_back Stopped = refl
phase_back Done = refl

pub flag_back : (b : Bool) → flag_of (flag_number b) ≡ b
flag_back true = refl
flag_back false = refl

pub flag_number_lem : (n : ℕ) → n ≤ 1 → flag_number (flag_of n) ≡ n
flag_number_lem zero h = refl
flag_number_lem (suc zero) h = refl
flag_number_lem (suc (suc n)) h = absurd (omega arith)

pub phase_number_lem : (n : ℕ) → n ≤ 4 → phase_number (phase_of n) ≡ n
unfolding phase_of
phase_number_lem n h = eqb-true _ _ (holds_below (λ (m : ℕ). eqb (phase_number (phase_of m)) m) 5 refl n (omega arith))

-- ---- a field is known by its position
pub field_at_lem : (f : Field) → field_at (position f) ≡ f
unfolding field_at
field_at_lem address = refl
field_at_lem access = refl
field_at_lem phase = refl
field_at_lem keypad = refl
field_at_lem flow = refl
field_at_lem changed = refl
field_at_lem reset = refl
field_at_lem powerfail = refl
field_at_lem recipe = refl
field_at_lem preset = refl
field_at_lem raw = refl
field_at_lem number = refl
field_at_lem alarms = refl
field_at_lem (value i) =
    let p : ℕ = position (value i) in
    simp (le-ltb p scalar_count (omega arith), eq-eqb ((p - scalar_count) % 2) 0 (omega arith)) (ap value (omega arith))
field_at_lem (level i) =
    let p : ℕ = position (level i) in
    simp (le-ltb p scalar_count (omega arith), ne_eqb ((p - scalar_count) % 2) 0 (λ e. omega arith)) (ap level (omega arith))

-- each but the parameters' fields stands at its position
pub scalar_at : (n : ℕ) → n < scalar_count → position (get_or scalar_fields n address) ≡ n
scalar_at n h = eqb-true _ _ (holds_below (λ (j : ℕ). eqb (position (get_or scalar_fields j address)) j) scalar_count refl n h)

pub position_at : (p : ℕ) → position (field_at p) ≡ p
unfolding field_at
position_at p = go (ltb p scalar_count) refl
  where
    pair : (b : Bool) → eqb ((p - scalar_count) % 2) 0 ≡ b → scalar_count ≤ p → position (pick b (value ((p - scalar_count) / 2)) (level ((p - scalar_count) / 2))) ≡ p
    pair true e l = let h = eqb-true ((p - scalar_count) % 2) 0 e in omega arith
    pair false e l = let h = eqb-false ((p - scalar_count) % 2) 0 e in omega arith

    go : (b : Bool) → ltb p scalar_count ≡ b
        → position (pick b (get_or scalar_fields p address) (pick (eqb ((p - scalar_count) % 2) 0) (value ((p - scalar_count) / 2)) (level ((p - scalar_count) / 2)))) ≡ p
    go true e = scalar_at p (ltb-true _ _ e)
    go false e = pair (eqb ((p - scalar_count) % 2) 0) refl (ltb-false _ _ e)

pub same-field : (f g : Field) → position f ≡ position g → f ≡ g
same-field f g e = sym (field_at_lem f) ∙ (ap field_at e ∙ field_at_lem g)

-- what holds of a field and of each other one holds of any
pub at_field : (f : Field) (P : Field → Type 0) → P f → ((g : Field) → (position f ≡ position g → ⊥) → P g) → (g : Field) → P g
at_field f P own other g =
    by_test (eqb (position f) (position g)) (λ e. subst P (same-field f g (eqb-true _ _ e)) own) (λ e. other g (eqb-false _ _ e))

-- what holds of all but the parameters' fields, of each value and of each level holds of each field: so no law below has a case per field
pub by_fields : (P : Field → Type 0) → ((n : ℕ) → n < scalar_count → P (get_or scalar_fields n address)) → ((i : ℕ) → P (value i)) → ((i : ℕ) → P (level i))
    → (f : Field) → P f
unfolding field_at
by_fields P s v l f = subst P (field_at_lem f) (at (position f) (ltb (position f) scalar_count) refl)
  where
    pair : (n : ℕ) (b : Bool) → P (pick b (value n) (level n))
    pair n true = v n
    pair n false = l n

    at : (n : ℕ) (b : Bool) → ltb n scalar_count ≡ b
        → P (pick b (get_or scalar_fields n address) (pick (eqb ((n - scalar_count) % 2) 0) (value ((n - scalar_count) / 2)) (level ((n - scalar_count) / 2))))
    at n true e = s n (ltb-true _ _ e)
    at n false e = pair ((n - scalar_count) / 2) (eqb ((n - scalar_count) % 2) 0)

-- an equation that all but the parameters' fields meet, as one of lists
pub by_list : {A : Type 0} (g h : Field → A) → map g scalar_fields ≡ map h scalar_fields → (n : ℕ) → g (get_or scalar_fields n address) ≡ h (get_or scalar_fields n address)
by_list {A} g h e n =
    sym (get_or-map g scalar_fields n address)
    ∙ (ap (λ (xs : List A). get_or xs n (g address)) e
    ∙ (ap (get_or (map h scalar_fields) n) (ap (λ (xs : List A). get_or xs 0 (g address)) e) ∙ get_or-map h scalar_fields n address))

-- ---- the parameters' lists
module _ (first n : ℕ) (f : Field) (xs : List ℕ) where
  pub put_at-length : length (put_at first f n xs) ≡ length xs
  put_at-length = go (leb first (position f) && eqb ((position f - first) % 2) 0)
    where
      go : (b : Bool) → length (pick b (set xs ((position f - first) / 2) n) xs) ≡ length xs
      go true = length-set xs ((position f - first) / 2) n
      go false = refl

  put_at_other : (j : ℕ) → (position f ≡ first + 2 * j → ⊥) → get_or (put_at first f n xs) j 0 ≡ get_or xs j 0
  put_at_other j h = go (leb first (position f) && eqb ((position f - first) % 2) 0) refl
    where
      go : (b : Bool) → (leb first (position f) && eqb ((position f - first) % 2) 0) ≡ b
          → get_or (pick b (set xs ((position f - first) / 2) n) xs) j 0 ≡ get_or xs j 0
      go true e =
          let l : first ≤ position f = leb-true _ _ (and_left (leb first (position f)) (eqb ((position f - first) % 2) 0) e) in
          let m : (position f - first) % 2 ≡ 0 = eqb-true _ _ (and_right (leb first (position f)) (eqb ((position f - first) % 2) 0) e) in
          get_or-set_other xs ((position f - first) / 2) j n 0 (λ q. h (omega arith))
      go false e = refl

  put_at_own : (j : ℕ) → position f ≡ first + 2 * j → put_at first f n xs ≡ set xs j n
  put_at_own j e =
      simp (le-leb first (position f) (omega arith), eq-eqb ((position f - first) % 2) 0 (omega arith)) (ap (λ (k : ℕ). set xs k n) (omega arith))

  put_at_kept : (leb first (position f) ≡ true → (position f - first) % 2 ≡ 0 → ⊥) → put_at first f n xs ≡ xs
  put_at_kept h =
      simp (and_no (leb first (position f)) (eqb ((position f - first) % 2) 0) (λ a b. h a (eqb-true ((position f - first) % 2) 0 b)))

-- the record with another "changed" and other lists
abbrev pub with_parts : Bool → List ℕ → List ℕ → Record → Record
with_parts b vs ls r =
    record {
      address = r.address;
      access = r.access;
      phase = r.phase;
      keypad = r.keypad;
      flow = r.flow;
      changed = b;
      reset = r.reset;
      powerfail = r.powerfail;
      recipe = r.recipe;
      preset = r.preset;
      raw = r.raw;
      number = r.number;
      alarms = r.alarms;
      values = vs;
      levels = ls;
    }

abbrev pub with_lists : List ℕ → List ℕ → Record → Record
with_lists vs ls r = with_parts r.changed vs ls r

pub put-changed : (b : Bool) (r : Record) → with_parts b r.values r.levels r ≡ put changed (flag_number b) r
unfolding put
put-changed true r = refl
put-changed false r = refl

-- ---- a parameter's field as a store to one of the two lists
abbrev first_value : ℕ
first_value = position (value 0)

abbrev first_level : ℕ
first_level = position (level 0)

put-parameter : (f : Field) (n : ℕ) (r : Record) → scalar_count ≤ position f
    → with_lists (put_at first_value f n r.values) (put_at first_level f n r.levels) r ≡ put f n r
unfolding put
put-parameter f n r h = simp not_at
  where
    not_at : (k : ℕ) → ltb k scalar_count ≡ true → eqb (position f) k ≡ false
    not_at k l = let b : k < scalar_count = ltb-true _ _ l in ne_eqb (position f) k (λ e. omega arith)

pub put-value : (i n : ℕ) (r : Record) → with_lists (set r.values i n) r.levels r ≡ put (value i) n r
put-value i n r =
    ap (λ (vs : List ℕ). with_lists vs r.levels r) (sym (put_at_own first_value n (value i) r.values i (omega arith)))
    ∙ (ap (λ (ls : List ℕ). with_lists (put_at first_value (value i) n r.values) ls r)
    (sym (put_at_kept first_level n (value i) r.levels (λ a e. let l : first_level ≤ position (value i) = leb-true _ _ a in omega arith)))
    ∙ put-parameter (value i) n r (omega arith))

pub put-level : (i n : ℕ) (r : Record) → with_lists r.values (set r.levels i n) r ≡ put (level i) n r
put-level i n r =
    ap (λ (ls : List ℕ). with_lists r.values ls r) (sym (put_at_own first_level n (level i) r.levels i (omega arith)))
    ∙ (ap (λ (vs : List ℕ). with_lists vs (put_at first_level (level i) n r.levels) r)
    (sym (put_at_kept first_value n (level i) r.values (λ a e. omega arith)))
    ∙ put-parameter (level i) n r (omega arith))

-- ---- reading after writing
pick-phase : (b : Bool) (p q : Phase) → phase_number (pick b p q) ≡ pick b (phase_number p) (phase_number q)
pick-phase true p q = refl
pick-phase false p q = refl

pick_flag : (b p q : Bool) → flag_number (pick b p q) ≡ pick b (flag_number p) (flag_number q)
pick_flag true p q = refl
pick_flag false p q = refl

scalars_put : (f : Field) (n : ℕ) (r : Record)
    → map (λ (g : Field). get g (put f n r)) scalar_fields ≡ map (λ (g : Field). pick (is f g) (get g (put g n r)) (get g r)) scalar_fields
unfolding put
scalars_put f n r = simp (pick-phase, pick_flag)

-- another field
pub get-put_other : (f g : Field) (n : ℕ) (r : Record) → (position f ≡ position g → ⊥) → get g (put f n r) ≡ get g r
unfolding put
get-put_other f g n r =
    by_fields (λ (h : Field). (position f ≡ position h → ⊥) → get h (put f n r) ≡ get h r)
    (λ k l o. by_list (λ (h : Field). get h (put f n r)) (λ (h : Field). pick (is f h) (get h (put h n r)) (get h r)) (scalars_put f n r) k ∙ simp (ne_eqb _ _ o))
    (λ j o. put_at_other first_value n f r.values j (λ e. o (omega arith)))
    (λ j o. put_at_other first_level n f r.levels j (λ e. o (omega arith)))
    g

-- beyond its end the list of values or of levels gives 0
pub beyond : (xs : List ℕ) (i : ℕ) → length xs ≡ parameter_count → parameter_count ≤ i → 0 ≡ get_or xs i 0
beyond xs i l h = sym (get_or-eq_default xs 0 (omega arith))

-- ---- the same field

-- a number within the field's range is kept as it is
pub pick_same : (b : Bool) (n : ℕ) → pick b n n ≡ n
pick_same true n = refl
pick_same false n = refl

pub phase-settled : (n : ℕ) → pick (within (field_range phase) n) (phase_number (phase_of n)) n ≡ n
phase-settled n = by_test (within (field_range phase) n) (λ e. simp e (phase_number_lem n (between_high _ _ n e))) (λ e. simp e)

pub flag_settled : (n : ℕ) → pick (between off on n) (flag_number (flag_of n)) n ≡ n
flag_settled n = by_test (between off on n) (λ e. simp e (flag_number_lem n (between_high _ _ n e))) (λ e. simp e)

pub ruleset settling = (pick_same, phase-settled, flag_settled)

pub settled : (g w : Field → ℕ) → map (λ (f : Field). pick (within (field_range f) (w f)) (g f) (w f)) scalar_fields ≡ map w scalar_fields
    → (k : ℕ) → within (field_range (get_or scalar_fields k address)) (w (get_or scalar_fields k address)) ≡ true
    → g (get_or scalar_fields k address) ≡ w (get_or scalar_fields k address)
settled g w e k i =
    let f : Field = get_or scalar_fields k address in
    ap (λ (b : Bool). pick b (g f) (w f)) (sym i) ∙ by_list (λ (h : Field). pick (within (field_range h) (w h)) (g h) (w h)) w e k

scalars_own : (n : ℕ) (r : Record) → map (λ (f : Field). pick (within (field_range f) n) (get f (put f n r)) n) scalar_fields ≡ map (λ (f : Field). n) scalar_fields
unfolding put
scalars_own n r = simp settling

module _ (r : Record) (values_length : length r.values ≡ parameter_count) (levels_length : length r.levels ≡ parameter_count) where
  pub get-put-same : (f : Field) (n : ℕ) → Held f → within (field_range f) n ≡ true → get f (put f n r) ≡ n
  unfolding put
  get-put-same f n =
      by_fields (λ (g : Field). Held g → within (field_range g) n ≡ true → get g (put g n r) ≡ n)
      (λ k b l h. settled (λ (g : Field). get g (put g n r)) (λ (g : Field). n) (scalars_own n r) k h)
      (λ i l h. ap (λ (xs : List ℕ). get_or xs i 0) (put_at_own first_value n (value i) r.values i (omega arith)) ∙ get_or-set_same r.values i n 0 (omega arith))
      (λ i l h. ap (λ (xs : List ℕ). get_or xs i 0) (put_at_own first_level n (level i) r.levels i (omega arith)) ∙ get_or-set_same r.levels i n 0 (omega arith))
      f

-- ---- the lists keep their lengths
pub put_values_length : (f : Field) (n : ℕ) (r : Record) → length (put f n r).values ≡ length r.values
unfolding put
put_values_length f n r = put_at-length first_value n f r.values

pub put_levels_length : (f : Field) (n : ℕ) (r : Record) → length (put f n r).levels ≡ length r.levels
unfolding put
put_levels_length f n r = put_at-length first_level n f r.levels
