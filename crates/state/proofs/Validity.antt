-- Validity, field by field. Assumes nothing.
use Prim.Native.Nat.{ℕ, zero, suc, ◌+◌, ◌-◌, ◌*◌, ◌≤◌, ◌<◌}
use mathlib.Core.Bool.{Bool, true, false, not, ◌&&◌, false≢true, and-true, and_assoc}
use mathlib.Core.Path.{◌≡◌, refl, sym, ap, ◌∙◌, subst}
use mathlib.Core.List.{List, [], ◌∷◌, ◌++◌}
use mathlib.Core.Logic.{⊎_elim}
use native.Mathlib.Nat.{eq-or-lt_of_le, not-suc-le-zero, le_of_suc-le-suc}
use native.Mathlib.Numerals.{add-one}
use native.Mathlib.Omega.{arith}
use lib.Dec.{eqb, leb}
use lib.ListN.{length, get_or}
use borrow.Author.Tests.{eq-eqb, eqb-true, le-leb, not-true, not-false}
use Rattle.state.specs.declared.Phase.{Phase}
use Rattle.state.specs.declared.Phase.TheVariants.{Idle, Set, Running, Stopped, Done}
use Rattle.state.specs.declared.ParameterKind.{ParameterKind}
use Rattle.state.specs.declared.ParameterKind.TheVariants.{Share, Factor, LowFlow}
use Rattle.state.specs.declared.Record.{Record}
use Rattle.state.specs.declared.Range.{Range}
use Rattle.base.specs.Test.{between, all_between}
use Rattle.state.specs.Parameter.{recipes, kind_range, parameter_count, range_at, recipe_place}
use Rattle.state.specs.Field.{Field, address, access, phase, recipe, preset, raw, number, alarms, value, level, get, field_range, position, scalar_fields, fields_for, parameter_fields, phase_number, flag_number, on}
use Rattle.state.specs.Valid.{within, all_in, full_length, valid}
use Rattle.base.proofs.Tests.{and_yes, and_left, and_right, between_high}
use Rattle.state.proofs.Parameters.{kind_low, range-given-kind}

flag_high : (b : Bool) → leb (flag_number b) on ≡ true
flag_high true = refl
flag_high false = refl

phase_high : (p : Phase) → leb (phase_number p) (field_range phase).high ≡ true
phase_high Idle = refl
phase_high Set = refl
phase_high Running = refl
phase_high Stopped = refl
phase_high Done = refl

pub all_append : (r : Record) (xs ys : List Field) → all_in r (xs ++ ys) ≡ (all_in r xs && all_in r ys)
unfolding all_in
all_append r [] ys = refl
all_append r (x ∷ xs) ys =
    let w : Bool = within (field_range x) (get x r) in
    ap (λ (b : Bool). w && b) (all_append r xs ys) ∙ sym (and_assoc w (all_in r xs) (all_in r ys))

-- a field of the list is in its range
pub all_at : (r : Record) (fs : List Field) (i : ℕ) → all_in r fs ≡ true → i < length fs
    → within (field_range (get_or fs i address)) (get (get_or fs i address) r) ≡ true
unfolding all_in
all_at r [] i h l = absurd (not-suc-le-zero l)
all_at r (f ∷ fs) zero h l = and_left (within (field_range f) (get f r)) (all_in r fs) h
all_at r (f ∷ fs) (suc i) h l = all_at r fs i (and_right (within (field_range f) (get f r)) (all_in r fs) h) (le_of_suc-le-suc l)

-- all are, if each is
pub all_from : (r : Record) (fs : List Field) → ((i : ℕ) → i < length fs → within (field_range (get_or fs i address)) (get (get_or fs i address) r) ≡ true)
    → all_in r fs ≡ true
unfolding all_in
all_from r [] h = refl
all_from r (f ∷ fs) h = and_yes (within (field_range f) (get f r)) (all_in r fs) (h 0 (omega arith)) (all_from r fs (λ i l. h (suc i) (omega arith)))

-- ---- the fields but the parameters'

low_zero : (n : ℕ) → leb 0 n ≡ true
low_zero n = le-leb 0 n (omega arith)

-- a phase and a flag are in theirs, and the code tests the others
pub scalars_tested : (r : Record) (a b c d e f g : Bool) (k l m n : ℕ) → k ≡ r.address → a ≡ within (field_range address) k → l ≡ r.access → b ≡ within (field_range access) l
    → m ≡ r.recipe → c ≡ within (field_range recipe) m → d ≡ within (field_range preset) r.preset → e ≡ within (field_range raw) r.raw
    → n ≡ r.number → f ≡ within (field_range number) n → g ≡ within (field_range alarms) r.alarms
    → (a && b && c && d && e && f && g) ≡ all_in r scalar_fields
unfolding all_in
scalars_tested r a b c d e f g k l m n p q s t u v w x y z h =
    simp (q, t, v, w, x, z, h, p, s, u, y, phase_high, flag_high, low_zero, and_assoc, and-true)

-- the ends that laws ask for
pub record Scalars (r : Record) : Type 0 where
  pub address_high : r.address ≤ (field_range address).high
  pub raw_high : r.raw ≤ (field_range raw).high
  pub alarms_high : r.alarms ≤ (field_range alarms).high

scalars_tell : (r : Record) → all_in r scalar_fields ≡ true → Scalars r
scalars_tell r h =
    record {
      address_high = between_high _ _ _ (all_at r scalar_fields (position address) h (omega arith));
      raw_high = between_high _ _ _ (all_at r scalar_fields (position raw) h (omega arith));
      alarms_high = between_high _ _ _ (all_at r scalar_fields (position alarms) h (omega arith));
    }

decided : (b : Bool) → (b ≡ true → ⊥) → false ≡ b
decided true h = absurd (h refl)
decided false h = refl

-- ---- the parameters' fields

-- the value and the level at place i
abbrev pub pair_in : Record → ℕ → Bool
pair_in r i = within (field_range (value i)) (get (value i) r) && within (field_range (level i)) (get (level i) r)

pub pairs_more : (r : Record) (i : ℕ) → all_in r (parameter_fields (i + 1)) ≡ (all_in r (parameter_fields i) && pair_in r i)
unfolding all_in
pairs_more r i = rw add-one (all_append r (parameter_fields i) (value i ∷ level i ∷ []) ∙ ap (λ (b : Bool). all_in r (parameter_fields i) && b) (last (within (field_range (value i)) (get (value i) r)) (within (field_range (level i)) (get (level i) r))))
  where
    last : (a b : Bool) → (a && (b && true)) ≡ (a && b)
    last true true = refl
    last true false = refl
    last false b = refl

-- each pair is in its ranges
pub pairs_at : (r : Record) (n i : ℕ) → all_in r (parameter_fields n) ≡ true → i < n → pair_in r i ≡ true
pairs_at r zero i h l = absurd (omega arith)
pairs_at r (suc n) i h l =
    let e : all_in r (parameter_fields n) && pair_in r n ≡ true = sym (rw add-one at (pairs_more r n)) ∙ h in
    ⊎_elim (λ (q : i ≡ n). ap (pair_in r) q ∙ and_right (all_in r (parameter_fields n)) (pair_in r n) e)
    (λ (q : i < n). pairs_at r n i (and_left (all_in r (parameter_fields n)) (pair_in r n) e) q)
    (eq-or-lt_of_le (omega arith))

-- ---- the whole
pub fields_split : (r : Record) (n : ℕ) → all_in r (fields_for n) ≡ (all_in r scalar_fields && all_in r (parameter_fields n))
fields_split r n = all_append r scalar_fields (parameter_fields n)

-- what validity tells
pub record Facts (r : Record) : Type 0 where
  pub scalars_in : all_in r scalar_fields ≡ true
  pub scalars : Scalars r
  pub values_length : length r.values ≡ parameter_count
  pub levels_length : length r.levels ≡ parameter_count
  pub pairs : (i : ℕ) → i < parameter_count → pair_in r i ≡ true

pub valid_tell : (r : Record) → valid r ≡ true → Facts r
unfolding valid
valid_tell r h =
    let l = and_left (full_length r) (all_in r (fields_for parameter_count)) h in
    let f = sym (fields_split r parameter_count) ∙ and_right (full_length r) (all_in r (fields_for parameter_count)) h in
    let a = eqb (length r.values) parameter_count in
    let b = eqb (length r.levels) parameter_count in
    let g = and_left (all_in r scalar_fields) (all_in r (parameter_fields parameter_count)) f in
    record {
      scalars_in = g;
      scalars = scalars_tell r g;
      values_length = eqb-true (length r.values) parameter_count (and_left a b l);
      levels_length = eqb-true (length r.levels) parameter_count (and_right a b l);
      pairs = λ i q. pairs_at r parameter_count i (and_right (all_in r scalar_fields) (all_in r (parameter_fields parameter_count)) f) q;
    }

pub not-valid_scalars : (r : Record) (b : Bool) → b ≡ all_in r scalar_fields → not b ≡ true → false ≡ valid r
not-valid_scalars r b e n = decided (valid r) (λ h. false≢true (sym (not-true b n) ∙ (e ∙ (valid_tell r h).scalars_in)))

-- ---- the values and the levels of all parameters
all_between_lem : (low high : ℕ) (s : List ℕ) → ((i : ℕ) → i < length s → between low high (get_or s i 0) ≡ true) → all_between low high s ≡ true
unfolding all_between
all_between_lem low high [] h = refl
all_between_lem low high (x ∷ s) h = and_yes (between low high x) (all_between low high s) (h 0 (omega arith)) (all_between_lem low high s (λ i l. h (suc i) (omega arith)))

between_at : (low high : ℕ) (s : List ℕ) (i : ℕ) → all_between low high s ≡ true → i < length s → between low high (get_or s i 0) ≡ true
unfolding all_between
between_at low high [] i h l = absurd (not-suc-le-zero l)
between_at low high (x ∷ s) zero h l = and_left (between low high x) (all_between low high s) h
between_at low high (x ∷ s) (suc i) h l = between_at low high s i (and_right (between low high x) (all_between low high s) h) (le_of_suc-le-suc l)

-- each level's range
abbrev low_level : ℕ
low_level = (field_range (level 0)).low

abbrev high_level : ℕ
high_level = (field_range (level 0)).high

-- the value at place i
abbrev pub value_in : Record → ℕ → Bool
value_in r i = within (range_at i) (get_or r.values i 0)

value-valid : (r : Record) → valid r ≡ true → (i : ℕ) → i < parameter_count → value_in r i ≡ true
value-valid r h i l = and_left (value_in r i) _ ((valid_tell r h).pairs i l)

-- those of the first n places
pub record ValuesIn (r : Record) (n : ℕ) : Type 0 where
  pub each : (i : ℕ) → i < n → value_in r i ≡ true

-- one place more
value_more : (r : Record) (p : ℕ) → ValuesIn r p → value_in r p ≡ true → ValuesIn r (p + 1)
value_more r p v h =
    record {
      each = λ i l.
          ⊎_elim (λ (q : i ≡ p). ap (value_in r) q ∙ h) (λ (q : i < p). v.each i q) (eq-or-lt_of_le (omega arith));
    }

module _ (r : Record) (p : ℕ) (g : Range) (b : Bool) (q : g ≡ range_at p) (e : b ≡ within g (get_or r.values p 0)) where
  by_place : b ≡ value_in r p
  by_place = e ∙ ap (λ (w : Range). within w (get_or r.values p 0)) q

  pub not-valid-value : not b ≡ true → p < parameter_count → false ≡ valid r
  not-valid-value n l = decided (valid r) (λ h. false≢true (sym (not-true b n) ∙ (by_place ∙ value-valid r h p l)))

-- those of the recipes before n
pub record RecipesIn (r : Record) (n : ℕ) : Type 0 where
  pub places : ValuesIn r (3 * (n - 1))

-- the value at place i, for the kind k
abbrev kind_in : Record → ℕ → ParameterKind → Bool
kind_in r i k = within (kind_range k) (get_or r.values i 0)

-- the three values of a recipe
module _ (r : Record) (n i j l : ℕ) (b : Bool) (first : i ≡ recipe_place n Share) (second : j ≡ recipe_place n Factor) (third : l ≡ recipe_place n LowFlow)
    (above : 1 ≤ n) (below : n ≤ recipes) (e : b ≡ (kind_in r i Share && (kind_in r j Factor && kind_in r l LowFlow))) where
  kind-value : (i : ℕ) (k : ParameterKind) → i ≡ recipe_place n k → kind_in r i k ≡ value_in r i
  kind-value i k q = ap (λ (g : Range). within g (get_or r.values i 0)) (range-given-kind n k above below ∙ ap range_at (sym q))

  pub recipe_more : not b ≡ false → RecipesIn r n → RecipesIn r (n + 1)
  recipe_more h v =
      let all : (kind_in r i Share && (kind_in r j Factor && kind_in r l LowFlow)) ≡ true = sym e ∙ not-false b h in
      let rest : (kind_in r j Factor && kind_in r l LowFlow) ≡ true = and_right (kind_in r i Share) _ all in
      let a : 3 * (n - 1) ≡ i = omega arith in
      let c : i + 1 ≡ j = omega arith in
      let d : j + 1 ≡ l = omega arith in
      let f : l + 1 ≡ 3 * (n + 1 - 1) = omega arith in
      let one = value_more r i (subst (ValuesIn r) a v.places) (sym (kind-value i Share first) ∙ and_left (kind_in r i Share) _ all) in
      let two = value_more r j (subst (ValuesIn r) c one) (sym (kind-value j Factor second) ∙ and_left (kind_in r j Factor) _ rest) in
      let three = value_more r l (subst (ValuesIn r) d two) (sym (kind-value l LowFlow third) ∙ and_right (kind_in r j Factor) _ rest) in
      record { places = subst (ValuesIn r) f three }

  pub not-valid-recipe : not b ≡ true → false ≡ valid r
  not-valid-recipe h =
      decided (valid r)
      (λ v.
      let at : (i : ℕ) (k : ParameterKind) → i ≡ recipe_place n k → kind_in r i k ≡ true =
      λ i k q. kind-value i k q ∙ value-valid r v i (let low = kind_low k in omega arith) in
      false≢true (sym (not-true b h) ∙ (e ∙ and_yes (kind_in r i Share) _ (at i Share first) (and_yes (kind_in r j Factor) _ (at j Factor second) (at l LowFlow third)))))

pub not-valid_levels : (r : Record) (b : Bool) → b ≡ all_between low_level high_level r.levels → not b ≡ true → false ≡ valid r
not-valid_levels r b e n =
    decided (valid r)
    (λ h.
    let l = (valid_tell r h).levels_length in
    false≢true (sym (not-true b n) ∙ (e ∙ all_between_lem low_level high_level r.levels (λ i q. and_right (value_in r i) _ ((valid_tell r h).pairs i (omega arith))))))

-- the parameters' fields, by values and levels
pairs_all : (r : Record) (n : ℕ) → ValuesIn r n → n ≤ length r.levels → all_between low_level high_level r.levels ≡ true → all_in r (parameter_fields n) ≡ true
unfolding all_in
pairs_all r zero v l h = refl
pairs_all r (suc n) v l h =
    rw add-one at (pairs_more r n) ∙ and_yes (all_in r (parameter_fields n)) (pair_in r n)
    (pairs_all r n (record { each = λ i q. v.each i (omega arith) }) (omega arith) h)
    (and_yes (value_in r n) _ (v.each n (omega arith)) (between_at low_level high_level r.levels n h (omega arith)))

pub valid_all : (r : Record) (a b : Bool) (p : ℕ) → length r.values ≡ parameter_count → length r.levels ≡ parameter_count
    → a ≡ all_in r scalar_fields → not a ≡ false → b ≡ all_between low_level high_level r.levels → not b ≡ false → ValuesIn r p → parameter_count ≤ p → true ≡ valid r
unfolding valid
valid_all r a b p v l e n f m h q =
    let values : ValuesIn r parameter_count = record { each = λ i j. h.each i (omega arith) } in
    sym
    (and_yes (full_length r) (all_in r (fields_for parameter_count))
    (and_yes (eqb (length r.values) parameter_count) (eqb (length r.levels) parameter_count) (eq-eqb _ _ v) (eq-eqb _ _ l))
    (fields_split r parameter_count ∙ and_yes (all_in r scalar_fields) (all_in r (parameter_fields parameter_count)) (sym e ∙ not-false a n)
    (pairs_all r parameter_count values (omega arith) (sym f ∙ not-false b m))))
