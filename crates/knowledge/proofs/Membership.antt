-- Whether a field's set has a number, by the field's position: the range and the kind of the field that stands there, as the code finds
-- them, and what each way through the code answers. Assumes nothing.
use Prim.Native.Nat.{ℕ, ◌-◌, ◌/◌, ◌%◌, ◌^◌, ◌≤◌, ◌<◌}
use mathlib.Core.Bool.{Bool, true, false, not}
use mathlib.Core.Path.{◌≡◌, refl, sym, ap, ◌∙◌}
use mathlib.Core.List.{map}
use native.Mathlib.Omega.{arith}
use lib.Dec.{eqb}
use lib.ListN.{get_or}
use borrow.Author.Tests.{eq-eqb, ne_eqb, lt-ltb, le-ltb, not-true, not-false}
use Rattle.base.specs.Test.{pick, between}
use Rattle.base.proofs.Tests.{between_high}
use Rattle.state.specs.declared.Range.{Range}
use Rattle.state.specs.Parameter.{range, range_at}
use Rattle.state.specs.Field.{Field, phase, recipe, alarms, value, level, position, field_at, field_count, field_range, scalar_fields, scalar_count, Held}
use Rattle.state.specs.Valid.{within}
use Rattle.state.proofs.Fields.{field_at_lem, scalar_at, by_list}
use Rattle.knowledge.specs.Sets.{Kind, several, single, alarmed, kind_of, any_number, in_set, has}
use Rattle.knowledge.specs.Knowledge.{may_hold}
use Rattle.knowledge.proofs.Bits.{bit_shifted}
use Rattle.knowledge.proofs.Codes.{small}

-- by position and by field is the same
pub may_hold-field : (f : Field) → Held f → (c n : ℕ) → may_hold (position f) c n ≡ has f c n
unfolding may_hold
may_hold-field f held c n = simp (lt-ltb _ _ held, field_at_lem f)

-- ---- the range of the field at a position

-- the table of those of all fields but the parameters'
abbrev table_range : ℕ → Range
table_range p = get_or (map field_range scalar_fields) p (range 0 0)

module _ (p : ℕ) where
  pub range_scalar : p < scalar_count → table_range p ≡ field_range (field_at p)
  unfolding field_at
  range_scalar l = simp (lt-ltb _ _ l) (ap table_range (sym (scalar_at p l)) ∙ by_list (λ (f : Field). table_range (position f)) field_range refl p)

  module _ (l : scalar_count ≤ p) where
    pub range-value : (p - scalar_count) % 2 ≡ 0 → (r : Range) → r ≡ range_at ((p - scalar_count) / 2) → r ≡ field_range (field_at p)
    unfolding field_at
    range-value e r given = given ∙ simp (le-ltb _ _ l, eq-eqb _ _ e)

    pub range-level : ((p - scalar_count) % 2 ≡ 0 → ⊥) → field_range (level 0) ≡ field_range (field_at p)
    unfolding field_at
    range-level o = simp (le-ltb _ _ l, ne_eqb _ _ o)

  -- ---- the kind of the field at a position
  pub kind_scalar : (p ≡ position alarms → ⊥) → p < scalar_count → pick (between (position phase) (position recipe) p) several single ≡ kind_of (field_at p)
  unfolding field_at
  kind_scalar other l =
      simp (lt-ltb _ _ l)
      (sym (simp (ne_eqb _ _ other)) ∙ (ap kind_at (sym (scalar_at p l)) ∙ by_list (λ (f : Field). kind_at (position f)) kind_of refl p))
    where
      kind_at : ℕ → Kind
      kind_at q = pick (eqb q (position alarms)) alarmed (pick (between (position phase) (position recipe) q) several single)

  pub kind-parameter : scalar_count ≤ p → pick (not (eqb ((p - scalar_count) % 2) 0)) several single ≡ kind_of (field_at p)
  unfolding field_at
  kind-parameter l = simp (le-ltb _ _ l) (go ((p - scalar_count) / 2) (eqb ((p - scalar_count) % 2) 0))
    where
      go : (i : ℕ) (b : Bool) → pick (not b) several single ≡ kind_of (pick b (value i) (level i))
      go i true = refl
      go i false = refl

-- ---- the answers
module _ (p c n : ℕ) where
  pub hold_beyond : field_count ≤ p → false ≡ may_hold p c n
  unfolding may_hold
  hold_beyond l = simp (le-ltb _ _ l)

  module _ (l : p < field_count) where
    pub hold_alarms : p ≡ position alarms → (b : Bool) → b ≡ has alarms c n → b ≡ may_hold p c n
    hold_alarms e b h = h ∙ (sym (may_hold-field alarms (omega arith) c n) ∙ ap (λ (q : ℕ). may_hold q c n) (sym e))

    module _ (r : Range) (given : r ≡ field_range (field_at p)) (b : Bool) (inside : b ≡ within r n) where
      hold_by : b ≡ within (field_range (field_at p)) n
      hold_by = inside ∙ ap (λ (g : Range). within g n) given

      pub hold_outside : not b ≡ true → false ≡ may_hold p c n
      unfolding may_hold has
      hold_outside o = simp (lt-ltb _ _ l, ← hold_by, not-true b o)

      module _ (i : not b ≡ false) (mask : Bool) (kind : pick mask several single ≡ kind_of (field_at p)) where
        hold_in : (t : Bool) → t ≡ in_set (pick mask several single) c n → t ≡ may_hold p c n
        unfolding may_hold has
        hold_in t e = e ∙ simp (lt-ltb _ _ l, ← hold_by, not-false b i, kind)

        pub hold_limit : mask ≡ true → n < 32
        hold_limit m =
            let s = (small (field_at p) (sym kind ∙ ap (λ (t : Bool). pick t several single) m)).limit in
            let h = between_high (field_range (field_at p)).low (field_range (field_at p)).high n (sym hold_by ∙ not-false b i) in
            omega arith

        pub hold_mask : mask ≡ true → eqb (c / 2 ^ n % 2) 1 ≡ may_hold p c n
        hold_mask m = hold_in (eqb (c / 2 ^ n % 2) 1) (bit_shifted n c ∙ simp m)

        pub hold_any : mask ≡ false → c ≡ any_number → eqb c any_number ≡ may_hold p c n
        hold_any m e = hold_in (eqb c any_number) (simp (m, eq-eqb _ _ e))

        pub hold_number : mask ≡ false → (c ≡ any_number → ⊥) → eqb c n ≡ may_hold p c n
        hold_number m e = hold_in (eqb c n) (simp (m, ne_eqb _ _ e))

pub ruleset ranging = (range_scalar, range-value, range-level)

pub ruleset masking = (kind_scalar, kind-parameter)

pub ruleset holding = (hold_beyond, hold_alarms, hold_outside, hold_limit, hold_mask, hold_any, hold_number)
