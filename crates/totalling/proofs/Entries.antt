-- Laws of the batches at the places of three lists, of their ranges and of their sums. Assumes nothing.
use Prim.Native.Nat.{ℕ, zero, suc, ◌+◌, ◌-◌, ◌*◌, ◌^◌, ◌≤◌, ◌<◌}
use mathlib.Core.Bool.{Bool, true, false, ◌&&◌}
use mathlib.Core.Path.{◌≡◌, refl, ap}
use mathlib.Core.List.{List, [], ◌∷◌, ◌++◌}
use native.Mathlib.Nat.{mul-le-mul}
use native.Mathlib.Omega.{arith}
use lib.Dec.{eqb}
use lib.ListN.{length, get_or}
use Rattle.base.specs.Test.{pick}
use Rattle.base.proofs.Tests.{and_left, and_right, between_low, between_high}
use Rattle.state.specs.declared.ParameterKind.TheVariants.{Factor}
use Rattle.state.specs.Parameter.{recipes, kind_range}
use Rattle.state.specs.Field.{recipe, raw, field_range}
use Rattle.state.specs.Valid.{within}
use Rattle.totalling.specs.Totals.{Entry, entry, entries, amount, sum_over, of_recipe, in_range, all_in_range}

-- ---- the entries of lists of equal length
abbrev pub no_entry : Entry
no_entry = entry 0 0 0

pub entries-length : (vs fs rs : List ℕ) → length vs ≡ length fs → length vs ≡ length rs → length (entries vs fs rs) ≡ length vs
unfolding entries
entries-length [] fs rs f r = refl
entries-length (v ∷ vs) [] rs f r = absurd (omega arith)
entries-length (v ∷ vs) (f₀ ∷ fs) [] f r = absurd (omega arith)
entries-length (v ∷ vs) (f₀ ∷ fs) (r₀ ∷ rs) f r = ap suc (entries-length vs fs rs (omega arith) (omega arith))

pub entries_at : (vs fs rs : List ℕ) (i : ℕ) → length vs ≡ length fs → length vs ≡ length rs → i < length vs
    → get_or (entries vs fs rs) i no_entry ≡ entry (get_or vs i 0) (get_or fs i 0) (get_or rs i 0)
unfolding entries
entries_at [] fs rs i f r h = absurd (omega arith)
entries_at (v ∷ vs) [] rs i f r h = absurd (omega arith)
entries_at (v ∷ vs) (f₀ ∷ fs) [] i f r h = absurd (omega arith)
entries_at (v ∷ vs) (f₀ ∷ fs) (r₀ ∷ rs) zero f r h = refl
entries_at (v ∷ vs) (f₀ ∷ fs) (r₀ ∷ rs) (suc i) f r h = entries_at vs fs rs i (omega arith) (omega arith) (omega arith)

-- ---- sums and ranges of entries that are joined
pub sum_joined : (f : Entry → ℕ) (xs ys : List Entry) → sum_over f (xs ++ ys) ≡ sum_over f xs + sum_over f ys
unfolding sum_over
sum_joined f [] ys = omega arith
sum_joined f (x ∷ xs) ys = omega (arith, sum_joined f xs ys)

pub sum-last : (f : Entry → ℕ) (xs : List Entry) (e : Entry) → sum_over f (xs ++ (e ∷ [])) ≡ sum_over f xs + f e
unfolding sum_over
sum-last f xs e = omega (arith, sum_joined f xs (e ∷ []))

pub ranges_joined : (xs ys : List Entry) → all_in_range (xs ++ ys) ≡ (all_in_range xs && all_in_range ys)
unfolding all_in_range
ranges_joined [] ys = refl
ranges_joined (x ∷ xs) ys = go (in_range x) (ranges_joined xs ys)
  where
    go : (a : Bool) → all_in_range (xs ++ ys) ≡ (all_in_range xs && all_in_range ys) → (a && all_in_range (xs ++ ys)) ≡ ((a && all_in_range xs) && all_in_range ys)
    go true e = e
    go false e = refl

-- ---- what the ranges tell: no amount is more than the highest raw volume with the highest factor
abbrev pub most_amount : ℕ
most_amount = (field_range raw).high * (kind_range Factor).high

pub record Ranged (e : Entry) : Type 0 where
  pub recipe_low : 1 ≤ e.recipe
  pub recipe_high : e.recipe ≤ recipes
  pub amount_high : amount e ≤ most_amount

module _ (e : Entry) where
  abbrev recipe_in : Bool
  recipe_in = within (field_range recipe) e.recipe

  abbrev factor_in : Bool
  factor_in = within (kind_range Factor) e.factor

  abbrev raw_in : Bool
  raw_in = within (field_range raw) e.raw

  pub ranged : in_range e ≡ true → Ranged e
  unfolding in_range
  ranged h =
      let r : recipe_in ≡ true = and_left recipe_in (factor_in && raw_in) h in
      let q : (factor_in && raw_in) ≡ true = and_right recipe_in (factor_in && raw_in) h in
      let f : e.factor ≤ (kind_range Factor).high = between_high (kind_range Factor).low (kind_range Factor).high e.factor (and_left factor_in raw_in q) in
      let v : e.raw ≤ (field_range raw).high = between_high (field_range raw).low (field_range raw).high e.raw (and_right factor_in raw_in q) in
      record { recipe_low = between_low 1 recipes e.recipe r; recipe_high = between_high 1 recipes e.recipe r; amount_high = mul-le-mul v f }

-- ---- how high a sum is
of_recipe_high : (r : ℕ) (f : Entry → ℕ) (e : Entry) (m : ℕ) → f e ≤ m → of_recipe r f e ≤ m
of_recipe_high r f e m h = go (eqb e.recipe r)
  where
    go : (b : Bool) → pick b (f e) 0 ≤ m
    go true = h
    go false = omega arith

pub sum_high : (r : ℕ) (f : Entry → ℕ) (m : ℕ) → ((e : Entry) → in_range e ≡ true → f e ≤ m) → (es : List Entry) → all_in_range es ≡ true
    → sum_over (of_recipe r f) es ≤ length es * m
unfolding sum_over all_in_range
sum_high r f m h [] a = omega arith
sum_high r f m h (e ∷ es) a =
    omega (arith, of_recipe_high r f e m (h e (and_left (in_range e) (all_in_range es) a)), sum_high r f m h es (and_right (in_range e) (all_in_range es) a))

-- the product of two numbers of 32 bits has 64
pub product_fits : (a b : ℕ) → a < 2 ^ 32 → b < 2 ^ 32 → a * b < 2 ^ 64
product_fits a b h k =
    let x : a ≤ 2 ^ 32 - 1 = omega arith in
    let y : b ≤ 2 ^ 32 - 1 = omega arith in
    let m : a * b ≤ (2 ^ 32 - 1) * (2 ^ 32 - 1) = mul-le-mul x y in omega arith
