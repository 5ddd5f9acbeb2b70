-- Document 02, L8: week totals, "to the last digit".
use Rattle.std.specs.Prelude.{ℕ, zero, suc, ◌+◌, ◌*◌, Bool, true, false, ◌&&◌, List, [], ◌∷◌, eqb, leb, length, replicate, Result, Ok, Err}
use Rattle.base.specs.Test.{pick, unless}
use Rattle.base.specs.Lists.{over}
use Rattle.state.specs.declared.ParameterKind.TheVariants.{Factor}
use Rattle.state.specs.Parameter.{recipes, kind_range}
use Rattle.state.specs.Field.{recipe, raw, field_range}
use Rattle.state.specs.Valid.{within}
use Rattle.totalling.specs.declared.Refusal.{Refusal}
use Rattle.totalling.specs.declared.Refusal.TheVariants as refusal
use Rattle.totalling.specs.declared.Totals.{Totals}

-- ---- "Over a lent list of raw volumes, one of factors and one of recipes": what stands at one place of the three is a batch's
pub record Entry : Type 0 where
  pub raw : ℕ
  pub factor : ℕ
  pub recipe : ℕ

abbrev pub entry : ℕ → ℕ → ℕ → Entry
entry v f r = record { raw = v; factor = f; recipe = r }

unfoldable pub entries : List ℕ → List ℕ → List ℕ → List Entry
entries [] fs rs = []
entries (v ∷ vs) [] rs = []
entries (v ∷ vs) (f ∷ fs) [] = []
entries (v ∷ vs) (f ∷ fs) (r ∷ rs) = entry v f r ∷ entries vs fs rs

-- ---- "the sum of raw times factor": in ten-thousandths of a unit, since a factor of 10,000 is 1
abbrev pub amount : Entry → ℕ
amount e = e.raw * e.factor

-- "the number of batches": each is one
abbrev pub one : Entry → ℕ
one e = 1

-- a number of each entry, added up
unfoldable pub sum_over : (Entry → ℕ) → List Entry → ℕ
sum_over f [] = 0
sum_over f (e ∷ es) = f e + sum_over f es

-- the number of an entry of this recipe, and 0 of any other
abbrev pub of_recipe : ℕ → (Entry → ℕ) → Entry → ℕ
of_recipe r f e = pick (eqb e.recipe r) (f e) 0

-- a number for each of n recipes from r on
unfoldable pub table : (ℕ → ℕ) → ℕ → ℕ → List ℕ
table f r zero = []
table f r (suc n) = f r ∷ table f (suc r) n

-- "for each recipe", 1 first
abbrev pub by_recipe : (Entry → ℕ) → List Entry → List ℕ
by_recipe f es = table (λ r. sum_over (of_recipe r f) es) 1 recipes

-- numbers added up: "The eight sums add up to the sum over all batches"
unfoldable pub added : List ℕ → ℕ
added [] = 0
added (x ∷ xs) = x + added xs

-- ---- "of equal length up to 1,000"
abbrev pub most : ℕ
most = 1000

abbrev pub equal_lengths : List ℕ → List ℕ → List ℕ → Bool
equal_lengths vs fs rs = eqb (length vs) (length fs) && eqb (length vs) (length rs)

-- "a recipe, factor or raw"
unfoldable pub in_range : Entry → Bool
in_range e = within (field_range recipe) e.recipe && (within (kind_range Factor) e.factor && within (field_range raw) e.raw)

unfoldable pub all_in_range : List Entry → Bool
all_in_range [] = true
all_in_range (e ∷ es) = in_range e && all_in_range es

-- ---- n of Wn, 0 where nothing is refused; the sums and the numbers, recipe 1 first
pub record Outcome : Type 0 where
  pub refused : ℕ
  pub sums : List ℕ
  pub counts : List ℕ

abbrev pub outcome : ℕ → List ℕ → List ℕ → Outcome
outcome n ss cs = record { refused = n; sums = ss; counts = cs }

-- "all sums and numbers are then 0"
abbrev pub zeros : List ℕ
zeros = replicate recipes 0

abbrev pub refused_by : ℕ → Outcome
refused_by n = outcome n zeros zeros

abbrev pub added_up : List Entry → Outcome
added_up es = outcome 0 (by_recipe amount es) (by_recipe one es)

-- "Refusals, in order: W1 unequal lengths, W2 over 1,000, W3 a recipe, factor or raw out of range"
unfoldable pub totals_of : List ℕ → List ℕ → List ℕ → Outcome
totals_of vs fs rs =
    unless (equal_lengths vs fs rs) (refused_by 1)
    (unless (leb (length vs) most) (refused_by 2)
    (unless (all_in_range (entries vs fs rs)) (refused_by 3)
    (added_up (entries vs fs rs))))

-- ---- sums and numbers handed out: over the start of two buffers, the rest of which stays, if both have room for all
abbrev pub room_for : List ℕ → List ℕ → Bool
room_for so co = leb recipes (length so) && leb recipes (length co)

unfoldable pub laid_in : List ℕ → List ℕ → List ℕ → List ℕ → Bool × (List ℕ × List ℕ)
laid_in ss cs so co = unless (room_for so co) (false, (so, co)) (true, (over ss so, over cs co))

-- ---- the code's answer as document 02 numbers it
abbrev pub refusal_number : Refusal → ℕ
refusal_number refusal.UnequalLengths = 1
refusal_number refusal.TooMany = 2
refusal_number refusal.OutOfRange = 3

abbrev pub totals_as : Result Totals Refusal → Outcome
totals_as (Ok t) = outcome 0 t.sums t.counts
totals_as (Err why) = refused_by (refusal_number why)
