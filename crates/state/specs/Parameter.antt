-- Document 01, "The controller's record": the parameters, their codes and their ranges; and 02, L3: what a code's digits say.
use Rattle.std.specs.Prelude.{ℕ, zero, suc, ◌+◌, ◌-◌, ◌*◌, ◌/◌, ◌%◌, ◌≤◌, ◌≡◌, Option, Some, None, List, [], ◌∷◌, ◌++◌, map, eqb, get_or}
use Rattle.state.specs.declared.ParameterKind.{ParameterKind}
use Rattle.state.specs.declared.ParameterKind.TheVariants.{Share, Factor, LowFlow}
use Rattle.state.specs.declared.Range.{Range}
use Rattle.base.specs.Test.{pick, between}

-- the number of recipes
abbrev pub recipes : ℕ
recipes = 8

-- the parameters by name
pub data Parameter : Type 0 where
  of_recipe : ℕ → ParameterKind → Parameter
  start_wait time_out stop_quantity high_flow units date_style pulses_per_unit copies : Parameter

-- "For recipe r: 10r+1 share ..; 10r+2 factor ..; 10r+3 low flow .."; "System: 801 start wait .. 808 copies"
abbrev pub code_of : Parameter → ℕ
code_of (of_recipe r Share) = 10 * r + 1
code_of (of_recipe r Factor) = 10 * r + 2
code_of (of_recipe r LowFlow) = 10 * r + 3
code_of start_wait = 801
code_of time_out = 802
code_of stop_quantity = 803
code_of high_flow = 804
code_of units = 805
code_of date_style = 806
code_of pulses_per_unit = 807
code_of copies = 808

-- low to high
abbrev pub range : ℕ → ℕ → Range
range l h = record { low = l; high = h }

-- a recipe's parameter has the range of its kind, whatever the recipe
abbrev pub kind_range : ParameterKind → Range
kind_range Share = range 0 10000
kind_range Factor = range 8000 12000
kind_range LowFlow = range 1 9999

abbrev pub range_of : Parameter → Range
range_of (of_recipe r k) = kind_range k
range_of start_wait = range 0 99
range_of time_out = range 0 999
range_of stop_quantity = range 0 9999
range_of high_flow = range 1 9999
range_of units = range 0 3
range_of date_style = range 0 1
range_of pulses_per_unit = range 1 99999
range_of copies = range 0 9

-- ---- the list, in rising code; a parameter's place in it counts from 0
abbrev pub kinds : List ParameterKind
kinds = Share ∷ Factor ∷ LowFlow ∷ []

-- the parameters of recipes 1 to n
abbrev pub recipe_parameters : ℕ → List Parameter
recipe_parameters zero = []
recipe_parameters (suc n) = recipe_parameters n ++ map (of_recipe (suc n)) kinds

abbrev pub system_parameters : List Parameter
system_parameters = start_wait ∷ time_out ∷ stop_quantity ∷ high_flow ∷ units ∷ date_style ∷ pulses_per_unit ∷ copies ∷ []

-- the parameters with n recipes
abbrev pub parameters_for : ℕ → List Parameter
parameters_for n = recipe_parameters n ++ system_parameters

-- "32 parameters"
abbrev pub parameter_count : ℕ
parameter_count = 3 * recipes + 8

-- the code and the range of the parameter at place i; beyond the last place 0, and 0 to 0
unfoldable pub code_at : ℕ → ℕ
code_at i = get_or (map code_of (parameters_for recipes)) i 0

abbrev pub range_in : List Parameter → ℕ → Range
range_in ps i = get_or (map range_of ps) i (range 0 0)

unfoldable pub range_at : ℕ → Range
range_at i = range_in (parameters_for recipes) i

-- the place of the parameter with code c
abbrev pub later : Option ℕ → Option ℕ
later (Some i) = Some (i + 1)
later None = None

unfoldable pub place_in : ℕ → List Parameter → Option ℕ
place_in c [] = None
place_in c (p ∷ ps) = pick (eqb (code_of p) c) (Some 0) (later (place_in c ps))

unfoldable pub place_of : ℕ → Option ℕ
place_of c = place_in c (parameters_for recipes)

-- ---- 02, L3: "For the recipe codes let the arithmetic of the code decide ..: tens for the recipe and units for the kind"

-- what the units u name of recipe r
abbrev pub by_units : ℕ → ℕ → Option (ℕ × ParameterKind)
by_units r u = pick (eqb u 1) (Some (r, Share)) (pick (eqb u 2) (Some (r, Factor)) (pick (eqb u 3) (Some (r, LowFlow)) None))

-- what code c names with n recipes
unfoldable pub by_digits : ℕ → ℕ → Option (ℕ × ParameterKind)
by_digits n c = pick (between 1 n (c / 10)) (by_units (c / 10) (c % 10)) None

-- a recipe has three places, in the order of the kinds
abbrev pub kind_place : ParameterKind → ℕ
kind_place Share = 0
kind_place Factor = 1
kind_place LowFlow = 2

abbrev pub recipe_place : ℕ → ParameterKind → ℕ
recipe_place r k = 3 * (r - 1) + kind_place k

abbrev pub digits_place : Option (ℕ × ParameterKind) → Option ℕ
digits_place (Some (r, k)) = Some (recipe_place r k)
digits_place None = None

-- the place of code c with n recipes, without the list: 801 to 808 are matched
abbrev pub place_by : ℕ → ℕ → Option ℕ
place_by n c = pick (between 801 808 c) (Some (3 * n + (c - 801))) (digits_place (by_digits n c))

-- "that it gives a recipe's parameter exactly where document 01 lists one, with the same place and range": code c with n recipes
pub record Ruled (n c : ℕ) : Type 0 where
  pub given : (r : ℕ) (k : ParameterKind) → 1 ≤ r → r ≤ n → code_of (of_recipe r k) ≡ c → by_digits n c ≡ Some (r, k)
  pub listed : (r : ℕ) (k : ParameterKind) → by_digits n c ≡ Some (r, k) → (1 ≤ r) × (r ≤ n) × (code_of (of_recipe r k) ≡ c)
  pub same_place : place_in c (parameters_for n) ≡ place_by n c
  pub same-range : (r : ℕ) (k : ParameterKind) → by_digits n c ≡ Some (r, k) → range_in (parameters_for n) (recipe_place r k) ≡ kind_range k
