-- Totals, computed on the definition that the promises cite. Assumes nothing.
use Rattle.std.specs.Prelude.{ℕ, ◌≡◌, refl, List, [], ◌∷◌, map, replicate}
use Rattle.totalling.specs.Totals.{entries, sum_over, table, in_range, all_in_range, Outcome, outcome, zeros, refused_by, totals_of}

pub record Example : Type 0 where
  pub raws : List ℕ
  pub factors : List ℕ
  pub recipes : List ℕ
  pub gives : Outcome

abbrev example : List ℕ → List ℕ → List ℕ → Outcome → Example
example vs fs rs o = record { raws = vs; factors = fs; recipes = rs; gives = o }

-- "one batch of recipe 3, factor 10150, raw 500"; two of recipe 8 at the ends of their ranges, and one of recipe 1 with nothing in it; W1 of
-- either list, before W3; W2 before W3; W3 of a recipe, of a factor, and of a raw volume that is not the first
abbrev pub examples : List Example
examples =
    example [] [] [] (outcome 0 zeros zeros)
    ∷ example (500 ∷ []) (10150 ∷ []) (3 ∷ []) (outcome 0 (0 ∷ 0 ∷ 5075000 ∷ 0 ∷ 0 ∷ 0 ∷ 0 ∷ 0 ∷ []) (0 ∷ 0 ∷ 1 ∷ 0 ∷ 0 ∷ 0 ∷ 0 ∷ 0 ∷ []))
    ∷ example (99999999 ∷ 0 ∷ 3 ∷ []) (8000 ∷ 12000 ∷ 12000 ∷ []) (8 ∷ 1 ∷ 8 ∷ []) (outcome 0 (0 ∷ 0 ∷ 0 ∷ 0 ∷ 0 ∷ 0 ∷ 0 ∷ 800000028000 ∷ []) (1 ∷ 0 ∷ 0 ∷ 0 ∷ 0 ∷ 0 ∷ 0 ∷ 2 ∷ []))
    ∷ example (500 ∷ 0 ∷ []) (10150 ∷ []) (9 ∷ 9 ∷ []) (refused_by 1)
    ∷ example (500 ∷ []) (10150 ∷ []) [] (refused_by 1)
    ∷ example (replicate 1001 0) (replicate 1001 0) (replicate 1001 0) (refused_by 2)
    ∷ example (500 ∷ []) (10150 ∷ []) (9 ∷ []) (refused_by 3)
    ∷ example (500 ∷ []) (7999 ∷ []) (3 ∷ []) (refused_by 3)
    ∷ example (500 ∷ 100000000 ∷ []) (10150 ∷ 10150 ∷ []) (3 ∷ 3 ∷ []) (refused_by 3)
    ∷ []

pub worked : map (λ e. totals_of e.raws e.factors e.recipes) examples ≡ map (λ e. e.gives) examples
unfolding totals_of entries all_in_range in_range table sum_over
worked = refl
