-- What each batch adds to the recipes' sums adds up over the recipes. Assumes nothing.
use Prim.Native.Nat.{ℕ, zero, suc, ◌+◌, ◌≤◌, ◌<◌}
use mathlib.Core.Bool.{true}
use mathlib.Core.Path.{◌≡◌, refl}
use mathlib.Core.List.{List, [], ◌∷◌}
use mathlib.Core.Logic.{⊎_elim}
use native.Mathlib.Nat.{eq-or-lt_of_le}
use native.Mathlib.Omega.{arith}
use lib.Dec.{eqb}
use lib.ListN.{length}
use borrow.Author.Tests.{eq-eqb, ne_eqb}
use Rattle.base.specs.Test.{pick}
use Rattle.base.proofs.Tests.{and_left, and_right}
use Rattle.state.specs.Parameter.{recipes}
use Rattle.totalling.specs.Totals.{Entry, one, sum_over, of_recipe, table, by_recipe, added, in_range, all_in_range}
use Rattle.totalling.proofs.Entries.{ranged}

added_zero : (r n : ℕ) → added (table (λ q. 0) r n) ≡ 0
unfolding added table
added_zero r zero = refl
added_zero r (suc n) = omega (arith, added_zero (suc r) n)

added_both : (f g : ℕ → ℕ) (r n : ℕ) → added (table (λ q. f q + g q) r n) ≡ added (table f r n) + added (table g r n)
unfolding added table
added_both f g r zero = refl
added_both f g r (suc n) = omega (arith, added_both f g (suc r) n)

-- what stands at one recipe alone
added_elsewhere : (k x r n : ℕ) → k < r → added (table (λ q. pick (eqb k q) x 0) r n) ≡ 0
unfolding added table
added_elsewhere k x r zero h = refl
added_elsewhere k x r (suc n) h = simp (ne_eqb k r (λ e. omega arith)) (omega (arith, added_elsewhere k x (suc r) n (omega arith)))

added_once : (k x r n : ℕ) → r ≤ k → k < r + n → added (table (λ q. pick (eqb k q) x 0) r n) ≡ x
unfolding added table
added_once k x r zero low high = absurd (omega arith)
added_once k x r (suc n) low high =
    ⊎_elim
    (λ (e : r ≡ k). simp (eq-eqb k r (omega arith)) (omega (arith, added_elsewhere k x (suc r) n (omega arith))))
    (λ (l : r < k). simp (ne_eqb k r (λ e. omega arith)) (omega (arith, added_once k x (suc r) n (omega arith) (omega arith))))
    (eq-or-lt_of_le low)

pub by_recipe_adds_up : (f : Entry → ℕ) (es : List Entry) → all_in_range es ≡ true → added (by_recipe f es) ≡ sum_over f es
unfolding sum_over all_in_range
by_recipe_adds_up f [] h = added_zero 1 recipes
by_recipe_adds_up f (e ∷ es) h =
    let i = ranged e (and_left (in_range e) (all_in_range es) h) in
    let a : added (by_recipe f es) ≡ sum_over f es = by_recipe_adds_up f es (and_right (in_range e) (all_in_range es) h) in
    let b : added (table (λ r. of_recipe r f e) 1 recipes) ≡ f e = added_once e.recipe (f e) 1 recipes i.recipe_low (let x = i.recipe_high in omega arith) in
    omega (arith, added_both (λ r. of_recipe r f e) (λ r. sum_over (of_recipe r f) es) 1 recipes)

pub ones : (es : List Entry) → sum_over one es ≡ length es
unfolding sum_over
ones [] = refl
ones (e ∷ es) = omega (arith, ones es)
