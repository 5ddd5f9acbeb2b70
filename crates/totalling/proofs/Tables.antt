-- Laws of a number for each recipe. Assumes nothing.
use Prim.Native.Nat.{ℕ, zero, suc, ◌+◌, ◌≤◌, ◌<◌}
use mathlib.Core.Path.{◌≡◌, refl, sym, ap, ◌∙◌}
use mathlib.Core.List.{List, ◌∷◌}
use native.Mathlib.Omega.{arith}
use lib.Dec.{eqb}
use lib.ListN.{get_or, set}
use borrow.Author.Tests.{eq-eqb, ne_eqb}
use Rattle.base.specs.Test.{pick}
use Rattle.totalling.specs.Totals.{table}

-- the number of the recipe that comes i places behind the first
pub table_at : (f : ℕ → ℕ) (r n i : ℕ) → i < n → get_or (table f r n) i 0 ≡ f (r + i)
unfolding table
table_at f r zero i h = absurd (omega arith)
table_at f r (suc n) zero h = ap f (omega arith)
table_at f r (suc n) (suc i) h = table_at f (suc r) n i (omega arith) ∙ ap f (omega arith)

pub table_same : (f g : ℕ → ℕ) (r n : ℕ) → ((q : ℕ) → r ≤ q → f q ≡ g q) → table f r n ≡ table g r n
unfolding table
table_same f g r zero h = refl
table_same f g r (suc n) h =
    ap (λ (x : ℕ). x ∷ table f (suc r) n) (h r (omega arith)) ∙ ap (λ (xs : List ℕ). g r ∷ xs) (table_same f g (suc r) n (λ q l. h q (omega arith)))

-- ---- one number more at one recipe
one_here : (k q x : ℕ) → k ≡ q → pick (eqb k q) x 0 ≡ x
one_here k q x e = simp (eq-eqb k q e)

one_elsewhere : (k q x : ℕ) → (k ≡ q → ⊥) → pick (eqb k q) x 0 ≡ 0
one_elsewhere k q x h = simp (ne_eqb k q h)

pub table_more : (f : ℕ → ℕ) (x r n i : ℕ) → i < n
    → set (table f r n) i (get_or (table f r n) i 0 + x) ≡ table (λ q. f q + pick (eqb (r + i) q) x 0) r n
unfolding table
table_more f x r zero i h = absurd (omega arith)
table_more f x r (suc n) zero h =
    ap (λ (y : ℕ). (f r + y) ∷ table f (suc r) n) (sym (one_here (r + 0) r x (omega arith)))
    ∙ ap (λ (xs : List ℕ). (f r + pick (eqb (r + 0) r) x 0) ∷ xs)
    (table_same f (λ q. f q + pick (eqb (r + 0) q) x 0) (suc r) n
    (λ q l. omega (arith, one_elsewhere (r + 0) q x (λ e. omega arith))))
table_more f x r (suc n) (suc i) h =
    ap (λ (xs : List ℕ). f r ∷ xs) (table_more f x (suc r) n i (omega arith))
    ∙ (ap (λ (k : ℕ). f r ∷ table (λ q. f q + pick (eqb k q) x 0) (suc r) n) (omega arith)
    ∙ ap (λ (y : ℕ). y ∷ table (λ q. f q + pick (eqb (r + suc i) q) x 0) (suc r) n)
    (omega (arith, one_elsewhere (r + suc i) r x (λ e. omega arith))))
