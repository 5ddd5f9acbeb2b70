-- The order of the batches does not matter. Assumes nothing.
use Prim.Native.Nat.{ℕ}
use mathlib.Core.Bool.{Bool, ◌&&◌, Bool-set}
use mathlib.Core.Path.{◌≡◌, refl, ap, ◌∙◌}
use mathlib.Core.List.{List, Perm, Permᴰ}
use mathlib.Core.Logic.{∥∥₁_elim}
use native.Mathlib.Nat.{ℕ_set}
use native.Mathlib.Omega.{arith}
use Rattle.base.proofs.Tests.{and-exchanged}
use Rattle.totalling.specs.Totals.{Entry, sum_over, in_range, all_in_range}

sum_moved : (f : Entry → ℕ) (xs ys : List Entry) → Permᴰ xs ys → sum_over f xs ≡ sum_over f ys
unfolding sum_over
sum_moved f xs ys Permᴰ.nil = refl
sum_moved f xs ys (Permᴰ.cons {a} {b} {l₁} {l₂} e d) = omega (arith, ap f e, sum_moved f l₁ l₂ d)
sum_moved f xs ys (Permᴰ.swap {a} {b} {a'} {b'} {l} e₁ e₂) = omega (arith, ap f e₁, ap f e₂)
sum_moved f xs ys (Permᴰ.trans {l₁} {l₂} {l₃} d₁ d₂) = sum_moved f xs l₂ d₁ ∙ sum_moved f l₂ ys d₂

ranges_moved : (xs ys : List Entry) → Permᴰ xs ys → all_in_range xs ≡ all_in_range ys
unfolding all_in_range
ranges_moved xs ys Permᴰ.nil = refl
ranges_moved xs ys (Permᴰ.cons {a} {b} {l₁} {l₂} e d) = ap (λ (x : Entry). in_range x && all_in_range l₁) e ∙ ap (λ (x : Bool). in_range b && x) (ranges_moved l₁ l₂ d)
ranges_moved xs ys (Permᴰ.swap {a} {b} {a'} {b'} {l} e₁ e₂) =
    and-exchanged (in_range a) (in_range b) (all_in_range l)
    ∙ (ap (λ (x : Entry). in_range x && (in_range a && all_in_range l)) e₂ ∙ ap (λ (x : Entry). in_range a' && (in_range x && all_in_range l)) e₁)
ranges_moved xs ys (Permᴰ.trans {l₁} {l₂} {l₃} d₁ d₂) = ranges_moved xs l₂ d₁ ∙ ranges_moved l₂ ys d₂

module _ (xs ys : List Entry) (p : Perm xs ys) where
  pub sum_any_order : (f : Entry → ℕ) → sum_over f xs ≡ sum_over f ys
  sum_any_order f = ∥∥₁_elim p (ℕ_set (sum_over f xs) (sum_over f ys)) (sum_moved f xs ys)

  pub ranges_any_order : all_in_range xs ≡ all_in_range ys
  ranges_any_order = ∥∥₁_elim p (Bool-set (all_in_range xs) (all_in_range ys)) (ranges_moved xs ys)
