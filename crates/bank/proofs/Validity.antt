-- When a bank is valid. Assumes nothing.
use Prim.Native.Nat.{◌≤◌, ◌<◌}
use mathlib.Core.Bool.{Bool, true, false, ◌&&◌}
use mathlib.Core.Path.{◌≡◌, refl, sym}
use mathlib.Core.List.{List}
use lib.Dec.{eqb}
use lib.ListN.{length}
use borrow.Author.Tests.{le-leb, lt-leb, eq-eqb}
use Rattle.std.specs.List.{list_all}
use Rattle.std.proofs.lemmas.List.Recursion.{same_from_clauses}
use Rattle.bank.specs.declared.Batch.{Batch}
use Rattle.bank.specs.declared.Bank.{Bank}
use Rattle.bank.specs.Bank.{most, batch_valid, all_valid, batches_in, valid}

all_valid_is : (bs : List Batch) → list_all batch_valid bs ≡ all_valid bs
unfolding all_valid
all_valid_is = same_from_clauses (list_all batch_valid) all_valid (λ b r. batch_valid b && r) refl (λ _ _. refl) (λ _ _. refl)

pub valid_few : (k : Bank) → length k.batches ≡ most → k.count ≤ most → list_all batch_valid (batches_in k) ≡ valid k
unfolding valid
valid_few k l h = sym (simp (eq-eqb _ _ l, le-leb _ _ h) (sym (all_valid_is (batches_in k))))

-- one that counts too many is not
pub valid_long : (k : Bank) → most < k.count → false ≡ valid k
unfolding valid
valid_long k h = sym (simp (lt-leb _ _ h) (never (eqb (length k.batches) most)))
  where
    never : (a : Bool) → (a && false) ≡ false
    never true = refl
    never false = refl
