-- Laws of the steps: what the returns of the private functions give. Assumes nothing.
use Prim.Native.Nat.{ℕ, suc, ◌+◌, ◌-◌, ◌≤◌, ◌<◌}
use mathlib.Core.Bool.{Bool, true, false, not, ◌&&◌, ◌||◌}
use mathlib.Core.Path.{◌≡◌, refl, sym, ap, ◌∙◌}
use mathlib.Core.List.{List, [], ◌∷◌}
use native.Mathlib.Omega.{arith}
use native.Mathlib.Numerals.{add-one}
use lib.Dec.{eqb}
use lib.ListN.{length, take, drop, get_or, length-drop, length-map, get_or-map, drop_of_length-le}
use lib.Seq.{drop-cons, take_all}
use Rattle.std.proofs.lemmas.List.{drop-map}
use Rattle.std.specs.List.{list_all, list_any}
use Rattle.base.specs.Test.{all_distinct, member}
use Rattle.state.specs.declared.Record.{Record}
use Rattle.state.specs.Field.{address, get}
use Rattle.state.specs.Valid.{valid}
use Rattle.board.specs.Board.{all_valid, addresses}

-- ---- the tests of the list
pub all_valid-list : (rs : List Record) → list_all valid rs ≡ all_valid rs
unfolding all_valid
all_valid-list [] = refl
all_valid-list (r ∷ rs) = ap (λ (b : Bool). valid r && b) (all_valid-list rs)

pub member-list : (a : ℕ) (rs : List Record) → list_any (λ (r : Record). eqb a r.address) rs ≡ member a (addresses rs)
member-list a [] = refl
member-list a (r ∷ rs) = ap (λ (b : Bool). eqb a r.address || b) (member-list a rs)

-- ---- distinct: what is left from place i on; d is past the end
module _ (rs : List Record) (i : ℕ) where
  abbrev left : List ℕ
  left = drop i (addresses rs)

  step : (d : Record) → i < length rs → (b : Bool) → b ≡ member (get_or rs i d).address (addresses (take (length rs - (i + 1)) (drop (i + 1) rs)))
      → all_distinct (addresses rs) ≡ all_distinct left → all_distinct (addresses rs) ≡ (not b && all_distinct (drop (suc i) (addresses rs)))
  unfolding all_distinct
  step d h b e p =
      let whole : take (length rs - (i + 1)) (drop (i + 1) rs) ≡ drop (suc i) rs =
      take_all (length rs - (i + 1)) (drop (i + 1) rs) (simp length-drop (omega arith)) ∙ ap (λ (j : ℕ). drop j rs) (add-one i) in
      let n = length-map rs (get address) in
      p ∙ (ap all_distinct (drop-cons (addresses rs) i d.address (omega arith)) ∙
      (ap (λ (y : ℕ). not (member y (drop (suc i) (addresses rs))) && all_distinct (drop (suc i) (addresses rs))) (get_or-map (get address) rs i d) ∙
      ap (λ (t : Bool). not t && all_distinct (drop (suc i) (addresses rs)))
      (sym (e ∙ ap (member (get_or rs i d).address) (ap addresses whole ∙ sym (drop-map (get address) (suc i) rs))))))

  pub distinct_found : (d : Record) → i < length rs → (b : Bool) → b ≡ member (get_or rs i d).address (addresses (take (length rs - (i + 1)) (drop (i + 1) rs))) → b ≡ true
      → all_distinct (addresses rs) ≡ all_distinct left → false ≡ all_distinct (addresses rs)
  distinct_found d h b e t p = sym (step d h b e p ∙ ap (λ (z : Bool). not z && all_distinct (drop (suc i) (addresses rs))) t)

  pub distinct_turn : (d : Record) → i < length rs → (b : Bool) → b ≡ member (get_or rs i d).address (addresses (take (length rs - (i + 1)) (drop (i + 1) rs))) → b ≡ false
      → all_distinct (addresses rs) ≡ all_distinct left → all_distinct (addresses rs) ≡ all_distinct (drop (i + 1) (addresses rs))
  distinct_turn d h b e t p =
      step d h b e p ∙ (ap (λ (z : Bool). not z && all_distinct (drop (suc i) (addresses rs))) t ∙ ap (λ (j : ℕ). all_distinct (drop j (addresses rs))) (sym (add-one i)))

  pub distinct_end : length rs ≤ i → all_distinct (addresses rs) ≡ all_distinct left → true ≡ all_distinct (addresses rs)
  unfolding all_distinct
  distinct_end h p = let n = length-map rs (get address) in sym (p ∙ ap all_distinct (drop_of_length-le (addresses rs) {i = i} (omega arith)))
