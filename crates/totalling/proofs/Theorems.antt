-- What is proved of the totals of any three lists. Assumes nothing.
use Prim.Native.Nat.{ℕ, zero, suc, ◌+◌, ◌-◌, ◌*◌, ◌^◌, ◌≤◌, ◌<◌}
use mathlib.Core.Bool.{Bool, true, false, ◌&&◌}
use mathlib.Core.Path.{◌≡◌, refl, sym, ap, ◌∙◌}
use mathlib.Core.List.{List, [], ◌∷◌, Perm}
use mathlib.Core.Logic.{◌↔◌}
use native.Mathlib.Omega.{arith}
use lib.Dec.{eqb, leb}
use lib.ListN.{length, get_or}
use borrow.Author.Tests.{eqb-true, leb-true}
use Rattle.base.specs.Test.{unless}
use Rattle.base.proofs.Tests.{and_left, and_right, and_yes}
use Rattle.base.proofs.FirstFailing.{FirstFailing, NoneFails, failing, failing_exactly, none_exactly}
use Rattle.state.specs.Parameter.{recipes}
use Rattle.totalling.specs.Totals.{Entry, entry, entries, amount, one, sum_over, of_recipe, by_recipe, added, most, equal_lengths, in_range, all_in_range, Outcome, refused_by, added_up, totals_of}
use Rattle.totalling.proofs.Tables.{table_same}
use Rattle.totalling.proofs.Entries.{no_entry, entries-length, entries_at, most_amount, ranged, sum_high}
use Rattle.totalling.proofs.Adding.{at_recipe}
use Rattle.totalling.proofs.AddUp.{by_recipe_adds_up, ones}
use Rattle.totalling.proofs.Order.{sum_any_order, ranges_any_order}

by_recipe-same : (f : Entry → ℕ) (xs ys : List Entry) → Perm xs ys → by_recipe f xs ≡ by_recipe f ys
by_recipe-same f xs ys p =
    table_same (λ r. sum_over (of_recipe r f) xs) (λ r. sum_over (of_recipe r f) ys) 1 recipes (λ r l. sum_any_order xs ys p (of_recipe r f))

-- the lengths are equal
lengths_so : (vs fs rs : List ℕ) → equal_lengths vs fs rs ≡ true → (length vs ≡ length fs) × (length vs ≡ length rs)
lengths_so vs fs rs a = (
  eqb-true (length vs) (length fs) (and_left (eqb (length vs) (length fs)) (eqb (length vs) (length rs)) a),
  eqb-true (length vs) (length rs) (and_right (eqb (length vs) (length fs)) (eqb (length vs) (length rs)) a),
)

equal-length : (vs fs rs : List ℕ) → equal_lengths vs fs rs ≡ true → length (entries vs fs rs) ≡ length vs
equal-length vs fs rs a = let l = lengths_so vs fs rs a in entries-length vs fs rs l.0 l.1

-- ---- W1, W2, W3
module _ (vs fs rs : List ℕ) where
  abbrev pub batches : List Entry
  batches = entries vs fs rs

  -- "W1 unequal lengths, W2 over 1,000, W3 a recipe, factor or raw out of range"
  abbrev pub tests : List Bool
  tests = equal_lengths vs fs rs ∷ leb (length vs) most ∷ all_in_range batches ∷ []

  -- what the three tests come to
  abbrev told : Bool → Bool → Bool → Outcome
  told a b c = unless a (refused_by 1) (unless b (refused_by 2) (unless c (refused_by 3) (added_up batches)))

  refused-number : (totals_of vs fs rs).refused ≡ failing 1 tests
  unfolding totals_of
  refused-number = go (equal_lengths vs fs rs) (leb (length vs) most) (all_in_range batches)
    where
      go : (a b c : Bool) → (told a b c).refused ≡ failing 1 (a ∷ b ∷ c ∷ [])
      go true true true = refl
      go true true false = refl
      go true false c = refl
      go false b c = refl

  -- "in order": Wn exactly if test n is the first that fails
  pub refused_exactly : (i : ℕ) → (totals_of vs fs rs).refused ≡ i + 1 ↔ FirstFailing tests i
  refused_exactly i = (λ h. (failing_exactly tests i).0 (sym refused-number ∙ h), λ f. refused-number ∙ (failing_exactly tests i).1 f)

  pub whole_exactly : (totals_of vs fs rs).refused ≡ 0 ↔ NoneFails tests
  whole_exactly = (λ h. (none_exactly tests).0 (sym refused-number ∙ h), λ f. refused-number ∙ (none_exactly tests).1 f)

  -- one of three refusals, or the sums
  by_outcome : (P : Outcome → Type 0) → P (refused_by 1) → P (refused_by 2) → P (refused_by 3) → P (added_up batches) → P (totals_of vs fs rs)
  unfolding totals_of
  by_outcome P p₁ p₂ p₃ whole = go (equal_lengths vs fs rs) (leb (length vs) most) (all_in_range batches)
    where
      go : (a b c : Bool) → P (told a b c)
      go true true true = whole
      go true true false = p₃
      go true false c = p₂
      go false b c = p₁

  pub refused_most : (totals_of vs fs rs).refused ≤ 3
  refused_most = by_outcome (λ o. o.refused ≤ 3) (omega arith) (omega arith) (omega arith) (omega arith)

  -- "all sums and numbers are then 0"
  pub refused_zero : ((totals_of vs fs rs).refused ≡ 0 → ⊥) → totals_of vs fs rs ≡ refused_by (totals_of vs fs rs).refused
  refused_zero = by_outcome (λ o. (o.refused ≡ 0 → ⊥) → o ≡ refused_by o.refused) (λ h. refl) (λ h. refl) (λ h. refl) (λ h. absurd (h refl))

-- every batch is in its ranges, if all are, and only then
each_of : (es : List Entry) → all_in_range es ≡ true ↔ ((i : ℕ) → i < length es → in_range (get_or es i no_entry) ≡ true)
unfolding all_in_range
each_of [] = (λ h i l. absurd (omega arith), λ h. refl)
each_of (e ∷ es) = go (each_of es)
  where
    go : (all_in_range es ≡ true ↔ ((i : ℕ) → i < length es → in_range (get_or es i no_entry) ≡ true))
        → (in_range e && all_in_range es) ≡ true ↔ ((i : ℕ) → i < suc (length es) → in_range (get_or (e ∷ es) i no_entry) ≡ true)
    go rest = (all, λ h. and_yes (in_range e) (all_in_range es) (h 0 (omega arith)) (rest.1 (λ i l. h (suc i) (omega arith))))
      where
        all : (in_range e && all_in_range es) ≡ true → (i : ℕ) → i < suc (length es) → in_range (get_or (e ∷ es) i no_entry) ≡ true
        all h zero l = and_left (in_range e) (all_in_range es) h
        all h (suc i) l = rest.0 (and_right (in_range e) (all_in_range es) h) i (omega arith)

module _ (vs fs rs : List ℕ) (same-factors : length vs ≡ length fs) (same-recipes : length vs ≡ length rs) where
  pub each_in_range : all_in_range (entries vs fs rs) ≡ true ↔ ((i : ℕ) → i < length vs → in_range (entry (get_or vs i 0) (get_or fs i 0) (get_or rs i 0)) ≡ true)
  each_in_range =
      let n = entries-length vs fs rs same-factors same-recipes in (
        λ h i l. ap in_range (sym (entries_at vs fs rs i same-factors same-recipes l)) ∙ (each_of (entries vs fs rs)).0 h i (omega arith),
        λ h. (each_of (entries vs fs rs)).1 (λ i l. ap in_range (entries_at vs fs rs i same-factors same-recipes (omega arith)) ∙ h i (omega arith)),
      )

-- ---- 64 bits hold any sum, also that over all batches
pub sums-room : most * most_amount < 2 ^ 64
sums-room = omega arith

-- ---- what is not refused
pub record Accepted (vs fs rs : List ℕ) : Type 0 where
  pub same-factors : length vs ≡ length fs
  pub same-recipes : length vs ≡ length rs
  pub few : length vs ≤ most
  pub in_range_lem : all_in_range (entries vs fs rs) ≡ true
  pub whole : totals_of vs fs rs ≡ added_up (entries vs fs rs)

module _ (vs fs rs : List ℕ) (h : (totals_of vs fs rs).refused ≡ 0) where
  hold : NoneFails (tests vs fs rs)
  hold = (whole_exactly vs fs rs).0 h

  pub accepted : Accepted vs fs rs
  unfolding totals_of
  accepted =
      let l : equal_lengths vs fs rs ≡ true = hold 0 in
      let m : leb (length vs) most ≡ true = hold 1 in
      let i : all_in_range (entries vs fs rs) ≡ true = hold 2 in
      record {
        same-factors = (lengths_so vs fs rs l).0;
        same-recipes = (lengths_so vs fs rs l).1;
        few = leb-true (length vs) most m;
        in_range_lem = i;
        whole = simp (l, m, i);
      }

  -- "for each recipe the sum of raw times factor .. and the number of batches"
  pub sum_of : (r : ℕ) → 1 ≤ r → r ≤ recipes → get_or (totals_of vs fs rs).sums (r - 1) 0 ≡ sum_over (of_recipe r amount) (entries vs fs rs)
  sum_of r low high = ap (λ (o : Outcome). get_or o.sums (r - 1) 0) accepted.whole ∙ at_recipe amount (entries vs fs rs) r low high

  pub count_of : (r : ℕ) → 1 ≤ r → r ≤ recipes → get_or (totals_of vs fs rs).counts (r - 1) 0 ≡ sum_over (of_recipe r one) (entries vs fs rs)
  count_of r low high = ap (λ (o : Outcome). get_or o.counts (r - 1) 0) accepted.whole ∙ at_recipe one (entries vs fs rs) r low high

  -- no sum is more than 1,000 times the highest amount
  pub sums_fit : (r : ℕ) → 1 ≤ r → r ≤ recipes → get_or (totals_of vs fs rs).sums (r - 1) 0 ≤ most * most_amount
  sums_fit r low high =
      let h : sum_over (of_recipe r amount) (entries vs fs rs) ≤ length (entries vs fs rs) * most_amount =
      sum_high r amount most_amount (λ e i. (ranged e i).amount_high) (entries vs fs rs) accepted.in_range_lem in
      let n : length (entries vs fs rs) ≡ length vs = entries-length vs fs rs accepted.same-factors accepted.same-recipes in
      omega (arith, sum_of r low high, accepted.few)

  -- "The eight sums add up to the sum over all batches", and the numbers to their number
  pub sums-add_up : added (totals_of vs fs rs).sums ≡ sum_over amount (entries vs fs rs)
  sums-add_up = ap (λ (o : Outcome). added o.sums) accepted.whole ∙ by_recipe_adds_up amount (entries vs fs rs) accepted.in_range_lem

  pub counts-add_up : added (totals_of vs fs rs).counts ≡ length vs
  counts-add_up =
      ap (λ (o : Outcome). added o.counts) accepted.whole
      ∙ (by_recipe_adds_up one (entries vs fs rs) accepted.in_range_lem
      ∙ (ones (entries vs fs rs) ∙ entries-length vs fs rs accepted.same-factors accepted.same-recipes))

-- ---- the order of the batches does not matter: three lists of one length and three others with the same batches, W2 and W3 too
pub in_any_order : (vs fs rs ws gs ss : List ℕ) → equal_lengths vs fs rs ≡ true → equal_lengths ws gs ss ≡ true
    → Perm (entries vs fs rs) (entries ws gs ss) → totals_of vs fs rs ≡ totals_of ws gs ss
unfolding totals_of
in_any_order vs fs rs ws gs ss a b p =
    let f : (g : Entry → ℕ) → by_recipe g (entries vs fs rs) ≡ by_recipe g (entries ws gs ss) = λ g. by_recipe-same g (entries vs fs rs) (entries ws gs ss) p in
    let n : length vs ≡ length ws =
    sym (equal-length vs fs rs a) ∙ (sym (ones (entries vs fs rs)) ∙ (sum_any_order (entries vs fs rs) (entries ws gs ss) p one ∙ (ones (entries ws gs ss) ∙ equal-length ws gs ss b))) in
    simp (a, b) (simp (n, ranges_any_order (entries vs fs rs) (entries ws gs ss) p, f amount, f one))
