-- What `add_batches` holds after i batches, and what `add_up` refuses: one law for each return. Assumes nothing.
use Prim.Native.Nat.{ℕ, suc, ◌+◌, ◌-◌, ◌*◌, ◌≤◌, ◌<◌}
use mathlib.Core.Bool.{Bool, true, false, not}
use mathlib.Core.Path.{◌≡◌, refl, sym, ap, ◌∙◌}
use mathlib.Core.List.{List, [], ◌∷◌, ◌++◌}
use native.Mathlib.Numerals.{add-one}
use native.Mathlib.Omega.{arith}
use lib.Dec.{eqb}
use lib.ListN.{length, get_or, set, take, drop, replicate}
use Rattle.std.specs.List.{zip}
use Rattle.std.proofs.lemmas.List.{get_or_default}
use Rattle.std.proofs.lemmas.Slice.Zip.{length-zip, get_or-zip}
use lib.Seq.{take-suc, take_all, split_at, length-take-le}
use borrow.Author.Tests.{eq-eqb, ne_eqb, le-leb, lt-leb, not-true, not-false}
use Rattle.base.specs.Test.{pick}
use Rattle.state.specs.Parameter.{recipes}
use Rattle.totalling.specs.Totals.{Entry, entry, entries, amount, one, sum_over, of_recipe, table, by_recipe, most, in_range, all_in_range, outcome, refused_by, totals_of}
use Rattle.totalling.proofs.Tables.{table_at, table_same, table_more}
use Rattle.totalling.proofs.Entries.{no_entry, entries-length, entries_at, sum-last, ranges_joined, most_amount, Ranged, ranged, sum_high}

-- ---- the sum of a recipe
pub at_recipe : (f : Entry → ℕ) (es : List Entry) (r : ℕ) → 1 ≤ r → r ≤ recipes → get_or (by_recipe f es) (r - 1) 0 ≡ sum_over (of_recipe r f) es
at_recipe f es r low high =
    table_at (λ q. sum_over (of_recipe q f) es) 1 recipes (r - 1) (omega arith) ∙ ap (λ (q : ℕ). sum_over (of_recipe q f) es) (omega arith)

-- ---- one entry more, for a sum of each recipe
pub by_recipe_more : (f : Entry → ℕ) (es : List Entry) (e : Entry) → 1 ≤ e.recipe → e.recipe ≤ recipes
    → set (by_recipe f es) (e.recipe - 1) (get_or (by_recipe f es) (e.recipe - 1) 0 + f e) ≡ by_recipe f (es ++ (e ∷ []))
by_recipe_more f es e low high =
    table_more (λ r. sum_over (of_recipe r f) es) (f e) 1 recipes (e.recipe - 1) (omega arith)
    ∙ table_same (λ q. sum_over (of_recipe q f) es + pick (eqb (1 + (e.recipe - 1)) q) (f e) 0) (λ r. sum_over (of_recipe r f) (es ++ (e ∷ []))) 1 recipes
    (λ q l. ap (λ (k : ℕ). sum_over (of_recipe q f) es + pick (eqb k q) (f e) 0) (omega arith) ∙ sym (sum-last (of_recipe q f) es e))

-- ---- the first i batches are in their ranges, and are added up
pub record Added (vs fs rs sums counts : List ℕ) (i : ℕ) : Type 0 where
  pub low : i ≤ length vs
  pub same-factors : length vs ≡ length fs
  pub same-recipes : length vs ≡ length rs
  pub few : length vs ≤ most
  pub in_range_lem : all_in_range (take i (entries vs fs rs)) ≡ true
  pub sums_are : sums ≡ by_recipe amount (take i (entries vs fs rs))
  pub counts_are : counts ≡ by_recipe one (take i (entries vs fs rs))

pub added_none : (vs fs rs : List ℕ) → length vs ≡ length fs → length vs ≡ length rs → length vs ≤ most
    → Added vs fs rs (replicate recipes 0) (replicate recipes 0) 0
unfolding table sum_over all_in_range
added_none vs fs rs f r h =
    record { low = omega arith; same-factors = f; same-recipes = r; few = h; in_range_lem = refl; sums_are = refl; counts_are = refl }

-- the batch at hand: the numbers at place i of the lists
pub record Here (vs fs rs : List ℕ) (i v f r : ℕ) : Type 0 where
  pub inside : i < length vs
  pub raw_is : v ≡ get_or vs i 0
  pub factor_is : f ≡ get_or fs i 0
  pub recipe_is : r ≡ get_or rs i 0

-- as the three lists give it together
apart : {A B : Type 0} {a c : A} {b d : B} → ◌≡◌ {A = A × B} (a, b) (c, d) → (a ≡ c) × (b ≡ d)
apart e = (λ i. (e i).0, λ i. (e i).1)

pair_zipped : (vs fs : List ℕ) (i v f : ℕ) → i < length vs → i < length fs → (v, f) ≡ get_or (zip vs fs) i (v, f) → (v ≡ get_or vs i 0) × (f ≡ get_or fs i 0)
pair_zipped vs fs i v f a b e =
    let p : (v ≡ get_or vs i v) × (f ≡ get_or fs i f) = apart (e ∙ get_or-zip vs fs i (v, f) a b) in
    (p.0 ∙ get_or_default vs i v 0 a, p.1 ∙ get_or_default fs i f 0 b)

pub here_zipped : (vs fs rs : List ℕ) (i v f r : ℕ) → length vs ≡ length fs → length vs ≡ length rs
    → (i < length (zip (zip vs fs) rs)) × (((v, f), r) ≡ get_or (zip (zip vs fs) rs) i ((v, f), r)) → Here vs fs rs i v f r
here_zipped vs fs rs i v f r e w h =
    let a : i < length vs = omega (arith, length-zip (zip vs fs) rs, length-zip vs fs, h.0) in
    let b : i < length fs = omega arith in
    let c : i < length rs = omega arith in
    let l : i < length (zip vs fs) = omega (arith, length-zip vs fs) in
    let p : ((v, f) ≡ get_or (zip vs fs) i (v, f)) × (r ≡ get_or rs i r) = apart (h.1 ∙ get_or-zip (zip vs fs) rs i ((v, f), r) l c) in
    let q : (v ≡ get_or vs i 0) × (f ≡ get_or fs i 0) = pair_zipped vs fs i v f a b p.0 in
    record { inside = a; raw_is = q.0; factor_is = q.1; recipe_is = p.1 ∙ get_or_default rs i r 0 c }

pub all_zipped : (vs fs rs : List ℕ) (i : ℕ) → length vs ≡ length fs → length vs ≡ length rs → i ≡ length (zip (zip vs fs) rs) → length vs ≤ i
all_zipped vs fs rs i e w h = omega (arith, length-zip (zip vs fs) rs, length-zip vs fs, h)

-- it can be added
pub record Room (sums counts : List ℕ) (v f r : ℕ) : Type 0 where
  pub recipe_low : 1 ≤ r
  pub recipe_high : r ≤ recipes
  pub sum_high : get_or sums (r - 1) 0 ≤ most * most_amount
  pub count_high : get_or counts (r - 1) 0 ≤ most
  pub amount_high : v * f ≤ most_amount

module _ {vs fs rs sums counts : List ℕ} {i v f r : ℕ} (s : Added vs fs rs sums counts i) (h : Here vs fs rs i v f r) where
  abbrev es : List Entry
  es = entries vs fs rs

  abbrev here : Entry
  here = entry v f r

  inside : i < length es
  inside = omega (arith, entries-length vs fs rs s.same-factors s.same-recipes, h.inside)

  is_here : get_or es i no_entry ≡ here
  is_here =
      entries_at vs fs rs i s.same-factors s.same-recipes h.inside
      ∙ sym (λ j. entry (h.raw_is j) (h.factor_is j) (h.recipe_is j))

  one_more : take (i + 1) es ≡ take i es ++ (here ∷ [])
  one_more = rw (add-one) (take-suc es i no_entry inside ∙ ap (λ (e : Entry). take i es ++ (e ∷ [])) is_here)

  -- it is out of range
  pub here_out : (t : Bool) → t ≡ in_range here → not t ≡ true → refused_by 3 ≡ totals_of vs fs rs
  unfolding totals_of all_in_range
  here_out t o n =
      let split : es ≡ take i es ++ (here ∷ drop (suc i) es) = split_at es i no_entry inside ∙ ap (λ (x : Entry). take i es ++ (x ∷ drop (suc i) es)) is_here in
      let no : in_range here ≡ false = sym o ∙ not-true t n in
      let out : all_in_range es ≡ false =
      ap all_in_range split ∙ (ranges_joined (take i es) (here ∷ drop (suc i) es) ∙ simp (s.in_range_lem, no)) in
      simp (eq-eqb _ _ s.same-factors, eq-eqb _ _ s.same-recipes, le-leb _ _ s.few, out)

  -- it is in range, and there is room for it
  module _ {t : Bool} (e : t ≡ in_range here) (n : not t ≡ false) where
    yes : in_range here ≡ true
    yes = sym e ∙ not-false t n

    pub batch : Ranged here
    batch = ranged here yes

    few_before : length (take i es) ≤ most
    few_before = let l : length (take i es) ≡ i = length-take-le i es (omega (arith, inside)) in omega (arith, s.few, h.inside)

    held_high : (g : Entry → ℕ) (m : ℕ) (xs : List ℕ) → xs ≡ by_recipe g (take i es) → ((x : Entry) → in_range x ≡ true → g x ≤ m)
        → get_or xs (r - 1) 0 ≤ length (take i es) * m
    held_high g m xs w k =
        let q : get_or xs (r - 1) 0 ≡ sum_over (of_recipe r g) (take i es) =
        ap (λ (x : List ℕ). get_or x (r - 1) 0) w ∙ at_recipe g (take i es) r batch.recipe_low batch.recipe_high in
        omega (arith, sum_high r g m k (take i es) s.in_range_lem)

    pub room : Room sums counts v f r
    room =
        let b = batch in
        let l = few_before in
        let a : get_or sums (r - 1) 0 ≤ length (take i es) * most_amount = held_high amount most_amount sums s.sums_are (λ x y. (ranged x y).amount_high) in
        let k : get_or counts (r - 1) 0 ≤ length (take i es) * 1 = held_high one 1 counts s.counts_are (λ x y. omega arith) in
        record { recipe_low = b.recipe_low; recipe_high = b.recipe_high; sum_high = omega arith; count_high = omega arith; amount_high = b.amount_high }

    pub added_more : {x : ℕ} → x ≡ v * f → (k : ℕ) → k ≡ i + 1
        → Added vs fs rs (set sums (r - 1) (get_or sums (r - 1) 0 + x)) (set counts (r - 1) (get_or counts (r - 1) 0 + 1)) k
    unfolding all_in_range
    added_more {x} w k j =
        let b = batch in
        let more : take k es ≡ take i es ++ (here ∷ []) = ap (λ (m : ℕ). take m es) j ∙ one_more in
        record {
          low = omega (arith, h.inside);
          same-factors = s.same-factors;
          same-recipes = s.same-recipes;
          few = s.few;
          in_range_lem = ap all_in_range more ∙ (ranges_joined (take i es) (here ∷ []) ∙ simp (s.in_range_lem, yes));
          sums_are =
              ap (λ (y : ℕ). set sums (r - 1) (get_or sums (r - 1) 0 + y)) w
              ∙ (ap (λ (y : List ℕ). set y (r - 1) (get_or y (r - 1) 0 + amount here)) s.sums_are
              ∙ (by_recipe_more amount (take i es) here b.recipe_low b.recipe_high ∙ ap (by_recipe amount) (sym more)));
          counts_are =
              ap (λ (y : List ℕ). set y (r - 1) (get_or y (r - 1) 0 + 1)) s.counts_are
              ∙ (by_recipe_more one (take i es) here b.recipe_low b.recipe_high ∙ ap (by_recipe one) (sym more));
        }

-- all are added up
pub added_all : (vs fs rs sums counts : List ℕ) (i : ℕ) → length vs ≤ i → Added vs fs rs sums counts i → outcome 0 sums counts ≡ totals_of vs fs rs
unfolding totals_of
added_all vs fs rs sums counts i h s =
    let whole : take i (entries vs fs rs) ≡ entries vs fs rs =
    take_all i (entries vs fs rs) (omega (arith, entries-length vs fs rs s.same-factors s.same-recipes)) in
    let q : outcome 0 sums counts ≡ outcome 0 (by_recipe amount (entries vs fs rs)) (by_recipe one (entries vs fs rs)) =
    ap (λ (x : List ℕ). outcome 0 x counts) (s.sums_are ∙ ap (by_recipe amount) whole)
    ∙ ap (outcome 0 (by_recipe amount (entries vs fs rs))) (s.counts_are ∙ ap (by_recipe one) whole) in
    simp (eq-eqb _ _ s.same-factors, eq-eqb _ _ s.same-recipes, le-leb _ _ s.few, sym (ap all_in_range whole) ∙ s.in_range_lem) q

-- ---- what is refused before anything is added
module _ (vs fs rs : List ℕ) where
  pub other_factors : (length vs ≡ length fs → ⊥) → refused_by 1 ≡ totals_of vs fs rs
  unfolding totals_of
  other_factors h = simp (ne_eqb _ _ h)

  pub other_recipes : length vs ≡ length fs → (length vs ≡ length rs → ⊥) → refused_by 1 ≡ totals_of vs fs rs
  unfolding totals_of
  other_recipes e h = simp (eq-eqb _ _ e, ne_eqb _ _ h)

  pub too_many : length vs ≡ length fs → length vs ≡ length rs → most < length vs → refused_by 2 ≡ totals_of vs fs rs
  unfolding totals_of
  too_many e r h = simp (eq-eqb _ _ e, eq-eqb _ _ r, lt-leb _ _ h)

pub ruleset refusing = (other_factors, other_recipes, too_many)
