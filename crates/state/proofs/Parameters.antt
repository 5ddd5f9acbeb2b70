-- The arithmetic of codes, places and ranges, over any number of recipes whose codes stay below the system's. Assumes nothing.
use Prim.Native.Nat.{ℕ, zero, suc, ◌+◌, ◌-◌, ◌*◌, ◌/◌, ◌%◌, ◌^◌, ◌≤◌, ◌<◌}
use mathlib.Core.Bool.{Bool, true, false, not, false≢true}
use mathlib.Core.Path.{◌≡◌, refl, sym, ap, ◌∙◌}
use mathlib.Core.List.{List, [], ◌∷◌, map}
use mathlib.Core.Logic.{⊎_elim}
use native.Mathlib.Nat.{eq-or-lt_of_le, not-suc-le-zero, le_of_suc-le-suc}
use native.Mathlib.Omega.{arith}
use native.Mathlib.Numerals.{add-one}
use lib.Dec.{eqb, ltb}
use lib.ListN.{length, get_or, length-append, get_or-append, get_or-eq_default}
use lib.Seq.{get_or-append-add}
use borrow.Author.Tests.{eq-eqb, ne_eqb, eqb-true, ltb-true, not-true, not-false}
use Rattle.state.specs.declared.ParameterKind.{ParameterKind}
use Rattle.state.specs.declared.ParameterKind.TheVariants.{Share, Factor, LowFlow}
use Rattle.std.specs.Prelude.{Option, Some, None}
use Rattle.std.proofs.lemmas.Option.{some_pair_parts}
use Rattle.base.specs.Test.{pick, between}
use Rattle.state.specs.Parameter.{Parameter, of_recipe, copies, recipes, code_of, kind_range, range_of, range, kinds, recipe_parameters, system_parameters, parameters_for, parameter_count, code_at, range_in, range_at, later, place_in, place_of, by_units, by_digits, kind_place, recipe_place, digits_place, Ruled}
use Rattle.base.proofs.Tests.{by_test, below_or_not, holds_below, between_yes, between_no, between_low, between_high}

-- ---- an element of a mapped list, whatever stands for a missing one
get_d_map_below : {A B : Type 0} (f : A → B) (l : List A) (i : ℕ) (d : A) (e : B) → i < length l → get_or (map f l) i e ≡ f (get_or l i d)
get_d_map_below f [] i d e h = absurd (not-suc-le-zero h)
get_d_map_below f (x ∷ xs) zero d e h = refl
get_d_map_below f (x ∷ xs) (suc i) d e h = get_d_map_below f xs i d e (le_of_suc-le-suc h)

-- ---- the parameter at a place

-- the kind of a recipe's parameter at place i
abbrev kind_at : ℕ → ParameterKind
kind_at i = get_or kinds (i % 3) LowFlow

pub recipe-length : (n : ℕ) → length (recipe_parameters n) ≡ 3 * n
recipe-length zero = refl
recipe-length (suc n) = let h = recipe-length n in length-append (recipe_parameters n) _ ∙ omega arith

pub list_length : (n : ℕ) → length (parameters_for n) ≡ 3 * n + 8
list_length n = let h = recipe-length n in length-append (recipe_parameters n) system_parameters ∙ omega arith

-- each kind has its own place among the three
kind_there : (k : ParameterKind) → get_or kinds (kind_place k) LowFlow ≡ k
kind_there Share = refl
kind_there Factor = refl
kind_there LowFlow = refl

pub kind_low : (k : ParameterKind) → kind_place k < 3
kind_low Share = omega arith
kind_low Factor = omega arith
kind_low LowFlow = omega arith

pub kind_place_lem : (i : ℕ) → kind_place (kind_at i) ≡ i % 3
kind_place_lem i = eqb-true _ _ (holds_below (λ (u : ℕ). eqb (kind_place (get_or kinds u LowFlow)) u) 3 refl (i % 3) (omega arith))

-- a place of the recipes is a recipe's, by its kind
pub place_split : (i : ℕ) → recipe_place (i / 3 + 1) (kind_at i) ≡ i
place_split i = let e = kind_place_lem i in omega arith

recipe_there : (n r : ℕ) (k : ParameterKind) → 1 ≤ r → r ≤ n → get_or (recipe_parameters n) (recipe_place r k) copies ≡ of_recipe r k
recipe_there zero r k l h = absurd (omega arith)
recipe_there (suc n) r k l h =
    let e = recipe-length n in
    let b = kind_low k in
    ⊎_elim (λ (q : r ≡ suc n).
    let p : recipe_place r k ≡ length (recipe_parameters n) + kind_place k = omega arith in
    ap (λ (j : ℕ). get_or (recipe_parameters (suc n)) j copies) p ∙ (get_or-append-add (recipe_parameters n) _ (kind_place k) copies
    ∙ (get_d_map_below (of_recipe (suc n)) kinds (kind_place k) LowFlow copies b ∙ (ap (of_recipe (suc n)) (kind_there k) ∙ ap (λ (m : ℕ). of_recipe m k) (sym q)))))
    (λ (q : r < suc n). get_or-append (recipe_parameters n) _ copies (recipe_place r k) (omega arith) ∙ recipe_there n r k l (omega arith))
    (eq-or-lt_of_le h)

module _ (n : ℕ) where
  pub at_recipe : (r : ℕ) (k : ParameterKind) → 1 ≤ r → r ≤ n → get_or (parameters_for n) (recipe_place r k) copies ≡ of_recipe r k
  at_recipe r k l h =
      let e = recipe-length n in
      let b = kind_low k in
      get_or-append (recipe_parameters n) system_parameters copies (recipe_place r k) (omega arith) ∙ recipe_there n r k l h

  pub at_place : (i : ℕ) → i < 3 * n → get_or (parameters_for n) i copies ≡ of_recipe (i / 3 + 1) (kind_at i)
  at_place i h = ap (λ (j : ℕ). get_or (parameters_for n) j copies) (sym (place_split i)) ∙ at_recipe (i / 3 + 1) (kind_at i) (omega arith) (omega arith)

  pub at_system : (i : ℕ) → 3 * n ≤ i → get_or (parameters_for n) i copies ≡ get_or system_parameters (i - 3 * n) copies
  at_system i h =
      let l = recipe-length n in
      let e : i ≡ length (recipe_parameters n) + (i - 3 * n) = omega arith in
      ap (λ (j : ℕ). get_or (parameters_for n) j copies) e ∙ get_or-append-add (recipe_parameters n) system_parameters (i - 3 * n) copies

-- ---- codes
pub recipe_code : (r : ℕ) (k : ParameterKind) → code_of (of_recipe r k) ≡ 10 * r + (kind_place k + 1)
recipe_code r Share = omega arith
recipe_code r Factor = omega arith
recipe_code r LowFlow = omega arith

system_code : (i : ℕ) → i < 8 → code_of (get_or system_parameters i copies) ≡ 801 + i
system_code i h = eqb-true _ _ (holds_below (λ (j : ℕ). eqb (code_of (get_or system_parameters j copies)) (801 + j)) 8 refl i h)

-- the code of the parameter at place i, with n recipes
abbrev pub code_for : ℕ → ℕ → ℕ
code_for n i = code_of (get_or (parameters_for n) i copies)

module _ (n : ℕ) where
  pub code_recipe : (i : ℕ) → i < 3 * n → code_for n i ≡ 10 * (i / 3 + 1) + (i % 3 + 1)
  code_recipe i h = let e = kind_place_lem i in ap code_of (at_place n i h) ∙ (recipe_code (i / 3 + 1) (kind_at i) ∙ omega arith)

  pub code_system : (i : ℕ) → 3 * n ≤ i → i < 3 * n + 8 → code_for n i ≡ 801 + (i - 3 * n)
  code_system i h l = ap code_of (at_system n i h) ∙ system_code (i - 3 * n) (omega arith)

  -- codes rise with the place, so no two places have one code
  pub codes_rise : n ≤ 79 → (i j : ℕ) → i < j → j < 3 * n + 8 → code_for n i < code_for n j
  codes_rise few i j h l =
      ⊎_elim
      (λ (p : j < 3 * n). let a = code_recipe i (omega arith) in let b = code_recipe j p in omega arith)
      (λ (p : 3 * n ≤ j).
      let b = code_system j p l in
      ⊎_elim (λ (q : i < 3 * n). let a = code_recipe i q in omega arith) (λ (q : 3 * n ≤ i). let a = code_system i q (omega arith) in omega arith)
      (below_or_not i (3 * n)))
      (below_or_not j (3 * n))

-- ---- the place of a code

-- the first parameter that has the code gives the place
pub place-first : (c : ℕ) (ps : List Parameter) (i : ℕ) → i < length ps → code_of (get_or ps i copies) ≡ c
    → ((j : ℕ) → j < i → code_of (get_or ps j copies) ≡ c → ⊥) → place_in c ps ≡ Some i
unfolding place_in
place-first c [] i h e none = absurd (not-suc-le-zero h)
place-first c (p ∷ ps) zero h e none = simp (eq-eqb (code_of p) c e)
place-first c (p ∷ ps) (suc i) h e none =
    simp (ne_eqb (code_of p) c (none zero (omega arith)), place-first c ps i (le_of_suc-le-suc h) e (λ j l. none (suc j) (omega arith))) (ap Some (add-one i))

-- a code that no parameter has gives none
pub place_none : (c : ℕ) (ps : List Parameter) → ((j : ℕ) → j < length ps → code_of (get_or ps j copies) ≡ c → ⊥) → place_in c ps ≡ None
unfolding place_in
place_none c [] none = refl
place_none c (p ∷ ps) none = simp (ne_eqb (code_of p) c (none zero (omega arith)), place_none c ps (λ j l. none (suc j) (omega arith)))

-- with n recipes: a code that is not listed has no place, and place and code are inverse
module _ (n : ℕ) where
  place_unlisted : (c : ℕ) → ((r : ℕ) (k : ParameterKind) → 1 ≤ r → r ≤ n → code_of (of_recipe r k) ≡ c → ⊥) → (801 ≤ c → c ≤ 808 → ⊥)
      → place_in c (parameters_for n) ≡ None
  place_unlisted c no_recipe no_system =
      let l = list_length n in
      place_none c (parameters_for n)
      (λ j h e.
      ⊎_elim (λ (q : j < 3 * n). no_recipe (j / 3 + 1) (kind_at j) (omega arith) (omega arith) (ap code_of (sym (at_place n j q)) ∙ e))
      (λ (q : 3 * n ≤ j). let a = code_system n j q (omega arith) in no_system (omega arith) (omega arith))
      (below_or_not j (3 * n)))

module _ (n : ℕ) (few : n ≤ 79) where
  pub place_of_code : (i : ℕ) → i < 3 * n + 8 → place_in (code_for n i) (parameters_for n) ≡ Some i
  place_of_code i h =
      let l = list_length n in
      place-first (code_for n i) (parameters_for n) i (omega arith) refl (λ j q e. let r = codes_rise n few j i q h in omega arith)

  -- "for recipe r: 10r+1 .., 10r+2 .., 10r+3"
  place-recipe : (r : ℕ) (k : ParameterKind) → 1 ≤ r → r ≤ n → place_in (code_of (of_recipe r k)) (parameters_for n) ≡ Some (recipe_place r k)
  place-recipe r k l h =
      let b = kind_low k in
      ap (λ (p : Parameter). place_in (code_of p) (parameters_for n)) (sym (at_recipe n r k l h)) ∙ place_of_code (recipe_place r k) (omega arith)

  -- "System: 801 .. 808"
  place_system : (c : ℕ) → 801 ≤ c → c ≤ 808 → place_in c (parameters_for n) ≡ Some (3 * n + (c - 801))
  place_system c l h =
      let i : ℕ = 3 * n + (c - 801) in
      let e : code_for n i ≡ c = let q = code_system n i (omega arith) (omega arith) in omega arith in
      ap (λ (x : ℕ). place_in x (parameters_for n)) (sym e) ∙ place_of_code i (omega arith)

-- ---- 02, L3: tens for the recipe and units for the kind

-- the digits of a code
digits_of : (n r u : ℕ) → 1 ≤ r → r ≤ n → u < 10 → by_digits n (10 * r + u) ≡ by_units r u
unfolding by_digits
digits_of n r u l h b =
    let t : (10 * r + u) / 10 ≡ r = omega arith in
    let v : (10 * r + u) % 10 ≡ u = omega arith in
    ap (λ (q : ℕ). pick (between 1 n q) (by_units q ((10 * r + u) % 10)) None) t
    ∙ (ap (λ (q : ℕ). pick (between 1 n r) (by_units r q) None) v ∙ simp (between_yes 1 n r l h))

digits-given : (n r : ℕ) (k : ParameterKind) → 1 ≤ r → r ≤ n → by_digits n (code_of (of_recipe r k)) ≡ Some (r, k)
digits-given n r Share l h = digits_of n r 1 l h (omega arith)
digits-given n r Factor l h = digits_of n r 2 l h (omega arith)
digits-given n r LowFlow l h = digits_of n r 3 l h (omega arith)

-- what the units name has them in its code
units-listed : (q u r : ℕ) (k : ParameterKind) → by_units q u ≡ Some (r, k) → (q ≡ r) × (u ≡ kind_place k + 1)
units-listed q u r k e = go (eqb u 1) (eqb u 2) (eqb u 3) refl refl refl e
  where
    go : (a b c : Bool) → eqb u 1 ≡ a → eqb u 2 ≡ b → eqb u 3 ≡ c
        → pick {A = Option (ℕ × ParameterKind)} a (Some (q, Share)) (pick b (Some (q, Factor)) (pick c (Some (q, LowFlow)) None)) ≡ Some (r, k) → (q ≡ r) × (u ≡ kind_place k + 1)
    go true b c t f g e = let p = some_pair_parts q r Share k e in (p.0, let z : kind_place Share ≡ kind_place k = ap kind_place p.1 in let w = eqb-true u 1 t in omega arith)
    go false true c t f g e = let p = some_pair_parts q r Factor k e in (p.0, let z : kind_place Factor ≡ kind_place k = ap kind_place p.1 in let w = eqb-true u 2 f in omega arith)
    go false false true t f g e = let p = some_pair_parts q r LowFlow k e in (p.0, let z : kind_place LowFlow ≡ kind_place k = ap kind_place p.1 in let w = eqb-true u 3 g in omega arith)
    go false false false t f g e = let z : ◌≡◌ {A = ℕ} 0 1 = cc in absurd (omega arith)

digits-listed : (n c r : ℕ) (k : ParameterKind) → by_digits n c ≡ Some (r, k) → (1 ≤ r) × (r ≤ n) × (code_of (of_recipe r k) ≡ c)
unfolding by_digits
digits-listed n c r k e = go (between 1 n (c / 10)) refl e
  where
    go : (b : Bool) → between 1 n (c / 10) ≡ b → pick b (by_units (c / 10) (c % 10)) None ≡ Some (r, k)
        → (1 ≤ r) × (r ≤ n) × (code_of (of_recipe r k) ≡ c)
    go true t e =
        let l = between_low 1 n (c / 10) t in
        let h = between_high 1 n (c / 10) t in
        let p = units-listed (c / 10) (c % 10) r k e in
        let q = p.0 in
        let u = p.1 in
        (omega arith, omega arith, recipe_code r k ∙ omega arith)
    go false t e = let z : ◌≡◌ {A = ℕ} 0 1 = cc in absurd (omega arith)

module _ (n : ℕ) where
  -- the range of a recipe's parameter is its kind's
  pub range-recipe : (r : ℕ) (k : ParameterKind) → 1 ≤ r → r ≤ n → range_in (parameters_for n) (recipe_place r k) ≡ kind_range k
  range-recipe r k l h =
      let e = list_length n in
      let b = kind_low k in
      get_d_map_below range_of (parameters_for n) (recipe_place r k) copies (range 0 0) (omega arith) ∙ ap range_of (at_recipe n r k l h)

  module _ (few : n ≤ 79) (c : ℕ) where
    place-digits : (p : Option (ℕ × ParameterKind)) → by_digits n c ≡ p → (801 ≤ c → c ≤ 808 → ⊥) → place_in c (parameters_for n) ≡ digits_place p
    place-digits (Some (r, k)) e other =
        let h = digits-listed n c r k e in
        ap (λ (x : ℕ). place_in x (parameters_for n)) (sym h.2) ∙ place-recipe n few r k h.0 h.1
    place-digits None e other =
        place_unlisted n c
        (λ r k l h q.
        let g : None ≡ Some (r, k) = sym e ∙ (ap (by_digits n) (sym q) ∙ digits-given n r k l h) in
        let z : ◌≡◌ {A = ℕ} 0 1 = cc in absurd (omega arith)) other

    -- "Show for every code": with up to 79 recipes the arithmetic of the code gives what 01 lists
    pub every_code : Ruled n c
    every_code =
        record {
          given = λ r k l h e. ap (by_digits n) (sym e) ∙ digits-given n r k l h;
          listed = digits-listed n c;
          same_place = by_test (between 801 808 c)
              (λ t. place_system n few c (between_low 801 808 c t) (between_high 801 808 c t) ∙ simp t)
              (λ t. place-digits (by_digits n c) refl (λ l h. false≢true (sym t ∙ between_yes 801 808 c l h)) ∙ simp t);
          same-range = λ r k e. let h = digits-listed n c r k e in range-recipe r k h.0 h.1;
        }

-- 79 is the most: with one more, 801 would be listed twice
pub no_more : Ruled 80 801 → ⊥
unfolding place_in
no_more h = let e : ◌≡◌ {A = ℕ} 237 240 = let p : ◌≡◌ {A = Option ℕ} (Some 237) (Some 240) = h.same_place in cc in absurd (omega arith)

-- ---- the definitions that the contracts cite
pub ruled : (c : ℕ) → Ruled recipes c
ruled = every_code recipes (omega arith)

code_in_list : (i : ℕ) → i < parameter_count → code_at i ≡ code_for recipes i
unfolding code_at
code_in_list i h = get_d_map_below code_of (parameters_for recipes) i copies 0 h

range_in_list : (i : ℕ) → i < parameter_count → range_at i ≡ range_of (get_or (parameters_for recipes) i copies)
unfolding range_at
range_in_list i h = get_d_map_below range_of (parameters_for recipes) i copies (range 0 0) h

-- a code has the place i exactly if the parameter there has the code
pub place_has_code : (i : ℕ) → i < parameter_count → place_of (code_at i) ≡ Some i
unfolding place_of
place_has_code i h = ap (λ (c : ℕ). place_in c (parameters_for recipes)) (code_in_list i h) ∙ place_of_code recipes (omega arith) i h

found_step : (c : ℕ) (p : Parameter) (ps : List Parameter) (i : ℕ) (b : Bool) (q : Option ℕ) → eqb (code_of p) c ≡ b
    → ((j : ℕ) → q ≡ Some j → (j < length ps) × (code_of (get_or ps j copies) ≡ c))
    → pick b (Some 0) (later q) ≡ Some i → (i < length (p ∷ ps)) × (code_of (get_or (p ∷ ps) i copies) ≡ c)
found_step c p ps i true q t rest e =
    let z : 0 ≡ i = cc in (omega arith, ap (λ (j : ℕ). code_of (get_or (p ∷ ps) j copies)) (sym z) ∙ eqb-true (code_of p) c t)
found_step c p ps i false (Some j) t rest e =
    let z : j + 1 ≡ i = cc in
    let h = rest j refl in
    (let l = h.0 in omega arith, ap (λ (k : ℕ). code_of (get_or (p ∷ ps) k copies)) (sym z ∙ add-one j) ∙ h.1)
found_step c p ps i false None t rest e = let z : ◌≡◌ {A = ℕ} 0 1 = cc in absurd (omega arith)

found_in : (c : ℕ) (ps : List Parameter) (i : ℕ) → place_in c ps ≡ Some i → (i < length ps) × (code_of (get_or ps i copies) ≡ c)
unfolding place_in
found_in c [] i e = let z : ◌≡◌ {A = ℕ} 0 1 = cc in absurd (omega arith)
found_in c (p ∷ ps) i e = found_step c p ps i (eqb (code_of p) c) (place_in c ps) refl (λ j q. found_in c ps j q) e

pub code_has_place : (c i : ℕ) → place_of c ≡ Some i → (i < parameter_count) × (code_at i ≡ c)
unfolding place_of
code_has_place c i e = let h = found_in c (parameters_for recipes) i e in (h.0, code_in_list i h.0 ∙ h.1)

-- the code's returns
module _ (c : ℕ) where
  pub digits_outside : not (between 1 recipes (c / 10)) ≡ true → None ≡ by_digits recipes c
  unfolding by_digits
  digits_outside t = simp (not-true (between 1 recipes (c / 10)) t)

  module _ (t : not (between 1 recipes (c / 10)) ≡ false) where
    pub digits_inside : (p : Option (ℕ × ParameterKind)) → p ≡ by_units (c / 10) (c % 10) → p ≡ by_digits recipes c
    unfolding by_digits
    digits_inside p e = e ∙ simp (not-false (between 1 recipes (c / 10)) t)

    pub digits-none : (c % 10 ≡ 1 → ⊥) → (c % 10 ≡ 2 → ⊥) → (c % 10 ≡ 3 → ⊥) → None ≡ by_digits recipes c
    digits-none x y z = digits_inside None (simp (ne_eqb (c % 10) 1 x, ne_eqb (c % 10) 2 y, ne_eqb (c % 10) 3 z))

pub place-given-digits : (c : ℕ) (p : Option (ℕ × ParameterKind)) → p ≡ by_digits recipes c → (801 ≤ c → c ≤ 808 → ⊥) → digits_place p ≡ place_of c
unfolding place_of
place-given-digits c p e other = ap digits_place e ∙ sym ((ruled c).same_place ∙ simp (between_no 801 808 c other))

pub place-given_system : (c n : ℕ) → 801 ≤ c → c ≤ 808 → n ≡ 3 * recipes + (c - 801) → Some n ≡ place_of c
unfolding place_of
place-given_system c n l h e = ap Some e ∙ sym ((ruled c).same_place ∙ simp (between_yes 801 808 c l h))

pub code_given-recipe : (i : ℕ) → i < 3 * recipes → 10 * (i / 3 + 1) + (i % 3 + 1) ≡ code_at i
code_given-recipe i h = sym (code_in_list i (omega arith) ∙ code_recipe recipes i h)

pub code_given_system : (i : ℕ) → 3 * recipes ≤ i → i < parameter_count → 801 + (i - 3 * recipes) ≡ code_at i
code_given_system i l h = sym (code_in_list i h ∙ code_system recipes i l h)

pub code_beyond : (i : ℕ) → parameter_count ≤ i → 0 ≡ code_at i
unfolding code_at
code_beyond i h = sym (get_or-eq_default (map code_of (parameters_for recipes)) 0 h)

pub range-given-kind : (r : ℕ) (k : ParameterKind) → 1 ≤ r → r ≤ recipes → kind_range k ≡ range_at (recipe_place r k)
unfolding range_at
range-given-kind r k l h = sym (range-recipe recipes r k l h)

module _ (i : ℕ) (h : i < 3 * recipes) where
  pub range-given-recipe : (u : ℕ) → i % 3 ≡ u → kind_range (get_or kinds u LowFlow) ≡ range_at i
  range-given-recipe u e =
      ap (λ (v : ℕ). kind_range (get_or kinds v LowFlow)) (sym e) ∙ (range-given-kind (i / 3 + 1) (kind_at i) (omega arith) (omega arith) ∙ ap range_at (place_split i))

  pub range-given-third : (i % 3 ≡ 0 → ⊥) → (i % 3 ≡ 1 → ⊥) → kind_range LowFlow ≡ range_at i
  range-given-third a b = range-given-recipe 2 (omega arith)

-- each recipe has the ranges of the first
pub range_repeats : (i u : ℕ) → i < recipes → u < 3 → range_at (3 * i + u) ≡ range_at u
range_repeats i u h l =
    sym (range-given-recipe (3 * i + u) (omega arith) u (omega arith)) ∙ range-given-recipe u (omega arith) u (omega arith)

-- the table of the system's ranges is those of its parameters
pub range-given_system : (i : ℕ) → 3 * recipes ≤ i → i < parameter_count → get_or (map range_of system_parameters) (i - 3 * recipes) (range 0 0) ≡ range_at i
range-given_system i l h =
    sym
    (range_in_list i h
    ∙ (ap range_of (at_system recipes i l) ∙ sym (get_d_map_below range_of system_parameters (i - 3 * recipes) copies (range 0 0) (omega arith))))

pub range_beyond : (i : ℕ) → parameter_count ≤ i → range 0 0 ≡ range_at i
unfolding range_at
range_beyond i h = sym (get_or-eq_default (map range_of (parameters_for recipes)) (range 0 0) h)

-- every parameter's value fits eight digits, by computation over all places
pub value_small : (i : ℕ) → i < parameter_count → (range_at i).high < 10 ^ 8
unfolding range_at
value_small i h = ltb-true (range_at i).high (10 ^ 8) (holds_below (λ (j : ℕ). ltb (range_at j).high (10 ^ 8)) parameter_count refl i h)
