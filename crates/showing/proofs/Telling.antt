-- One law for each return of the functions that restrict what is known by a number. Assumes nothing.
use Rattle.std.specs.Prelude.{Option, Some, None}
use Prim.Native.Nat.{ℕ, zero, suc, ◌+◌, ◌*◌, ◌%◌, ◌^◌, ◌≤◌, ◌<◌, min}
use mathlib.Core.Bool.{Bool, true, false, ◌&&◌, and-false}
use mathlib.Core.Path.{◌≡◌, refl, sym, ap, ◌∙◌}
use mathlib.Core.List.{[], ◌∷◌, List}
use native.Mathlib.Omega.{arith}
use lib.Dec.{eqb}
use lib.ListN.{length, take, drop, length-take}
use borrow.Author.Tests.{ne_eqb, eqb-true}
use Rattle.base.proofs.Tests.{holds_below, between_low, between_high}
use Rattle.base.specs.Text.{text}
use Rattle.state.specs.Field.{recipe, value, level, position, field_range, flag_number}
use Rattle.state.specs.Valid.{within}
use Rattle.state.specs.declared.ParameterKind.TheVariants.{Factor}
use Rattle.state.specs.declared.Range.{Range}
use Rattle.state.specs.Parameter.{recipes, kind_range, range_at}
use Rattle.state.proofs.Parameters.{range-given-kind}
use Rattle.command.specs.declared.Reading.{Reading}
use Rattle.command.specs.declared.Reading.TheVariants as reading
use Rattle.text.specs.Word.{equal}
use Rattle.command.specs.Commands.{factor_place, parameter_label, acknowledged, composition, row_of}
use Rattle.command.specs.Request.{reading_as, reply_of}
use Rattle.knowledge.specs.Sets.{mask_from, mask_of, alone}
use Rattle.knowledge.specs.declared.Knowledge.{Knowledge}
use Rattle.knowledge.specs.Knowledge.{dead, restricted}
use Rattle.showing.specs.Heard.{number_behind}
use Rattle.showing.specs.Shown.{told_by, restricted_by, composition_shown, shown}
use Rattle.showing.proofs.Reading.{behind_length}
use Rattle.showing.proofs.Places.{restrict_by_placed, tell_by_placed}

-- a mask is settled by the tests of the numbers that it covers
mask_same : (p q : ℕ → Bool) (n i : ℕ) → ((k : ℕ) → i ≤ k → k < i + n → p k ≡ q k) → mask_from p n i ≡ mask_from q n i
unfolding mask_from
mask_same p q zero i h = refl
mask_same p q (suc n) i h =
    let e : flag_number (p i) ≡ flag_number (q i) = ap flag_number (h i (omega arith) (omega arith)) in
    let r : mask_from p n (i + 1) ≡ mask_from q n (i + 1) = mask_same p q n (i + 1) (λ k l u. h k (omega arith) (omega arith)) in
    omega arith

none : 0 ≡ mask_of (λ i. false)
unfolding mask_from
none = refl

-- 1 shifted by n places, as the code has it, is the mask of n alone: by computation over all numbers
abbrev shifted : ℕ → ℕ
shifted n = (1 * 2 ^ n) % 2 ^ 32

each : (n : ℕ) → n ≤ recipes → shifted n ≡ mask_of (λ i. eqb i n)
unfolding mask_from
each n h = eqb-true (shifted n) _ (holds_below (λ m. eqb (shifted m) (mask_of (λ i. eqb i m))) (recipes + 1) refl n (omega arith))

module _ (g : Range) (n : ℕ) where
  -- the range is tested at n
  alone_as : (q : ℕ → Bool) → ((k : ℕ) → k < recipes + 1 → (within g n && eqb k n) ≡ q k) → mask_of q ≡ mask_of (λ i. within g i && eqb i n)
  alone_as q h = sym (mask_same (λ i. within g i && eqb i n) q (recipes + 1) 0 (λ k l u. go k (eqb k n) refl ∙ h k u))
    where
      go : (k : ℕ) (t : Bool) → eqb k n ≡ t → (within g k && eqb k n) ≡ (within g n && eqb k n)
      go k true z = ap (λ (m : ℕ). within g m && eqb k n) (eqb-true k n z)
      go k false z = ap (λ (t : Bool). within g k && t) z ∙ and-false (within g k) ∙ sym (and-false (within g n)) ∙ ap (λ (t : Bool). within g n && t) (sym z)

  pub alone_outside : within g n ≡ false → 0 ≡ mask_of (λ i. within g i && eqb i n)
  alone_outside h = none ∙ alone_as (λ k. false) (λ k u. ap (λ (t : Bool). t && eqb k n) h)

  pub alone_above : recipes < n → 0 ≡ mask_of (λ i. within g i && eqb i n)
  alone_above h = none ∙ alone_as (λ k. false) (λ k u. ap (λ (t : Bool). within g n && t) (ne_eqb k n (λ q. omega arith)) ∙ and-false (within g n))

  pub alone_inside : within g n ≡ true → n ≤ recipes → shifted n ≡ mask_of (λ i. within g i && eqb i n)
  alone_inside h l = each n l ∙ alone_as (λ k. eqb k n) (λ k u. ap (λ (t : Bool). t && eqb k n) h)

-- ---- `show_ok`
module _ (s : List ℕ) (k : Knowledge) where
  pub ok_stands : equal s (0x4f ∷ 0x4b ∷ []) ≡ true → shown acknowledged s k ≡ k
  unfolding shown
  ok_stands h = simp h

  pub ok_fails : equal s (0x4f ∷ 0x4b ∷ []) ≡ false → shown acknowledged s k ≡ dead k
  unfolding shown
  ok_fails h = simp h

pub ruleset ok_read = (ok_stands, ok_fails)

-- ---- `show_composition`
module _ (n : ℕ) (h : within (field_range recipe) n ≡ true) where
  recipe_low : (field_range recipe).low ≤ n
  recipe_low = between_low (field_range recipe).low (field_range recipe).high n h

  recipe_high : n ≤ (field_range recipe).high
  recipe_high = between_high (field_range recipe).low (field_range recipe).high n h

  pub recipe_small : n < 65536
  recipe_small = omega (arith, recipe_high)

  factor_range : kind_range Factor ≡ range_at (factor_place n)
  factor_range = range-given-kind n Factor recipe_low recipe_high

module _ (s : List ℕ) (k : Knowledge) where
  pub recipe_short : length s < 5 → shown composition s k ≡ dead k
  unfolding shown
  recipe_short l =
      let m : length (take 5 s) < 5 = simp length-take (omega arith) in
      ap (λ (d : Option ℕ). composition_shown d (number_behind (text " ") 8 (drop 5 s)) k) (sym (behind_length (text "RC ") (take 5 s) 2 (λ e. omega arith)))

  module _ (b : List ℕ) (first : b ≡ take 5 s) where
    as_read : (x : Option ℕ) → number_behind (text "RC ") 2 b ≡ x → shown composition s k ≡ composition_shown x (number_behind (text " ") 8 (drop 5 s)) k
    unfolding shown
    as_read x e = ap (λ (y : Option ℕ). composition_shown y (number_behind (text " ") 8 (drop 5 s)) k) (ap (number_behind (text "RC ") 2) (sym first) ∙ e)

    pub recipe_nothing : number_behind (text "RC ") 2 b ≡ None → shown composition s k ≡ dead k
    recipe_nothing e = as_read None e

    module _ (n : ℕ) (e : number_behind (text "RC ") 2 b ≡ Some n) where
      pub recipe_outside : within (field_range recipe) n ≡ false → shown composition s k ≡ dead k
      recipe_outside o = as_read (Some n) e ∙ simp o

      pub recipe_factor : within (field_range recipe) n ≡ true → (j m : ℕ) (d : Option ℕ) (a r : Knowledge) → j ≡ factor_place n → m ≡ alone recipe n
          → a ≡ restricted (position recipe) m k → d ≡ number_behind (text " ") 8 (drop 5 s) → r ≡ told_by (position (value j)) (kind_range Factor) d a
          → r ≡ shown composition s k
      recipe_factor i j m d a r x y z v h =
          let f : Option ℕ = number_behind (text " ") 8 (drop 5 s) in
          let l : Knowledge = restricted (position recipe) (alone recipe n) k in
          let p : ℕ = position (value (factor_place n)) in
          h ∙ (ap (λ (q : ℕ). told_by (position (value q)) (kind_range Factor) d a) x ∙ (ap (λ (e : Option ℕ). told_by p (kind_range Factor) e a) v
          ∙ (ap (told_by p (kind_range Factor) f) (z ∙ ap (λ (q : ℕ). restricted (position recipe) q k) y) ∙ (ap (λ (q : Range). told_by p q f l) (factor_range n i)
          ∙ sym (as_read (Some n) e ∙ simp i)))))

pub ruleset recipe_read = (recipe_short, recipe_nothing, recipe_outside, recipe_factor, recipe_small)

-- ---- `show`
module _ (s : List ℕ) (k r : Knowledge) (q : Reading) where
  pub shown_as : (t : Reading) → q ≡ t → r ≡ shown (reply_of (reading_as t)) s k → r ≡ shown (reply_of (reading_as q)) s k
  shown_as t e h = h ∙ sym (ap (λ (x : Reading). shown (reply_of (reading_as x)) s k) e)

  module _ (w : List ℕ) (i p : ℕ) (d : Option ℕ) where
    pub value_shown : p ≡ min (position (value i)) (length k.codes) → (g : Range) → q ≡ reading.Value i → d ≡ number_behind w 8 s → w ≡ parameter_label (text "PV ") i
        → g ≡ range_at i → r ≡ told_by p g d k → r ≡ shown (reply_of (reading_as q)) s k
    unfolding shown row_of
    value_shown y g e z v u h =
        shown_as (reading.Value i) e
        (h ∙ (ap (λ (n : ℕ). told_by n g d k) y ∙ (tell_by_placed k g d (position (value i))
        ∙ (ap (λ (n : Range). told_by (position (value i)) n d k) u ∙ ap (λ (x : Option ℕ). told_by (position (value i)) (range_at i) x k) (z ∙ ap (λ (l : List ℕ). number_behind l 8 s) v)))))

    pub level_shown : p ≡ min (position (level i)) (length k.codes) → q ≡ reading.Level i → d ≡ number_behind w 1 s → w ≡ parameter_label (text "XV ") i
        → r ≡ restricted_by p (field_range (level i)) d k → r ≡ shown (reply_of (reading_as q)) s k
    unfolding shown row_of
    level_shown y e z v h =
        shown_as (reading.Level i) e
        (h ∙ (ap (λ (n : ℕ). restricted_by n (field_range (level i)) d k) y ∙ (restrict_by_placed k (field_range (level i)) d (position (level i))
        ∙ ap (λ (x : Option ℕ). restricted_by (position (level i)) (field_range (level i)) x k) (z ∙ ap (λ (l : List ℕ). number_behind l 1 s) v))))

pub ruleset replies = (shown_as, value_shown, level_shown)
