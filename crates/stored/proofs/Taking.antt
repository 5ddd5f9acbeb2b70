-- What the readers' answers tell, and what the numbers of some items make of a record, item by item; of the header, the numbers and
-- the alarms by the version that the length has. Assumes nothing.
use Prim.Native.Nat.{ℕ, zero, suc, ◌+◌, ◌-◌, ◌*◌, ◌^◌, ◌≤◌, ◌<◌}
use mathlib.Core.Bool.{Bool, true, false, not, ◌&&◌, false≢true}
use mathlib.Core.Path.{◌≡◌, refl, sym, ap, ◌∙◌}
use Rattle.std.specs.Prelude.{Option, None, Some, Result, Ok, Err}
use mathlib.Core.List.{List, [], ◌∷◌, ◌++◌}
use native.Mathlib.Omega.{arith}
use native.Mathlib.Numerals.{add-one}
use lib.Bits.{bit_and}
use lib.Dec.{eqb, ltb}
use lib.Pow.{pow_pos}
use lib.ListN.{length, get_or, take, drop, set, length-take, length-drop}
use borrow.Author.Tests.{eq-eqb, ne_eqb, ltb-true, lt-ltb, not-true, not-false}
use Rattle.base.specs.Test.{unless, pick, between, member}
use Rattle.base.specs.Lists.{over}
use Rattle.base.proofs.Tests.{by_test, and_yes, and_no, and_left, and_right, between_yes, between_high, holds_below}
use Rattle.state.specs.declared.Record.{Record}
use Rattle.state.specs.declared.Range.{Range}
use Rattle.state.specs.Parameter.{recipes, parameter_count, range_at}
use Rattle.state.specs.Alarm.{no_alarm}
use Rattle.state.proofs.Parameters.{range_repeats}
use Rattle.state.specs.Field.{number, alarms, value, level, get, put, field_range, listed, record_from}
use Rattle.state.proofs.Fields.{with_lists, put-value, put-level}
use Rattle.state.proofs.Whole.{listed-length}
use Rattle.stored.specs.declared.Refusal.{Refusal}
use Rattle.stored.specs.declared.Slot.{Slot}
use Rattle.stored.specs.declared.Version.{Version}
use Rattle.stored.specs.declared.Version.TheVariants as versions_of
use Rattle.stored.specs.Layout.{Item, alone, together, bit_mapped, scalar_items, parameter_items, versions, current, header_width, item_width, total_width, parameters_at, item_slot, slots_from, scalar_slots, no_slot, alarms_in, unused_bits, fits, put_item, put_bits, put_all}
use Rattle.stored.specs.Form.{Outcome, K, done, refusal_number, version_number, header_as, number_of, number_at, numbers_in, in_slot, all_fit, version_of, header_of, low_record, taken_from, body_of, after_header, read_of, number_read, alarms_read, alarms_at, pair_read, parameter_read}
use Rattle.base.proofs.Lists.{over-put, over_all}
use Rattle.stored.proofs.Slots.{pair, shared_slots, scalar_shared, value_slot, level_slot, parameters_width}
use Rattle.stored.proofs.Versions.{Known, later, body_parts, later_width}
use Rattle.stored.proofs.Alarms.{unused_mask}

-- ---- the header
module _ (s : List ℕ) (v : ℕ) (e : v ≡ version_of (length s)) where
  pub header_length : v ≡ 0 → K 1 ≡ header_of s
  unfolding header_of
  header_length z = let u : member (version_of (length s)) versions ≡ false = ap (λ (w : ℕ). member w versions) (sym e ∙ z) in simp u

  module _ (known : Known v) where
    its_known : Known (version_of (length s))
    its_known = ap (λ (w : ℕ). member w versions) (sym e) ∙ known

    pub header_version : (get_or s 0 0 ≡ v → ⊥) → K 2 ≡ header_of s
    unfolding header_of
    header_version n = simp (its_known, ne_eqb _ _ (λ q. n (q ∙ sym e)))

    module _ (o : get_or s 0 0 ≡ v) (n : ℕ) (i : n ≡ number_of (take 2 (drop 1 s))) where
      pub header_field : (n ≡ length s → ⊥) → K 3 ≡ header_of s
      unfolding header_of
      header_field d = simp (its_known, eq-eqb _ _ (o ∙ e), ne_eqb _ _ (λ q. d (i ∙ q)))

      pub header_good : n ≡ length s → done ≡ header_of s
      unfolding header_of
      header_good d = simp (its_known, eq-eqb _ _ (o ∙ e), eq-eqb _ _ (sym i ∙ d))

pub ruleset heading = (header_version, header_field, header_good)

-- ---- one number
pub slot_four : (s : Slot) (bs : List ℕ) → s.width ≤ 4 → length (take (s.at + s.width - s.at) (drop s.at bs)) ≤ 4
slot_four s bs h = simp (length-take, length-drop) (omega arith)

module _ (s : Slot) (bs : List ℕ) (n : ℕ) (b : Bool) (j : n ≡ number_of (take (s.at + s.width - s.at) (drop s.at bs)))
    (e : b ≡ between s.range.low s.range.high n) where
  is_number : n ≡ number_at bs s
  is_number = let w : s.at + s.width - s.at ≡ s.width = omega arith in j ∙ ap (λ (m : ℕ). number_of (take m (drop s.at bs))) w

  is_inside : b ≡ in_slot s (number_at bs s)
  is_inside = e ∙ ap (λ (m : ℕ). between s.range.low s.range.high m) is_number

  pub read_outside : not b ≡ true → None ≡ number_read s bs
  unfolding number_read
  read_outside h = simp (sym is_inside ∙ not-true b h)

  pub read_inside : not b ≡ false → Some n ≡ number_read s bs
  unfolding number_read
  read_inside h = ap Some is_number ∙ simp (sym is_inside ∙ not-false b h)

-- what a number's reader answers tells of its test
test_outside : (b : Bool) (m : ℕ) → unless b None (Some m) ≡ None → b ≡ false
test_outside false m q = refl
test_outside true m q = let z : ◌≡◌ {A = ℕ} 0 1 = cc in absurd (omega arith)

test_inside : (b : Bool) (m n : ℕ) → unless b None (Some m) ≡ Some n → (b ≡ true) × (m ≡ n)
test_inside true m n q = (refl, let z : m ≡ n = cc in z)
test_inside false m n q = let z : ◌≡◌ {A = ℕ} 0 1 = cc in absurd (omega arith)

pub told_outside : (s : Slot) (bs : List ℕ) (x : Option ℕ) → x ≡ number_read s bs → x ≡ None → in_slot s (number_at bs s) ≡ false
unfolding number_read
told_outside s bs x e o = test_outside (in_slot s (number_at bs s)) (number_at bs s) (sym e ∙ o)

pub record Read (s : Slot) (bs : List ℕ) (n : ℕ) : Type 0 where
  pub inside : in_slot s (number_at bs s) ≡ true
  pub is : number_at bs s ≡ n

pub told_inside : (s : Slot) (bs : List ℕ) (x : Option ℕ) (n : ℕ) → x ≡ number_read s bs → x ≡ Some n → Read s bs n
unfolding number_read
told_inside s bs x n e o = let t = test_inside (in_slot s (number_at bs s)) (number_at bs s) n (sym e ∙ o) in record { inside = t.0; is = t.1 }

pub read_high : (s : Slot) (bs : List ℕ) (n : ℕ) → Read s bs n → n ≤ s.range.high
read_high s bs n r = let h = between_high s.range.low s.range.high (number_at bs s) r.inside in let e = r.is in omega arith

-- ---- some items, one after the other

pub refused-done : {A : Type 0} (k : ℕ) (a b : A) → ◌≡◌ {A = Outcome × A} (K k, a) (done, b) → ⊥
refused-done {A} k a b e =
    let q : K k ≡ done = ap (λ (x : Outcome × A). x.0) e in
    let z : ◌≡◌ {A = ℕ} 0 1 = cc in
    omega arith

-- a number in its slot fits its item, but for the alarms'
abbrev ranged : Item → Bool
ranged (alone w f) = true
ranged (together fs) = true
ranged bit_mapped = false

inside_fits : (at : ℕ) (x : Item) (n : ℕ) → ranged x ≡ true → in_slot (item_slot at x) n ≡ true → fits x n ≡ true
inside_fits at (alone w f) n g i = i
inside_fits at (together fs) n g i =
    let h = between_high 0 (2 ^ length fs - 1) n i in
    let p = pow_pos (length fs) in
    lt-ltb n (2 ^ length fs) (omega arith)
inside_fits at bit_mapped n g i = absurd (false≢true g)

-- one outside of it fits none
outside_unfit : (at : ℕ) (x : Item) (n : ℕ) → in_slot (item_slot at x) n ≡ false → fits x n ≡ false
outside_unfit at (alone w f) n o = o
outside_unfit at (together fs) n o =
    by_test (ltb n (2 ^ length fs))
    (λ h. let l = ltb-true n (2 ^ length fs) h in absurd (false≢true (sym o ∙ between_yes 0 (2 ^ length fs - 1) n (omega arith) (omega arith))))
    (λ h. h)
outside_unfit at bit_mapped n o = simp o

-- so one that fits lies in its slot
pub fit_inside : (at : ℕ) (x : Item) (n : ℕ) → fits x n ≡ true → in_slot (item_slot at x) n ≡ true
fit_inside at x n i = by_test (in_slot (item_slot at x) n) (λ h. h) (λ h. absurd (false≢true (sym (outside_unfit at x n h) ∙ i)))

-- the number in an item's slot fits, and is this one
pub record Fitting (at : ℕ) (x : Item) (bs : List ℕ) (n : ℕ) : Type 0 where
  pub inside : fits x (number_at bs (item_slot at x)) ≡ true
  pub is : number_at bs (item_slot at x) ≡ n

read_fits : (at : ℕ) (x : Item) (bs : List ℕ) (n : ℕ) → ranged x ≡ true → Read (item_slot at x) bs n → Fitting at x bs n
read_fits at x bs n g h = record { inside = inside_fits at x (number_at bs (item_slot at x)) g h.inside; is = h.is }

module _ (bs : List ℕ) where
  module _ (at : ℕ) (x : Item) (xs : List Item) (r : Record) where
    pub taken-fitting : (n : ℕ) → Fitting at x bs n → taken_from at (x ∷ xs) bs r ≡ taken_from (at + item_width x) xs bs (put_item x n r)
    unfolding taken_from slots_from numbers_in all_fit put_all
    taken-fitting n h =
        let ns : List ℕ = numbers_in (slots_from (at + item_width x) xs) bs in
        ap (λ (b : Bool). unless (b && all_fit xs ns) (K 4, low_record) (done, put_all xs ns (put_item x (number_at bs (item_slot at x)) r))) h.inside ∙
        ap (λ (m : ℕ). unless (all_fit xs ns) (K 4, low_record) (done, put_all xs ns (put_item x m r))) h.is

    taken_unfit : fits x (number_at bs (item_slot at x)) ≡ false → taken_from at (x ∷ xs) bs r ≡ (K 4, low_record)
    unfolding taken_from slots_from numbers_in all_fit put_all
    taken_unfit h = simp h

  -- done with the first items, the others go on from there
  pub taken-done : (at : ℕ) (xs ys : List Item) (r s : Record) → taken_from at xs bs r ≡ (done, s) → taken_from at (xs ++ ys) bs r ≡ taken_from (at + total_width xs) ys bs s
  unfolding taken_from slots_from numbers_in all_fit put_all
  taken-done at [] ys r s e =
      let z : at ≡ at + 0 = omega arith in
      ap (λ (t : Record). taken_from at ys bs t) (ap (λ (p : Outcome × Record). p.1) e) ∙ ap (λ (k : ℕ). taken_from k ys bs s) z
  taken-done at (x ∷ xs) ys r s e =
      by_test (fits x (number_at bs (item_slot at x)))
      (λ h.
      let q : Fitting at x bs (number_at bs (item_slot at x)) = record { inside = h; is = refl } in
      let z : at + item_width x + total_width xs ≡ at + (item_width x + total_width xs) = omega arith in
      taken-fitting at x (xs ++ ys) r _ q ∙
      (taken-done (at + item_width x) xs ys (put_item x (number_at bs (item_slot at x)) r) s (sym (taken-fitting at x xs r _ q) ∙ e) ∙ ap (λ (k : ℕ). taken_from k ys bs s) z))
      (λ h. absurd (refused-done 4 low_record s (sym (taken_unfit at x xs r h) ∙ e)))

  -- refused by the first items, refused by all
  pub taken_refused : (at : ℕ) (xs ys : List Item) (r : Record) → taken_from at xs bs r ≡ (K 4, low_record) → taken_from at (xs ++ ys) bs r ≡ (K 4, low_record)
  unfolding taken_from slots_from numbers_in all_fit put_all
  taken_refused at [] ys r e = absurd (refused-done 4 low_record r (sym e))
  taken_refused at (x ∷ xs) ys r e =
      by_test (fits x (number_at bs (item_slot at x)))
      (λ h.
      let q : Fitting at x bs (number_at bs (item_slot at x)) = record { inside = h; is = refl } in
      taken-fitting at x (xs ++ ys) r _ q ∙ taken_refused (at + item_width x) xs ys (put_item x (number_at bs (item_slot at x)) r) (sym (taken-fitting at x xs r _ q) ∙ e))
      (λ h. taken_unfit at x (xs ++ ys) r h)

-- these numbers stand in the slots of these items
abbrev AllRead : List ℕ → ℕ → List Item → List ℕ → Type 0
AllRead bs at [] [] = Unit {0}
AllRead bs at [] (n ∷ ns) = ⊥
AllRead bs at (x ∷ xs) [] = ⊥
AllRead bs at (x ∷ xs) (n ∷ ns) = Read (item_slot at x) bs n × AllRead bs (at + item_width x) xs ns

abbrev all_ranged : List Item → Bool
all_ranged [] = true
all_ranged (x ∷ xs) = ranged x && all_ranged xs

all_read : (bs : List ℕ) (at : ℕ) (xs : List Item) (ns : List ℕ) (r : Record) → all_ranged xs ≡ true → AllRead bs at xs ns → taken_from at xs bs r ≡ (done, put_all xs ns r)
unfolding taken_from slots_from numbers_in all_fit put_all
all_read bs at [] [] r g h = refl
all_read bs at [] (n ∷ ns) r g h = absurd h
all_read bs at (x ∷ xs) [] r g h = absurd h
all_read bs at (x ∷ xs) (n ∷ ns) r g h =
    taken-fitting bs at x xs r n (read_fits at x bs n (and_left (ranged x) (all_ranged xs) g) h.0) ∙
    all_read bs (at + item_width x) xs ns (put_item x n r) (and_right (ranged x) (all_ranged xs) g) h.1

-- ---- one parameter
module _ (at i : ℕ) (bs : List ℕ) (s : Slot) (x : Option ℕ) (q : s ≡ value_slot at i) (e : x ≡ number_read s bs) where
  by_value : x ≡ number_read (value_slot at i) bs
  by_value = e ∙ ap (λ (t : Slot). number_read t bs) q

  pub value_out : x ≡ None → None ≡ parameter_read at i bs
  unfolding parameter_read
  value_out o = ap (λ (y : Option ℕ). pair_read y (number_read (level_slot at i) bs)) (sym o ∙ by_value)

  module _ (n : ℕ) (v : x ≡ Some n) (t : Slot) (y : Option ℕ) (p : t ≡ level_slot at i) (f : y ≡ number_read t bs) where
    by_level : y ≡ number_read (level_slot at i) bs
    by_level = f ∙ ap (λ (u : Slot). number_read u bs) p

    pair_is : pair_read (Some n) y ≡ parameter_read at i bs
    unfolding parameter_read
    pair_is = ap (λ (z : Option ℕ). pair_read z y) (sym v ∙ by_value) ∙ ap (pair_read (number_read (value_slot at i) bs)) by_level

    pub level_out : y ≡ None → None ≡ parameter_read at i bs
    level_out o = ap (pair_read (Some n)) (sym o) ∙ pair_is

    pub level_byte : (m : ℕ) → y ≡ Some m → m < 256
    level_byte m l = let h : m ≤ 3 = read_high (level_slot at i) bs m (told_inside (level_slot at i) bs y m by_level l) in omega arith

    pub both_in : (m : ℕ) → y ≡ Some m → Some (n, m) ≡ parameter_read at i bs
    both_in m l = ap (pair_read (Some n)) (sym l) ∙ pair_is

-- what its reader's answer tells
parameter_inside : (at i : ℕ) (bs : List ℕ) (n m : ℕ) → Some (n, m) ≡ parameter_read at i bs → Read (value_slot at i) bs n × Read (level_slot at i) bs m
unfolding parameter_read
parameter_inside at i bs n m e = go (number_read (value_slot at i) bs) (number_read (level_slot at i) bs) refl refl e
  where
    go : (x y : Option ℕ) → x ≡ number_read (value_slot at i) bs → y ≡ number_read (level_slot at i) bs → Some (n, m) ≡ pair_read x y
        → Read (value_slot at i) bs n × Read (level_slot at i) bs m
    go None y p q o = let z : ◌≡◌ {A = ℕ} 0 1 = cc in absurd (omega arith)
    go (Some v) None p q o = let z : ◌≡◌ {A = ℕ} 0 1 = cc in absurd (omega arith)
    go (Some v) (Some l) p q o =
        let both : ◌≡◌ {A = ℕ × ℕ} (n, m) (v, l) = cc in
        let a : n ≡ v = ap (λ (w : ℕ × ℕ). w.0) both in
        let b : m ≡ l = ap (λ (w : ℕ × ℕ). w.1) both in (
          told_inside (value_slot at i) bs (Some v) n p (ap Some (sym a)),
          told_inside (level_slot at i) bs (Some l) m q (ap Some (sym b)),
        )

parameter_outside : (at i : ℕ) (bs : List ℕ) → None ≡ parameter_read at i bs
    → (in_slot (value_slot at i) (number_at bs (value_slot at i)) && in_slot (level_slot at i) (number_at bs (level_slot at i))) ≡ false
unfolding parameter_read
parameter_outside at i bs e = go (number_read (value_slot at i) bs) (number_read (level_slot at i) bs) refl refl e
  where
    go : (x y : Option ℕ) → x ≡ number_read (value_slot at i) bs → y ≡ number_read (level_slot at i) bs → None ≡ pair_read x y
        → (in_slot (value_slot at i) (number_at bs (value_slot at i)) && in_slot (level_slot at i) (number_at bs (level_slot at i))) ≡ false
    go None y p q o = simp (told_outside (value_slot at i) bs None p refl)
    go (Some v) None p q o =
        and_no (in_slot (value_slot at i) (number_at bs (value_slot at i))) (in_slot (level_slot at i) (number_at bs (level_slot at i)))
        (λ a b. false≢true (sym (told_outside (level_slot at i) bs None q refl) ∙ b))
    go (Some v) (Some l) p q o = let z : ◌≡◌ {A = ℕ} 0 1 = cc in absurd (omega arith)

-- each recipe's ranges are those of the first
pub recipe-range : (g : Range) (r k : ℕ) → r < recipes → k < 3 → g ≡ range_at k → g ≡ range_at (3 * r + k)
recipe-range g r k h l e = e ∙ sym (range_repeats r k h l)

-- ---- the parameters, one after the other
module _ (bs : List ℕ) (at : ℕ) where
  abbrev both : ℕ → Bool
  both i = in_slot (value_slot at i) (number_at bs (value_slot at i)) && in_slot (level_slot at i) (number_at bs (level_slot at i))

  module _ (before : Record) where
    -- the first n parameters' items
    abbrev pub taken : ℕ → Outcome × Record
    taken n = taken_from at (parameter_items n) bs before

    pub begun : taken 0 ≡ (done, before)
    unfolding taken_from slots_from numbers_in all_fit put_all
    begun = refl

    -- refused by the first of them, refused by all
    later-refused : (n m : ℕ) → taken n ≡ (K 4, low_record) → taken (n + m) ≡ (K 4, low_record)
    later-refused n zero e = let z : n ≡ n + 0 = omega arith in ap taken (sym z) ∙ e
    later-refused n (suc m) e =
        let z : n + suc m ≡ suc (n + m) = omega arith in
        ap taken z ∙ taken_refused bs at (parameter_items (n + m)) (pair (n + m)) before (later-refused n m e)

    module _ (r : Record) (i : ℕ) (so_far : taken i ≡ (done, r)) where
      from_here : taken (i + 1) ≡ taken_from (at + 5 * i) (pair i) bs r
      from_here =
          ap taken (add-one i) ∙
          (taken-done bs at (parameter_items i) (pair i) before r so_far ∙
          ap (λ (w : ℕ). taken_from (at + w) (pair i) bs r) (parameters_width i))

      next_inside : (n m : ℕ) → Read (value_slot at i) bs n → Read (level_slot at i) bs m
          → taken (i + 1) ≡ (done, with_lists (set r.values i n) (set r.levels i m) r)
      unfolding taken_from slots_from numbers_in all_fit put_all
      next_inside n m v l =
          from_here ∙
          (taken-fitting bs (at + 5 * i) (alone 4 (value i)) (alone 1 (level i) ∷ []) r n (read_fits _ _ bs n refl v) ∙
          (taken-fitting bs (at + 5 * i + 4) (alone 1 (level i)) [] (put (value i) n r) m (read_fits _ _ bs m refl l) ∙
          ap (λ (t : Record). (done, t))
          (ap (put (level i) m) (sym (put-value i n r)) ∙ sym (put-level i m (with_lists (set r.values i n) r.levels r)))))

      next_outside : both i ≡ false → taken (i + 1) ≡ (K 4, low_record)
      next_outside o =
          from_here ∙
          by_test (in_slot (value_slot at i) (number_at bs (value_slot at i)))
          (λ v.
          let q : Fitting (at + 5 * i) (alone 4 (value i)) bs (number_at bs (value_slot at i)) = record { inside = v; is = refl } in
          let l : in_slot (level_slot at i) (number_at bs (level_slot at i)) ≡ false = ap (λ (b : Bool). b && in_slot (level_slot at i) (number_at bs (level_slot at i))) (sym v) ∙ o in
          taken-fitting bs (at + 5 * i) (alone 4 (value i)) (alone 1 (level i) ∷ []) r _ q ∙
          taken_unfit bs (at + 5 * i + 4) (alone 1 (level i)) [] (put (value i) (number_at bs (value_slot at i)) r) l)
          (λ v. taken_unfit bs (at + 5 * i) (alone 4 (value i)) (alone 1 (level i) ∷ []) r v)

      module _ (x : Option (ℕ × ℕ)) (e : x ≡ parameter_read at i bs) where
        pub both_inside : (n m : ℕ) → x ≡ Some (n, m) → taken (i + 1) ≡ (done, with_lists (set r.values i n) (set r.levels i m) r)
        both_inside n m o = let q = parameter_inside at i bs n m (sym o ∙ e) in next_inside n m q.0 q.1

        pub one_outside : i < parameter_count → x ≡ None → (K 4, low_record) ≡ taken parameter_count
        one_outside h o =
            let z : i + 1 + (parameter_count - (i + 1)) ≡ parameter_count = omega arith in
            sym (later-refused (i + 1) (parameter_count - (i + 1)) (next_outside (parameter_outside at i bs (sym o ∙ e)))) ∙ ap taken z

    pub all_taken : (r : Record) (i : ℕ) → taken i ≡ (done, r) → i ≤ parameter_count → parameter_count ≤ i → (done, r) ≡ taken parameter_count
    all_taken r i e h l = let z : i ≡ parameter_count = omega arith in sym e ∙ ap taken z

  -- the next kind of a recipe
  pub next_kind : (before f : Record) (r k : ℕ) → taken before (3 * r + k) ≡ (done, f) → (x : Option (ℕ × ℕ)) → x ≡ parameter_read at (3 * r + k) bs → (n m : ℕ) → x ≡ Some (n, m)
      → taken before (3 * r + (k + 1)) ≡ (done, with_lists (set f.values (3 * r + k) n) (set f.levels (3 * r + k) m) f)
  next_kind before f r k e x q n m o =
      let z : 3 * r + (k + 1) ≡ 3 * r + k + 1 = omega arith in ap (taken before) z ∙ both_inside before f (3 * r + k) e x q n m o

  -- ---- all parameters' numbers are stored: what the record's lists held before does not show
  abbrev all_both : ℕ → Bool
  all_both zero = true
  all_both (suc n) = all_both n && both n

  abbrev values : ℕ → List ℕ
  values n = listed (λ (i : ℕ). number_at bs (value_slot at i)) n

  abbrev levels : ℕ → List ℕ
  levels n = listed (λ (i : ℕ). number_at bs (level_slot at i)) n

  module _ (r : Record) (vs ls : List ℕ) where
    abbrev laid : ℕ → Record
    laid n = with_lists (over (values n) vs) (over (levels n) ls) r

    laid_next : (n : ℕ) → n < length vs → n < length ls
        → with_lists (set (over (values n) vs) n (number_at bs (value_slot at n))) (set (over (levels n) ls) n (number_at bs (level_slot at n))) r ≡ laid (suc n)
    unfolding listed
    laid_next n p q =
        let v = over-put (values n) vs n (number_at bs (value_slot at n)) (sym (listed-length (λ (i : ℕ). number_at bs (value_slot at i)) n)) p in
        let l = over-put (levels n) ls n (number_at bs (level_slot at n)) (sym (listed-length (λ (i : ℕ). number_at bs (level_slot at i)) n)) q in
        ap (λ (x : List ℕ). with_lists x (set (over (levels n) ls) n (number_at bs (level_slot at n))) r) v ∙ ap (λ (x : List ℕ). with_lists (over (values (suc n)) vs) x r) l

    all_laid : (n : ℕ) → n ≤ length vs → n ≤ length ls → taken (with_lists vs ls r) n ≡ unless (all_both n) (K 4, low_record) (done, laid n)
    unfolding over listed
    all_laid zero p q = begun (with_lists vs ls r)
    all_laid (suc n) p q =
        let h = all_laid n (omega arith) (omega arith) in
        let s : Record = with_lists vs ls r in
        by_test (all_both n)
        (λ t.
        let f : taken s n ≡ (done, laid n) = h ∙ ap (λ (b : Bool). unless b (K 4, low_record) (done, laid n)) t in
        by_test (both n)
        (λ b.
        ap (taken s) (sym (add-one n)) ∙
        (next_inside s (laid n) n f _ _ (record { inside = and_left (in_slot (value_slot at n) (number_at bs (value_slot at n))) (in_slot (level_slot at n) (number_at bs (level_slot at n))) b; is = refl })
        (record { inside = and_right (in_slot (value_slot at n) (number_at bs (value_slot at n))) (in_slot (level_slot at n) (number_at bs (level_slot at n))) b; is = refl }) ∙
        (ap (λ (x : Record). (done, x)) (laid_next n p q) ∙ ap (λ (x : Bool). unless x (K 4, low_record) (done, laid (suc n))) (sym (and_yes (all_both n) (both n) t b)))))
        (λ b.
        ap (taken s) (sym (add-one n)) ∙
        (next_outside s (laid n) n f b ∙ ap (λ (x : Bool). unless x (K 4, low_record) (done, laid (suc n))) (sym (and_no (all_both n) (both n) (λ x y. false≢true (sym b ∙ y)))))))
        (λ t.
        taken_refused bs at (parameter_items n) (pair n) s (h ∙ ap (λ (b : Bool). unless b (K 4, low_record) (done, laid n)) t) ∙
        ap (λ (x : Bool). unless x (K 4, low_record) (done, laid (suc n))) (sym (and_no (all_both n) (both n) (λ x y. false≢true (sym t ∙ x)))))

    all_new : length vs ≡ parameter_count → length ls ≡ parameter_count
        → taken (with_lists vs ls r) parameter_count ≡ unless (all_both parameter_count) (K 4, low_record) (done, with_lists (values parameter_count) (levels parameter_count) r)
    all_new p q =
        let a = listed-length (λ (i : ℕ). number_at bs (value_slot at i)) parameter_count in
        let b = listed-length (λ (i : ℕ). number_at bs (level_slot at i)) parameter_count in
        all_laid parameter_count (omega arith) (omega arith) ∙
        (ap (λ (x : List ℕ). unless (all_both parameter_count) (K 4, low_record) (done, with_lists x (over (levels parameter_count) ls) r)) (over_all (values parameter_count) vs (omega arith)) ∙
        ap (λ (x : List ℕ). unless (all_both parameter_count) (K 4, low_record) (done, with_lists (values parameter_count) x r)) (over_all (levels parameter_count) ls (omega arith)))

  lists_new : (r : Record) (vs ls vs' ls' : List ℕ) → length vs ≡ parameter_count → length ls ≡ parameter_count → length vs' ≡ parameter_count → length ls' ≡ parameter_count
      → taken (with_lists vs ls r) parameter_count ≡ taken (with_lists vs' ls' r) parameter_count
  lists_new r vs ls vs' ls' a b c d = all_new r vs ls a b ∙ sym (all_new r vs' ls' c d)

-- ---- the numbers before them
abbrev pub alarms_slot : Slot
alarms_slot = item_slot (parameters_at 1) bit_mapped

-- where no alarm is on, none put is no change
pub no_alarm-put : (r : Record) → get alarms r ≡ no_alarm → put alarms (alarms_in 0) r ≡ r
unfolding put alarms_in
no_alarm-put r e = ap (λ (n : ℕ). put alarms n r) (sym e)

-- the alarms' reader, a law for each return
module _ (bs : List ℕ) (v : Version) where
  pub alarms_none : v ≡ versions_of.WithoutAlarms → Some 0 ≡ alarms_at (version_number v) bs
  unfolding alarms_at
  alarms_none e = simp e

  module _ (z : v ≡ versions_of.WithAlarms) (t : Slot) (q : t ≡ get_or (scalar_slots current) 8 no_slot) (x : Option ℕ) (e : x ≡ number_read t bs) where
    alarms_are : alarms_read x ≡ alarms_at (version_number v) bs
    unfolding alarms_at slots_from
    alarms_are = ap alarms_read (e ∙ ap (λ (u : Slot). number_read u bs) q) ∙ simp z

    pub alarms_beyond : x ≡ None → None ≡ alarms_at (version_number v) bs
    unfolding alarms_read
    alarms_beyond o = ap alarms_read (sym o) ∙ alarms_are

    module _ (n : ℕ) (i : x ≡ Some n) where
      pub alarms_unused : (bit_and n 0x8f ≡ 0 → ⊥) → None ≡ alarms_at (version_number v) bs
      unfolding alarms_read
      alarms_unused u =
          let d : None ≡ alarms_read (Some n) = simp (unused_mask, ne_eqb _ _ u) in d ∙ (ap alarms_read (sym i) ∙ alarms_are)

      pub alarms_used : bit_and n 0x8f ≡ 0 → Some n ≡ alarms_at (version_number v) bs
      unfolding alarms_read
      alarms_used u =
          let d : Some n ≡ alarms_read (Some n) = simp (unused_mask, eq-eqb _ _ u) in d ∙ (ap alarms_read (sym i) ∙ alarms_are)

pub ruleset alarming = (alarms_none, alarms_beyond, alarms_unused, alarms_used)

low_values : length low_record.values ≡ parameter_count
unfolding low_record record_from
low_values = listed-length _ parameter_count

low_levels : length low_record.levels ≡ parameter_count
unfolding low_record record_from
low_levels = listed-length _ parameter_count

module _ (bs : List ℕ) where
  -- one that lies outside refuses all
  outside_at : (at : ℕ) (xs : List Item) (k : ℕ) (r : Record) → k < length xs
      → in_slot (get_or (slots_from at xs) k no_slot) (number_at bs (get_or (slots_from at xs) k no_slot)) ≡ false → taken_from at xs bs r ≡ (K 4, low_record)
  unfolding slots_from
  outside_at at [] k r h o = absurd (omega arith)
  outside_at at (x ∷ xs) zero r h o = taken_unfit bs at x xs r (outside_unfit at x (number_at bs (item_slot at x)) o)
  outside_at at (x ∷ xs) (suc k) r h o =
      by_test (fits x (number_at bs (item_slot at x)))
      (λ i.
      let q : Fitting at x bs (number_at bs (item_slot at x)) = record { inside = i; is = refl } in
      taken-fitting bs at x xs r _ q ∙ outside_at (at + item_width x) xs k (put_item x (number_at bs (item_slot at x)) r) (omega arith) o)
      (λ i. taken_unfit bs at x xs r i)

  -- the items that a version stores
  abbrev pub version : ℕ
  version = version_of (length bs)

  module _ (known : Known version) where
    body_begun : body_of bs ≡ taken_from header_width (scalar_items ++ (later version ++ parameter_items parameter_count)) bs low_record
    unfolding body_of
    body_begun = ap (λ (xs : List Item). taken_from header_width xs bs low_record) (body_parts version known)

    pub body_outside : (k : ℕ) (t : Slot) (x : Option ℕ) → k < length scalar_items → t ≡ get_or (scalar_slots current) k no_slot → x ≡ number_read t bs
        → x ≡ None → (K 4, low_record) ≡ body_of bs
    body_outside k t x h i e o =
        let u : get_or shared_slots k no_slot ≡ t = sym (scalar_shared t k i h) in
        sym (body_begun ∙
        taken_refused bs header_width scalar_items (later version ++ parameter_items parameter_count) low_record
        (outside_at header_width scalar_items k low_record h (told_outside _ bs x (e ∙ ap (λ (w : Slot). number_read w bs) (sym u)) o)))

  place-told : (k : ℕ) (t : Slot) (x : Option ℕ) (n : ℕ) → k < length scalar_items → t ≡ get_or (scalar_slots current) k no_slot → x ≡ number_read t bs → x ≡ Some n
      → Read (get_or shared_slots k no_slot) bs n
  place-told k t x n h q e i = told_inside (get_or shared_slots k no_slot) bs x n (e ∙ ap (λ (u : Slot). number_read u bs) (scalar_shared t k q h)) i

  -- the first five numbers are bytes, and the last is of two
  module _ (k : ℕ) (t : Slot) (x : Option ℕ) (n : ℕ) (q : t ≡ get_or (scalar_slots current) k no_slot) (e : x ≡ number_read t bs) (i : x ≡ Some n) where
    below_high : (high : ℕ) → k < length scalar_items → (get_or shared_slots k no_slot).range.high < high → n < high
    below_high high h l = let m = read_high (get_or shared_slots k no_slot) bs n (place-told k t x n h q e i) in omega arith

    pub is_byte : k < 5 → n < 256
    unfolding slots_from
    is_byte h = below_high 256 (omega arith) (ltb-true _ _ (holds_below (λ (j : ℕ). ltb (get_or shared_slots j no_slot).range.high 256) 5 refl k h))

    pub is_two_bytes : k ≡ 7 → n < 65536
    unfolding slots_from
    is_two_bytes h =
        let l : (get_or shared_slots k no_slot).range.high ≡ (field_range number).high = ap (λ (j : ℕ). (get_or shared_slots j no_slot).range.high) h in
        below_high 65536 (omega arith) (omega arith)

  -- refused by later items, whatever the first make of the record, refused by all
  taken-later : (at : ℕ) (xs ys : List Item) (r : Record) → ((s : Record) → taken_from (at + total_width xs) ys bs s ≡ (K 4, low_record)) → taken_from at (xs ++ ys) bs r ≡ (K 4, low_record)
  taken-later at [] ys r h = let z : at ≡ at + 0 = omega arith in ap (λ (k : ℕ). taken_from k ys bs r) z ∙ h r
  taken-later at (x ∷ xs) ys r h =
      by_test (fits x (number_at bs (item_slot at x)))
      (λ i.
      let q : Fitting at x bs (number_at bs (item_slot at x)) = record { inside = i; is = refl } in
      let z : at + item_width x + total_width xs ≡ at + (item_width x + total_width xs) = omega arith in
      taken-fitting bs at x (xs ++ ys) r _ q ∙
      taken-later (at + item_width x) xs ys (put_item x (number_at bs (item_slot at x)) r) (λ s. ap (λ (k : ℕ). taken_from k ys bs s) z ∙ h s))
      (λ i. taken_unfit bs at x (xs ++ ys) r i)

  -- ---- the alarms

  -- their number is tested as it fits
  alarms_tested : alarms_read (number_read alarms_slot bs) ≡ unless (fits bit_mapped (number_at bs alarms_slot)) None (Some (number_at bs alarms_slot))
  unfolding alarms_read number_read
  alarms_tested = go (in_slot alarms_slot (number_at bs alarms_slot))
    where
      go : (b : Bool) → alarms_read (unless b None (Some (number_at bs alarms_slot)))
          ≡ unless (b && eqb (bit_and (number_at bs alarms_slot) unused_bits) 0) None (Some (number_at bs alarms_slot))
      go true = refl
      go false = refl

  module _ (x : Option ℕ) (r : Record) where
    -- by whether the version has none
    alarms-out : (b : Bool) → x ≡ pick b (Some 0) (alarms_read (number_read alarms_slot bs)) → x ≡ None
        → taken_from (parameters_at 1) (pick b [] (bit_mapped ∷ [])) bs r ≡ (K 4, low_record)
    alarms-out true e o = absurd (false≢true (sym (test_outside true 0 (sym e ∙ o))))
    alarms-out false e o =
        taken_unfit bs (parameters_at 1) bit_mapped [] r (test_outside (fits bit_mapped (number_at bs alarms_slot)) (number_at bs alarms_slot) (sym alarms_tested ∙ (sym e ∙ o)))

    alarms_in_lem : (b : Bool) (n : ℕ) → x ≡ pick b (Some 0) (alarms_read (number_read alarms_slot bs)) → x ≡ Some n → get alarms r ≡ no_alarm
        → taken_from (parameters_at 1) (pick b [] (bit_mapped ∷ [])) bs r ≡ (done, put alarms (alarms_in n) r)
    unfolding taken_from slots_from numbers_in all_fit put_all
    alarms_in_lem true n e i a =
        let z : 0 ≡ n = (test_inside true 0 n (sym e ∙ i)).1 in
        ap (λ (s : Record). (done, s)) (sym (no_alarm-put r a) ∙ ap (λ (m : ℕ). put alarms (alarms_in m) r) z)
    alarms_in_lem false n e i a =
        let t = test_inside (fits bit_mapped (number_at bs alarms_slot)) (number_at bs alarms_slot) n (sym alarms_tested ∙ (sym e ∙ i)) in
        taken-fitting bs (parameters_at 1) bit_mapped [] r n (record { inside = t.0; is = t.1 })

  module _ (known : Known version) (v : ℕ) (w : v ≡ version) (x : Option ℕ) (e : x ≡ alarms_at v bs) where
    of_version : x ≡ pick (eqb version 1) (Some 0) (alarms_read (number_read alarms_slot bs))
    unfolding alarms_at
    of_version = e ∙ ap (λ (u : ℕ). alarms_at u bs) w

    pub alarms_outside : x ≡ None → (K 4, low_record) ≡ body_of bs
    alarms_outside o =
        sym (body_begun known ∙
        taken-later header_width scalar_items (later version ++ parameter_items parameter_count) low_record
        (λ r. taken_refused bs (parameters_at 1) (later version) (parameter_items parameter_count) r (alarms-out x r (eqb version 1) of_version o)))

    module _ (t₀ t₁ t₂ t₃ t₄ t₅ t₆ t₇ : Slot) (x₀ x₁ x₂ x₃ x₄ x₅ x₆ x₇ : Option ℕ) (n₀ n₁ n₂ n₃ n₄ n₅ n₆ n₇ : ℕ)
        (q₀ : t₀ ≡ get_or (scalar_slots current) 0 no_slot) (e₀ : x₀ ≡ number_read t₀ bs) (i₀ : x₀ ≡ Some n₀)
        (q₁ : t₁ ≡ get_or (scalar_slots current) 1 no_slot) (e₁ : x₁ ≡ number_read t₁ bs) (i₁ : x₁ ≡ Some n₁)
        (q₂ : t₂ ≡ get_or (scalar_slots current) 2 no_slot) (e₂ : x₂ ≡ number_read t₂ bs) (i₂ : x₂ ≡ Some n₂)
        (q₃ : t₃ ≡ get_or (scalar_slots current) 3 no_slot) (e₃ : x₃ ≡ number_read t₃ bs) (i₃ : x₃ ≡ Some n₃)
        (q₄ : t₄ ≡ get_or (scalar_slots current) 4 no_slot) (e₄ : x₄ ≡ number_read t₄ bs) (i₄ : x₄ ≡ Some n₄)
        (q₅ : t₅ ≡ get_or (scalar_slots current) 5 no_slot) (e₅ : x₅ ≡ number_read t₅ bs) (i₅ : x₅ ≡ Some n₅)
        (q₆ : t₆ ≡ get_or (scalar_slots current) 6 no_slot) (e₆ : x₆ ≡ number_read t₆ bs) (i₆ : x₆ ≡ Some n₆)
        (q₇ : t₇ ≡ get_or (scalar_slots current) 7 no_slot) (e₇ : x₇ ≡ number_read t₇ bs) (i₇ : x₇ ≡ Some n₇) where
      abbrev ns : List ℕ
      ns = n₀ ∷ n₁ ∷ n₂ ∷ n₃ ∷ n₄ ∷ n₅ ∷ n₆ ∷ n₇ ∷ []

      abbrev scalars : Record
      scalars = put_all scalar_items ns low_record

      all_inside : taken_from header_width scalar_items bs low_record ≡ (done, scalars)
      unfolding slots_from
      all_inside =
          all_read bs header_width scalar_items ns low_record refl (place-told 0 t₀ x₀ n₀ (omega arith) q₀ e₀ i₀, (place-told 1 t₁ x₁ n₁ (omega arith) q₁ e₁ i₁, (place-told 2 t₂ x₂ n₂ (omega arith) q₂ e₂ i₂, (place-told 3 t₃ x₃ n₃ (omega arith) q₃ e₃ i₃, (place-told 4 t₄ x₄ n₄ (omega arith) q₄ e₄ i₄, (place-told 5 t₅ x₅ n₅ (omega arith) q₅ e₅ i₅, (place-told 6 t₆ x₆ n₆ (omega arith) q₆ e₆ i₆, (place-told 7 t₇ x₇ n₇ (omega arith) q₇ e₇ i₇, tt))))))))

      no_alarm_yet : get alarms scalars ≡ no_alarm
      unfolding put_all put_bits put low_record record_from
      no_alarm_yet = refl

      -- the numbers go into no list
      lists_stay : (a : ℕ) → with_lists low_record.values low_record.levels (put alarms a scalars) ≡ put alarms a scalars
      unfolding put_all put_bits put
      lists_stay a = refl

      pub body_inside : (n : ℕ) → x ≡ Some n → (made : Record) (vs ls : List ℕ) (read : Outcome × Record) → length vs ≡ parameter_count → length ls ≡ parameter_count
          → made ≡ with_lists vs ls (put alarms (alarms_in n) scalars) → read ≡ taken_from (parameters_at v) (parameter_items parameter_count) bs made → read ≡ body_of bs
      body_inside n i made vs ls read lv ll m f =
          let start : ℕ = parameters_at version in
          let from : Record → Outcome × Record = λ r. taken bs start r parameter_count in
          let filled : Record = put alarms (alarms_in n) scalars in
          f ∙
          (ap (λ (k : ℕ). taken_from k (parameter_items parameter_count) bs made) (ap parameters_at w) ∙
          (ap from m ∙
          (lists_new bs start filled vs ls low_record.values low_record.levels lv ll low_values low_levels ∙
          (ap from (lists_stay (alarms_in n)) ∙
          sym (body_begun known ∙
          (taken-done bs header_width scalar_items (later version ++ parameter_items parameter_count) low_record scalars all_inside ∙
          (taken-done bs (parameters_at 1) (later version) (parameter_items parameter_count) scalars filled (alarms_in_lem x scalars (eqb version 1) n of_version i no_alarm_yet) ∙
          ap (λ (k : ℕ). taken_from k (parameter_items parameter_count) bs filled) (later_width version))))))))

-- ---- all

-- the length's version is none: K1
first_done : (b : Bool) (k : ℕ) (o : Outcome) → done ≡ unless b (K k) o → b ≡ true
first_done true k o q = refl
first_done false k o q = let z : ◌≡◌ {A = ℕ} 0 1 = cc in absurd (omega arith)

module _ (s : List ℕ) (h : Result (Unit {0}) Refusal) (e : header_as h ≡ header_of s) where
  pub read_refused : (k : Refusal) → h ≡ Err k → (K (refusal_number k), low_record) ≡ read_of s
  unfolding read_of
  read_refused k q = ap (λ (x : Outcome). after_header x s) (ap header_as (sym q) ∙ e)

  pub good_version : (u : Unit {0}) → h ≡ Ok u → Known (version_of (length s))
  unfolding header_of
  good_version u q = first_done _ 1 _ (ap header_as (sym q) ∙ e)

  pub read_good : (u : Unit {0}) → h ≡ Ok u → (x : Outcome × Record) → x ≡ body_of s → x ≡ read_of s
  unfolding read_of
  read_good u q x b = b ∙ ap (λ (x : Outcome). after_header x s) (ap header_as (sym q) ∙ e)
