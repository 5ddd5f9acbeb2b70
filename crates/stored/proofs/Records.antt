-- A record and its stored numbers are inverse to each other, and the record is valid exactly if the numbers fit their items: over any
-- list of items that names each field once, and then for the lists that the versions store. Assumes nothing.
use Prim.Native.Nat.{ℕ, suc, ◌+◌, ◌*◌, ◌/◌, ◌%◌, ◌^◌, ◌≤◌, ◌<◌}
use mathlib.Core.Bool.{Bool, true, false, not, ◌&&◌, ◌||◌, false≢true}
use mathlib.Core.Path.{◌≡◌, refl, sym, ap, ◌∙◌}
use mathlib.Core.List.{List, [], ◌∷◌, map}
use native.Mathlib.Nat.{pow-suc}
use native.Mathlib.Omega.{arith}
use lib.Dec.{eqb, ltb}
use lib.ListN.{length}
use borrow.Author.Tests.{eq-eqb, ne_eqb, eqb-true, eqb-false, ltb-true, lt-ltb, not-true}
use Rattle.base.proofs.Tests.{and_yes, and_left, and_right, neither, between_yes, between_high, holds_below}
use Rattle.state.specs.declared.Record.{Record}
use Rattle.state.specs.Parameter.{parameter_count}
use Rattle.state.specs.Field.{Field, alarms, value, position, get, put, field_range, off, on, Held}
use Rattle.state.specs.Valid.{within, valid}
use Rattle.state.proofs.Fields.{at_field, get-put_other}
use Rattle.state.proofs.Kept.{field_in, get-put_own, put_kept}
use Rattle.state.proofs.Whole.{same_fields, from_valid, low_within}
use Rattle.stored.specs.Layout.{Item, alone, together, bit_mapped, current, items, alarms_stored, alarms_in, fits, bits, item_number, numbers_of, put_bits, put_item, put_all}
use Rattle.stored.specs.Form.{all_fit, low_record}
use Rattle.stored.proofs.Versions.{Known, by_versions}
use Rattle.stored.proofs.Alarms.{alarms_back, stored-fits, alarms-within, stored_back}

-- ---- which fields items name

-- a field by its position
abbrev pub among : List Field → ℕ → Bool
among [] p = false
among (f ∷ fs) p = eqb (position f) p || among fs p

abbrev pub names : Item → ℕ → Bool
names (alone w f) p = eqb (position f) p
names (together fs) p = among fs p
names bit_mapped p = eqb (position alarms) p

abbrev pub names_in : List Item → ℕ → Bool
names_in [] p = false
names_in (x ∷ xs) p = names x p || names_in xs p

abbrev held : Field → Bool
held f = ltb (position f) (position (value parameter_count))

abbrev flag : Field → Bool
flag f = eqb (field_range f).low off && eqb (field_range f).high on

-- the fields are the record's, several in one byte are flags, and each is named once
abbrev flags : List Field → Bool
flags [] = true
flags (f ∷ fs) = (held f && flag f) && (not (among fs (position f)) && flags fs)

abbrev apart : List Field → List Item → Bool
apart [] xs = true
apart (f ∷ fs) xs = not (names_in xs (position f)) && apart fs xs

abbrev sound_item : Item → List Item → Bool
sound_item (alone w f) xs = held f && not (names_in xs (position f))
sound_item (together fs) xs = flags fs && apart fs xs
sound_item bit_mapped xs = not (names_in xs (position alarms))

abbrev sound : List Item → Bool
sound [] = true
sound (x ∷ xs) = sound_item x xs && sound xs

-- ---- tests
either : {P : Type 0} (a b : Bool) → (a || b) ≡ true → (a ≡ true → P) → (b ≡ true → P) → P
either true b h f g = f refl
either false b h f g = g h

or_right : (a b : Bool) → b ≡ true → (a || b) ≡ true
or_right true b h = refl
or_right false b h = h

held_is : (f : Field) → held f ≡ true → Held f
held_is f h = ltb-true _ _ h

flag_within : (f : Field) (n : ℕ) → flag f ≡ true → n ≤ 1 → within (field_range f) n ≡ true
flag_within f n h l =
    let a = eqb-true (field_range f).low off (and_left (eqb (field_range f).low off) (eqb (field_range f).high on) h) in
    let b = eqb-true (field_range f).high on (and_right (eqb (field_range f).low off) (eqb (field_range f).high on) h) in
    between_yes (field_range f).low (field_range f).high n (omega arith) (omega arith)

flag_high : (f : Field) (n : ℕ) → flag f ≡ true → within (field_range f) n ≡ true → n ≤ 1
flag_high f n h w =
    let b = eqb-true (field_range f).high on (and_right (eqb (field_range f).low off) (eqb (field_range f).high on) h) in
    let l = between_high (field_range f).low (field_range f).high n w in
    omega arith

-- what the tests on a list of flags tell of its first
record First (f : Field) (fs : List Field) : Type 0 where
  is_held : Held f
  is_flag : flag f ≡ true
  once : among fs (position f) ≡ false
  rest : flags fs ≡ true

first-tells : (f : Field) (fs : List Field) → flags (f ∷ fs) ≡ true → First f fs
first-tells f fs h =
    let a = and_left (held f && flag f) (not (among fs (position f)) && flags fs) h in
    let b = and_right (held f && flag f) (not (among fs (position f)) && flags fs) h in
    record {
      is_held = held_is f (and_left (held f) (flag f) a);
      is_flag = and_right (held f) (flag f) a;
      once = not-true _ (and_left (not (among fs (position f))) (flags fs) b);
      rest = and_right (not (among fs (position f))) (flags fs) b;
    }

alarms-held : Held alarms
alarms-held = omega arith

-- ---- a number put into a field
module _ (s : Record) (v : valid s ≡ true) (f : Field) (l : Held f) (n : ℕ) (w : within (field_range f) n ≡ true) where
  -- where the number is another record's, and the rest agrees with it, so does all
  agrees : (g : Field) (m : ℕ) → (f ≡ g → n ≡ m) → (eqb (position f) (position g) ≡ false → get g s ≡ m) → get g (put f n s) ≡ m
  agrees =
      at_field f (λ g. (m : ℕ) → (f ≡ g → n ≡ m) → (eqb (position f) (position g) ≡ false → get g s ≡ m) → get g (put f n s) ≡ m) (λ m same rest. get-put_own s v f n l w ∙ same refl)
      (λ g other m same rest. get-put_other f g n s other ∙ rest (ne_eqb _ _ other))

-- ---- several flags
bits_high : (r : Record) → valid r ≡ true → (fs : List Field) → flags fs ≡ true → bits r fs < 2 ^ length fs
bits_high r v [] h = omega arith
bits_high r v (f ∷ fs) h =
    let t = first-tells f fs h in
    let i = bits_high r v fs t.rest in
    let b : get f r ≤ 1 = flag_high f (get f r) t.is_flag (field_in r v f t.is_held) in
    let p : 2 ^ suc (length fs) ≡ 2 ^ length fs * 2 = pow-suc 2 (length fs) in
    omega arith

bits-valid : (fs : List Field) (n : ℕ) (s : Record) → flags fs ≡ true → valid s ≡ true → valid (put_bits fs n s) ≡ true
unfolding put_bits
bits-valid [] n s h v = v
bits-valid (f ∷ fs) n s h v =
    let t = first-tells f fs h in
    put_kept (put_bits fs (n / 2) s) (bits-valid fs (n / 2) s t.rest v) f (n % 2) (flag_within f (n % 2) t.is_flag (omega arith))

bits_other : (fs : List Field) (n : ℕ) (s : Record) (g : Field) → among fs (position g) ≡ false → get g (put_bits fs n s) ≡ get g s
unfolding put_bits
bits_other [] n s g h = refl
bits_other (f ∷ fs) n s g h =
    let d = neither (eqb (position f) (position g)) (among fs (position g)) h in
    get-put_other f g (n % 2) (put_bits fs (n / 2) s) (eqb-false _ _ d.0) ∙ bits_other fs (n / 2) s g d.1

bits-same : (fs : List Field) (x y : Record) → ((g : Field) → among fs (position g) ≡ true → get g x ≡ get g y) → bits x fs ≡ bits y fs
bits-same [] x y h = refl
bits-same (f ∷ fs) x y h =
    let a : get f x ≡ get f y = h f (simp (eq-eqb (position f) (position f) refl)) in
    let b : bits x fs ≡ bits y fs = bits-same fs x y (λ g m. h g (or_right (eqb (position f) (position g)) (among fs (position g)) m)) in
    omega arith

-- a number below 2 ^ length is put and read again
bits_back : (fs : List Field) (n : ℕ) (s : Record) → flags fs ≡ true → valid s ≡ true → n < 2 ^ length fs → bits (put_bits fs n s) fs ≡ n
unfolding put_bits
bits_back [] n s h v l = omega arith
bits_back (f ∷ fs) n s h v l =
    let t = first-tells f fs h in
    let p : 2 ^ suc (length fs) ≡ 2 ^ length fs * 2 = pow-suc 2 (length fs) in
    let u : Record = put_bits fs (n / 2) s in
    let i : bits u fs ≡ n / 2 = bits_back fs (n / 2) s t.rest v (omega arith) in
    let o : get f (put f (n % 2) u) ≡ n % 2 =
    get-put_own u (bits-valid fs (n / 2) s t.rest v) f (n % 2) t.is_held (flag_within f (n % 2) t.is_flag (omega arith)) in
    let e : bits (put f (n % 2) u) fs ≡ bits u fs = bits-same fs (put f (n % 2) u) u (λ g m. get-put_other f g (n % 2) u (apart_from g m t.once)) in
    omega arith
  where
    apart_from : (g : Field) → among fs (position g) ≡ true → among fs (position f) ≡ false → position f ≡ position g → ⊥
    apart_from g m o e = false≢true (sym o ∙ (ap (among fs) e ∙ m))

-- the bits of a record, put into another, make it agree
bits_agree : (r : Record) → valid r ≡ true → (fs : List Field) (s : Record) → flags fs ≡ true → valid s ≡ true → (g : Field)
    → (among fs (position g) ≡ false → get g s ≡ get g r) → get g (put_bits fs (bits r fs) s) ≡ get g r
unfolding put_bits
bits_agree r v [] s h w g a = a refl
bits_agree r v (f ∷ fs) s h w g a =
    let t = first-tells f fs h in
    let b : get f r ≤ 1 = flag_high f (get f r) t.is_flag (field_in r v f t.is_held) in
    let m : (get f r + 2 * bits r fs) % 2 ≡ get f r = omega arith in
    let d : (get f r + 2 * bits r fs) / 2 ≡ bits r fs = omega arith in
    ap (λ (k : ℕ). get g (put f k (put_bits fs ((get f r + 2 * bits r fs) / 2) s))) m ∙
    (ap (λ (k : ℕ). get g (put f (get f r) (put_bits fs k s))) d ∙
    agrees (put_bits fs (bits r fs) s) (bits-valid fs (bits r fs) s t.rest w) f t.is_held (get f r) (field_in r v f t.is_held) g (get g r)
    (λ e. ap (λ (k : Field). get k r) e)
    (λ e. bits_agree r v fs s t.rest w g (λ o. a (simp (e, o)))))

-- a flag among several that are apart from some items is named by none of them
apart_tells : (fs : List Field) (xs : List Item) → apart fs xs ≡ true → (g : Field) → among fs (position g) ≡ true → names_in xs (position g) ≡ false
apart_tells [] xs h g m = absurd (false≢true m)
apart_tells (f ∷ fs) xs h g m =
    either (eqb (position f) (position g)) (among fs (position g)) m
    (λ e. ap (names_in xs) (sym (eqb-true _ _ e)) ∙ not-true _ (and_left (not (names_in xs (position f))) (apart fs xs) h))
    (λ e. apart_tells fs xs (and_right (not (names_in xs (position f))) (apart fs xs) h) g e)

-- ---- items
module _ (x : Item) (xs : List Item) (h : sound (x ∷ xs) ≡ true) where
  sound_item_lem : sound_item x xs ≡ true
  sound_item_lem = and_left (sound_item x xs) (sound xs) h

  sound_rest : sound xs ≡ true
  sound_rest = and_right (sound_item x xs) (sound xs) h

-- a number that fits the item keeps the record valid
item_valid : (x : Item) (xs : List Item) (n : ℕ) (s : Record) → sound_item x xs ≡ true → fits x n ≡ true → valid s ≡ true → valid (put_item x n s) ≡ true
item_valid (alone w f) xs n s h i v = put_kept s v f n i
item_valid (together fs) xs n s h i v = bits-valid fs n s (and_left (flags fs) (apart fs xs) h) v
item_valid bit_mapped xs n s h i v = put_kept s v alarms (alarms_in n) (alarms-within n i)

pub all_valid : (xs : List Item) (ns : List ℕ) (s : Record) → sound xs ≡ true → all_fit xs ns ≡ true → valid s ≡ true → valid (put_all xs ns s) ≡ true
unfolding put_all all_fit
all_valid [] ns s h i v = v
all_valid (x ∷ xs) [] s h i v = v
all_valid (x ∷ xs) (n ∷ ns) s h i v =
    all_valid xs ns (put_item x n s) (sound_rest x xs h) (and_right (fits x n) (all_fit xs ns) i)
    (item_valid x xs n s (sound_item_lem x xs h) (and_left (fits x n) (all_fit xs ns) i) v)

-- what no item names stays
item_other : (x : Item) (n : ℕ) (s : Record) (g : Field) → names x (position g) ≡ false → get g (put_item x n s) ≡ get g s
item_other (alone w f) n s g h = get-put_other f g n s (eqb-false _ _ h)
item_other (together fs) n s g h = bits_other fs n s g h
item_other bit_mapped n s g h = get-put_other alarms g (alarms_in n) s (eqb-false _ _ h)

pub all_other : (xs : List Item) (ns : List ℕ) (s : Record) (g : Field) → names_in xs (position g) ≡ false → get g (put_all xs ns s) ≡ get g s
unfolding put_all
all_other [] ns s g h = refl
all_other (x ∷ xs) [] s g h = refl
all_other (x ∷ xs) (n ∷ ns) s g h =
    let d = neither (names x (position g)) (names_in xs (position g)) h in all_other xs ns (put_item x n s) g d.1 ∙ item_other x n s g d.0

-- ---- a record's numbers fit
item_in : (x : Item) (xs : List Item) (r : Record) → sound_item x xs ≡ true → valid r ≡ true → fits x (item_number r x) ≡ true
item_in (alone w f) xs r h v = field_in r v f (held_is f (and_left (held f) (not (names_in xs (position f))) h))
item_in (together fs) xs r h v = lt-ltb (bits r fs) (2 ^ length fs) (bits_high r v fs (and_left (flags fs) (apart fs xs) h))
item_in bit_mapped xs r h v = stored-fits (get alarms r) (field_in r v alarms alarms-held)

pub all_in : (xs : List Item) (r : Record) → sound xs ≡ true → valid r ≡ true → all_fit xs (numbers_of xs r) ≡ true
unfolding all_fit numbers_of
all_in [] r h v = refl
all_in (x ∷ xs) r h v =
    and_yes (fits x (item_number r x)) (all_fit xs (map (item_number r) xs)) (item_in x xs r (sound_item_lem x xs h) v) (all_in xs r (sound_rest x xs h) v)

-- ---- numbers that are put are read again
item_back : (x : Item) (xs : List Item) (n : ℕ) (ns : List ℕ) (s : Record) → sound_item x xs ≡ true → fits x n ≡ true → valid s ≡ true
    → item_number (put_all xs ns (put_item x n s)) x ≡ n
item_back (alone w f) xs n ns s h i v =
    all_other xs ns (put f n s) f (not-true _ (and_right (held f) (not (names_in xs (position f))) h)) ∙
    get-put_own s v f n (held_is f (and_left (held f) (not (names_in xs (position f))) h)) i
item_back (together fs) xs n ns s h i v =
    let k = and_left (flags fs) (apart fs xs) h in
    bits-same fs (put_all xs ns (put_bits fs n s)) (put_bits fs n s) (λ g m. all_other xs ns (put_bits fs n s) g (apart_tells fs xs (and_right (flags fs) (apart fs xs) h) g m)) ∙
    bits_back fs n s k v (ltb-true n (2 ^ length fs) i)
item_back bit_mapped xs n ns s h i v =
    ap alarms_stored (all_other xs ns (put alarms (alarms_in n) s) alarms (not-true _ h) ∙ get-put_own s v alarms (alarms_in n) alarms-held (alarms-within n i)) ∙ stored_back n i

pub all_back : (xs : List Item) (ns : List ℕ) (s : Record) → sound xs ≡ true → length ns ≡ length xs → all_fit xs ns ≡ true → valid s ≡ true
    → numbers_of xs (put_all xs ns s) ≡ ns
unfolding put_all all_fit numbers_of
all_back [] [] s h l i v = refl
all_back [] (n ∷ ns) s h l i v = absurd (omega arith)
all_back (x ∷ xs) [] s h l i v = absurd (omega arith)
all_back (x ∷ xs) (n ∷ ns) s h l i v =
    let a = and_left (fits x n) (all_fit xs ns) i in
    let b = and_right (fits x n) (all_fit xs ns) i in
    ap (λ (m : ℕ). m ∷ map (item_number (put_all xs ns (put_item x n s))) xs) (item_back x xs n ns s (sound_item_lem x xs h) a v) ∙
    ap (λ (ms : List ℕ). n ∷ ms) (all_back xs ns (put_item x n s) (sound_rest x xs h) (omega arith) b (item_valid x xs n s (sound_item_lem x xs h) a v))

-- ---- a record's numbers, put into another, make it agree
item_agrees : (r : Record) → valid r ≡ true → (x : Item) (xs : List Item) (s : Record) → sound_item x xs ≡ true → valid s ≡ true → (g : Field)
    → (names x (position g) ≡ false → get g s ≡ get g r) → get g (put_item x (item_number r x) s) ≡ get g r
item_agrees r v (alone w f) xs s h u g a =
    let l = held_is f (and_left (held f) (not (names_in xs (position f))) h) in
    agrees s u f l (get f r) (field_in r v f l) g (get g r) (λ e. ap (λ (k : Field). get k r) e) a
item_agrees r v (together fs) xs s h u g a = bits_agree r v fs s (and_left (flags fs) (apart fs xs) h) u g a
item_agrees r v bit_mapped xs s h u g a =
    let w = field_in r v alarms alarms-held in
    ap (λ (n : ℕ). get g (put alarms n s)) (alarms_back (get alarms r) w) ∙
    agrees s u alarms alarms-held (get alarms r) w g (get g r) (λ e. ap (λ (k : Field). get k r) e) a

all_agrees : (r : Record) → valid r ≡ true → (xs : List Item) (s : Record) → sound xs ≡ true → valid s ≡ true → (g : Field)
    → (names_in xs (position g) ≡ false → get g s ≡ get g r) → get g (put_all xs (numbers_of xs r) s) ≡ get g r
unfolding put_all numbers_of
all_agrees r v [] s h u g a = a refl
all_agrees r v (x ∷ xs) s h u g a =
    all_agrees r v xs (put_item x (item_number r x) s) (sound_rest x xs h)
    (item_valid x xs (item_number r x) s (sound_item_lem x xs h) (item_in x xs r (sound_item_lem x xs h) v) u) g
    (λ o. item_agrees r v x xs s (sound_item_lem x xs h) u g (λ e. a (simp (e, o))))

-- ---- what is stored
items_sound : (v : ℕ) → Known v → sound (items v) ≡ true
items_sound v k = by_versions (λ (w : ℕ). sound (items w)) refl v k

-- every field of a record is, in the version that is written
items_name_all : (g : Field) → Held g → names_in (items current) (position g) ≡ true
items_name_all g h = holds_below (names_in (items current)) (position (value parameter_count)) refl (position g) h

-- the record beside a refusal is valid
pub low_valid : valid low_record ≡ true
unfolding low_record
low_valid = from_valid (λ (f : Field). (field_range f).low) low_within

module _ (r : Record) (v : valid r ≡ true) where
  pub numbers_in_lem : all_fit (items current) (numbers_of (items current) r) ≡ true
  numbers_in_lem = all_in (items current) r (items_sound current refl) v

  pub record_of_numbers : put_all (items current) (numbers_of (items current) r) low_record ≡ r
  record_of_numbers =
      same_fields (put_all (items current) (numbers_of (items current) r) low_record) r
      (all_valid (items current) (numbers_of (items current) r) low_record (items_sound current refl) numbers_in_lem low_valid) v
      (λ g h. all_agrees r v (items current) low_record (items_sound current refl) low_valid g (λ o. absurd (false≢true (sym o ∙ items_name_all g h))))

module _ (v : ℕ) (known : Known v) (ns : List ℕ) (inside : all_fit (items v) ns ≡ true) where
  pub numbers-valid : valid (put_all (items v) ns low_record) ≡ true
  numbers-valid = all_valid (items v) ns low_record (items_sound v known) inside low_valid

  pub numbers_of_record : length ns ≡ length (items v) → numbers_of (items v) (put_all (items v) ns low_record) ≡ ns
  numbers_of_record l = all_back (items v) ns low_record (items_sound v known) l inside low_valid
