-- What the returns of reading give. Assumes nothing.
use Prim.Native.Nat.{ℕ, zero, suc, ◌+◌, ◌-◌, ◌*◌, ◌%◌, ◌≤◌, ◌<◌}
use mathlib.Core.Bool.{Bool, true, false, not, ◌&&◌}
use mathlib.Core.Path.{◌≡◌, refl, sym, ap, subst, ◌∙◌}
use mathlib.Core.List.{List, [], ◌∷◌, ◌++◌, append_assoc}
use native.Mathlib.Omega.{arith}
use lib.Dec.{eqb, leb}
use lib.ListN.{length, get_or, set, take, drop, replicate, length-append, length-drop}
use lib.Seq.{length-take-le, drop-cons, drop-drop, set_at, take_all}
use borrow.Author.Tests.{le-leb, leb-true, eq-eqb, ne_eqb, eqb-true, not-true, not-false}
use Rattle.std.specs.Prelude.{Option, Some, None}
use Rattle.base.specs.Test.{unless}
use Rattle.base.proofs.Tests.{by_test, never, and_yes, and_left, and_right}
use Rattle.stored.specs.Form.{number_from, number_of, unpack}
use Rattle.std.specs.Int.{w16, w32, from_be_bytes}
use Rattle.stored.proofs.Packing.{unpack_front}
use Rattle.bank.specs.declared.Batch.{Batch}
use Rattle.bank.specs.declared.Bank.{Bank}
use Rattle.bank.specs.Bank.{most, no_batch, batch_valid, all_valid, bank_of}
use Rattle.storedbank.specs.StoredBank.{Outcome, done, batch_widths, batch_width, header_width, bank_length, batch_from, batch_read, batches_read, count_in, held_in, with_room, bank_with, length_right, well_formed, refusal, read_of, room_length, open_of}
use Rattle.storedbank.specs.Steps.{headed, header_of, batch_found, holding, body_of}

and_grouped : (a b c : Bool) → (a && (b && c)) ≡ ((a && b) && c)
and_grouped true b c = refl
and_grouped false b c = refl

-- ---- the numbers of some bytes
-- the n bytes from place i on, one by one
abbrev pub bytes_at : ℕ → ℕ → List ℕ → List ℕ
bytes_at zero i s = []
bytes_at (suc n) i s = get_or s i 0 ∷ bytes_at n (suc i) s

pub taken-bytes : (n i : ℕ) (s : List ℕ) → i + n ≤ length s → take n (drop i s) ≡ bytes_at n i s
taken-bytes zero i s h = refl
taken-bytes (suc n) i s h =
    ap (take (suc n)) (drop-cons s i 0 (omega arith)) ∙ ap (λ (l : List ℕ). get_or s i 0 ∷ l) (taken-bytes n (suc i) s (omega arith))

pub two : (s : List ℕ) → header_width ≤ length s → number_of (take 2 (drop 1 s)) ≡ get_or s 1 0 * 256 + get_or s 2 0
unfolding number_from
two s h = ap number_of (taken-bytes 2 1 s h) ∙ omega arith

-- ---- one batch
module _ (s : List ℕ) (at : ℕ) where
  -- its bytes
  abbrev pub here : List ℕ
  here = take (at + batch_width - at) (drop at s)

  here_is : here ≡ take batch_width (drop at s)
  here_is = let i : at + batch_width - at ≡ batch_width = omega arith in ap (λ (n : ℕ). take n (drop at s)) i

  pub batch_read_lem : (b : Batch) → at + batch_width ≤ length s → b.number ≡ from_be_bytes w16 (get_or here 0 0 ∷ get_or here 1 0 ∷ []) → b.recipe ≡ get_or here 2 0
      → b.factor ≡ from_be_bytes w32 (0 ∷ 0 ∷ get_or here 3 0 ∷ get_or here 4 0 ∷ [])
      → b.raw ≡ from_be_bytes w32 (get_or here 5 0 ∷ get_or here 6 0 ∷ get_or here 7 0 ∷ get_or here 8 0 ∷ [])
      → b.preset ≡ from_be_bytes w32 (0 ∷ get_or here 9 0 ∷ get_or here 10 0 ∷ get_or here 11 0 ∷ [])
      → b ≡ batch_read (drop at s)
  unfolding unpack number_from
  batch_read_lem b h en er ef ew ep =
      let l : length here ≡ batch_width = ap length here_is ∙ length-take-le batch_width (drop at s) (simp length-drop (omega arith)) in
      let e : batch_read here ≡ batch_read (bytes_at 12 0 here) = ap batch_read (sym (take_all 12 here (omega arith)) ∙ taken-bytes 12 0 here (omega arith)) in
      let f : batch_read (drop at s) ≡ batch_read here = ap batch_from (sym (unpack_front batch_widths (drop at s))) ∙ ap batch_read (sym here_is) in
      let read : Batch = batch_read (bytes_at 12 0 here) in
      let n : b.number ≡ read.number = omega arith in
      let r : b.recipe ≡ read.recipe = omega arith in
      let c : b.factor ≡ read.factor = omega arith in
      let v : b.raw ≡ read.raw = omega arith in
      let p : b.preset ≡ read.preset = omega arith in
      let same : b ≡ read = λ i. record { number = n i; recipe = r i; factor = c i; raw = v i; preset = p i } in
      same ∙ sym (f ∙ e)

  module _ (b : Batch) (t : Bool) (e : b ≡ batch_read (drop at s)) (v : t ≡ batch_valid b) where
    pub batch_outside : not t ≡ true → None ≡ batch_found at s
    unfolding batch_found
    batch_outside n = simp (ap batch_valid (sym e) ∙ (sym v ∙ not-true t n))

    pub batch_inside : not t ≡ false → Some b ≡ batch_found at s
    unfolding batch_found
    batch_inside n = simp (ap batch_valid (sym e) ∙ (sym v ∙ not-false t n)) (ap Some e)

-- ---- the header
pub record Headed (bs : List ℕ) : Type 0 where
  pub version : get_or bs 0 0 ≡ 1
  pub low : header_width ≤ length bs
  pub field : number_of (take 2 (drop 1 bs)) ≡ length bs
  pub whole : (length bs - header_width) % batch_width ≡ 0
  pub few : count_in bs ≤ most

module _ (bs : List ℕ) where
  pub headed_tell : headed bs ≡ true → Headed bs
  headed_tell h =
      let a = and_right (eqb (get_or bs 0 0) 1) (length_right bs) h in
      let b = and_right (leb header_width (length bs)) _ a in
      let c = and_right (eqb (number_of (take 2 (drop 1 bs))) (length bs)) _ b in
      record {
        version = eqb-true _ _ (and_left (eqb (get_or bs 0 0) 1) (length_right bs) h);
        low = leb-true _ _ (and_left (leb header_width (length bs)) _ a);
        field = eqb-true _ _ (and_left (eqb (number_of (take 2 (drop 1 bs))) (length bs)) _ b);
        whole = eqb-true _ _ (and_left (eqb ((length bs - header_width) % batch_width) 0) (leb (count_in bs) most) c);
        few = leb-true _ _ (and_right (eqb ((length bs - header_width) % batch_width) 0) (leb (count_in bs) most) c);
      }

  pub headed_made : Headed bs → headed bs ≡ true
  headed_made h =
      and_yes _ _ (eq-eqb _ _ h.version)
      (and_yes _ _ (le-leb _ _ h.low)
      (and_yes _ _ (eq-eqb _ _ h.field) (and_yes _ _ (eq-eqb _ _ h.whole) (le-leb _ _ h.few))))

  pub headed-length : Headed bs → length bs ≡ bank_length (count_in bs)
  headed-length h = omega (arith, h.low, h.whole)

  not-headed : (Headed bs → ⊥) → None ≡ header_of bs
  unfolding header_of
  not-headed n = by_test (headed bs) (λ t. absurd (n (headed_tell t))) (λ f. simp f)

-- what the header's answer tells
abbrev Told : List ℕ → Option ℕ → Type 0
Told bs (Some n) = Headed bs × (n ≡ count_in bs)
Told bs None = headed bs ≡ false

header_told : (bs : List ℕ) → Told bs (header_of bs)
unfolding header_of
header_told bs =
    let P : Bool → Type 0 = λ b. Told bs (unless b None (Some (count_in bs))) in
    by_test (headed bs) (λ t. subst P (sym t) (headed_tell bs t, refl)) (λ f. subst P (sym f) f)

-- ---- batches one behind the other
pub batches-length : (n : ℕ) (bs : List ℕ) → length (batches_read n bs) ≡ n
unfolding batches_read
batches-length zero bs = refl
batches-length (suc n) bs = ap suc (batches-length n (drop batch_width bs))

pub batches_more : (n m : ℕ) (bs : List ℕ) → batches_read (n + m) bs ≡ batches_read n bs ++ batches_read m (drop (batch_width * n) bs)
unfolding batches_read
batches_more zero m bs = let e : 0 + m ≡ m = omega arith in ap (λ (k : ℕ). batches_read k bs) e
batches_more (suc n) m bs =
    let e : suc n + m ≡ suc (n + m) = omega arith in
    let i : batch_width + batch_width * n ≡ batch_width * suc n = omega arith in
    ap (λ (k : ℕ). batches_read k bs) e ∙
    ap (λ (l : List Batch). batch_read bs ∷ l)
    (batches_more n m (drop batch_width bs) ∙
    ap (λ (l : List ℕ). batches_read n (drop batch_width bs) ++ batches_read m l) (drop-drop (batch_width * n) batch_width bs ∙ ap (λ (k : ℕ). drop k bs) i))

pub valid-append : (xs ys : List Batch) → all_valid (xs ++ ys) ≡ (all_valid xs && all_valid ys)
unfolding all_valid
valid-append [] ys = refl
valid-append (x ∷ xs) ys = ap (λ (b : Bool). batch_valid x && b) (valid-append xs ys) ∙ and_grouped (batch_valid x) (all_valid xs) (all_valid ys)

-- one batch more has free room behind it as well
room-put : (bs : List Batch) (b : Batch) (i : ℕ) → length bs ≡ i → i < most → set (with_room bs) i b ≡ with_room (bs ++ (b ∷ []))
unfolding with_room
room-put bs b i e h =
    let n : most - length bs ≡ suc (most - (i + 1)) = omega arith in
    let m : most - length (bs ++ (b ∷ [])) ≡ most - (i + 1) = simp length-append (omega arith) in
    ap (λ (k : ℕ). set (bs ++ replicate k no_batch) i b) n ∙
    (set_at bs no_batch (replicate (most - (i + 1)) no_batch) b i e ∙
    (sym (append_assoc bs (b ∷ []) (replicate (most - (i + 1)) no_batch)) ∙ ap (λ (k : ℕ). (bs ++ (b ∷ [])) ++ replicate k no_batch) (sym m)))

module _ (s : List ℕ) where
  -- the batches that stand behind the header, the first n of them
  abbrev held : ℕ → List Batch
  held n = batches_read n (drop header_width s)

  -- the first i are read
  abbrev pub Taken : ℕ → List Batch → Type 0
  Taken i bs = (bs ≡ with_room (held i)) × (all_valid (held i) ≡ true)

  pub taken_none : (k : Bank) (bs : List Batch) → k ≡ bank_of 0 (replicate most no_batch) → bs ≡ k.batches → Taken 0 bs
  unfolding batches_read all_valid with_room
  taken_none k bs e f = (f ∙ ap (λ (x : Bank). x.batches) e, refl)

  module _ (i : ℕ) where
    next_is : batch_read (drop (header_width + batch_width * i) s) ≡ batch_read (drop (batch_width * i) (drop header_width s))
    next_is = ap batch_read (sym (drop-drop (batch_width * i) header_width s))

    held_next : held (i + 1) ≡ held i ++ (batch_read (drop (header_width + batch_width * i) s) ∷ [])
    unfolding batches_read
    held_next = batches_more i 1 (drop header_width s) ∙ ap (λ (b : Batch). held i ++ (b ∷ [])) (sym next_is)

    abbrev there : Option Batch
    there = batch_found (header_width + batch_width * i) s

    inside_tells : (b : Batch) → there ≡ Some b → (b ≡ batch_read (drop (header_width + batch_width * i) s)) × (batch_valid b ≡ true)
    unfolding batch_found
    inside_tells b e = go (batch_valid (batch_read (drop (header_width + batch_width * i) s))) refl e
      where
        inner : Option Batch → Batch
        inner (Some x) = x
        inner None = no_batch

        go : (t : Bool) → batch_valid (batch_read (drop (header_width + batch_width * i) s)) ≡ t
            → unless t None (Some (batch_read (drop (header_width + batch_width * i) s))) ≡ Some b
            → (b ≡ batch_read (drop (header_width + batch_width * i) s)) × (batch_valid b ≡ true)
        go true v f = let q : batch_read (drop (header_width + batch_width * i) s) ≡ b = ap inner f in (sym q, ap batch_valid (sym q) ∙ v)
        go false v f = absurd (never cc)

    outside_tells : there ≡ None → batch_valid (batch_read (drop (header_width + batch_width * i) s)) ≡ false
    unfolding batch_found
    outside_tells e = go (batch_valid (batch_read (drop (header_width + batch_width * i) s))) e
      where
        go : (t : Bool) → unless t None (Some (batch_read (drop (header_width + batch_width * i) s))) ≡ None → t ≡ false
        go true f = absurd (never cc)
        go false f = refl

    pub taken_more : (n : ℕ) (bs : List Batch) (x : Option Batch) (b : Batch) → n ≤ most → i < n → x ≡ there → x ≡ Some b → Taken i bs → Taken (i + 1) (set bs i b)
    unfolding all_valid
    taken_more n bs x b l h e f t =
        let g = inside_tells b (sym e ∙ f) in
        let p : held (i + 1) ≡ held i ++ (b ∷ []) = held_next ∙ ap (λ (y : Batch). held i ++ (y ∷ [])) (sym g.0) in (
          ap (λ (y : List Batch). set y i b) t.0 ∙ (room-put (held i) b i (batches-length i (drop header_width s)) (omega arith) ∙ ap with_room (sym p)),
          ap all_valid p ∙ (valid-append (held i) (b ∷ []) ∙ and_yes _ _ t.1 (and_yes _ _ g.1 refl)),
        )

    pub taken_outside : (n : ℕ) (x : Option Batch) (r : Outcome × Bank) → i < n → x ≡ there → x ≡ None → r ≡ refusal → r ≡ body_of n s
    unfolding body_of holding batches_read all_valid
    taken_outside n x r h e f w =
        let m : n ≡ i + suc (n - (i + 1)) = omega arith in
        let l : List ℕ = drop header_width s in
        let no : batch_valid (batch_read (drop (batch_width * i) l)) ≡ false = ap batch_valid (sym next_is) ∙ outside_tells (sym e ∙ f) in
        let none : all_valid (held n) ≡ false =
        ap (λ (k : ℕ). all_valid (held k)) m ∙
        (ap all_valid (batches_more i (suc (n - (i + 1))) l) ∙
        (valid-append (held i) (batches_read (suc (n - (i + 1))) (drop (batch_width * i) l)) ∙
        (ap (λ (b : Bool). all_valid (held i) && (b && all_valid (batches_read (n - (i + 1)) (drop batch_width (drop (batch_width * i) l))))) no ∙ both (all_valid (held i))))) in
        w ∙ sym (simp none)
      where
        both : (b : Bool) → (b && false) ≡ false
        both true = refl
        both false = refl

    pub taken_all : (n : ℕ) (bs : List Batch) → i ≤ n → n ≤ i → Taken i bs → ◌≡◌ {A = Outcome × Bank} (done, bank_of n bs) (body_of n s)
    unfolding body_of holding
    taken_all n bs l h t =
        let e : i ≡ n = omega arith in
        let v : all_valid (held n) ≡ true = ap (λ (k : ℕ). all_valid (held k)) (sym e) ∙ t.1 in
        let b : bs ≡ with_room (held n) = t.0 ∙ ap (λ (k : ℕ). with_room (held k)) e in
        let c : n ≡ length (held n) = sym (batches-length n (drop header_width s)) in
        ap (λ (x : List Batch). (done, bank_of n x)) b ∙ (ap (λ (k : ℕ). (done, bank_of k (with_room (held n)))) c ∙ sym (simp v))

-- ---- the whole
module _ (s : List ℕ) where
  -- a header that is right, and valid batches
  pub formed_parts : well_formed s ≡ (headed s && all_valid (held_in s))
  formed_parts = and_grouped (eqb (get_or s 0 0) 1) (length_right s) (all_valid (held_in s))

  module _ (h : Option ℕ) (e : h ≡ header_of s) where
    told : Told s h
    told = subst (Told s) (sym e) (header_told s)

    pub read_refused : (x : Outcome × Bank) → h ≡ None → x ≡ refusal → x ≡ read_of s
    unfolding read_of
    read_refused x f w =
        let n : headed s ≡ false = subst (Told s) f told in
        let no : well_formed s ≡ false = formed_parts ∙ ap (λ (b : Bool). b && all_valid (held_in s)) n in
        w ∙ sym (ap (λ (b : Bool). unless b refusal (done, bank_with (held_in s))) no)

    module _ (n : ℕ) (f : h ≡ Some n) where
      known : Headed s × (n ≡ count_in s)
      known = subst (Told s) f told

      pub few_read : n ≤ most
      few_read = omega (arith, known.1, known.0.few)

      pub read_room : bank_length n ≤ length s
      read_room = omega (arith, known.1, headed-length s known.0)

      pub read_whole : (x : Outcome × Bank) → x ≡ body_of n s → x ≡ read_of s
      unfolding read_of body_of holding
      read_whole x w =
          let yes : well_formed s ≡ all_valid (held_in s) = formed_parts ∙ ap (λ (b : Bool). b && all_valid (held_in s)) (headed_made s known.0) in
          w ∙ (ap (λ (k : ℕ). holding (batches_read k (drop header_width s))) known.1 ∙
          sym (ap (λ (b : Bool). unless b refusal (done, bank_with (held_in s))) yes))

-- a header that is not right
pub headed-not : (s : List ℕ) → (Headed s → ⊥) → refusal ≡ read_of s
headed-not s n = read_refused s None (not-headed s n) refusal refl refl

-- ---- `open`
module _ (s : List ℕ) (x : Outcome × Bank) where
  pub open_other : (length s ≡ room_length → ⊥) → x ≡ refusal → x ≡ open_of s
  unfolding open_of
  open_other n w = w ∙ sym (simp (ne_eqb (length s) room_length n))

  module _ (l : length s ≡ room_length) (n : ℕ) (e : n ≡ number_of (take 2 (drop 1 s))) where
    pub front_is : open_of s ≡ read_of (take n s)
    unfolding open_of
    front_is = simp (eq-eqb (length s) room_length l) (ap (λ (k : ℕ). read_of (take k s)) (sym e))

    pub open_long : room_length < n → x ≡ refusal → x ≡ open_of s
    open_long h w =
        let t : take n s ≡ s = take_all n s (omega arith) in
        w ∙ (headed-not s (λ g. omega (arith, e, g.field)) ∙ sym (front_is ∙ ap read_of t))

    pub open_read_lem : n ≤ room_length → x ≡ read_of (take n s) → x ≡ open_of s
    open_read_lem h w = w ∙ sym front_is

pub ruleset reading = (few_read, read_room, read_refused, read_whole)

pub ruleset opening = (open_other, open_long, open_read_lem)
