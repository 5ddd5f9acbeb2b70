-- The walk to the next frame: what holds at each place, and one law for each way on and each way out. Assumes nothing.
use Prim.Native.Nat.{ℕ, suc, ◌+◌, ◌-◌, ◌≤◌, ◌<◌}
use mathlib.Core.Bool.{Bool, not, true, false}
use mathlib.Core.Path.{◌≡◌, refl, sym, ap, subst, ◌∙◌}
use mathlib.Core.List.{List, [], ◌∷◌}
use native.Mathlib.Omega.{arith}
use lib.Dec.{eqb, ltb}
use lib.ListN.{length, take, drop, get_or, length-drop, drop_of_length-le}
use lib.Seq.{take_all, drop-drop, get_or-drop}
use borrow.Author.Tests.{ltb-false, eqb-true}
use Rattle.base.specs.Test.{pick, unless}
use Rattle.base.proofs.Lists.{next}
use Rattle.frame.specs.Frame.{stx, etx, is_text}
use Rattle.several.specs.declared.Frame.{Frame}
use Rattle.std.specs.Prelude.{Result, Ok, Err}
use Rattle.std.specs.Option.{unwrap_or}
use Rattle.std.specs.List.{position, position_or_len}
use Rattle.base.proofs.Tests.{by_test}
use Rattle.several.specs.Several.{Place, passed, undecided, whole, searched, place_of}
use Rattle.several.specs.Answers.{start_from, found_at, found_from}
use Rattle.several.proofs.Places.{Searching, search_begun, place_open, place_short, place-whole, place_byte, place_long}

-- ---- the place of the next STX
start-len : (p : ℕ) (xs : List ℕ) → start_from p xs ≡ p + position_or_len (λ x. eqb x stx) xs
unfolding start_from
start-len p [] = omega arith
start-len p (x ∷ xs) = by_test (eqb x stx) (λ h. simp h (omega arith)) (λ h. simp h (omega (arith, start-len (p + 1) xs)))

start-fits : (xs : List ℕ) → position_or_len (λ x. eqb x stx) xs ≤ length xs
start-fits [] = omega arith
start-fits (x ∷ xs) = by_test (eqb x stx) (λ h. simp h (omega arith)) (λ h. simp h (omega (arith, start-fits xs)))

start-position : (p : ℕ) (xs : List ℕ) → start_from p xs ≡ p + unwrap_or (position (λ x. eqb x stx) xs) (length xs)
start-position p xs =
    start-len p xs
    ∙ by_test (ltb (position_or_len (λ x. eqb x stx) xs) (length xs)) (λ h. simp h)
    (λ h. simp h (omega (arith, start-fits xs, ltb-false (position_or_len (λ x. eqb x stx) xs) (length xs) h)))

pub start_form : (s : List ℕ) (p : ℕ)
    → start_from p (drop p s)
    ≡ p + unwrap_or (position (λ x. eqb x stx) (take (length s - p) (drop p s))) (length (take (length s - p) (drop p s)))
start_form s p = simp (take_all (length s - p) (drop p s) (omega (arith, length-drop p s))) (start-position p (drop p s))

-- what stands before it is passed
record Started (l : List ℕ) (p n : ℕ) : Type 0 where
  k : ℕ
  place : n ≡ p + k
  fits : k ≤ length l
  same : found_from p l ≡ found_from n (drop k l)
  mark : k < length l → get_or l k 0 ≡ stx

started : (l : List ℕ) (p : ℕ) → Started l p (start_from p l)
unfolding start_from found_from
started [] p = record { k = 0; place = omega arith; fits = omega arith; same = refl; mark = λ h. absurd (omega arith) }
started (x ∷ xs) p = go (eqb x stx) refl (started xs (p + 1))
  where
    go : (b : Bool) → eqb x stx ≡ b → Started xs (p + 1) (start_from (p + 1) xs) → Started (x ∷ xs) p (pick b p (start_from (p + 1) xs))
    go true e t = record { k = 0; place = omega arith; fits = omega arith; same = refl; mark = λ h. eqb-true x stx e }
    go false e t =
        record {
          k = suc t.k;
          place = omega (arith, t.place);
          fits = omega (arith, t.fits);
          same = ap (λ (b : Bool). found_at (unless b passed (searched xs)) p (found_from (p + 1) xs)) e ∙ t.same;
          mark = λ h. t.mark (omega arith);
        }

-- ---- the walk: nothing between f and p is handed over
pub record Seeking (s : List ℕ) (f p : ℕ) : Type 0 where
  pub inside : p ≤ length s
  pub all : found_from f (drop f s) ≡ found_from p (drop p s)

pub seek_begun : (s : List ℕ) (f : ℕ) → f ≤ length s → Seeking s f f
seek_begun s f h = record { inside = h; all = refl }

module _ {s : List ℕ} {f q : ℕ} (k₀ : Seeking s f q) (n : ℕ) (e : n ≡ start_from q (drop q s)) where
  to : Started (drop q s) q n
  to = subst (Started (drop q s) q) (sym e) (started (drop q s) q)

  there : drop to.k (drop q s) ≡ drop n s
  there = drop-drop to.k q s ∙ ap (λ (i : ℕ). drop i s) (sym to.place)

  k : Seeking s f n
  k = record { inside = omega (arith, to.place, to.fits, length-drop q s, k₀.inside); all = k₀.all ∙ (to.same ∙ ap (found_from n) there) }

  pub seek_end : length s ≤ n → Err n ≡ found_from f (drop f s)
  unfolding found_from
  seek_end h = sym (k.all ∙ ap (found_from n) (drop_of_length-le s h))

  pub search_started : n < length s → Searching s n n (n + 1)
  search_started h =
      let i : get_or (drop q s) to.k 0 ≡ get_or s n 0 = get_or-drop q s to.k 0 ∙ ap (λ (j : ℕ). get_or s j 0) (sym to.place) in
      search_begun s n h (sym i ∙ to.mark (omega (arith, to.place, length-drop q s, k₀.inside)))

  module _ {p i : ℕ} (g : Searching s n p i) where
    within : p < length s
    within = omega (arith, g.behind, g.inside)

    pub seek_nearer : length s - (p + 1) < length s - q
    seek_nearer = omega (arith, within, g.still, to.place)

    by_place : (x : Place) → place_of (get_or s p 0) (drop (p + 1) s) ≡ x → found_from f (drop f s) ≡ found_at x p (found_from (p + 1) (drop (p + 1) s))
    unfolding found_from
    by_place x z =
        k.all ∙ (ap (λ (j : ℕ). found_from j (drop j s)) (sym g.still)
        ∙ (ap (found_from p) (next s p within) ∙ ap (λ (y : Place). found_at y p (found_from (p + 1) (drop (p + 1) s))) z))

    broken : place_of (get_or s p 0) (drop (p + 1) s) ≡ passed → Seeking s f (p + 1)
    broken z = record { inside = omega (arith, within); all = by_place passed z }

    pub seek_open : length s ≤ i → Err p ≡ found_from f (drop f s)
    seek_open h = sym (by_place undecided (place_open g h))

    module _ (h : i < length s) where
      pub seek_byte : (b : Bool) → b ≡ is_text (get_or s i 0) → not b ≡ true → (get_or s i 0 ≡ etx → ⊥) → Seeking s f (p + 1)
      seek_byte b t x z = broken (place_byte g h b t x z)

      pub seek_long : (b : Bool) → b ≡ is_text (get_or s i 0) → not b ≡ false → 60 < i - p → Seeking s f (p + 1)
      seek_long b t x l = broken (place_long g h b t x l)

      pub seek_short : get_or s i 0 ≡ etx → length s - i < 3 → Err p ≡ found_from f (drop f s)
      seek_short z l = sym (by_place undecided (place_short g h z l))

      pub seek_frame : get_or s i 0 ≡ etx → 3 ≤ length s - i → Ok (record { start = p; end = i + 3 }) ≡ found_from f (drop f s)
      seek_frame z l =
          let j : p + (i + 3 - p) ≡ i + 3 = omega (arith, g.behind) in
          sym (by_place (whole (i + 3 - p)) (place-whole g h z l) ∙ ap (λ (e : ℕ). let x : Result Frame ℕ = Ok (record { start = p; end = e }) in x) j)
