-- Laws of the search: how far it looks, what it finds, and what holds at each of its turns. Assumes nothing.
use Prim.Native.Nat.{ℕ, zero, suc, ◌+◌, ◌-◌, ◌≤◌, ◌<◌}
use mathlib.Core.Bool.{Bool, true, false, not}
use mathlib.Core.Path.{◌≡◌, refl, sym, ap, ◌∙◌}
use mathlib.Core.List.{List, [], ◌∷◌, ◌++◌}
use mathlib.Core.Logic.{⊎_elim}
use native.Mathlib.Omega.{arith}
use lib.Dec.{eqb, leb}
use lib.ListN.{length, drop, get_or, length-append, length-drop, drop_of_length-le}
use lib.Seq.{drop-drop, get_or-drop, drop-append-le}
use borrow.Author.Tests.{le-leb, lt-leb, leb-true, leb-false, eq-eqb, ne_eqb, eqb-true, not-true, not-false}
use Rattle.base.specs.Test.{pick, unless}
use Rattle.base.proofs.Lists.{next}
use Rattle.base.proofs.Tests.{between_low, below_or_not, never}
use Rattle.frame.specs.Frame.{stx, etx, is_text}
use Rattle.several.specs.Several.{Place, passed, undecided, whole, through, end_at, searched, place_of}

-- ---- how many text bytes are passed
pub through_most : (n : ℕ) (xs : List ℕ) → through n xs ≤ n
unfolding through
through_most n [] = omega arith
through_most zero (x ∷ xs) = omega arith
through_most (suc n) (x ∷ xs) = go (is_text x) (through_most n xs)
  where
    go : (b : Bool) → through n xs ≤ n → pick b (suc (through n xs)) 0 ≤ suc n
    go true h = omega arith
    go false h = omega arith

pub through_inside : (n : ℕ) (xs : List ℕ) → through n xs ≤ length xs
unfolding through
through_inside n [] = omega arith
through_inside zero (x ∷ xs) = omega arith
through_inside (suc n) (x ∷ xs) = go (is_text x) (through_inside n xs)
  where
    go : (b : Bool) → through n xs ≤ length xs → pick b (suc (through n xs)) 0 ≤ suc (length xs)
    go true h = omega arith
    go false h = omega arith

-- ---- the search: STX stands at p, the bytes between it and i may stand in a text, and so many more may follow
pub record Searching (s : List ℕ) (p₀ p i : ℕ) : Type 0 where
  pub still : p ≡ p₀
  pub first : get_or s p 0 ≡ stx
  pub behind : p < i
  pub inside : i ≤ length s
  pub more : ℕ
  pub most : i - (p + 1) + more ≡ 60
  pub all : through 60 (drop (p + 1) s) ≡ i - (p + 1) + through more (drop i s)

pub search_begun : (s : List ℕ) (p : ℕ) → p < length s → get_or s p 0 ≡ stx → Searching s p p (p + 1)
search_begun s p h e =
    record {
      still = refl;
      first = e;
      behind = omega arith;
      inside = omega arith;
      more = 60;
      most = omega arith;
      all = omega arith;
    }

-- what the next byte does to the count
through-stop : (n : ℕ) (x : ℕ) (xs : List ℕ) → is_text x ≡ false → through n (x ∷ xs) ≡ 0
unfolding through
through-stop zero x xs e = refl
through-stop (suc n) x xs e = simp e

through-none : (n : ℕ) (x : ℕ) (xs : List ℕ) → n ≡ 0 → through n (x ∷ xs) ≡ 0
unfolding through
through-none zero x xs e = refl
through-none (suc n) x xs e = absurd (omega arith)

through_turn : (n m : ℕ) (x : ℕ) (xs : List ℕ) → n ≡ m + 1 → is_text x ≡ true → through n (x ∷ xs) ≡ suc (through m xs)
unfolding through
through_turn zero m x xs e t = absurd (omega arith)
through_turn (suc n) m x xs e t = let z : n ≡ m = omega arith in simp t (ap (λ (k : ℕ). suc (through k xs)) z)

module _ {s : List ℕ} {p₀ p i : ℕ} (f : Searching s p₀ p i) where
  -- the search stands still: what the place is, by what stands at i
  found : through f.more (drop i s) ≡ 0 → place_of (get_or s p 0) (drop (p + 1) s) ≡ end_at (i - (p + 1)) (drop i s)
  unfolding searched
  found e =
      let t : through 60 (drop (p + 1) s) ≡ i - (p + 1) = omega (arith, f.all) in
      let j : p + 1 + (i - (p + 1)) ≡ i = omega (arith, f.behind) in
      simp (eq-eqb (get_or s p 0) stx f.first) (ap (λ (n : ℕ). end_at n (drop n (drop (p + 1) s))) t
      ∙ ap (end_at (i - (p + 1))) (drop-drop (i - (p + 1)) (p + 1) s ∙ ap (λ (n : ℕ). drop n s) j))

  pub place_open : length s ≤ i → place_of (get_or s p 0) (drop (p + 1) s) ≡ undecided
  unfolding through
  place_open h =
      let z : drop i s ≡ [] = drop_of_length-le s h in
      found (ap (through f.more) z) ∙ ap (end_at (i - (p + 1))) z

  module _ (h : i < length s) where
    -- ... which is a byte
    stands : through f.more (get_or s i 0 ∷ drop (i + 1) s) ≡ 0 → place_of (get_or s p 0) (drop (p + 1) s) ≡ end_at (i - (p + 1)) (get_or s i 0 ∷ drop (i + 1) s)
    stands e = found (ap (through f.more) (next s i h) ∙ e) ∙ ap (end_at (i - (p + 1))) (next s i h)

    module _ (e : get_or s i 0 ≡ etx) where
      at_etx : place_of (get_or s p 0) (drop (p + 1) s) ≡ unless (leb 2 (length (drop (i + 1) s))) undecided (whole (i - (p + 1) + 4))
      at_etx = stands (through-stop f.more (get_or s i 0) (drop (i + 1) s) (ap is_text e)) ∙ simp (eq-eqb (get_or s i 0) etx e)

      pub place_short : length s - i < 3 → place_of (get_or s p 0) (drop (p + 1) s) ≡ undecided
      place_short l =
          let g : length (drop (i + 1) s) < 2 = simp length-drop (omega arith) in
          at_etx ∙ simp (lt-leb 2 (length (drop (i + 1) s)) g)

      pub place-whole : 3 ≤ length s - i → place_of (get_or s p 0) (drop (p + 1) s) ≡ whole (i + 3 - p)
      place-whole l =
          let g : 2 ≤ length (drop (i + 1) s) = simp length-drop (omega arith) in
          let z : i - (p + 1) + 4 ≡ i + 3 - p = omega (arith, f.behind) in
          at_etx ∙ simp (le-leb 2 (length (drop (i + 1) s)) g) (ap whole z)

    broken : (get_or s i 0 ≡ etx → ⊥) → through f.more (get_or s i 0 ∷ drop (i + 1) s) ≡ 0 → place_of (get_or s p 0) (drop (p + 1) s) ≡ passed
    broken e z = stands z ∙ simp (ne_eqb (get_or s i 0) etx e)

    module _ (b : Bool) (t : b ≡ is_text (get_or s i 0)) where
      pub place_byte : not b ≡ true → (get_or s i 0 ≡ etx → ⊥) → place_of (get_or s p 0) (drop (p + 1) s) ≡ passed
      place_byte x e = broken e (through-stop f.more (get_or s i 0) (drop (i + 1) s) (sym t ∙ not-true b x))

      pub place_long : not b ≡ false → 60 < i - p → place_of (get_or s p 0) (drop (p + 1) s) ≡ passed
      place_long x l =
          broken (λ e. omega (arith, between_low 0x20 0x7e (get_or s i 0) (sym t ∙ not-false b x)))
          (through-none f.more (get_or s i 0) (drop (i + 1) s) (omega (arith, f.most)))

      pub search_turn : not b ≡ false → i - p ≤ 60 → Searching s p₀ p (i + 1)
      search_turn x l =
          let m : f.more ≡ f.more - 1 + 1 = omega (arith, f.most, f.behind) in
          let z : through f.more (drop i s) ≡ suc (through (f.more - 1) (drop (i + 1) s)) =
          ap (through f.more) (next s i h) ∙ through_turn f.more (f.more - 1) (get_or s i 0) (drop (i + 1) s) m (sym t ∙ not-false b x) in
          record {
            still = f.still;
            first = f.first;
            behind = omega (arith, f.behind);
            inside = omega arith;
            more = f.more - 1;
            most = omega (arith, f.most, f.behind);
            all = omega (arith, f.all, f.behind);
          }

-- ---- a frame that the search finds: so many text bytes, ETX and its two followers
pub record Whole (xs : List ℕ) (n : ℕ) : Type 0 where
  pub size : n ≡ through 60 xs + 4
  pub mark : get_or xs (through 60 xs) 0 ≡ etx
  pub least : 4 ≤ n
  pub most : n ≤ 64
  pub fits : n ≤ suc (length xs)

end-told : (t n : ℕ) (xs : List ℕ) → end_at t xs ≡ whole n → (n ≡ t + 4) × (get_or xs 0 0 ≡ etx) × (3 ≤ length xs)
end-told t n [] e = absurd (never (cc))
end-told t n (x ∷ xs) e = go (eqb x etx) (leb 2 (length xs)) refl refl e
  where
    go : (a b : Bool) → eqb x etx ≡ a → leb 2 (length xs) ≡ b → unless a passed (unless b undecided (whole (t + 4))) ≡ whole n
        → (n ≡ t + 4) × (x ≡ etx) × (3 ≤ length (x ∷ xs))
    go true true p q f = let l : 2 ≤ length xs = leb-true 2 (length xs) q in (cc, eqb-true x etx p, omega arith)
    go true false p q f = absurd (never (cc))
    go false b p q f = absurd (never (cc))

pub whole-told : (x : ℕ) (xs : List ℕ) (n : ℕ) → place_of x xs ≡ whole n → Whole xs n
unfolding searched
whole-told x xs n e = go (eqb x stx) e
  where
    t : ℕ
    t = through 60 xs

    go : (b : Bool) → unless b passed (end_at t (drop t xs)) ≡ whole n → Whole xs n
    go true f =
        let h = end-told t n (drop t xs) f in
        let l : length (drop t xs) ≡ length xs - t = length-drop t xs in
        let z : t + 0 ≡ t = omega arith in
        record {
          size = h.0;
          mark = sym (get_or-drop t xs 0 0 ∙ ap (λ (i : ℕ). get_or xs i 0) z) ∙ h.1;
          least = omega (arith, h.0);
          most = omega (arith, h.0, through_most 60 xs);
          fits = omega (arith, h.0, h.2);
        }
    go false f = absurd (never (cc))

-- ---- what is decided stays so, whatever comes behind it
through-append : (n : ℕ) (xs ys : List ℕ) → through n xs < length xs → through n (xs ++ ys) ≡ through n xs
unfolding through
through-append n [] ys h = absurd (omega arith)
through-append zero (x ∷ xs) ys h = refl
through-append (suc n) (x ∷ xs) ys h = go (is_text x) (through-append n xs ys) h
  where
    go : (b : Bool) → (through n xs < length xs → through n (xs ++ ys) ≡ through n xs) → pick b (suc (through n xs)) 0 < suc (length xs)
        → pick b (suc (through n (xs ++ ys))) 0 ≡ pick b (suc (through n xs)) 0
    go true f l = ap suc (f (omega arith))
    go false f l = refl

end-append : (t : ℕ) (xs ys : List ℕ) (y : Place) → end_at t xs ≡ y → (y ≡ undecided → ⊥) → end_at t (xs ++ ys) ≡ y
end-append t [] ys y e d = absurd (d (sym e))
end-append t (x ∷ xs) ys y e d = go (eqb x etx) (leb 2 (length xs)) refl e
  where
    go : (a b : Bool) → leb 2 (length xs) ≡ b → unless a passed (unless b undecided (whole (t + 4))) ≡ y
        → unless a passed (unless (leb 2 (length (xs ++ ys))) undecided (whole (t + 4))) ≡ y
    go true true q f =
        let l : 2 ≤ length xs = leb-true 2 (length xs) q in
        let m : 2 ≤ length (xs ++ ys) = omega (arith, length-append xs ys) in
        simp (le-leb 2 (length (xs ++ ys)) m) f
    go true false q f = absurd (d (sym f))
    go false b q f = f

pub place-append : (x : ℕ) (xs ys : List ℕ) (y : Place) → place_of x xs ≡ y → (y ≡ undecided → ⊥) → place_of x (xs ++ ys) ≡ y
unfolding searched
place-append x xs ys y e d = go (eqb x stx) e
  where
    t : ℕ
    t = through 60 xs

    short : end_at t (drop t xs) ≡ y → t < length xs
    short f = by_length (drop t xs) (length-drop t xs) f
      where
        by_length : (zs : List ℕ) → length zs ≡ length xs - t → end_at t zs ≡ y → t < length xs
        by_length [] l g = absurd (d (sym g))
        by_length (z ∷ zs) l g = omega arith

    go : (b : Bool) → unless b passed (end_at t (drop t xs)) ≡ y → unless b passed (end_at (through 60 (xs ++ ys)) (drop (through 60 (xs ++ ys)) (xs ++ ys))) ≡ y
    go true f =
        ap (λ (n : ℕ). end_at n (drop n (xs ++ ys))) (through-append 60 xs ys (short f))
        ∙ (ap (end_at t) (drop-append-le t xs ys (through_inside 60 xs)) ∙ end-append t (drop t xs) ys y f d)
    go false f = f

-- ---- what is not decided is short
pub undecided-short : (x : ℕ) (xs : List ℕ) → place_of x xs ≡ undecided → length xs ≤ 62
unfolding searched
undecided-short x xs e = go (eqb x stx) e
  where
    t : ℕ
    t = through 60 xs

    go : (b : Bool) → unless b passed (end_at t (drop t xs)) ≡ undecided → length xs ≤ 62
    go true f = by_end (drop t xs) (length-drop t xs) f
      where
        by_end : (zs : List ℕ) → length zs ≡ length xs - t → end_at t zs ≡ undecided → length xs ≤ 62
        by_end [] l g = omega (arith, through_most 60 xs)
        by_end (z ∷ zs) l g = by_tests (eqb z etx) (leb 2 (length zs)) refl g
          where
            by_tests : (a b : Bool) → leb 2 (length zs) ≡ b → unless a passed (unless b undecided (whole (t + 4))) ≡ undecided → length xs ≤ 62
            by_tests true true q h = absurd (never (cc))
            by_tests true false q h = omega (arith, leb-false 2 (length zs) q, through_most 60 xs)
            by_tests false b q h = absurd (never (cc))
    go false f = absurd (never (cc))

-- ---- no STX stands among the first d bytes
abbrev pub Clear : ℕ → List ℕ → Type 0
Clear d xs = (j : ℕ) → j < d → get_or xs j 0 ≡ stx → ⊥

-- the text bytes that are passed
pub through_clear : (n : ℕ) (xs : List ℕ) → Clear (through n xs) xs
unfolding through
through_clear n [] j h e = omega arith
through_clear zero (x ∷ xs) j h e = omega arith
through_clear (suc n) (x ∷ xs) j h e = go (is_text x) refl j h e (through_clear n xs)
  where
    go : (b : Bool) → is_text x ≡ b → (j : ℕ) → j < pick b (suc (through n xs)) 0 → get_or (x ∷ xs) j 0 ≡ stx → Clear (through n xs) xs → ⊥
    go true t zero l f on = omega (arith, between_low 0x20 0x7e x t)
    go true t (suc j) l f on = on j (omega arith) f
    go false t j l f on = omega arith

-- ... and the ETX of a frame
pub whole_clear : (xs : List ℕ) (n : ℕ) → Whole xs n → Clear (suc (through 60 xs)) xs
whole_clear xs n w j h e =
    ⊎_elim (λ (l : j < through 60 xs). through_clear 60 xs j l e)
    (λ (l : through 60 xs ≤ j).
    let i : through 60 xs ≡ j = omega arith in
    let z : stx ≡ etx = sym e ∙ (ap (λ (k : ℕ). get_or xs k 0) (sym i) ∙ w.mark) in
    omega arith)
    (below_or_not j (through 60 xs))
