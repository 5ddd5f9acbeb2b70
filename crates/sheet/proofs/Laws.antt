-- Laws of the printed totals: the parts of a line one behind the other, and the lines too. Assumes nothing.
use Prim.Native.Nat.{ℕ, suc, ◌+◌, ◌*◌, ◌/◌, ◌≤◌, ◌<◌}
use mathlib.Core.Path.{◌≡◌, sym, ap, ◌∙◌}
use mathlib.Core.List.{List, [], ◌∷◌, ◌++◌, append_assoc, append-nil}
use native.Mathlib.Numerals.{add-one}
use native.Mathlib.Omega.{arith}
use lib.Dec.{eqb}
use lib.ListN.{length, get_or, take, length-append}
use lib.Seq.{take-suc, take_all, length-take-le}
use borrow.Author.Tests.{eq-eqb, ne_eqb}
use Rattle.base.proofs.Lists.{over_at-length}
use Rattle.base.proofs.Tests.{by_test}
use Rattle.state.specs.Parameter.{recipes}
use Rattle.text.specs.Word.{space, newline, digits, decimal}
use Rattle.text.specs.Written.{written_at, written_first}
use Rattle.text.proofs.Words.{digits-length}
use Rattle.text.proofs.Writing.{Laid, laid_none, laid_same, joined, behind_written, both_written, digits_high, decimal_high, first-laid}
use Rattle.sheet.specs.Sheet.{point, unit, units_text, label_text, line_text, recipe_text, lines_from, sheet_text, units_room, label_room, line_room, room}

-- ---- the room that each part takes
pub units_high : (s : ℕ) → length (units_text s) ≤ units_room
unfolding units_text
units_high s = omega (arith, length-append (decimal (s / unit)) (point ∷ digits 4 s), decimal_high (s / unit), digits-length 4 s)

pub label_high : (r n : ℕ) → length (label_text r n) ≤ label_room
unfolding label_text
label_high r n =
    omega (arith, length-append (digits 2 r) (space ∷ (decimal n ++ (space ∷ []))), digits-length 2 r, length-append (decimal n) (space ∷ []), decimal_high n)

pub line_high : (r n s : ℕ) → length (line_text r n s) ≤ line_room
unfolding line_text
line_high r n s =
    omega (arith, length-append (label_text r n) (units_text s ++ newline), label_high r n, length-append (units_text s) newline, units_high s)

pub recipe_high : (r n s : ℕ) → length (recipe_text r n s) ≤ line_room
unfolding recipe_text
recipe_high r n s = by_test (eqb n 0) (λ e. simp e (omega arith)) (λ e. simp e (line_high r n s))

-- ---- a line's parts
pub units-laid : (s at p q m : ℕ) (o o₁ o₂ o₃ : List ℕ) → at + units_room ≤ length o → (p, o₁) ≡ written_at at (decimal (s / unit)) o
    → (q, o₂) ≡ written_at p (point ∷ []) o₁ → (m, o₃) ≡ written_at q (digits 4 s) o₂ → Laid at (units_text s) o m o₃
unfolding units_text
units-laid s at p q m o o₁ o₂ o₃ h a b c =
    let w : List ℕ = decimal (s / unit) in
    let l : length (decimal (s / unit)) ≤ 20 = decimal_high (s / unit) in
    let d : Laid at (w ++ (point ∷ [])) o q o₂ = both_written at p q 1 w (point ∷ []) o o₁ o₂ (omega arith) (omega arith) a b in
    laid_same at m ((w ++ (point ∷ [])) ++ digits 4 s) (w ++ (point ∷ digits 4 s)) o o₃ (append_assoc w (point ∷ []) (digits 4 s))
    (behind_written at q m 4 (w ++ (point ∷ [])) (digits 4 s) o o₂ o₃ (digits_high 4 s) (omega (arith, length-append w (point ∷ []))) d c)

pub label_laid : (r n at p q u m : ℕ) (o o₁ o₂ o₃ o₄ : List ℕ) → at + label_room ≤ length o → (p, o₁) ≡ written_at at (digits 2 r) o
    → (q, o₂) ≡ written_at p (space ∷ []) o₁ → (u, o₃) ≡ written_at q (decimal n) o₂ → (m, o₄) ≡ written_at u (space ∷ []) o₃
    → Laid at (label_text r n) o m o₄
unfolding label_text
label_laid r n at p q u m o o₁ o₂ o₃ o₄ h a b c d =
    let x : List ℕ = digits 2 r in
    let y : List ℕ = digits 2 r ++ (space ∷ []) in
    let i : length (digits 2 r) ≡ 2 = digits-length 2 r in
    let j : length (decimal n) ≤ 20 = decimal_high n in
    let k : length (digits 2 r ++ (space ∷ [])) ≡ 3 = length-append x (space ∷ []) ∙ omega arith in
    let e : Laid at y o q o₂ = both_written at p q 1 x (space ∷ []) o o₁ o₂ (omega arith) (omega arith) a b in
    let f : Laid at (y ++ decimal n) o u o₃ = behind_written at q u 20 y (decimal n) o o₂ o₃ j (omega arith) e c in
    let g : Laid at ((y ++ decimal n) ++ (space ∷ [])) o m o₄ =
    behind_written at u m 1 (y ++ decimal n) (space ∷ []) o o₃ o₄ (omega arith) (omega (arith, length-append y (decimal n))) f d in
    laid_same at m ((y ++ decimal n) ++ (space ∷ [])) (x ++ (space ∷ (decimal n ++ (space ∷ [])))) o o₄
    (append_assoc y (decimal n) (space ∷ []) ∙ append_assoc x (space ∷ []) (decimal n ++ (space ∷ []))) g

-- there is room for the sum behind the label
pub sum_room : (r n at p : ℕ) (o o₁ : List ℕ) → at + line_room ≤ length o → Laid at (label_text r n) o p o₁ → p + units_room ≤ length o₁
sum_room r n at p o o₁ h a =
    let l = label_high r n in
    omega (arith, a.0, ap length a.1, over_at-length at (label_text r n) o (omega arith))

pub line-laid : (r n s at p q m : ℕ) (o o₁ o₂ o₃ : List ℕ) → at + line_room ≤ length o → Laid at (label_text r n) o p o₁ → Laid p (units_text s) o₁ q o₂
    → (m, o₃) ≡ written_at q newline o₂ → Laid at (line_text r n s) o m o₃
unfolding line_text
line-laid r n s at p q m o o₁ o₂ o₃ h a b c =
    let l = label_high r n in
    let u = units_high s in
    let d : Laid at (label_text r n ++ units_text s) o q o₂ = joined at p q (label_text r n) (units_text s) o o₁ o₂ a b in
    laid_same at m ((label_text r n ++ units_text s) ++ newline) (label_text r n ++ (units_text s ++ newline)) o o₃ (append_assoc (label_text r n) (units_text s) newline)
    (behind_written at q m 1 (label_text r n ++ units_text s) newline o o₂ o₃ (omega arith) (omega (arith, length-append (label_text r n) (units_text s))) d c)

pub none-laid : (r n s at : ℕ) (o : List ℕ) → n ≡ 0 → Laid at (recipe_text r n s) o at o
unfolding recipe_text
none-laid r n s at o e = simp (eq-eqb n 0 e) (laid_none at o)

pub one_laid : (r n s at m : ℕ) (o o₁ : List ℕ) → (n ≡ 0 → ⊥) → Laid at (line_text r n s) o m o₁ → Laid at (recipe_text r n s) o m o₁
unfolding recipe_text
one_laid r n s at m o o₁ h a = simp (ne_eqb n 0 h) a

-- ---- one line more
lines_joined : (r : ℕ) (ns ss : List ℕ) (n s : ℕ) → length ns ≡ length ss
    → lines_from r (ns ++ (n ∷ [])) (ss ++ (s ∷ [])) ≡ lines_from r ns ss ++ recipe_text (r + length ns) n s
unfolding lines_from
lines_joined r [] [] n s e = append-nil (recipe_text r n s) ∙ ap (λ (q : ℕ). recipe_text q n s) (omega arith)
lines_joined r [] (y ∷ ss) n s e = absurd (omega arith)
lines_joined r (x ∷ ns) [] n s e = absurd (omega arith)
lines_joined r (x ∷ ns) (y ∷ ss) n s e =
    ap (λ (l : List ℕ). recipe_text r x y ++ l) (lines_joined (suc r) ns ss n s (omega arith) ∙ ap (λ (q : ℕ). lines_from (suc r) ns ss ++ recipe_text q n s) (omega arith))
    ∙ sym (append_assoc (recipe_text r x y) (lines_from (suc r) ns ss) (recipe_text (r + suc (length ns)) n s))

-- the lines of the first i recipes are laid
pub record Lines (ns ss o o₁ : List ℕ) (at i : ℕ) : Type 0 where
  pub low : i ≤ recipes
  pub all_counts : length ns ≡ recipes
  pub all_sums : length ss ≡ recipes
  pub wide : room ≤ length o
  pub laid : Laid 0 (lines_from 1 (take i ns) (take i ss)) o at o₁
  pub high : at ≤ line_room * i

pub lines_none : (ns ss o : List ℕ) → length ns ≡ recipes → length ss ≡ recipes → room ≤ length o → Lines ns ss o o 0 0
unfolding lines_from
lines_none ns ss o n s h = record { low = omega arith; all_counts = n; all_sums = s; wide = h; laid = laid_none 0 o; high = omega arith }

module _ {ns ss o o₁ : List ℕ} {at i : ℕ} (l : Lines ns ss o o₁ at i) where
  pub lines_more : (m : ℕ) (o₂ : List ℕ) → i < recipes → Laid at (recipe_text (i + 1) (get_or ns i 0) (get_or ss i 0)) o₁ m o₂ → Lines ns ss o o₂ m (i + 1)
  lines_more m o₂ h a =
      let x : take (i + 1) ns ≡ take i ns ++ (get_or ns i 0 ∷ []) = rw (add-one) (take-suc ns i 0 (let e = l.all_counts in omega arith)) in
      let y : take (i + 1) ss ≡ take i ss ++ (get_or ss i 0 ∷ []) = rw (add-one) (take-suc ss i 0 (let e = l.all_sums in omega arith)) in
      let u : length (take i ns) ≡ i = length-take-le i ns (let e = l.all_counts in omega arith) in
      let v : length (take i ss) ≡ i = length-take-le i ss (let e = l.all_sums in omega arith) in
      let q : lines_from 1 (take i ns) (take i ss) ++ recipe_text (i + 1) (get_or ns i 0) (get_or ss i 0) ≡ lines_from 1 (take (i + 1) ns) (take (i + 1) ss) =
      sym (ap (λ (z : List ℕ). lines_from 1 z (take (i + 1) ss)) x ∙ (ap (λ (z : List ℕ). lines_from 1 (take i ns ++ (get_or ns i 0 ∷ [])) z) y
      ∙ (lines_joined 1 (take i ns) (take i ss) (get_or ns i 0) (get_or ss i 0) (u ∙ sym v)
      ∙ ap (λ (k : ℕ). lines_from 1 (take i ns) (take i ss) ++ recipe_text k (get_or ns i 0) (get_or ss i 0)) (omega arith)))) in
      record {
        low = omega arith;
        all_counts = l.all_counts;
        all_sums = l.all_sums;
        wide = l.wide;
        laid = laid_same 0 m (lines_from 1 (take i ns) (take i ss) ++ recipe_text (i + 1) (get_or ns i 0) (get_or ss i 0)) (lines_from 1 (take (i + 1) ns) (take (i + 1) ss)) o o₂ q
            (joined 0 at m (lines_from 1 (take i ns) (take i ss)) (recipe_text (i + 1) (get_or ns i 0) (get_or ss i 0)) o o₁ o₂ l.laid a);
        high = let b = recipe_high (i + 1) (get_or ns i 0) (get_or ss i 0) in let c = l.high in omega (arith, a.0);
      }

  pub lines_all : recipes ≤ i → (at, o₁) ≡ written_first room (sheet_text ns ss) o
  unfolding sheet_text
  lines_all h =
      let x : take i ns ≡ ns = take_all i ns (let e = l.all_counts in omega arith) in
      let y : take i ss ≡ ss = take_all i ss (let e = l.all_sums in omega arith) in
      first-laid room at (lines_from 1 ns ss) o o₁ l.wide
      (laid_same 0 at (lines_from 1 (take i ns) (take i ss)) (lines_from 1 ns ss) o o₁
      (ap (λ (z : List ℕ). lines_from 1 z (take i ss)) x ∙ ap (lines_from 1 ns) y) l.laid)
