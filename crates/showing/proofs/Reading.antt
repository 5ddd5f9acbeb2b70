-- Words and numbers in a reply: one law for each return of the functions that read them, and that a number stands behind a word exactly if it
-- was printed there. Assumes nothing.
use Rattle.std.specs.Prelude.{Option, Some, None}
use Prim.Native.Nat.{ℕ, ◌+◌, ◌≤◌, ◌<◌, ◌*◌, ◌^◌}
use mathlib.Core.Bool.{Bool, true, false, ◌&&◌, and-false}
use mathlib.Core.Path.{◌≡◌, sym, ap, ◌∙◌, refl}
use mathlib.Core.List.{List, [], ◌∷◌, ◌++◌}
use native.Mathlib.Omega.{arith}
use lib.ListN.{length, take, drop, length-drop, length-append, take-append-drop}
use lib.Seq.{take-append_seam, drop-append_seam}
use lib.Dec.{eqb, leb}
use lib.Pointwise.{pointwise}
use borrow.Author.Tests.{eq-eqb, ne_eqb, eqb-true, le-leb}
use Rattle.base.specs.Text.{text}
use Rattle.base.specs.Test.{pick}
use Rattle.base.proofs.Tests.{and_left, and_right}
use Rattle.state.specs.Parameter.{code_at}
use Rattle.base.specs.Lists.{over_at}
use Rattle.text.specs.Written.{written_at}
use Rattle.text.specs.Word.{digits, equal, value_of, number_for}
use Rattle.command.specs.Commands.{parameter_label}
use Rattle.text.proofs.Words.{equal-pointwise, equal_true, digits-length, digits_all, value-digits, digits_value, value_below, equal-same, number-told}
use Rattle.showing.specs.Heard.{number_behind}

-- ---- `number_behind`
module _ (w s : List ℕ) (width : ℕ) where
  pub behind_length : (length s ≡ length w + width → ⊥) → None ≡ number_behind w width s
  unfolding number_behind
  behind_length h = simp (ne_eqb _ _ h)

  pub behind_other : pointwise eqb (take (length w) s) w ≡ false → number_behind w width s ≡ None
  unfolding number_behind
  behind_other e = simp (sym (equal-pointwise (take (length w) s) w) ∙ e, and-false)

  pub behind_word : length s ≡ length w + width → pointwise eqb (take (length w) s) w ≡ true → number_behind w width s ≡ number_for (drop (length w) s)
  unfolding number_behind
  behind_word l e = simp (eq-eqb _ _ l, sym (equal-pointwise (take (length w) s) w) ∙ e)

pub ruleset behind_words = (behind_length, behind_other, behind_word)

-- ---- `parameter_label`
pub label_printed : (x i m n : ℕ) (l o : List ℕ) → n ≡ code_at i → o ≡ x ∷ 0x56 ∷ 0x20 ∷ 0x30 ∷ 0x30 ∷ 0x30 ∷ 0x20 ∷ [] → (m, l) ≡ written_at 3 (digits 3 n) o
    → l ≡ parameter_label (x ∷ text "V ") i
unfolding digits written_at over_at
label_printed x i m n l o q start h = ap (λ (p : ℕ × List ℕ). p.1) h ∙ (ap (λ (y : List ℕ). (written_at 3 (digits 3 n) y).1) start ∙ ap (λ (c : ℕ). (x ∷ text "V ") ++ (digits 3 c ++ (0x20 ∷ []))) q)

-- what was read, if a test let anything be read
picked : (t : Bool) (d : Option ℕ) (n : ℕ) → pick t d None ≡ Some n → (t ≡ true) × (d ≡ Some n)
picked true d n e = (refl, e)
picked false d n e = let z : ◌≡◌ {A = ℕ} 0 1 = cc in absurd (omega arith)

-- ---- a number that was read is the number printed
module _ (w : List ℕ) (width : ℕ) where
  pub behind_told : (b : List ℕ) (n : ℕ) → number_behind w width b ≡ Some n → (b ≡ w ++ digits width n) × (n < 10 ^ width)
  unfolding number_behind
  behind_told b n e =
      let i = picked (eqb (length b) (length w + width) && equal (take (length w) b) w) (number_for (drop (length w) b)) n e in
      let l : length b ≡ length w + width = eqb-true _ _ (and_left (eqb (length b) (length w + width)) (equal (take (length w) b) w) i.0) in
      let p : take (length w) b ≡ w = equal_true _ _ (and_right (eqb (length b) (length w + width)) (equal (take (length w) b) w) i.0) in
      let d = number-told (drop (length w) b) n i.1 in
      let k : length (drop (length w) b) ≡ width = omega (arith, length-drop (length w) b) in
      let q : digits width n ≡ drop (length w) b =
      ap (digits width) d.1 ∙ ap (λ (m : ℕ). digits m (value_of (drop (length w) b))) (sym k) ∙ digits_value (drop (length w) b) d.0 in
      let s : value_of (drop (length w) b) < (0 + 1) * 10 ^ length (drop (length w) b) = value_below (drop (length w) b) 0 d.0 in
      let m : n < 10 ^ length (drop (length w) b) = omega (arith, d.1) in (
        sym (take-append-drop (length w) b) ∙ ap (λ (x : List ℕ). x ++ drop (length w) b) p ∙ ap (λ (x : List ℕ). w ++ x) (sym q),
        rw k at m,
      )

  -- ---- a number that was printed is read
  pub behind_left : (n : ℕ) → width ≤ 8 → n < 10 ^ width → number_behind w width (w ++ digits width n) ≡ Some n
  unfolding number_behind number_for
  behind_left n h l =
      let e : length (w ++ digits width n) ≡ length w + width = omega (arith, length-append w (digits width n), digits-length width n) in
      let s : leb (length (digits width n)) 8 ≡ true = le-leb (length (digits width n)) 8 (omega (arith, digits-length width n)) in
      simp (eq-eqb _ _ e, take-append_seam w (digits width n), equal-same w, drop-append_seam w (digits width n), s, digits_all width n, value-digits width n)

  -- where another word stands there is no number
  pub behind_none : (b : List ℕ) → equal (take (length w) b) w ≡ false → number_behind w width b ≡ None
  unfolding number_behind
  behind_none b e = simp (e, and-false)
