-- What a bank adds to the tables: RT R NNN gets NO03 or is accepted, where without a bank it gets NO01; every other request gets what it
-- gets without a bank. Assumes nothing.
use Prim.Native.Nat.{ℕ, ◌-◌}
use mathlib.Core.Bool.{Bool, true, false, not, ◌&&◌, and-true, and-false}
use mathlib.Core.Path.{◌≡◌, refl, sym, ap, ◌∙◌}
use mathlib.Core.List.{List, [], ◌++◌}
use Rattle.std.specs.Prelude.{Option, Some, None}
use native.Mathlib.Omega.{arith}
use lib.Dec.{eqb}
use lib.ListN.{length, take, drop, length-drop, take-append-drop}
use lib.Seq.{drop-drop}
use borrow.Author.Tests.{eqb-true, eqb-false}
use Rattle.base.specs.Test.{pick, between}
use Rattle.base.proofs.Tests.{by_test, and_left, and_right, between_no}
use Rattle.text.specs.Word.{all_digits, value_of, number_for, equal}
use Rattle.text.proofs.Words.{equal_true}
use Rattle.base.specs.Text.{text}
use Rattle.state.specs.declared.Record.{Record}
use Rattle.command.specs.Commands.{RT, code_in, digits_between, formed, Arguments, row_of, commands, batch_asked, batch_number}
use Rattle.command.specs.Refusals.{Row, refusals, refusals_beside}
use Rattle.command.specs.Answer.{Verdict, NO, accepted, behind_code, first_of, verdict, verdict_beside}
use Rattle.command.specs.Request.{batch_in}
use Rattle.command.proofs.Parsing.{behind, behind_is}

-- ---- the code of `batch_asked`
nested : (a b c : Bool) (x : Option ℕ) → pick (a && (b && c)) x None ≡ pick (a && b) (pick c x None) None
nested true true c x = refl
nested true false c x = refl
nested false b c x = refl

pub batch_form : (t : List ℕ)
    → batch_in t
    ≡ pick {A = Option ℕ} (eqb (length t) 10 && (eqb (code_in t) RT && equal (take 3 (drop 4 t)) (text " R "))) (number_for (behind 7 t)) None
unfolding batch_in batch_asked digits_between number_for
batch_form t =
    simp (behind_is, drop-drop 3 4 t)
    (by_test (eqb (length t) 10)
    (λ h.
    let l : length (drop 7 t) ≡ 3 = length-drop 7 t ∙ ap (λ (n : ℕ). n - 7) (eqb-true (length t) 10 h) in
    simp (h, l) (nested (eqb (code_in t) RT) (equal (take 3 (drop 4 t)) (text " R ")) (all_digits (drop 7 t)) (Some (value_of (drop 7 t)))))
    (λ h.
    let n : length t ≡ 10 → ⊥ = eqb-false (length t) 10 h in
    let d : length (drop 7 t) ≡ length t - 7 = length-drop 7 t in
    let l : between 3 3 (length (drop 7 t)) ≡ false = between_no 3 3 (length (drop 7 t)) (λ a b. n (omega arith)) in
    simp (h, l, and-false)))

-- ---- what is asked for: the number, if there is one
pub batch_told : (t : List ℕ) (n : ℕ) → batch_in t ≡ Some n → (batch_asked (code_in t) (behind_code t) ≡ true) × (n ≡ batch_number (behind_code t))
unfolding batch_in
batch_told t n = go (batch_asked (code_in t) (behind_code t))
  where
    go : (b : Bool) → pick b (Some (batch_number (behind_code t))) None ≡ Some n → (b ≡ true) × (n ≡ batch_number (behind_code t))
    go true e = (refl, cc)
    go false e = let z : ◌≡◌ {A = ℕ} 0 1 = cc in absurd (omega arith)

pub none_told : (t : List ℕ) → batch_in t ≡ None → batch_asked (code_in t) (behind_code t) ≡ false
unfolding batch_in
none_told t = go (batch_asked (code_in t) (behind_code t))
  where
    go : (b : Bool) → pick b (Some (batch_number (behind_code t))) None ≡ None → b ≡ false
    go true e = let z : ◌≡◌ {A = ℕ} 0 1 = cc in absurd (omega arith)
    go false e = refl

-- ---- another request: the same row, whatever the number of batches
pub verdict_other : (n : ℕ) (t : List ℕ) (r : Record) → batch_asked (code_in t) (behind_code t) ≡ false → verdict_beside n t r ≡ verdict t r
unfolding verdict_beside verdict first_of
verdict_other n t r e = simp (e, and-true)

-- ---- RT R NNN: none of the rows but NO03's applies, and without a bank NO01's does
module _ (c : ℕ) (xs : List ℕ) (h : batch_asked c xs ≡ true) where
  pub own_code : c ≡ RT
  unfolding batch_asked
  own_code = eqb-true c RT (and_left (eqb c RT) _ h)

  own_words : xs ≡ text " R " ++ drop 3 xs
  unfolding batch_asked
  own_words =
      let e : take 3 xs ≡ text " R " = equal_true (take 3 xs) (text " R ") (and_left (equal (take 3 xs) (text " R ")) (digits_between 3 3 (drop 3 xs)) (and_right (eqb c RT) _ h)) in
      sym (take-append-drop 3 xs) ∙ ap (λ (l : List ℕ). l ++ drop 3 xs) e

-- of the code RT with " R " and the bytes ds behind it
rows_beside : (n : ℕ) (ds : List ℕ) (r : Record) → batch_asked RT (text " R " ++ ds) ≡ true
    → first_of (refusals_beside n) RT (text " R " ++ ds) r ≡ pick (not (between 1 n (value_of ds))) (NO 3) accepted
unfolding first_of equal
rows_beside n ds r h = simp (h, and-false)

rows_alone : (ds : List ℕ) (r : Record) → first_of refusals RT (text " R " ++ ds) r ≡ NO 1
unfolding first_of formed equal row_of
rows_alone ds r = refl

exchanged : (b : Bool) (x y : Verdict) → pick (not b) x y ≡ pick b y x
exchanged true x y = refl
exchanged false x y = refl

module _ (t : List ℕ) (r : Record) (h : batch_asked (code_in t) (behind_code t) ≡ true) where
  abbrev ds : List ℕ
  ds = drop 3 (behind_code t)

  by_words : (rows : List Row) → first_of rows (code_in t) (behind_code t) r ≡ first_of rows RT (text " R " ++ ds) r
  by_words rows =
      ap (λ (c : ℕ). first_of rows c (behind_code t) r) (own_code (code_in t) (behind_code t) h)
      ∙ ap (λ (xs : List ℕ). first_of rows RT xs r) (own_words (code_in t) (behind_code t) h)

  asked_there : batch_asked RT (text " R " ++ ds) ≡ true
  asked_there =
      ap (batch_asked RT) (sym (own_words (code_in t) (behind_code t) h))
      ∙ (ap (λ (c : ℕ). batch_asked c (behind_code t)) (sym (own_code (code_in t) (behind_code t) h)) ∙ h)

  -- with a bank of n batches
  pub verdict_batch : (n : ℕ) → verdict_beside n t r ≡ pick (between 1 n (batch_number (behind_code t))) accepted (NO 3)
  unfolding verdict_beside
  verdict_batch n = by_words (refusals_beside n) ∙ (rows_beside n ds r asked_there ∙ exchanged (between 1 n (value_of ds)) (NO 3) accepted)

  -- "document 01 gave NO01"
  pub verdict-alone : verdict t r ≡ NO 1
  unfolding verdict
  verdict-alone = by_words refusals ∙ rows_alone ds r

  -- it changes nothing of the record
  pub batch_changes_none : (x : Arguments) → (row_of (code_in t) commands).effect x ≡ []
  unfolding row_of
  batch_changes_none x = ap (λ (c : ℕ). (row_of c commands).effect x) (own_code (code_in t) (behind_code t) h)
