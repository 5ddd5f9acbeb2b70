-- What the returns of `save` give: the record with the address takes its place. Assumes nothing.
use Prim.Native.Nat.{ℕ, zero, suc, ◌+◌, ◌-◌, ◌*◌, ◌<◌}
use mathlib.Core.Bool.{Bool, true, false, not}
use mathlib.Core.Path.{◌≡◌, refl, sym, ap, ◌∙◌}
use mathlib.Core.List.{List, [], ◌∷◌, ◌++◌, append_assoc}
use native.Mathlib.Omega.{arith}
use lib.Dec.{eqb, ltb, leb-suc-suc}
use lib.ListN.{length, take, drop, get_or, length-take, length-drop, take-append-drop}
use lib.Seq.{drop-drop, take-add}
use borrow.Author.Tests.{lt-leb, lt-ltb, not-true, not-false}
use borrow.Rule.Slice.PartMut.{put_mid}
use Rattle.std.specs.Prelude.{Option, Some, None, cond, position, ◌==◌}
use Rattle.std.specs.List.{position_or_len}
use Rattle.std.proofs.lemmas.List.Quantifiers.{position-Some}
use Rattle.base.specs.Test.{pick}
use Rattle.base.proofs.Tests.{by_test, never, eqb-turned}
use Rattle.state.specs.declared.Record.{Record}
use Rattle.state.specs.Valid.{valid}
use Rattle.stored.specs.Form.{Outcome, write_of, low_record}
use Rattle.board.specs.Board as board
use Rattle.board.specs.Board.{Answer, answer_silence, outcome_as}
use Rattle.storedboard.specs.StoredBoard.{each, called_as}
use Rattle.storedboard.specs.Steps.{saved, saved_for, saved_of, lent_of}
use Rattle.storedboard.proofs.Reading.{width, width_is}

-- ---- a place that is not whole: nothing is written
short_stays : (r : Record) (o : List ℕ) → length o < each → (write_of r o).1 ≡ o
unfolding write_of
short_stays r o h = by_test (valid r) (λ v. simp (v, lt-leb each (length o) h)) (λ v. simp v)

-- ---- the record with the address, by its place; whatever stands for one that there is not
unfoldable pub placed : List Record → ℕ → Record
placed rs i = get_or rs i low_record

pub at_place : (rs : List Record) (i : ℕ) → i < length rs → (none : Record) → get_or rs i none ≡ placed rs i
unfolding placed
at_place [] i h none = absurd (omega arith)
at_place (r ∷ rs) zero h none = refl
at_place (r ∷ rs) (suc i) h none = at_place rs i (omega arith) none

-- the record at place i is written there
abbrev saved_at : ℕ → List Record → List ℕ → List ℕ
saved_at i rs s = take (i * each) s ++ ((write_of (placed rs i) (take each (drop (i * each) s))).1 ++ drop each (drop (i * each) s))

saved_behind : (i : ℕ) (r : Record) (rs : List Record) (s : List ℕ) → take each s ++ saved_at i rs (drop each s) ≡ saved_at (1 + i) (r ∷ rs) s
unfolding placed
saved_behind i r rs s =
    let n : 1 + i ≡ suc i = omega arith in
    let e : each + i * each ≡ suc i * each = simp width_is (omega arith) in
    let p : List ℕ → List ℕ = λ t. (write_of (get_or rs i low_record) (take each t)).1 ++ drop each t in
    sym (ap (λ (j : ℕ). saved_at j (r ∷ rs) s) n ∙
    (ap (λ (j : ℕ). take j s ++ p (drop j s)) (sym e) ∙
    (ap (λ (t : List ℕ). t ++ p (drop (each + i * each) s)) (take-add each (i * each) s) ∙
    (append_assoc (take each s) (take (i * each) (drop each s)) (p (drop (each + i * each) s)) ∙
    ap (λ (t : List ℕ). take each s ++ (take (i * each) (drop each s) ++ p t)) (sym (drop-drop (i * each) each s))))))

saved_first : (r : Record) (rs : List Record) (s : List ℕ) → saved_at 0 (r ∷ rs) s ≡ (write_of r (take each s)).1 ++ drop each s
unfolding placed
saved_first r rs s =
    let e : 0 * each ≡ 0 = simp width_is in
    ap (λ (j : ℕ). take j s ++ ((write_of r (take each (drop j s))).1 ++ drop each (drop j s))) e

abbrev before : ℕ → List Record → ℕ
before a rs = position_or_len (λ (r : Record). r.address == a) rs

by_place : (a : ℕ) (rs : List Record) (s : List ℕ) → saved a rs s ≡ pick (ltb (before a rs) (length rs)) (saved_at (before a rs) rs s) s
unfolding saved
by_place a [] s = refl
by_place a (r ∷ rs) s =
    by_test (eqb a r.address)
    (λ e. simp (e, eqb-turned r.address a ∙ e) (sym (ap (λ (b : Bool). pick b (saved_at 0 (r ∷ rs) s) s) (lt-ltb 0 (suc (length rs)) (omega arith)) ∙ saved_first r rs s)))
    (λ e. simp (e, eqb-turned r.address a ∙ e) (ap (λ (t : List ℕ). take each s ++ t) (by_place a rs (drop each s)) ∙ go (before a rs)))
  where
    go : (i : ℕ) → take each s ++ pick (ltb i (length rs)) (saved_at i rs (drop each s)) (drop each s) ≡ pick (ltb (1 + i) (length (r ∷ rs))) (saved_at (1 + i) (r ∷ rs) s) s
    go i =
        let n : suc i ≡ 1 + i = omega arith in
        by_test (ltb i (length rs))
        (λ h. simp h (saved_behind i r rs s) ∙ sym (ap (λ (b : Bool). pick b (saved_at (1 + i) (r ∷ rs) s) s) (sym (ap (λ (j : ℕ). ltb j (suc (length rs))) n) ∙ (leb-suc-suc (suc i) (length rs) ∙ h))))
        (λ h. simp h (take-append-drop each s) ∙ sym (ap (λ (b : Bool). pick b (saved_at (1 + i) (r ∷ rs) s) s) (sym (ap (λ (j : ℕ). ltb j (suc (length rs))) n) ∙ (leb-suc-suc (suc i) (length rs) ∙ h))))

-- ---- the returns, by the place that is found
module _ (a : ℕ) (rs : List Record) (s : List ℕ) (x : Option ℕ) (e : x ≡ position (λ (r : Record). r.address == a) rs) where
  -- no record has the address
  pub saved_nobody : x ≡ None → s ≡ saved a rs s
  saved_nobody z = sym (by_place a rs s ∙ go (ltb (before a rs) (length rs)) (before a rs) (sym z ∙ e))
    where
      go : (b : Bool) (i : ℕ) → None ≡ cond b (Some i) None → pick b (saved_at i rs s) s ≡ s
      go true i n = absurd (never cc)
      go false i n = refl

  module _ (i : ℕ) (z : x ≡ Some i) where
    pub inside : i < length rs
    inside = (position-Some (λ (r : Record). r.address == a) rs i low_record (sym e ∙ z)).0

    saved_there : saved a rs s ≡ saved_at i rs s
    saved_there = by_place a rs s ∙ go (ltb (before a rs) (length rs)) (before a rs) (sym z ∙ e)
      where
        go : (b : Bool) (j : ℕ) → Some i ≡ cond b (Some j) None → pick b (saved_at j rs s) s ≡ saved_at i rs s
        go true j n = let same : i ≡ j = cc in ap (λ (m : ℕ). saved_at m rs s) (sym same)
        go false j n = absurd (never cc)

    -- its place is not whole
    pub saved-short : length s < i * width + width → s ≡ saved a rs s
    saved-short h =
        let at : ℕ = i * each in
        let short : length (take each (drop at s)) < each = simp (length-take, length-drop, width_is) (omega (arith, width_is)) in
        sym (saved_there ∙ (ap (λ (o : List ℕ). take at s ++ (o ++ drop each (drop at s))) (short_stays (placed rs i) (take each (drop at s)) short) ∙
        (ap (λ (o : List ℕ). take at s ++ o) (take-append-drop each (drop at s)) ∙ take-append-drop at s)))

    -- it is written into its place
    pub saved_here : {y : Outcome} {ys : List ℕ} → (y, ys) ≡ write_of (placed rs i) (take (i * width + width - i * width) (drop (i * width) s))
        → put_mid (i * width) (i * width + width - i * width) s ys ≡ saved a rs s
    saved_here {y} {ys} wrote =
        let at : i * width ≡ i * each = simp width_is in
        let e : i * width + width - i * width ≡ each = omega (arith, width_is) in
        let bytes : ys ≡ (write_of (placed rs i) (take each (drop (i * width) s))).1 =
        ap (λ (p : Outcome × List ℕ). p.1) wrote ∙ ap (λ (m : ℕ). (write_of (placed rs i) (take m (drop (i * width) s))).1) e in
        ap (λ (m : ℕ). take (i * width) s ++ (ys ++ drop m (drop (i * width) s))) e
        ∙ (ap (λ (o : List ℕ). take (i * width) s ++ (o ++ drop each (drop (i * width) s))) bytes
        ∙ (ap (λ (j : ℕ). take j s ++ ((write_of (placed rs i) (take each (drop j s))).1 ++ drop each (drop j s))) at ∙ sym saved_there))

-- ---- lending: what the board's call left is saved if there is a reply
module _ (a : Answer) (c : board.Outcome) (rs : List Record) (os s : List ℕ) (address : Option ℕ) (e : outcome_as a rs os ≡ c) (silent : Bool) (says : silent ≡ not (eqb (answer_silence a) 0)) where
  lent-with : (t : List ℕ) → t ≡ saved_of (answer_silence a) address rs s → called_as a t os ≡ lent_of address c s
  unfolding lent_of
  lent-with t h = ap (λ (y : List ℕ). called_as a y os) h ∙ ap (λ (x : board.Outcome). lent_of address x s) e

  pub lent_silent : silent ≡ true → called_as a s os ≡ lent_of address c s
  unfolding saved_of
  lent_silent h =
      let z : eqb (answer_silence a) 0 ≡ false = not-true (eqb (answer_silence a) 0) (sym says ∙ h) in
      lent-with s (simp z)

  module _ (heard : silent ≡ false) where
    lent_heard : (t : List ℕ) → t ≡ saved_for address rs s → called_as a t os ≡ lent_of address c s
    unfolding saved_of
    lent_heard t w =
        let z : eqb (answer_silence a) 0 ≡ true = not-false (eqb (answer_silence a) 0) (sym says ∙ heard) in
        lent-with t (w ∙ simp z)

    -- to this address, or to none
    module _ (x : Option ℕ) (g : x ≡ address) where
      pub lent_to : (n : ℕ) → x ≡ Some n → (t : List ℕ) → t ≡ saved n rs s → called_as a t os ≡ lent_of address c s
      lent_to n z t w = lent_heard t (w ∙ ap (λ (y : Option ℕ). saved_for y rs s) (sym z ∙ g))

      pub lent_nowhere : x ≡ None → called_as a s os ≡ lent_of address c s
      lent_nowhere z = lent_heard s (ap (λ (y : Option ℕ). saved_for y rs s) (sym z ∙ g))
