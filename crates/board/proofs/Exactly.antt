-- When the board is silent and with which silence, as "if and only if", for any records, kind of link, request bytes and reply buffer:
-- S9, S10, S11, then S2 to S8, where S8 is that no record has the address. Assumes nothing.
use Prim.Native.Nat.{ℕ, suc, ◌+◌, ◌≤◌, ◌<◌}
use mathlib.Core.Bool.{Bool, true, false}
use mathlib.Core.Path.{◌≡◌, refl, sym, ap, ◌∙◌}
use mathlib.Core.List.{List, [], ◌∷◌}
use mathlib.Core.Logic.{◌↔◌}
use native.Mathlib.Omega.{arith}
use lib.Dec.{eqb, leb}
use lib.ListN.{length, get_or}
use borrow.Author.Tests.{eqb-true, eq-eqb}
use Rattle.base.specs.Test.{unless, between, all_distinct, member}
use Rattle.base.proofs.FirstFailing.{FirstFailing, NoneFails, failing, failing_exactly, none_exactly}
use Rattle.base.proofs.Tests.{by_test, and_left, and_right, distinct_place}
use Rattle.state.specs.declared.Record.{Record}
use Rattle.state.specs.Valid.{valid}
use Rattle.frame.specs.declared.Kind.{Kind}
use Rattle.frame.specs.Frame.{all_text, names_unit, text_in, within_limits, marks_right, check_right}
use Rattle.frame.specs.Answer.{locate_of, address_of}
use Rattle.controller.specs.Call.{call_of}
use Rattle.controller.proofs.Exactly.{silence_failing}
use Rattle.board.specs.Board.{all_valid, addresses, asked, dispatched, board_of}

-- "S9 empty list or over 16, S10 a record not valid, S11 an address twice; then S2 to S8": the numbers in this order, behind a 0 for a
-- reply
abbrev pub in_order : List ℕ
in_order = 0 ∷ 9 ∷ 10 ∷ 11 ∷ 2 ∷ 3 ∷ 4 ∷ 5 ∷ 6 ∷ 7 ∷ 8 ∷ []

-- and the tests; the last is of all records
abbrev pub board_tests : Kind → List Record → List ℕ → List ℕ → List Bool
board_tests k ys q o =
    between 1 16 (length ys) ∷ all_valid ys ∷ all_distinct (addresses ys) ∷ leb 64 (length o) ∷ within_limits k (length q) ∷ marks_right k q ∷ check_right k q
    ∷ all_text (text_in k q) ∷ names_unit (text_in k q) ∷ member (asked k q) (addresses ys) ∷ []

-- ---- the number of the silence is that of the first test that fails
module _ (k : Kind) (q o : List ℕ) where
  -- behind S7: S8 if no record has the address
  called-number : (a : ℕ) → ((r : Record) → valid r ≡ true → a ≡ r.address → (call_of k r q o).silence ≡ 0)
      → (ys : List Record) → all_valid ys ≡ true → (dispatched a k ys q o).silence ≡ unless (member a (addresses ys)) 8 0
  unfolding dispatched all_valid
  called-number a heard [] v = refl
  called-number a heard (r ∷ rs) v =
      by_test (eqb a r.address) (λ e. simp e (heard r (and_left (valid r) (all_valid rs) v) (eqb-true a r.address e)))
      (λ e. simp e (called-number a heard rs (and_right (valid r) (all_valid rs) v)))

  silence_tested : (ys : List Record) → (board_of k ys q o).silence ≡ get_or in_order (failing 1 (board_tests k ys q o)) 0
  unfolding board_of address_of locate_of
  silence_tested ys =
      by_test (between 1 16 (length ys)) (λ few. by_test (all_valid ys) (λ v. by_test (all_distinct (addresses ys)) (λ u. by_test (leb 64 (length o))
      (λ room. by_test (within_limits k (length q)) (λ limits. by_test (marks_right k q) (λ marks. by_test (check_right k q) (λ sum. by_test (all_text (text_in k q))
      (λ bytes. by_test (names_unit (text_in k q))
      (λ names.
      simp (few, v, u, room, limits, marks, sum, bytes, names)
      (called-number (asked k q)
      (λ r w e. silence_failing k r q o ∙ simp (w, room, limits, marks, sum, bytes, names, eq-eqb (asked k q) r.address e)) ys v
      ∙ last (member (asked k q) (addresses ys))))
      (λ names. simp (few, v, u, room, limits, marks, sum, bytes, names))) (λ bytes. simp (few, v, u, room, limits, marks, sum, bytes)))
      (λ sum. simp (few, v, u, room, limits, marks, sum))) (λ marks. simp (few, v, u, room, limits, marks))) (λ limits. simp (few, v, u, room, limits)))
      (λ room. simp (few, v, u, room))) (λ u. simp (few, v, u))) (λ v. simp (few, v))) (λ few. simp few)
    where
      last : (b : Bool) → unless b 8 0 ≡ get_or in_order (unless b 10 0) 0
      last true = refl
      last false = refl

-- ---- two places have two numbers
one_place : (i j : ℕ) → i < 11 → j < 11 → get_or in_order i 0 ≡ get_or in_order j 0 → i ≡ j
unfolding all_distinct
one_place i j = distinct_place 0 in_order refl i j

failing_below : (bs : List Bool) (n : ℕ) → 1 ≤ n → failing n bs < n + length bs
failing_below [] n l = omega arith
failing_below (b ∷ bs) n l = go b (failing_below bs (suc n) (omega arith))
  where
    go : (b : Bool) → failing (suc n) bs < suc n + length bs → unless b n (failing (suc n) bs) < n + suc (length bs)
    go true h = omega arith
    go false h = omega arith

module _ (k : Kind) (ys : List Record) (q o : List ℕ) where
  numbered : (i : ℕ) → i < 11 → (board_of k ys q o).silence ≡ get_or in_order i 0 ↔ failing 1 (board_tests k ys q o) ≡ i
  numbered i l = (
    λ e. one_place (failing 1 (board_tests k ys q o)) i (failing_below (board_tests k ys q o) 1 (omega arith)) l (sym (silence_tested k q o ys) ∙ e),
    λ e. silence_tested k q o ys ∙ ap (λ (j : ℕ). get_or in_order j 0) e,
  )

  -- the silence at place i of the order goes out if and only if its own test fails and no earlier one does
  pub silence_exactly : (i : ℕ) → i < 10 → (board_of k ys q o).silence ≡ get_or in_order (i + 1) 0 ↔ FirstFailing (board_tests k ys q o) i
  silence_exactly i l =
      let n = numbered (i + 1) (omega arith) in
      let f = failing_exactly (board_tests k ys q o) i in
      (λ e. f.0 (n.0 e), λ g. n.1 (f.1 g))

  -- a reply goes out if and only if none fails
  pub heard_exactly : (board_of k ys q o).silence ≡ 0 ↔ NoneFails (board_tests k ys q o)
  heard_exactly =
      let n = numbered 0 (omega arith) in
      let f = none_exactly (board_tests k ys q o) in
      (λ e. f.0 (n.0 e), λ g. n.1 (f.1 g))
