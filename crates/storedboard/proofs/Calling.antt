-- The call: the address that a request with a reply names, the writing back of a valid record into its place; and one law for each
-- return of `target_of` and of `call`. Assumes nothing.
use Prim.Native.Nat.{ℕ, suc, ◌*◌, ◌/◌, ◌%◌, ◌≤◌}
use mathlib.Core.Bool.{true, false}
use mathlib.Core.Path.{◌≡◌, refl, sym, ap, ◌∙◌}
use mathlib.Core.List.{List, [], ◌∷◌, ◌++◌}
use native.Mathlib.Omega.{arith}
use Rattle.std.specs.Prelude.{Option, Some, Result, Ok, Err}
use lib.Dec.{eqb}
use lib.ListN.{length, take, drop, length-drop}
use lib.Seq.{length-take-le}
use borrow.Author.Tests.{eqb-true, eq-eqb, ne_eqb, le-leb}
use Rattle.base.specs.Test.{pick, between}
use Rattle.base.specs.Lists.{over}
use Rattle.base.proofs.Tests.{by_test, and_yes, and_left, and_right, between_high}
use Rattle.base.proofs.Lists.{over_all}
use Rattle.state.specs.declared.Record.{Record}
use Rattle.state.specs.Valid.{valid}
use Rattle.stored.specs.declared.Refusal as form
use Rattle.stored.specs.declared.Refusal.TheVariants as refused
use Rattle.stored.specs.Form as stored
use Rattle.stored.specs.Form.{done, low_record, stored_form, read_of, write_of}
use Rattle.stored.proofs.RoundTrip.{form-length, read_valid}
use Rattle.frame.specs.declared.Kind.{Kind}
use Rattle.frame.specs.Frame.{all_text, names_unit, text_in, within_limits, marks_right, check_right}
use Rattle.frame.specs.Answer.{locate_of, address_of}
use Rattle.board.specs.Board as board
use Rattle.board.specs.Board.{all_valid, asked, board_of}
use Rattle.board.proofs.Exactly as exactly
use Rattle.board.proofs.Theorems.{as_many, all_stay_valid}
use Rattle.board.specs.declared.Refusal.TheVariants as refusal
use Rattle.storedboard.specs.StoredBoard.{each, forms_in, records_in, first_refused, written, called_on, stored_board_of, called_as, left_as}
use Rattle.storedboard.specs.Steps.{read_as, target, saved, saved_for, saved_of, lent_of}
use Rattle.storedboard.proofs.Reading.{width, width_is, read_many}

-- ---- the address that a request names

-- where there is a reply, it is the one that the board goes by
heard-target : (k : Kind) (rs : List Record) (q o : List ℕ) → (board_of k rs q o).silence ≡ 0 → target (address_of k q) ≡ Some (asked k q)
unfolding target address_of locate_of
heard-target k rs q o z =
    let none = (exactly.heard_exactly k rs q o).0 z in
    let limits : within_limits k (length q) ≡ true = none 4 in
    let marks : marks_right k q ≡ true = none 5 in
    let sum : check_right k q ≡ true = none 6 in
    let bytes : all_text (text_in k q) ≡ true = none 7 in
    let names : names_unit (text_in k q) ≡ true = none 8 in
    simp (limits, marks, sum, bytes, names)

-- ---- records that were read
pub read_all_valid : (bs : List (List ℕ)) → all_valid (records_in bs) ≡ true
unfolding all_valid
read_all_valid [] = refl
read_all_valid (b ∷ bs) = and_yes (valid (read_of b).1) (all_valid (records_in bs)) (read_valid b) (read_all_valid bs)

-- ---- writing a valid record back into its place
writes-form : (r : Record) (s : List ℕ) → valid r ≡ true → length s ≡ each → (write_of r s).1 ≡ stored_form r
unfolding write_of
writes-form r s v e =
    let d : write_of r s ≡ (done, over (stored_form r) s) = simp (v, le-leb each (length s) (omega arith)) in
    ap (λ (p : stored.Outcome × List ℕ). p.1) d ∙ over_all (stored_form r) s (omega (arith, form-length r))

saved-written : (a : ℕ) (rs : List Record) (s : List ℕ) → all_valid rs ≡ true → length s ≡ length rs * each → saved a rs s ≡ written a rs s
unfolding saved written all_valid
saved-written a [] s v e = refl
saved-written a (r ∷ rs) s v e =
    let f : length s ≡ suc (length rs) * width = simp width_is at e in
    let g : length (take each s) ≡ each = length-take-le each s (omega (arith, width_is)) in
    let h : length (drop each s) ≡ length rs * each = simp (length-drop, width_is) (omega arith) in
    ap (λ (t : List ℕ). pick (eqb a r.address) (t ++ drop each s) (take each s ++ saved a rs (drop each s)))
    (writes-form r (take each s) (and_left (valid r) (all_valid rs) v) g)
    ∙ ap (λ (t : List ℕ). pick (eqb a r.address) (stored_form r ++ drop each s) (take each s ++ t))
    (saved-written a rs (drop each s) (and_right (valid r) (all_valid rs) v) h)

-- ---- the records that are read: as many as are lent, and they lie within the stored bytes
module _ (s : List ℕ) (rs : List Record) (room : length rs ≡ 16) (listed : between 1 16 (length s / width) ≡ true) where
  pub as_lent : length (take (length s / width) rs) ≡ length s / width
  as_lent = let h = between_high 1 16 (length s / width) listed in length-take-le (length s / width) rs (omega arith)

  pub forms_fit : length (take (length s / width) rs) * each ≤ length s
  forms_fit = simp (as_lent, width_is) (omega arith)

-- a refusal of the stored form is no 0
form_low : (w : form.Refusal) → 1 ≤ stored.refusal_number w
form_low refused.Length = omega arith
form_low refused.Version = omega arith
form_low refused.LengthField = omega arith
form_low refused.Field = omega arith

-- ---- the returns of the call
module _ (k : Kind) (s q o : List ℕ) where
  pub left_broken : (length s % width ≡ 0 → ⊥) → left_as (Err refused.Length) s o ≡ stored_board_of k s q o
  unfolding stored_board_of
  left_broken h = simp (width_is, ne_eqb (length s % width) 0 h)

  module _ (whole : length s % width ≡ 0) where
    -- S9, with no record or with too many
    pub left_unlisted : between 1 16 (length s / width) ≡ false → left_as (Ok (Err refusal.ListLength)) s o ≡ stored_board_of k s q o
    unfolding stored_board_of
    left_unlisted h = simp (width_is, eq-eqb (length s % width) 0 whole, h)

    -- the places of the records fill the stored bytes
    fills : length s ≡ length s / width * each
    fills = simp width_is (omega arith)

    -- what the board's call leaves of the records that are read
    abbrev outcome : board.Outcome
    outcome = board_of k (records_in (forms_in (length s / width) s)) q o

    -- these are valid, so what `save` leaves is what was to be written
    back : saved (asked k q) outcome.records s ≡ written (asked k q) outcome.records s
    back =
        let rs : List Record = records_in (forms_in (length s / width) s) in
        saved-written (asked k q) outcome.records s (all_stay_valid k q o low_record rs (read_all_valid (forms_in (length s / width) s)))
        (fills ∙ ap (λ (j : ℕ). j * each) (sym (as_many k q o low_record rs ∙ read_many (length s / width) s)))

    stored-called : saved_of outcome.silence (target (address_of k q)) outcome.records s ≡ (called_on (asked k q) outcome s).stored
    unfolding saved_of
    stored-called =
        by_test (eqb outcome.silence 0)
        (λ y. simp y (ap (λ (j : Option ℕ). saved_for j outcome.records s) (heard-target k (records_in (forms_in (length s / width) s)) q o (eqb-true _ _ y)) ∙ back))
        (λ y. simp y)

    -- n is their number
    module _ (n : ℕ) (long : n ≡ length s / width) (listed : between 1 16 (length s / width) ≡ true) (x : Result (Unit {0}) form.Refusal) (f : read_as x ≡ first_refused (forms_in n s)) where
      first : read_as x ≡ first_refused (forms_in (length s / width) s)
      first = f ∙ ap (λ (m : ℕ). first_refused (forms_in m s)) long

      pub left_refused : (w : form.Refusal) → x ≡ Err w → (y : Result board.Answer form.Refusal) → y ≡ Err w → left_as y s o ≡ stored_board_of k s q o
      unfolding stored_board_of
      left_refused w z y g =
          ap (λ (u : Result board.Answer form.Refusal). left_as u s o) g ∙
          simp (width_is, eq-eqb (length s % width) 0 whole, listed, sym first ∙ ap read_as z, ne_eqb (stored.refusal_number w) 0 (λ u. let l = form_low w in omega arith))

      by_records : read_as x ≡ 0 → called_on (asked k q) outcome s ≡ stored_board_of k s q o
      unfolding stored_board_of
      by_records z = simp (width_is, eq-eqb (length s % width) 0 whole, listed, sym first ∙ z)

      -- all records are read: the board's call on them, and the one with the request's address is written back
      pub left_called : (rs : List Record) (a : board.Answer) (t b : List ℕ) → read_as x ≡ 0 → (read_as x ≡ 0 → rs ≡ records_in (forms_in n s))
          → called_as a t b ≡ lent_of (target (address_of k q)) (board_of k rs q o) s → left_as (Ok a) t b ≡ stored_board_of k s q o
      unfolding lent_of
      left_called rs a t b z g e =
          e
          ∙ (ap (λ (ts : List Record). lent_of (target (address_of k q)) (board_of k ts q o) s) (g z ∙ ap (λ (m : ℕ). records_in (forms_in m s)) long)
          ∙ (ap (λ (y : List ℕ). record { refused = 0; silence = outcome.silence; reported = outcome.reported; stored = y; buffer = outcome.buffer }) stored-called
          ∙ by_records z))
