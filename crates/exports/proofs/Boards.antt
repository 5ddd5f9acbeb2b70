-- `khuyapesh_board`: one law for each return of the code, and what a caller can rely on, for any numbers, bytes and lengths. Assumes
-- nothing.
use Prim.Native.Nat.{ℕ, ◌+◌, ◌≤◌, ◌<◌}
use mathlib.Core.Path.{◌≡◌, refl, sym, ap, ◌∙◌}
use mathlib.Core.List.{List}
use mathlib.Core.Logic.{◌⊎◌, inl, inr}
use native.Mathlib.Omega.{arith}
use borrow.Author.Tests.{eq-eqb, ne_eqb}
use Rattle.std.specs.Prelude.{Result, Ok, Err}
use Rattle.stored.specs.declared.Refusal.{Refusal}
use Rattle.frame.specs.declared.Kind.{Kind}
use Rattle.frame.specs.declared.UnknownKind.{UnknownKind}
use Rattle.frame.specs.Numbers.{kind_numbered}
use Rattle.board.specs.Board as board
use Rattle.board.specs.Board.{Outcome, answer_length, board_of}
use Rattle.storedboard.specs.StoredBoard.{count_in, forms_in, records_in, Left, called_as, left_as, stored_board_of}
use Rattle.storedboard.proofs.Theorems as stored
use Rattle.exports.specs.Bytes.{silence_answer, no_such, is_kind, kind_of, board_answer, board_left, board_bytes, answer_left, Tellable}
use Rattle.exports.proofs.Steps.{kind_is, kind_none}
use Rattle.exports.proofs.InPlace.{either, Within}

-- ---- the returns of `khuyapesh_board`
module _ (n : ℕ) (s q o : List ℕ) (i : Result Kind UnknownKind) (z : i ≡ kind_numbered n) where
  pub board_none : (u : UnknownKind) → i ≡ Err u → (no_such, (s, o)) ≡ board_bytes n s q o
  unfolding board_bytes
  board_none u h = simp (kind_none n i z u h)

  module _ (k : Kind) (e : i ≡ Ok k) (a : Result board.Answer Refusal) (t b : List ℕ) (f : left_as a t b ≡ stored_board_of k s q o) where
    same_answer : (a : Result board.Answer Refusal) → board_answer (answer_left a) ≡ board_answer (left_as a t b)
    same_answer (Err m) = refl
    same_answer (Ok c) = refl

    left_is : (a : Result board.Answer Refusal) → board_left (left_as a t b) ≡ (board_answer (left_as a t b), (t, b))
    unfolding board_left
    left_is (Err m) = refl
    left_is (Ok c) = refl

    pub board_answered : (x : ℕ) → x ≡ board_answer (answer_left a) → (x, (t, b)) ≡ board_bytes n s q o
    unfolding board_bytes
    board_answered x h =
        let (known, same) = kind_is n i z k e in
        ap (λ (y : ℕ). (y, (t, b))) (h ∙ same_answer a)
        ∙ (sym (left_is a) ∙ (ap board_left f ∙ (ap (λ (j : Kind). board_left (stored_board_of j s q o)) same ∙ simp known)))

-- the length of a reply has room
pub tellable : (k : Kind) (s q o : List ℕ) (a : Result board.Answer Refusal) (t b : List ℕ) → left_as a t b ≡ stored_board_of k s q o → Tellable a
tellable k s q o (Err m) t b e = tt
tellable k s q o (Ok c) t b e =
    stored.left_cases k s q o (λ (x : Left). called_as c t b ≡ x → answer_length c ≤ 64)
    (λ n l h f. omega (arith, ap (λ (x : Left). x.reported) f)) (λ n l h y f. omega (arith, ap (λ (x : Left). x.reported) f)) heard e
  where
    heard : stored.Replied k s q o → called_as c t b ≡ stored.left k s q o → answer_length c ≤ 64
    heard r f =
        let w = r.served.answered in
        let z = ap (λ (c : Outcome). c.reported) r.served.called in
        let h : (stored.left k s q o).reported ≤ 64 = omega (arith, w.high) in
        omega (arith, ap (λ (x : Left). x.reported) f)

pub ruleset boarding = (board_none, board_answered, tellable)

-- ---- what a caller can rely on
module _ (kind : ℕ) (s q o : List ℕ) where
  abbrev k : Kind
  k = kind_of kind

  board_cases : (P : ℕ × (List ℕ × List ℕ) → Type 0) → P (no_such, (s, o)) → ((n : ℕ) → Within 1 4 n → P (200 + n, (s, o)))
      → ((n : ℕ) → Within 2 11 n → (n ≡ 10 → ⊥) → P (silence_answer n, (s, o)))
      → ((x : stored.Replied k s q o) → P (board_left (stored.left k s q o))) → P (board_bytes kind s q o)
  unfolding board_bytes board_left
  board_cases P none refused silent replied =
      either P (is_kind kind) (no_such, (s, o)) (board_left (stored_board_of k s q o)) none
      (stored.left_cases k s q o (λ (x : Left). P (board_left x))
      (λ n l h. simp (ne_eqb n 0 (λ z. omega arith)) (refused n (l, h)))
      (λ n l h y. simp (ne_eqb n 0 (λ z. omega arith)) (silent n (l, h) y)) replied)

  -- a reply: its length, the records after it and the reply
  replied_so : (x : stored.Replied k s q o) → board_left (stored.left k s q o) ≡ ((stored.left k s q o).reported, ((stored.left k s q o).stored, (stored.left k s q o).buffer))
  unfolding board_left
  replied_so x = simp (eq-eqb _ _ (stored.heard k s q o x))

  reply_sizes : (x : stored.Replied k s q o) → Within 7 64 (board_left (stored.left k s q o)).0
  reply_sizes x =
      let w = x.served.answered in
      let z = ap (λ (c : Outcome). c.reported) x.served.called in
      let e = ap (λ (p : ℕ × (List ℕ × List ℕ)). p.0) (replied_so x) in
      (omega (arith, w.low), omega (arith, w.high))

  -- "the reply's length; or no such kind, K1 .., S9 .., the first record's K1 to K4, S11, S2 to S8": 101 and 110 never come back, and an
  -- answer below 100 is a reply
  pub board_numbers : Within 7 64 (board_bytes kind s q o).0 ⊎ ((Within 102 111 (board_bytes kind s q o).0 × ((board_bytes kind s q o).0 ≡ 110 → ⊥))
      ⊎ (Within 201 204 (board_bytes kind s q o).0 ⊎ ((board_bytes kind s q o).0 ≡ 300)))
  board_numbers =
      board_cases (λ (p : ℕ × (List ℕ × List ℕ)). Within 7 64 p.0 ⊎ ((Within 102 111 p.0 × (p.0 ≡ 110 → ⊥)) ⊎ (Within 201 204 p.0 ⊎ (p.0 ≡ 300))))
      (inr (inr (inr refl))) (λ n w. inr (inr (inl (omega arith)))) (λ n w y. inr (inl (omega arith, λ z. y (omega arith)))) (λ x. inl (reply_sizes x))

  -- "A silence or refusal leaves every lent byte as it was"
  pub board_keeps : 100 ≤ (board_bytes kind s q o).0 → (board_bytes kind s q o).1 ≡ (s, o)
  board_keeps =
      board_cases (λ (p : ℕ × (List ℕ × List ℕ)). 100 ≤ p.0 → p.1 ≡ (s, o)) (λ h. refl) (λ n w h. refl) (λ n w y h. refl)
      (λ x h. absurd (omega (arith, reply_sizes x)))

  -- "the record after it in its place, and every other record as it was": the stored bytes then read as the records that the board's call
  -- leaves
  pub board_stores : (board_bytes kind s q o).0 < 100
      → records_in (forms_in (count_in s) (board_bytes kind s q o).1.0) ≡ (board_of k (stored.records_of s) q o).records
  board_stores =
      board_cases
      (λ (p : ℕ × (List ℕ × List ℕ)). p.0 < 100 → records_in (forms_in (count_in s) p.1.0) ≡ (board_of k (stored.records_of s) q o).records)
      (λ h. absurd (omega arith)) (λ n w h. absurd (omega arith)) (λ n w y h. absurd (omega arith))
      (λ x h. ap (λ (p : ℕ × (List ℕ × List ℕ)). records_in (forms_in (count_in s) p.1.0)) (replied_so x) ∙ stored.reads_back k s q o x)
