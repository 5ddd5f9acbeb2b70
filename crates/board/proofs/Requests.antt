-- A list of records is refused whatever the request is; and a request is silent by the same of S2 to S7 for every valid record, or it
-- is for one address. Assumes nothing.
use Prim.Native.Nat.{ℕ, ◌≤◌}
use mathlib.Core.Bool.{true}
use mathlib.Core.Path.{◌≡◌, ◌∙◌}
use mathlib.Core.List.{List}
use mathlib.Core.Logic.{◌⊎◌, inl, inr}
use native.Mathlib.Omega.{arith}
use lib.Dec.{eqb, leb}
use lib.ListN.{length}
use borrow.Author.Tests.{leb-true, leb-false, ne_eqb}
use Rattle.base.specs.Test.{unless, between, all_distinct}
use Rattle.base.proofs.Tests.{by_test}
use Rattle.state.specs.declared.Record.{Record}
use Rattle.state.specs.Valid.{valid}
use Rattle.frame.specs.declared.Kind.{Kind}
use Rattle.frame.specs.Frame.{text_in}
use Rattle.frame.specs.Numbers.{Answer, silence_in}
use Rattle.frame.specs.Answer.{address_of}
use Rattle.frame.proofs.Laws.{address_cases}
use Rattle.controller.specs.Call as one
use Rattle.controller.specs.Call.{call_of}
use Rattle.controller.proofs.Steps.{by_reader, call_by_reader, call-short}
use Rattle.board.specs.Board.{Outcome, silent, all_valid, addresses, asked, dispatched, board_of}

-- none of S9 to S11
pub record Accepted (ys : List Record) : Type 0 where
  pub few : between 1 16 (length ys) ≡ true
  pub all_valid : all_valid ys ≡ true
  pub all_distinct_lem : all_distinct (addresses ys) ≡ true

module _ (k : Kind) (q o : List ℕ) where
  -- S2 to S8, or the reply
  abbrev pub answering : List Record → Outcome
  answering ys =
      unless (leb 64 (length o)) (silent 2 ys o)
      (unless (eqb (silence_in (address_of k q)) 0) (silent (silence_in (address_of k q)) ys o)
      (dispatched (asked k q) k ys q o))

  -- ---- the list
  pub accepted_so : (ys : List Record) → Accepted ys → board_of k ys q o ≡ answering ys
  unfolding board_of
  accepted_so ys a = simp (a.few, a.all_valid, a.all_distinct_lem)

  -- S9 to S11
  pub record RefusedBy (ys : List Record) (n : ℕ) : Type 0 where
    pub low : 9 ≤ n
    pub high : n ≤ 11
    pub nothing : board_of k ys q o ≡ silent n ys o

  pub accepted-or-not : (ys : List Record) → Accepted ys ⊎ ((n : ℕ) × RefusedBy ys n)
  unfolding board_of
  accepted-or-not ys =
      by_test (between 1 16 (length ys))
      (λ few. by_test (all_valid ys)
      (λ v. by_test (all_distinct (addresses ys)) (λ u. inl (record { few = few; all_valid = v; all_distinct_lem = u }))
      (λ u. inr (11, record { low = omega arith; high = omega arith; nothing = simp (few, v, u) })))
      (λ v. inr (10, record { low = omega arith; high = omega arith; nothing = simp (few, v) })))
      (λ few. inr (9, record { low = omega arith; high = omega arith; nothing = simp few }))

  -- ---- the request

  -- S2 to S7
  pub record ForAll (n : ℕ) : Type 0 where
    pub low : 2 ≤ n
    pub high : n ≤ 7
    pub on_board : (ys : List Record) → answering ys ≡ silent n ys o
    pub on_record : (r : Record) → valid r ≡ true → call_of k r q o ≡ one.silent n r o

  -- a frame with an address, and room for a reply
  pub record ForOne : Type 0 where
    pub on_board : (ys : List Record) → answering ys ≡ dispatched (asked k q) k ys q o
    pub on_record : (r : Record) → valid r ≡ true → call_of k r q o ≡ unless (eqb (asked k q) r.address) (one.silent 8 r o) (one.replied k (text_in k q) r o)

  by_frame : (x : Answer) → List Record → Outcome
  by_frame x ys = unless (eqb (silence_in x) 0) (silent (silence_in x) ys o) (dispatched (asked k q) k ys q o)

  with_room : leb 64 (length o) ≡ true → (ys : List Record) → answering ys ≡ by_frame (address_of k q) ys
  unfolding by_frame
  with_room e ys = simp e

  pub for_all_or_one : ((n : ℕ) × ForAll n) ⊎ ForOne
  unfolding by_frame
  for_all_or_one =
      by_test (leb 64 (length o))
      (λ e.
      address_cases
      (λ (x : Answer). ((ys : List Record) → answering ys ≡ by_frame x ys) → ((r : Record) → valid r ≡ true → call_of k r q o ≡ by_reader k r q o x) → ((n : ℕ) × ForAll n) ⊎ ForOne)
      k q
      (λ n low high board call. inl (n, record { low = omega arith; high = high; on_board = λ ys. board ys ∙ simp (ne_eqb n 0 (λ z. omega arith)); on_record = call }))
      (λ board call. inr (record { on_board = board; on_record = call }))
      (with_room e) (λ r v. call_by_reader k r q o v (leb-true 64 (length o) e)))
      (λ e.
      inl (
        2,
        record {
          low = omega arith;
          high = omega arith;
          on_board = λ ys. simp e;
          on_record = λ r v. call-short k r q o v (leb-false 64 (length o) e);
        },
      ))
