-- What document 02's L5 says of the board, for any records, kind of link, request bytes and reply buffer.
-- d stands for a record past a list's end. Assumes nothing.
use Prim.Native.Nat.{ℕ, zero, suc, ◌≤◌, ◌<◌}
use mathlib.Core.Bool.{true}
use mathlib.Core.Path.{◌≡◌, refl, sym, ap, subst, ◌∙◌}
use mathlib.Core.List.{List, [], ◌∷◌}
use mathlib.Core.Logic.{◌⊎◌, inl, inr, ⊎_elim}
use native.Mathlib.Nat.{le_of_suc-le-suc, not-suc-le-zero}
use native.Mathlib.Omega.{arith}
use lib.Dec.{eqb}
use lib.ListN.{length, get_or, set, length-set, length-map, get_or-map}
use lib.Seq.{set-get_or, get_or-set_same, get_or-set_other}
use borrow.Author.Tests.{eqb-true, eq-eqb, ne_eqb}
use Rattle.base.specs.Test.{between, all_distinct}
use Rattle.base.proofs.Tests.{by_test, and_yes, and_left, and_right, distinct_place}
use Rattle.state.specs.declared.Record.{Record}
use Rattle.state.specs.Field.{address, get}
use Rattle.state.specs.Valid.{valid}
use Rattle.frame.specs.declared.Kind.{Kind}
use Rattle.frame.specs.Frame.{text_in}
use Rattle.controller.specs.Call as one
use Rattle.controller.specs.Call.{call_of}
use Rattle.controller.proofs.Theorems.{Answered, is_answered, call_keeps_valid, address_kept}
use Rattle.board.specs.Board.{Outcome, silent, all_valid, addresses, behind, asked, dispatched, board_of}
use Rattle.board.proofs.Search.{called_at}
use Rattle.board.proofs.Requests.{Accepted, answering, accepted_so, RefusedBy, accepted-or-not, ForAll, ForOne, for_all_or_one}

-- ---- S10 and S11 are of every record
module _ (d : Record) where
  pub each_valid : (ys : List Record) → all_valid ys ≡ true → (i : ℕ) → i < length ys → valid (get_or ys i d) ≡ true
  unfolding all_valid
  each_valid [] v i h = absurd (not-suc-le-zero h)
  each_valid (r ∷ rs) v zero h = and_left (valid r) (all_valid rs) v
  each_valid (r ∷ rs) v (suc i) h = each_valid rs (and_right (valid r) (all_valid rs) v) i (le_of_suc-le-suc h)

  pub each_distinct : (ys : List Record) → all_distinct (addresses ys) ≡ true → (i j : ℕ) → i < length ys → j < length ys
      → (get_or ys i d).address ≡ (get_or ys j d).address → i ≡ j
  each_distinct ys u i j h l e =
      let n : length (addresses ys) ≡ length ys = length-map ys (get address) in
      distinct_place d.address (addresses ys) u i j (omega arith) (omega arith)
      (get_or-map (get address) ys i d ∙ (e ∙ sym (get_or-map (get address) ys j d)))

module _ (k : Kind) (q o : List ℕ) (d : Record) where
  -- ---- "the request goes to the record with its address"

  -- the first record with that address is called
  dispatched_at : (ys : List Record) (i : ℕ) → i < length ys → (get_or ys i d).address ≡ asked k q
      → ((j : ℕ) → j < i → (get_or ys j d).address ≡ asked k q → ⊥) → dispatched (asked k q) k ys q o ≡ called_at k q o d i ys
  unfolding dispatched
  dispatched_at [] i h e before = absurd (not-suc-le-zero h)
  dispatched_at (r ∷ rs) zero h e before = simp (eq-eqb (asked k q) r.address (sym e))
  dispatched_at (r ∷ rs) (suc i) h e before =
      simp (ne_eqb (asked k q) r.address (λ z. before 0 (omega arith) (sym z)))
      (ap (behind r) (dispatched_at rs i (le_of_suc-le-suc h) e (λ j l. before (suc j) (omega arith))))

  -- S2 to S7 too are those of the call on it
  pub to_its_record : (ys : List Record) → Accepted ys → (i : ℕ) → i < length ys → (get_or ys i d).address ≡ asked k q
      → board_of k ys q o ≡ called_at k q o d i ys
  to_its_record ys a i h e =
      accepted_so k q o ys a
      ∙ ⊎_elim (λ (x : (n : ℕ) × ForAll k q o n). all x.0 x.1) (λ (x : ForOne k q o). x.on_board ys ∙ dispatched_at ys i h e other) (for_all_or_one k q o)
    where
      other : (j : ℕ) → j < i → (get_or ys j d).address ≡ asked k q → ⊥
      other j l z = let same : j ≡ i = each_distinct d ys a.all_distinct_lem j i (omega arith) h (z ∙ sym e) in omega arith

      all : (n : ℕ) → ForAll k q o n → answering k q o ys ≡ called_at k q o d i ys
      all n x =
          x.on_board ys
          ∙ (ap (λ (rs : List Record). silent n rs o) (sym (set-get_or ys i d))
          ∙ ap (λ (c : one.Outcome). record { silence = c.silence; reported = c.reported; records = set ys i c.after; buffer = c.buffer })
          (sym (x.on_record (get_or ys i d) (each_valid d ys a.all_valid i h))))

  -- ---- every input gets a reply or exactly one named silence, which changes no record and no byte
  pub record Silenced (ys : List Record) : Type 0 where
    pub low : 2 ≤ (board_of k ys q o).silence
    pub high : (board_of k ys q o).silence ≤ 11
    pub nothing : board_of k ys q o ≡ silent (board_of k ys q o).silence ys o

  -- the call on the one record with the request's address, which replies
  pub record Served (ys : List Record) : Type 0 where
    pub at : ℕ
    pub inside : at < length ys
    pub its_address : (get_or ys at d).address ≡ asked k q
    pub accepted : Accepted ys
    pub answered : Answered k (get_or ys at d) q o
    pub called : board_of k ys q o ≡ called_at k q o d at ys

  silenced_by : (ys : List Record) (n : ℕ) → 2 ≤ n → n ≤ 11 → board_of k ys q o ≡ silent n ys o → Silenced ys
  silenced_by ys n l h e =
      let same : (board_of k ys q o).silence ≡ n = ap (λ (x : Outcome). x.silence) e in
      record { low = omega arith; high = omega arith; nothing = e ∙ ap (λ (m : ℕ). silent m ys o) (sym same) }

  -- S8, or the place of the record
  nobody_or_one : (a : ℕ) (ys : List Record)
      → (dispatched a k ys q o ≡ silent 8 ys o) ⊎ ((i : ℕ) × (i < length ys) × ((get_or ys i d).address ≡ a))
  unfolding dispatched
  nobody_or_one a [] = inl refl
  nobody_or_one a (r ∷ rs) =
      by_test (eqb a r.address) (λ e. inr (0, omega arith, sym (eqb-true a r.address e)))
      (λ e. ⊎_elim (λ (x : dispatched a k rs q o ≡ silent 8 rs o). inl (simp e (ap (behind r) x)))
      (λ (x : (i : ℕ) × (i < length rs) × ((get_or rs i d).address ≡ a)). let (i, l, z) = x in inr (suc i, omega arith, z)) (nobody_or_one a rs))

  pub every_input : (ys : List Record) → Silenced ys ⊎ Served ys
  every_input ys =
      ⊎_elim
      (λ (a : Accepted ys).
      ⊎_elim
      (λ (x : (n : ℕ) × ForAll k q o n).
      let l = x.1.low in
      let h = x.1.high in
      inl (silenced_by ys x.0 l (omega arith) (accepted_so k q o ys a ∙ x.1.on_board ys)))
      (λ (x : ForOne k q o).
      ⊎_elim
      (λ (n : dispatched (asked k q) k ys q o ≡ silent 8 ys o). inl (silenced_by ys 8 (omega arith) (omega arith) (accepted_so k q o ys a ∙ (x.on_board ys ∙ n))))
      (λ (p : (i : ℕ) × (i < length ys) × ((get_or ys i d).address ≡ asked k q)). inr (served a x p.0 p.1 p.2))
      (nobody_or_one (asked k q) ys))
      (for_all_or_one k q o))
      (λ (x : (n : ℕ) × RefusedBy k q o ys n). let l = x.1.low in inl (silenced_by ys x.0 (omega arith) x.1.high x.1.nothing))
      (accepted-or-not k q o ys)
    where
      served : Accepted ys → ForOne k q o → (i : ℕ) → i < length ys → (get_or ys i d).address ≡ asked k q → Served ys
      served a x i l e =
          let replies : call_of k (get_or ys i d) q o ≡ one.replied k (text_in k q) (get_or ys i d) o =
          x.on_record (get_or ys i d) (each_valid d ys a.all_valid i l) ∙ simp (eq-eqb (asked k q) (get_or ys i d).address (sym e)) in
          record {
            at = i;
            inside = l;
            its_address = e;
            accepted = a;
            answered = is_answered k (get_or ys i d) q o (ap (λ (c : one.Outcome). c.silence) replies);
            called = to_its_record ys a i l e;
          }

  -- ---- "Every other record stays byte for byte"
  pub others_stay : (ys : List Record) (j : ℕ) → ((get_or ys j d).address ≡ asked k q → ⊥) → get_or (board_of k ys q o).records j d ≡ get_or ys j d
  others_stay ys j h =
      ⊎_elim (λ (s : Silenced ys). ap (λ (x : Outcome). get_or x.records j d) s.nothing)
      (λ (s : Served ys).
      ap (λ (x : Outcome). get_or x.records j d) s.called
      ∙ get_or-set_other ys s.at j (call_of k (get_or ys s.at d) q o).after d (λ z. h (ap (λ (i : ℕ). (get_or ys i d).address) z ∙ s.its_address)))
      (every_input ys)

  pub as_many : (ys : List Record) → length (board_of k ys q o).records ≡ length ys
  as_many ys =
      ⊎_elim (λ (s : Silenced ys). ap (λ (x : Outcome). length x.records) s.nothing)
      (λ (s : Served ys). ap (λ (x : Outcome). length x.records) s.called ∙ length-set ys s.at (call_of k (get_or ys s.at d) q o).after) (every_input ys)

  -- ---- a list that is accepted stays so: the addresses are the same, and every record is valid
  set-addresses : (ys : List Record) (i : ℕ) (r : Record) → r.address ≡ (get_or ys i d).address → addresses (set ys i r) ≡ addresses ys
  set-addresses [] i r e = refl
  set-addresses (x ∷ xs) zero r e = ap (λ (n : ℕ). n ∷ addresses xs) e
  set-addresses (x ∷ xs) (suc i) r e = ap (λ (l : List ℕ). x.address ∷ l) (set-addresses xs i r e)

  pub addresses_stay : (ys : List Record) → addresses (board_of k ys q o).records ≡ addresses ys
  addresses_stay ys =
      ⊎_elim (λ (s : Silenced ys). ap (λ (x : Outcome). addresses x.records) s.nothing)
      (λ (s : Served ys).
      ap (λ (x : Outcome). addresses x.records) s.called
      ∙ set-addresses ys s.at (call_of k (get_or ys s.at d) q o).after (address_kept k (get_or ys s.at d) q o))
      (every_input ys)

  set-valid : (ys : List Record) (i : ℕ) (r : Record) → valid r ≡ true → all_valid ys ≡ true → all_valid (set ys i r) ≡ true
  unfolding all_valid
  set-valid [] i r w v = refl
  set-valid (x ∷ xs) zero r w v = and_yes (valid r) (all_valid xs) w (and_right (valid x) (all_valid xs) v)
  set-valid (x ∷ xs) (suc i) r w v =
      and_yes (valid x) (all_valid (set xs i r)) (and_left (valid x) (all_valid xs) v) (set-valid xs i r w (and_right (valid x) (all_valid xs) v))

  pub all_stay_valid : (ys : List Record) → all_valid ys ≡ true → all_valid (board_of k ys q o).records ≡ true
  all_stay_valid ys v =
      ⊎_elim (λ (s : Silenced ys). ap (λ (x : Outcome). all_valid x.records) s.nothing ∙ v)
      (λ (s : Served ys).
      ap (λ (x : Outcome). all_valid x.records) s.called
      ∙ set-valid ys s.at (call_of k (get_or ys s.at d) q o).after
      (call_keeps_valid k (get_or ys s.at d) q o (each_valid d ys v s.at s.inside)) v)
      (every_input ys)

  pub stays_accepted : (ys : List Record) → Accepted ys → Accepted (board_of k ys q o).records
  stays_accepted ys a =
      record {
        few = ap (between 1 16) (as_many ys) ∙ a.few;
        all_valid = all_stay_valid ys a.all_valid;
        all_distinct_lem = ap all_distinct (addresses_stay ys) ∙ a.all_distinct_lem;
      }

-- ---- demand 2 "speaks of the addressed record": the next call to it is document 01's call on what the last one left, so that a read
-- directly after shows the written value as it does without a board
module _ (k k' : Kind) (q o q' o' : List ℕ) (d : Record) (ys : List Record) (a : Accepted ys) (i : ℕ) (h : i < length ys) (e : (get_or ys i d).address ≡ asked k q) where
  abbrev after : List Record
  after = (board_of k ys q o).records

  pub record_after : get_or after i d ≡ (call_of k (get_or ys i d) q o).after
  record_after = ap (λ (x : Outcome). get_or x.records i d) (to_its_record k q o d ys a i h e) ∙ get_or-set_same ys i (call_of k (get_or ys i d) q o).after d h

  abbrev second : one.Outcome
  second = call_of k' (call_of k (get_or ys i d) q o).after q' o'

  pub next_call : (get_or ys i d).address ≡ asked k' q'
      → board_of k' after q' o' ≡ record { silence = second.silence; reported = second.reported; records = set after i second.after; buffer = second.buffer }
  next_call f =
      let inside : i < length after = subst (λ (n : ℕ). i < n) (sym (as_many k q o d ys)) h in
      let its : (get_or after i d).address ≡ asked k' q' = ap (λ (r : Record). r.address) record_after ∙ (address_kept k (get_or ys i d) q o ∙ f) in
      to_its_record k' q' o' d after (stays_accepted k q o d ys a) i inside its
      ∙ ap
      (λ (r : Record).
      record {
        silence = (call_of k' r q' o').silence;
        reported = (call_of k' r q' o').reported;
        records = set after i (call_of k' r q' o').after;
        buffer = (call_of k' r q' o').buffer;
      })
      record_after
