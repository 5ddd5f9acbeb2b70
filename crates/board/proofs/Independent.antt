-- No record's reply depends on another's contents but its address and validity, nor on the order of the list. Assumes nothing.
use Prim.Native.Nat.{ℕ, zero, suc}
use mathlib.Core.Bool.{Bool, true, false, not, ◌&&◌, ◌||◌}
use mathlib.Core.Path.{◌≡◌, refl, sym, ap, subst, ◌∙◌}
use mathlib.Core.List.{List, [], ◌∷◌, map}
use native.Mathlib.Omega.{arith}
use lib.Dec.{eqb, leb}
use lib.ListN.{length, get_or, drop, length-map}
use borrow.Author.Tests.{eqb-true, eqb-false, eq-eqb, ne_eqb}
use Rattle.base.specs.Test.{pick, unless, between, all_distinct, member}
use Rattle.base.proofs.Tests.{by_test, and-exchanged, and_right, not_again}
use Rattle.state.specs.declared.Record.{Record}
use Rattle.state.specs.Field.{address, get}
use Rattle.state.specs.Valid.{valid}
use Rattle.frame.specs.declared.Kind.{Kind}
use Rattle.frame.specs.Numbers.{silence_in}
use Rattle.frame.specs.Answer.{address_of}
use Rattle.controller.specs.Call as one
use Rattle.controller.specs.Call.{call_of}
use Rattle.board.specs.Board.{Outcome, silent, all_valid, addresses, first, behind, asked, dispatched, board_of}

-- ---- "neither the reply nor the addressed record depends on another's contents but its address and validity"
module _ (k : Kind) (q o : List ℕ) (d : Record) where
  -- two lists that agree in length and addresses, in validity and in the record at the address that the request names
  pub record Agree (xs ys : List Record) : Type 0 where
    pub same-addresses : addresses xs ≡ addresses ys
    pub same_validity : map valid xs ≡ map valid ys
    pub same-addressed : (j : ℕ) → (get_or xs j d).address ≡ asked k q → get_or xs j d ≡ get_or ys j d

  -- what is left of them is the same reply and the same record at that address
  pub record Alike (xs : List Record) (x y : Outcome) : Type 0 where
    pub same-silence : x.silence ≡ y.silence
    pub same_length : x.reported ≡ y.reported
    pub same-buffer : x.buffer ≡ y.buffer
    pub same_record : (j : ℕ) → (get_or xs j d).address ≡ asked k q → get_or x.records j d ≡ get_or y.records j d

  same_count : (xs ys : List Record) → addresses xs ≡ addresses ys → length xs ≡ length ys
  same_count xs ys e = sym (length-map xs (get address)) ∙ (ap length e ∙ length-map ys (get address))

  all_of : List Bool → Bool
  all_of [] = true
  all_of (b ∷ bs) = b && all_of bs

  valid_of : (xs : List Record) → all_valid xs ≡ all_of (map valid xs)
  unfolding all_valid all_of
  valid_of [] = refl
  valid_of (x ∷ xs) = ap (λ (b : Bool). valid x && b) (valid_of xs)

  same-valid : (xs ys : List Record) → map valid xs ≡ map valid ys → all_valid xs ≡ all_valid ys
  same-valid xs ys e = valid_of xs ∙ (ap all_of e ∙ sym (valid_of ys))

  -- ---- by the list's head
  later : (r s : Record) (rs ss : List Record) → Agree (r ∷ rs) (s ∷ ss) → Agree rs ss
  later r s rs ss a =
      record {
        same-addresses = ap (drop 1) a.same-addresses;
        same_validity = ap (drop 1) a.same_validity;
        same-addressed = λ j. a.same-addressed (suc j);
      }

  same_head : (r s : Record) (rs ss : List Record) → Agree (r ∷ rs) (s ∷ ss) → r.address ≡ s.address
  same_head r s rs ss a = ap (λ (l : List ℕ). get_or l 0 0) a.same-addresses

  both_silent : (n : ℕ) (xs ys : List Record) → Agree xs ys → Alike xs (silent n xs o) (silent n ys o)
  both_silent n xs ys a = record { same-silence = refl; same_length = refl; same-buffer = refl; same_record = a.same-addressed }

  both_first : (r : Record) (rs ss : List Record) → ((j : ℕ) → (get_or rs j d).address ≡ asked k q → get_or rs j d ≡ get_or ss j d)
      → (c : one.Outcome) → Alike (r ∷ rs) (first c rs) (first c ss)
  both_first r rs ss h c = record { same-silence = refl; same_length = refl; same-buffer = refl; same_record = go }
    where
      go : (j : ℕ) → (get_or (r ∷ rs) j d).address ≡ asked k q → get_or (c.after ∷ rs) j d ≡ get_or (c.after ∷ ss) j d
      go zero e = refl
      go (suc j) e = h j e

  both_behind : (r s : Record) (rs : List Record) (x y : Outcome) → (r.address ≡ asked k q → ⊥) → Alike rs x y → Alike (r ∷ rs) (behind r x) (behind s y)
  both_behind r s rs x y h a =
      record { same-silence = a.same-silence; same_length = a.same_length; same-buffer = a.same-buffer; same_record = go }
    where
      go : (j : ℕ) → (get_or (r ∷ rs) j d).address ≡ asked k q → get_or (r ∷ x.records) j d ≡ get_or (s ∷ y.records) j d
      go zero e = absurd (h e)
      go (suc j) e = a.same_record j e

  dispatched_alike : (xs ys : List Record) → Agree xs ys → Alike xs (dispatched (asked k q) k xs q o) (dispatched (asked k q) k ys q o)
  unfolding dispatched
  dispatched_alike [] [] a = both_silent 8 [] [] a
  dispatched_alike [] (s ∷ ss) a = absurd (let e : ◌≡◌ {A = ℕ} 0 (suc (length ss)) = same_count [] (s ∷ ss) a.same-addresses in omega arith)
  dispatched_alike (r ∷ rs) [] a = absurd (let e : ◌≡◌ {A = ℕ} (suc (length rs)) 0 = same_count (r ∷ rs) [] a.same-addresses in omega arith)
  dispatched_alike (r ∷ rs) (s ∷ ss) a = go (dispatched_alike rs ss (later r s rs ss a))
    where
      go : Alike rs (dispatched (asked k q) k rs q o) (dispatched (asked k q) k ss q o)
          → Alike (r ∷ rs) (dispatched (asked k q) k (r ∷ rs) q o) (dispatched (asked k q) k (s ∷ ss) q o)
      go rest =
          by_test (eqb (asked k q) r.address)
          (λ e.
          let its : r.address ≡ asked k q = sym (eqb-true (asked k q) r.address e) in
          let same : r ≡ s = a.same-addressed 0 its in
          simp (e, eq-eqb (asked k q) s.address (sym its ∙ same_head r s rs ss a))
          (subst (λ (t : Record). Alike (r ∷ rs) (first (call_of k r q o) rs) (first (call_of k t q o) ss)) same
          (both_first r rs ss (λ j. a.same-addressed (suc j)) (call_of k r q o))))
          (λ e.
          let other : asked k q ≡ r.address → ⊥ = eqb-false (asked k q) r.address e in
          simp (e, ne_eqb (asked k q) s.address (λ z. other (z ∙ sym (same_head r s rs ss a))))
          (both_behind r s rs (dispatched (asked k q) k rs q o) (dispatched (asked k q) k ss q o) (λ z. other (sym z)) rest))

  pub independent : (xs ys : List Record) → Agree xs ys → Alike xs (board_of k xs q o) (board_of k ys q o)
  unfolding board_of
  independent xs ys a =
      let few : between 1 16 (length ys) ≡ between 1 16 (length xs) = ap (between 1 16) (sym (same_count xs ys a.same-addresses)) in
      let v : all_valid ys ≡ all_valid xs = sym (same-valid xs ys a.same_validity) in
      let u : all_distinct (addresses ys) ≡ all_distinct (addresses xs) = ap all_distinct (sym a.same-addresses) in
      simp (few, v, u)
      (either (between 1 16 (length xs)) (both_silent 9 xs ys a) (either (all_valid xs) (both_silent 10 xs ys a) (either (all_distinct (addresses xs)) (both_silent 11 xs ys a)
      (either (leb 64 (length o)) (both_silent 2 xs ys a)
      (either (eqb (silence_in (address_of k q)) 0) (both_silent (silence_in (address_of k q)) xs ys a) (dispatched_alike xs ys a))))))
    where
      either : (b : Bool) {x y x' y' : Outcome} → Alike xs x x' → Alike xs y y' → Alike xs (unless b x y) (unless b x' y')
      either true p p' = p'
      either false p p' = p

-- ---- "the list's order does not matter but for where the record stands"

-- two neighbours change places, the first of them at place i
abbrev pub exchanged : {A : Type 0} → ℕ → List A → List A
exchanged i [] = []
exchanged zero (x ∷ []) = x ∷ []
exchanged zero (x ∷ (y ∷ xs)) = y ∷ (x ∷ xs)
exchanged (suc i) (x ∷ xs) = x ∷ exchanged i xs

-- any order is had by such exchanges, one after the other
abbrev pub rearranged : {A : Type 0} → List ℕ → List A → List A
rearranged [] xs = xs
rearranged (i ∷ is) xs = rearranged is (exchanged i xs)

-- the same answer and reply, with the records in another order
abbrev pub reordered : List ℕ → Outcome → Outcome
reordered is x = record { silence = x.silence; reported = x.reported; records = rearranged is x.records; buffer = x.buffer }

abbrev exchanged_in : ℕ → Outcome → Outcome
exchanged_in i x = record { silence = x.silence; reported = x.reported; records = exchanged i x.records; buffer = x.buffer }

-- ---- the tests of the list do not go by its order
exchanged-length : (i : ℕ) (xs : List Record) → length (exchanged i xs) ≡ length xs
exchanged-length i [] = refl
exchanged-length zero (x ∷ []) = refl
exchanged-length zero (x ∷ (y ∷ xs)) = refl
exchanged-length (suc i) (x ∷ xs) = ap suc (exchanged-length i xs)

or-exchanged : (a b c : Bool) → (a || (b || c)) ≡ (b || (a || c))
or-exchanged true true c = refl
or-exchanged true false c = refl
or-exchanged false b c = refl

exchanged-valid : (i : ℕ) (xs : List Record) → all_valid (exchanged i xs) ≡ all_valid xs
unfolding all_valid
exchanged-valid i [] = refl
exchanged-valid zero (x ∷ []) = refl
exchanged-valid zero (x ∷ (y ∷ xs)) = and-exchanged (valid y) (valid x) (all_valid xs)
exchanged-valid (suc i) (x ∷ xs) = ap (λ (b : Bool). valid x && b) (exchanged-valid i xs)

exchanged-addresses : (i : ℕ) (xs : List Record) → addresses (exchanged i xs) ≡ exchanged i (addresses xs)
exchanged-addresses i [] = refl
exchanged-addresses zero (x ∷ []) = refl
exchanged-addresses zero (x ∷ (y ∷ xs)) = refl
exchanged-addresses (suc i) (x ∷ xs) = ap (λ (l : List ℕ). x.address ∷ l) (exchanged-addresses i xs)

exchanged-member : (n i : ℕ) (xs : List ℕ) → member n (exchanged i xs) ≡ member n xs
exchanged-member n i [] = refl
exchanged-member n zero (x ∷ []) = refl
exchanged-member n zero (x ∷ (y ∷ xs)) = or-exchanged (eqb n y) (eqb n x) (member n xs)
exchanged-member n (suc i) (x ∷ xs) = ap (λ (b : Bool). eqb n x || b) (exchanged-member n i xs)

eqb_either_way : (x y : ℕ) → eqb x y ≡ eqb y x
eqb_either_way x y = by_test (eqb y x) (λ e. eq-eqb x y (sym (eqb-true y x e)) ∙ sym e) (λ e. ne_eqb x y (λ z. eqb-false y x e (sym z)) ∙ sym e)

exchanged_distinct : (i : ℕ) (xs : List ℕ) → all_distinct (exchanged i xs) ≡ all_distinct xs
unfolding all_distinct
exchanged_distinct i [] = refl
exchanged_distinct zero (x ∷ []) = refl
exchanged_distinct zero (x ∷ (y ∷ xs)) =
    ap (λ (b : Bool). not (b || member y xs) && (not (member x xs) && all_distinct xs)) (eqb_either_way y x) ∙ go (eqb x y) (member x xs) (member y xs) (all_distinct xs)
  where
    go : (e m n u : Bool) → (not (e || n) && (not m && u)) ≡ (not (e || m) && (not n && u))
    go true m n u = refl
    go false true true u = refl
    go false true false u = refl
    go false false true u = refl
    go false false false u = refl
exchanged_distinct (suc i) (x ∷ xs) =
    ap (λ (b : Bool). not b && all_distinct (exchanged i xs)) (exchanged-member x i xs) ∙ ap (λ (b : Bool). not (member x xs) && b) (exchanged_distinct i xs)

module _ (k : Kind) (q o : List ℕ) where
  -- ---- nor does the record that is called
  dispatched-exchanged : (a i : ℕ) (ys : List Record) → all_distinct (addresses ys) ≡ true
      → dispatched a k (exchanged i ys) q o ≡ exchanged_in i (dispatched a k ys q o)
  unfolding dispatched all_distinct
  dispatched-exchanged a i [] u = refl
  dispatched-exchanged a zero (r ∷ []) u = go (eqb a r.address)
    where
      go : (b : Bool) → pick b (first (call_of k r q o) []) (behind r (silent 8 [] o)) ≡ exchanged_in 0 (pick b (first (call_of k r q o) []) (behind r (silent 8 [] o)))
      go true = refl
      go false = refl
  dispatched-exchanged a zero (r ∷ (s ∷ rs)) u = go (eqb a r.address) (eqb a s.address) refl refl
    where
      go : (b c : Bool) → eqb a r.address ≡ b → eqb a s.address ≡ c
          → pick c (first (call_of k s q o) (r ∷ rs)) (behind s (pick b (first (call_of k r q o) rs) (behind r (dispatched a k rs q o))))
          ≡ exchanged_in 0 (pick b (first (call_of k r q o) (s ∷ rs)) (behind r (pick c (first (call_of k s q o) rs) (behind s (dispatched a k rs q o)))))
      go true true e f =
          absurd (not_again 0 r.address (addresses (s ∷ rs)) u 0 (omega arith) (sym (eqb-true a s.address f) ∙ eqb-true a r.address e))
      go true false e f = refl
      go false true e f = refl
      go false false e f = refl
  dispatched-exchanged a (suc i) (r ∷ rs) u =
      go (dispatched-exchanged a i rs (and_right (not (member r.address (addresses rs))) (all_distinct (addresses rs)) u)) (eqb a r.address)
    where
      go : dispatched a k (exchanged i rs) q o ≡ exchanged_in i (dispatched a k rs q o) → (b : Bool)
          → pick b (first (call_of k r q o) (exchanged i rs)) (behind r (dispatched a k (exchanged i rs) q o))
          ≡ exchanged_in (suc i) (pick b (first (call_of k r q o) rs) (behind r (dispatched a k rs q o)))
      go e true = refl
      go e false = ap (behind r) e

  exchanged_once : (i : ℕ) (ys : List Record) → board_of k (exchanged i ys) q o ≡ exchanged_in i (board_of k ys q o)
  unfolding board_of
  exchanged_once i ys =
      simp (exchanged-length i ys, exchanged-valid i ys, ap all_distinct (exchanged-addresses i ys) ∙ exchanged_distinct i (addresses ys))
      (go (silence_in (address_of k q)) (between 1 16 (length ys)) (all_valid ys) (all_distinct (addresses ys)) (leb 64 (length o)) (eqb (silence_in (address_of k q)) 0) refl)
    where
      go : (n : ℕ) (b₉ b₁₀ b₁₁ b₂ b₃ : Bool) → all_distinct (addresses ys) ≡ b₁₁
          → unless b₉ (silent 9 (exchanged i ys) o) (unless b₁₀ (silent 10 (exchanged i ys) o) (unless b₁₁ (silent 11 (exchanged i ys) o)
          (unless b₂ (silent 2 (exchanged i ys) o) (unless b₃ (silent n (exchanged i ys) o) (dispatched (asked k q) k (exchanged i ys) q o)))))
          ≡ exchanged_in i (unless b₉ (silent 9 ys o) (unless b₁₀ (silent 10 ys o) (unless b₁₁ (silent 11 ys o)
          (unless b₂ (silent 2 ys o) (unless b₃ (silent n ys o) (dispatched (asked k q) k ys q o))))))
      go n false b₁₀ b₁₁ b₂ b₃ u = refl
      go n true false b₁₁ b₂ b₃ u = refl
      go n true true false b₂ b₃ u = refl
      go n true true true false b₃ u = refl
      go n true true true true false u = refl
      go n true true true true true u = dispatched-exchanged (asked k q) i ys u

  pub in_any_order : (is : List ℕ) (ys : List Record) → board_of k (rearranged is ys) q o ≡ reordered is (board_of k ys q o)
  in_any_order [] ys = refl
  in_any_order (i ∷ is) ys = in_any_order is (exchanged i ys) ∙ ap (reordered is) (exchanged_once i ys)
