-- What a caller of a stored board can rely on, for any bytes: which refusals and silences there are, that they leave every byte, that
-- the bytes read back as the records after, and that every other record's bytes stay. Assumes nothing.
use Prim.Native.Nat.{ℕ, zero, suc, ◌*◌, ◌%◌, ◌≤◌, ◌<◌}
use mathlib.Core.Bool.{true, false, true≢false}
use mathlib.Core.Path.{◌≡◌, refl, sym, ap, subst, ◌∙◌}
use mathlib.Core.List.{List, [], ◌∷◌}
use mathlib.Core.Logic.{⊎_elim}
use native.Mathlib.Nat.{le_of_suc-le-suc, not-suc-le-zero}
use native.Mathlib.Omega.{arith}
use lib.Dec.{eqb}
use lib.ListN.{length, take, drop, get_or, length-drop, get_or-map}
use lib.Seq.{take_at, drop_at, length-take-le}
use borrow.Author.Tests.{eqb-true, eqb-false, eq-eqb, ne_eqb}
use Rattle.base.specs.Test.{between}
use Rattle.base.proofs.Tests.{by_test}
use Rattle.state.specs.declared.Record.{Record}
use Rattle.state.specs.Field.{address, get}
use Rattle.stored.specs.Form as stored
use Rattle.stored.specs.Form.{K, done, low_record, stored_form, read_of}
use Rattle.stored.proofs.RoundTrip.{form-length, form_read, read_refusal}
use Rattle.frame.specs.declared.Kind.{Kind}
use Rattle.board.specs.Board as board
use Rattle.board.specs.Board.{all_valid, asked, board_of}
use Rattle.board.proofs.Theorems.{Silenced, Served, each_valid, each_distinct, every_input, others_stay, as_many, addresses_stay, all_stay_valid}
use Rattle.board.proofs.Exactly as exactly
use Rattle.storedboard.specs.StoredBoard.{each, count_in, forms_in, records_in, refusal_in, first_refused, written, Left, refused_by, silent_by, called_on, stored_board_of}
use Rattle.storedboard.proofs.Reading.{width, width_is, first-place, next_place, forms_count, read_many}
use Rattle.storedboard.proofs.Calling.{read_all_valid}

-- ---- the first record that is refused

-- K1 to K4, or none
refusal_high : (b : List ℕ) (x : stored.Outcome × Record) → read_of b ≡ x → refusal_in x.0 ≤ 4
refusal_high b (K n, r) e = (read_refusal b n r e).high
refusal_high b (done, r) e = omega arith

pub refused_high : (bs : List (List ℕ)) → first_refused bs ≤ 4
unfolding first_refused
refused_high [] = omega arith
refused_high (b ∷ bs) =
    by_test (eqb (refusal_in (read_of b).0) 0) (λ e. simp e (refused_high bs)) (λ e. simp e (refusal_high b (read_of b) refl))

-- no refusal: the bytes are a record's
read_done : (b : List ℕ) (x : stored.Outcome × Record) → read_of b ≡ x → refusal_in x.0 ≡ 0 → read_of b ≡ (done, x.1)
read_done b (K n, r) e z = absurd (let l = (read_refusal b n r e).low in omega arith)
read_done b (done, r) e z = e

pub each_read : (bs : List (List ℕ)) → first_refused bs ≡ 0 → (j : ℕ) → j < length bs → read_of (get_or bs j []) ≡ (done, get_or (records_in bs) j low_record)
unfolding first_refused
each_read [] e j h = absurd (not-suc-le-zero h)
each_read (b ∷ bs) e j h =
    by_test (eqb (refusal_in (read_of b).0) 0) (λ t. go (each_read bs (simp t at e)) (eqb-true (refusal_in (read_of b).0) 0 t) j h)
    (λ t. absurd (eqb-false (refusal_in (read_of b).0) 0 t (simp t at e)))
  where
    go : ((j : ℕ) → j < length bs → read_of (get_or bs j []) ≡ (done, get_or (records_in bs) j low_record)) → refusal_in (read_of b).0 ≡ 0
        → (j : ℕ) → j < length (b ∷ bs) → read_of (get_or (b ∷ bs) j []) ≡ (done, get_or (records_in (b ∷ bs)) j low_record)
    go rest z zero l = read_done b (read_of b) refl z
    go rest z (suc j) l = rest j (le_of_suc-le-suc l)

-- ---- the places of the forms
form_in : (n : ℕ) (s : List ℕ) (j : ℕ) → j < n → get_or (forms_in n s) j [] ≡ take each (drop (j * each) s)
unfolding forms_in
form_in zero s j h = absurd (not-suc-le-zero h)
form_in (suc n) s zero h = sym (first-place s)
form_in (suc n) s (suc j) h = form_in n (drop each s) j (le_of_suc-le-suc h) ∙ ap (take each) (next_place j s)

-- ---- the forms behind the writing of the first record with address a
first_fits : (n : ℕ) (s : List ℕ) → suc n * each ≤ length s → each ≤ length s
first_fits n s h = let f : suc n * width ≤ length s = simp width_is at h in omega (arith, width_is)

rest-fits : (n : ℕ) (s : List ℕ) → suc n * each ≤ length s → n * each ≤ length (drop each s)
rest-fits n s h = let f : suc n * width ≤ length s = simp width_is at h in simp (length-drop, width_is) (omega arith)

module _ (a : ℕ) where
  forms_here : (n : ℕ) (r : Record) (rs : List Record) (s : List ℕ) → eqb a r.address ≡ true
      → forms_in (suc n) (written a (r ∷ rs) s) ≡ stored_form r ∷ forms_in n (drop each s)
  unfolding forms_in written
  forms_here n r rs s e =
      simp (e, take_at (stored_form r) (drop each s) each (form-length r), drop_at (stored_form r) (drop each s) each (form-length r))

  forms_later : (n : ℕ) (r : Record) (rs : List Record) (s : List ℕ) → eqb a r.address ≡ false → each ≤ length s
      → forms_in (suc n) (written a (r ∷ rs) s) ≡ take each s ∷ forms_in n (written a rs (drop each s))
  unfolding forms_in written
  forms_later n r rs s e h =
      let l : length (take each s) ≡ each = length-take-le each s h in
      simp (e, take_at (take each s) (written a rs (drop each s)) each l, drop_at (take each s) (written a rs (drop each s)) each l)

  -- a record with another address keeps its form
  form_kept : (n : ℕ) (ys : List Record) (s : List ℕ) (j : ℕ) → length ys ≡ n → n * each ≤ length s → j < n
      → ((get_or ys j low_record).address ≡ a → ⊥) → get_or (forms_in n (written a ys s)) j [] ≡ get_or (forms_in n s) j []
  unfolding forms_in
  form_kept zero ys s j e h l other = absurd (not-suc-le-zero l)
  form_kept (suc n) [] s j e h l other = absurd (omega arith)
  form_kept (suc n) (r ∷ rs) s zero e h l other =
      ap (λ (bs : List (List ℕ)). get_or bs 0 []) (forms_later n r rs s (ne_eqb a r.address (λ z. other (sym z))) (first_fits n s h))
  form_kept (suc n) (r ∷ rs) s (suc j) e h l other =
      by_test (eqb a r.address) (λ t. ap (λ (bs : List (List ℕ)). get_or bs (suc j) []) (forms_here n r rs s t))
      (λ t.
      ap (λ (bs : List (List ℕ)). get_or bs (suc j) []) (forms_later n r rs s t (first_fits n s h))
      ∙ form_kept n rs (drop each s) j (omega arith) (rest-fits n s h) (le_of_suc-le-suc l) other)

  -- the first record with the address has the form that is written
  form-put : (n : ℕ) (ys : List Record) (s : List ℕ) (j : ℕ) → length ys ≡ n → n * each ≤ length s → j < n
      → (get_or ys j low_record).address ≡ a → ((i : ℕ) → i < j → (get_or ys i low_record).address ≡ a → ⊥)
      → get_or (forms_in n (written a ys s)) j [] ≡ stored_form (get_or ys j low_record)
  form-put zero ys s j e h l its before = absurd (not-suc-le-zero l)
  form-put (suc n) [] s j e h l its before = absurd (omega arith)
  form-put (suc n) (r ∷ rs) s zero e h l its before =
      ap (λ (bs : List (List ℕ)). get_or bs 0 []) (forms_here n r rs s (eq-eqb a r.address (sym its)))
  form-put (suc n) (r ∷ rs) s (suc j) e h l its before =
      ap (λ (bs : List (List ℕ)). get_or bs (suc j) [])
      (forms_later n r rs s (ne_eqb a r.address (λ z. before 0 (omega arith) (sym z))) (first_fits n s h))
      ∙ form-put n rs (drop each s) j (omega arith) (rest-fits n s h) (le_of_suc-le-suc l) its (λ i m. before (suc i) (omega arith))

-- ---- forms that are read one by one are read together
read_together : (bs : List (List ℕ)) (ys : List Record) → length bs ≡ length ys
    → ((j : ℕ) → j < length ys → read_of (get_or bs j []) ≡ (done, get_or ys j low_record)) → (records_in bs ≡ ys) × (first_refused bs ≡ 0)
unfolding first_refused
read_together [] [] e h = (refl, refl)
read_together [] (y ∷ ys) e h = absurd (omega arith)
read_together (b ∷ bs) [] e h = absurd (omega arith)
read_together (b ∷ bs) (y ∷ ys) e h =
    let first : read_of b ≡ (done, y) = h 0 (omega arith) in
    let rest = read_together bs ys (omega arith) (λ j l. h (suc j) (omega arith)) in (
      ap (λ (x : stored.Outcome × Record). x.1 ∷ records_in bs) first ∙ ap (λ (rs : List Record). y ∷ rs) rest.0,
      simp first rest.1,
    )

-- ---- the cases of a call

-- the records that the bytes are
abbrev pub records_of : List ℕ → List Record
records_of s = records_in (forms_in (count_in s) s)

module _ (k : Kind) (s q o : List ℕ) where
  -- all records are read, and one of them answers
  pub record Replied : Type 0 where
    pub whole : length s % each ≡ 0
    pub few : between 1 16 (count_in s) ≡ true
    pub read : first_refused (forms_in (count_in s) s) ≡ 0
    pub served : Served k q o low_record (records_of s)

  abbrev pub left : Left
  left = called_on (asked k q) (board_of k (records_of s) q o) s

  -- a record that was read is valid
  never_tenth : (board_of k (records_of s) q o).silence ≡ 10 → ⊥
  never_tenth e =
      let f = (exactly.silence_exactly k (records_of s) q o 1 (omega arith)).0 e in
      true≢false (sym (read_all_valid (forms_in (count_in s) s)) ∙ f.fails)

  pub left_cases : (P : Left → Type 0) → ((n : ℕ) → 1 ≤ n → n ≤ 4 → P (refused_by n s o))
      → ((n : ℕ) → 2 ≤ n → n ≤ 11 → (n ≡ 10 → ⊥) → P (silent_by n s o)) → (Replied → P left) → P (stored_board_of k s q o)
  unfolding stored_board_of
  left_cases P refused silent replied =
      by_test (eqb (length s % each) 0)
      (λ whole.
      by_test (between 1 16 (count_in s))
      (λ few.
      by_test (eqb (first_refused (forms_in (count_in s) s)) 0)
      (λ good.
      simp (whole, few, good)
      (⊎_elim
      (λ (x : Silenced k q o low_record (records_of s)).
      let n : ℕ = (board_of k (records_of s) q o).silence in
      let l : 2 ≤ n = x.low in
      let e : called_on (asked k q) (board_of k (records_of s) q o) s ≡ silent_by n s o = ap (λ (c : board.Outcome). called_on (asked k q) c s) x.nothing ∙ simp (ne_eqb n 0 (λ z. omega arith)) in
      subst P (sym e) (silent n l x.high never_tenth))
      (λ (x : Served k q o low_record (records_of s)).
      replied (record { whole = eqb-true _ _ whole; few = few; read = eqb-true _ _ good; served = x }))
      (every_input k q o low_record (records_of s))))
      (λ bad.
      let n : ℕ = first_refused (forms_in (count_in s) s) in
      let h : n ≤ 4 = refused_high (forms_in (count_in s) s) in
      let z : n ≡ 0 → ⊥ = eqb-false n 0 bad in
      simp (whole, few, bad) (refused n (omega arith) h)))
      (λ few. simp (whole, few) (silent 9 (omega arith) (omega arith) (λ z. omega arith))))
      (λ whole. simp whole (refused 1 (omega arith) (omega arith)))

  -- ---- a reply: the bytes afterwards read back as the records that the board's call leaves
  module _ (x : Replied) where
    abbrev after : List Record
    after = (board_of k (records_of s) q o).records

    pub heard : (board_of k (records_of s) q o).silence ≡ 0
    heard = ap (λ (c : board.Outcome). c.silence) x.served.called ∙ x.served.answered.heard

    pub stored_after : left.stored ≡ written (asked k q) after s
    stored_after = simp (eq-eqb _ _ heard)

    after_valid : all_valid after ≡ true
    after_valid = all_stay_valid k q o low_record (records_of s) (read_all_valid (forms_in (count_in s) s))

    after_count : length after ≡ count_in s
    after_count = as_many k q o low_record (records_of s) ∙ read_many (count_in s) s

    places_fit : count_in s * each ≤ length s
    places_fit = simp width_is (omega arith)

    same_address : (j : ℕ) → (get_or after j low_record).address ≡ (get_or (records_of s) j low_record).address
    same_address j =
        sym (get_or-map (get address) after j low_record)
        ∙ (ap (λ (l : List ℕ). get_or l j low_record.address) (addresses_stay k q o low_record (records_of s)) ∙ get_or-map (get address) (records_of s) j low_record)

    -- a record with another address keeps its bytes
    other_form : (j : ℕ) → j < count_in s → ((get_or (records_of s) j low_record).address ≡ asked k q → ⊥)
        → get_or (forms_in (count_in s) left.stored) j [] ≡ get_or (forms_in (count_in s) s) j []
    other_form j l other =
        ap (λ (t : List ℕ). get_or (forms_in (count_in s) t) j []) stored_after
        ∙ form_kept (asked k q) (count_in s) after s j after_count places_fit l (λ z. other (sym (same_address j) ∙ z))

    -- and that with the address is written
    its_form : (j : ℕ) → j < count_in s → (get_or (records_of s) j low_record).address ≡ asked k q
        → get_or (forms_in (count_in s) left.stored) j [] ≡ stored_form (get_or after j low_record)
    its_form j l its =
        ap (λ (t : List ℕ). get_or (forms_in (count_in s) t) j []) stored_after
        ∙ form-put (asked k q) (count_in s) after s j after_count places_fit l (same_address j ∙ its) earlier
      where
        earlier : (i : ℕ) → i < j → (get_or after i low_record).address ≡ asked k q → ⊥
        earlier i m z =
            let n : length (records_of s) ≡ count_in s = read_many (count_in s) s in
            let same : i ≡ j =
            each_distinct low_record (records_of s) x.served.accepted.all_distinct_lem i j (omega arith) (omega arith) (sym (same_address i) ∙ (z ∙ sym its)) in
            omega arith

    each_back : (j : ℕ) → j < count_in s → read_of (get_or (forms_in (count_in s) left.stored) j []) ≡ (done, get_or after j low_record)
    each_back j l =
        by_test (eqb (get_or (records_of s) j low_record).address (asked k q))
        (λ t.
        ap read_of (its_form j l (eqb-true _ _ t))
        ∙ form_read (get_or after j low_record) (each_valid low_record after after_valid j (subst (λ (n : ℕ). j < n) (sym after_count) l)))
        (λ t.
        let other = eqb-false (get_or (records_of s) j low_record).address (asked k q) t in
        ap read_of (other_form j l other)
        ∙ (each_read (forms_in (count_in s) s) x.read j (subst (λ (n : ℕ). j < n) (sym (forms_count (count_in s) s)) l)
        ∙ ap (λ (r : Record). (done, r)) (sym (others_stay k q o low_record (records_of s) j other))))

    back : (records_in (forms_in (count_in s) left.stored) ≡ after) × (first_refused (forms_in (count_in s) left.stored) ≡ 0)
    back = read_together (forms_in (count_in s) left.stored) after (forms_count (count_in s) left.stored ∙ sym after_count) (λ j l. each_back j (subst (λ (n : ℕ). j < n) after_count l))

    pub reads_back : records_in (forms_in (count_in s) left.stored) ≡ after
    reads_back = back.0

    pub none_spoiled : first_refused (forms_in (count_in s) left.stored) ≡ 0
    none_spoiled = back.1

  -- ---- "Every other record stays byte for byte"
  pub others_byte_for_byte : (j : ℕ) → j < count_in s → ((get_or (records_of s) j low_record).address ≡ asked k q → ⊥)
      → take each (drop (j * each) (stored_board_of k s q o).stored) ≡ take each (drop (j * each) s)
  others_byte_for_byte j l other =
      left_cases (λ (y : Left). take each (drop (j * each) y.stored) ≡ take each (drop (j * each) s)) (λ n a b. refl) (λ n a b c. refl)
      (λ x. sym (form_in (count_in s) left.stored j l) ∙ (other_form x j l other ∙ form_in (count_in s) s j l))
