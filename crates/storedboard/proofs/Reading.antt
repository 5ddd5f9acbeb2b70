-- Reading the records: the stored forms from a place on, and one law for each return and turn of the loop. Assumes nothing.
use Prim.Native.Nat.{ℕ, zero, suc, ◌+◌, ◌-◌, ◌*◌, ◌≤◌, ◌<◌}
use mathlib.Core.Path.{◌≡◌, refl, sym, ap, ◌∙◌}
use mathlib.Core.List.{List, [], ◌∷◌, ◌++◌, map-append}
use native.Mathlib.Omega.{arith}
use native.Mathlib.Numerals.{add-one}
use lib.ListN.{length, take, drop, set, length-set, length-map}
use lib.Seq.{drop-drop, take-suc-set, take_all}
use Rattle.std.specs.Prelude.{Result, Ok, Err}
use borrow.Author.Tests.{ne_eqb}
use Rattle.state.specs.declared.Record.{Record}
use Rattle.stored.specs.declared.Refusal.{Refusal}
use Rattle.stored.specs.Form as stored
use Rattle.stored.specs.Form.{refusal_number, reading_as, read_of}
use Rattle.stored.specs.Layout.{current}
use Rattle.stored.proofs.Versions.{length_of}
use Rattle.stored.proofs.RoundTrip.{stored_180, read_refusal}
use Rattle.storedboard.specs.StoredBoard.{each, forms_in, records_in, refusal_in, first_refused}
use Rattle.storedboard.specs.Steps.{read_as}

-- the bytes of one record, as the code's number
abbrev pub width : ℕ
width = length_of current

pub width_is : each ≡ width
width_is = stored_180

-- ---- the places

-- the bytes of the record at place i are the lent part
form_at : (i : ℕ) (s : List ℕ) → take (i * width + width - i * width) (drop (i * width) s) ≡ take each (drop (i * each) s)
form_at i s =
    let e : i * width + width - i * width ≡ each = simp width_is (omega arith) in
    let d : i * width ≡ i * each = simp width_is in
    ap (λ (n : ℕ). take n (drop (i * width) s)) e ∙ ap (λ (n : ℕ). take each (drop n s)) d

pub first-place : (s : List ℕ) → take each (drop (0 * each) s) ≡ take each s
first-place s =
    let e : 0 * each ≡ 0 = simp width_is in
    ap (λ (n : ℕ). take each (drop n s)) e

-- the next place: of what is behind the first record, and of what is behind the first i
pub next_place : (j : ℕ) (s : List ℕ) → drop (j * each) (drop each s) ≡ drop (suc j * each) s
next_place j s =
    let e : each + j * each ≡ suc j * each = simp width_is (omega arith) in
    drop-drop (j * each) each s ∙ ap (λ (n : ℕ). drop n s) e

rest_next : (i : ℕ) (s : List ℕ) → drop each (drop (i * each) s) ≡ drop ((i + 1) * each) s
rest_next i s =
    let e : i * each + each ≡ (i + 1) * each = simp width_is (omega arith) in
    drop-drop each (i * each) s ∙ ap (λ (n : ℕ). drop n s) e

-- ---- the forms from place i on, and up to it
forms_from : (n i : ℕ) (s : List ℕ) → i < n
    → forms_in (n - i) (drop (i * each) s) ≡ take each (drop (i * each) s) ∷ forms_in (n - (i + 1)) (drop ((i + 1) * each) s)
unfolding forms_in
forms_from n i s h =
    let e : n - i ≡ suc (n - (i + 1)) = omega arith in
    ap (λ (m : ℕ). forms_in m (drop (i * each) s)) e
    ∙ ap (λ (t : List ℕ). take each (drop (i * each) s) ∷ forms_in (n - (i + 1)) t) (rest_next i s)

forms_more : (i : ℕ) (s : List ℕ) → forms_in (suc i) s ≡ forms_in i s ++ (take each (drop (i * each) s) ∷ [])
unfolding forms_in
forms_more zero s = ap (λ (t : List ℕ). t ∷ []) (sym (first-place s))
forms_more (suc i) s =
    ap (λ (bs : List (List ℕ)). take each s ∷ bs) (forms_more i (drop each s))
    ∙ ap (λ (t : List ℕ). take each s ∷ (forms_in i (drop each s) ++ (take each t ∷ []))) (next_place i s)

pub forms_count : (n : ℕ) (s : List ℕ) → length (forms_in n s) ≡ n
unfolding forms_in
forms_count zero s = refl
forms_count (suc n) s = ap suc (forms_count n (drop each s))

pub read_many : (n : ℕ) (s : List ℕ) → length (records_in (forms_in n s)) ≡ n
read_many n s = length-map (forms_in n s) (λ (b : List ℕ). (read_of b).1) ∙ forms_count n s

-- ---- the first that is refused, from place i on
refused_here : (b : List ℕ) (bs : List (List ℕ)) (m : ℕ) → refusal_in (read_of b).0 ≡ m → 1 ≤ m → first_refused (b ∷ bs) ≡ m
unfolding first_refused
refused_here b bs m e l = simp (e, ne_eqb m 0 (λ z. omega arith))

refused-later : (b : List ℕ) (bs : List (List ℕ)) → refusal_in (read_of b).0 ≡ 0 → first_refused (b ∷ bs) ≡ first_refused bs
unfolding first_refused
refused-later b bs e = simp e

-- ---- what holds before the turn at place i
pub record Passed (s : List ℕ) (n : ℕ) (rs : List Record) (i : ℕ) : Type 0 where
  pub room : n * each ≤ length s
  pub size : length rs ≡ n
  pub refusal_left : first_refused (forms_in n s) ≡ first_refused (forms_in (n - i) (drop (i * each) s))
  pub records_read : take i rs ≡ records_in (forms_in i s)

pub none_yet : {s : List ℕ} {n : ℕ} {rs : List Record} → n * each ≤ length s → length rs ≡ n → Passed s n rs 0
unfolding forms_in
none_yet {s} {n} {rs} g l =
    let e : 0 * each ≡ 0 = simp width_is in
    let d : n - 0 ≡ n = omega arith in
    record {
      room = g;
      size = l;
      refusal_left = sym (ap (λ (m : ℕ). first_refused (forms_in m (drop (0 * each) s))) d ∙ ap (λ (m : ℕ). first_refused (forms_in n (drop m s))) e);
      records_read = refl;
    }

module _ {s : List ℕ} {n : ℕ} {rs : List Record} {i : ℕ} (p : Passed s n rs i) where
  -- all are read
  pub all_read : i ≡ n → (0 ≡ first_refused (forms_in n s)) × (◌≡◌ {A = ℕ} 0 0 → rs ≡ records_in (forms_in n s))
  unfolding forms_in first_refused
  all_read e =
      let l = p.size in
      let z : n - i ≡ 0 = omega arith in (
        sym (p.refusal_left ∙ ap (λ (m : ℕ). first_refused (forms_in m (drop (i * each) s))) z),
        λ u. sym (take_all i rs (omega arith)) ∙ (p.records_read ∙ ap (λ (m : ℕ). records_in (forms_in m s)) e),
      )

  module _ (h : i < n) where
    -- the part fits into the lent bytes
    pub part_fits : i * width + width ≤ length s
    part_fits =
        let g : n * width ≤ length s = simp width_is at p.room in
        omega arith

    module _ (x : Result Record Refusal) (e : reading_as x ≡ read_of (take (i * width + width - i * width) (drop (i * width) s))) where
      read_here : read_of (take each (drop (i * each) s)) ≡ reading_as x
      read_here = sym (e ∙ ap read_of (form_at i s))

      -- the record at place i is refused
      pub found_refused : (k : Refusal) → x ≡ Err k → (y : Result (Unit {0}) Refusal) → y ≡ Err k → (ts : List Record)
          → (read_as y ≡ first_refused (forms_in n s)) × (read_as y ≡ 0 → ts ≡ records_in (forms_in n s))
      found_refused k z y q ts =
          let t : refusal_in (read_of (take each (drop (i * each) s))).0 ≡ refusal_number k = ap (λ (y : stored.Outcome × Record). refusal_in y.0) (read_here ∙ ap reading_as z) in
          let l : 1 ≤ refusal_number k = (read_refusal _ _ _ (read_here ∙ ap reading_as z)).low in (
            ap read_as q ∙ sym (p.refusal_left ∙ (ap first_refused (forms_from n i s h) ∙ refused_here _ _ (refusal_number k) t l)),
            λ u. let w = ap read_as q in absurd (omega arith),
          )

      -- it is read whole
      pub one_more : (r : Record) → x ≡ Ok r → Passed s n (set rs i r) (i + 1)
      one_more r z =
          let y : read_of (take each (drop (i * each) s)) ≡ (stored.done, r) = read_here ∙ ap reading_as z in
          let t : refusal_in (read_of (take each (drop (i * each) s))).0 ≡ 0 = ap (λ (y : stored.Outcome × Record). refusal_in y.0) y in
          let size = p.size in
          record {
            room = p.room;
            size = length-set rs i r ∙ p.size;
            refusal_left = p.refusal_left ∙ (ap first_refused (forms_from n i s h) ∙ refused-later _ _ t);
            records_read =
                ap (λ (j : ℕ). take j (set rs i r)) (add-one i)
                ∙ (take-suc-set rs i r (omega arith)
                ∙ (ap (λ (ts : List Record). ts ++ (r ∷ [])) p.records_read
                ∙ (ap (λ (y : stored.Outcome × Record). records_in (forms_in i s) ++ (y.1 ∷ [])) (sym y)
                ∙ (sym (map-append (λ (b : List ℕ). (read_of b).1) (forms_in i s) (take each (drop (i * each) s) ∷ []))
                ∙ ap records_in (sym (ap (λ (j : ℕ). forms_in j s) (add-one i) ∙ forms_more i s))))));
          }
