-- What was stored is read again, and what was read is stored as it was: batch for batch by the laws of packing. A stored bank that is lent to
-- grow in place. Assumes nothing.
use Prim.Native.Nat.{ℕ, zero, suc, ◌+◌, ◌-◌, ◌*◌, ◌^◌, ◌≤◌, ◌<◌}
use mathlib.Core.Bool.{Bool, true, false, ◌&&◌, false≢true}
use mathlib.Core.Path.{◌≡◌, refl, sym, ap, subst, ◌∙◌}
use mathlib.Core.List.{List, [], ◌∷◌, ◌++◌, append_assoc, append-nil}
use mathlib.Core.Logic.{◌↔◌}
use native.Mathlib.Omega.{arith}
use lib.Dec.{eqb, leb, ltb}
use lib.ListN.{length, get_or, take, drop, replicate, length-append, length-drop, length-replicate}
use lib.Seq.{drop_at, take-add, take_all, take-append_seam}
use borrow.Author.Tests.{eq-eqb, eqb-true, le-leb, ltb-true}
use Rattle.base.specs.Test.{unless}
use Rattle.base.specs.Lists.{over}
use Rattle.base.proofs.Tests.{by_test, never, and_yes, and_left, and_right, between_high}
use Rattle.base.proofs.Lists.{over-length, over-take}
use Rattle.state.specs.declared.Range.{Range}
use Rattle.state.specs.Valid.{within}
use Rattle.stored.specs.Form.{big_endian, number_of, unpack}
use Rattle.stored.proofs.Bytes.{Bytes, all_bytes_lem, bytes_take, bytes_drop, big_length}
use Rattle.stored.proofs.Packing.{Roomy, number_front, header_back, unpack-pack, pack-unpack}
use Rattle.bank.specs.declared.Batch.{Batch}
use Rattle.bank.specs.declared.Bank.{Bank}
use Rattle.bank.specs.Bank.{most, no_batch, batch_numbers, batch_ranges, all_within, batch_valid, all_valid, batches_in, valid, empty_bank}
use Rattle.bank.proofs.Theorems.{Valid, valid_tell, valid_made}
use Rattle.storedbank.specs.StoredBank.{Outcome, K, done, batch_widths, batch_width, header_width, bank_length, batch_bytes, all_bytes, header_bytes, bank_form, write_of, batch_from, batch_read, batches_read, count_in, held_in, with_room, bank_with, well_formed, refusal, read_of, room_length, front_of, open_of}
use Rattle.storedbank.specs.Steps.{headed}
use Rattle.storedbank.proofs.Writing.{batch_length, count-length}
use Rattle.storedbank.proofs.Taking.{Headed, headed_tell, headed_made, headed-length, formed_parts, batches-length}
-- the length of the stored form
pub use Rattle.storedbank.proofs.Writing.{form-length}
-- behind what is laid over a buffer it stays as it was
pub use Rattle.base.proofs.Lists.{over-rest}

-- ---- batches and bytes are inverse

-- every number of a range has room in so many bytes
abbrev has_room : List ℕ → List Range → Bool
has_room [] [] = true
has_room [] (g ∷ gs) = false
has_room (w ∷ ws) [] = false
has_room (w ∷ ws) (g ∷ gs) = ltb g.high (256 ^ w) && has_room ws gs

within_roomy : (ws : List ℕ) (gs : List Range) (ns : List ℕ) → has_room ws gs ≡ true → all_within gs ns ≡ true → Roomy ws ns
unfolding all_within
within_roomy [] [] [] f h = tt
within_roomy [] [] (n ∷ ns) f h = absurd (false≢true h)
within_roomy [] (g ∷ gs) ns f h = absurd (false≢true f)
within_roomy (w ∷ ws) [] ns f h = absurd (false≢true f)
within_roomy (w ∷ ws) (g ∷ gs) [] f h = absurd (false≢true h)
within_roomy (w ∷ ws) (g ∷ gs) (n ∷ ns) f h =
    let high : n ≤ g.high = between_high g.low g.high n (and_left (within g n) (all_within gs ns) h) in
    let room : g.high < 256 ^ w = ltb-true _ _ (and_left (ltb g.high (256 ^ w)) (has_room ws gs) f) in
    (omega arith, within_roomy ws gs ns (and_right (ltb g.high (256 ^ w)) (has_room ws gs) f) (and_right (within g n) (all_within gs ns) h))

batch_back : (b : Batch) (rest : List ℕ) → batch_valid b ≡ true → batch_read (batch_bytes b ++ rest) ≡ b
unfolding batch_valid
batch_back b rest h = ap batch_from (unpack-pack batch_widths (batch_numbers b) rest (within_roomy batch_widths batch_ranges (batch_numbers b) refl h))

batches_back : (bs : List Batch) (rest : List ℕ) → all_valid bs ≡ true → batches_read (length bs) (all_bytes bs ++ rest) ≡ bs
unfolding batches_read all_bytes all_valid
batches_back [] rest h = refl
batches_back (b ∷ bs) rest h =
    let n : ℕ = length bs in
    let l : List ℕ = all_bytes bs ++ rest in
    ap (λ (x : List ℕ). batch_read x ∷ batches_read n (drop batch_width x)) (append_assoc (batch_bytes b) (all_bytes bs) rest) ∙
    (ap (λ (x : Batch). x ∷ batches_read n (drop batch_width (batch_bytes b ++ l))) (batch_back b l (and_left (batch_valid b) (all_valid bs) h)) ∙
    ap (λ (xs : List Batch). b ∷ xs)
    (ap (batches_read n) (drop_at (batch_bytes b) l batch_width (batch_length b)) ∙ batches_back bs rest (and_right (batch_valid b) (all_valid bs) h)))

batch_again : (bs : List ℕ) → batch_width ≤ length bs → Bytes bs → batch_bytes (batch_read bs) ≡ take batch_width bs
unfolding unpack
batch_again bs l h = pack-unpack batch_widths bs l h

batches_again : (n : ℕ) (bs : List ℕ) → batch_width * n ≤ length bs → Bytes bs → all_bytes (batches_read n bs) ≡ take (batch_width * n) bs
unfolding batches_read all_bytes
batches_again zero bs l h = refl
batches_again (suc n) bs l h =
    let d = length-drop batch_width bs in
    let i : batch_width + batch_width * n ≡ batch_width * suc n = omega arith in
    ap (λ (x : List ℕ). x ++ all_bytes (batches_read n (drop batch_width bs))) (batch_again bs (omega arith) h) ∙
    (ap (λ (x : List ℕ). take batch_width bs ++ x) (batches_again n (drop batch_width bs) (omega arith) (bytes_drop batch_width bs h)) ∙
    (sym (take-add batch_width (batch_width * n) bs) ∙ ap (λ (k : ℕ). take k bs) i))

-- ---- a bank with some batches
pub with_batches : (bs : List Batch) → batches_in (bank_with bs) ≡ bs
unfolding with_room
with_batches bs = take-append_seam bs (replicate (most - length bs) no_batch)

pub with_valid : (bs : List Batch) → length bs ≤ most → all_valid bs ≡ true → valid (bank_with bs) ≡ true
unfolding with_room
with_valid bs l v =
    let r : length (replicate (most - length bs) no_batch) ≡ most - length bs = length-replicate (most - length bs) no_batch in
    valid_made (bank_with bs) record {
      size = length-append bs (replicate (most - length bs) no_batch) ∙ omega arith;
      few = l;
      each = ap all_valid (with_batches bs) ∙ v;
    }

pub empty_valid : valid empty_bank ≡ true
unfolding valid all_valid
empty_valid = refl

-- ---- what an answer tells
not_done : (k : Bank) → refusal ≡ (done, k) → ⊥
not_done k e = let f : K 7 ≡ done = ap (λ (x : Outcome × Bank). x.0) e in never cc

read_tells : (bs : List ℕ) (k : Bank) → read_of bs ≡ (done, k) → (well_formed bs ≡ true) × (k ≡ bank_with (held_in bs))
unfolding read_of
read_tells bs k e = go (well_formed bs) e
  where
    go : (t : Bool) → unless {A = Outcome × Bank} t refusal (done, bank_with (held_in bs)) ≡ (done, k) → (t ≡ true) × (k ≡ bank_with (held_in bs))
    go true f = (refl, sym (ap (λ (x : Outcome × Bank). x.1) f))
    go false f = absurd (not_done k f)

module _ (bs : List ℕ) (w : well_formed bs ≡ true) where
  formed-headed : Headed bs
  formed-headed = headed_tell bs (and_left (headed bs) (all_valid (held_in bs)) (sym (formed_parts bs) ∙ w))

  formed-valid : all_valid (held_in bs) ≡ true
  formed-valid = and_right (headed bs) (all_valid (held_in bs)) (sym (formed_parts bs) ∙ w)

  formed-count : length (held_in bs) ≡ count_in bs
  formed-count = batches-length (count_in bs) (drop header_width bs)

  -- well-formed bytes are the form of the batches in them
  formed-form : Bytes bs → bank_form (held_in bs) ≡ bs
  unfolding bank_form header_bytes
  formed-form h =
      let g = formed-headed in
      let l : length bs ≡ bank_length (count_in bs) = headed-length bs g in
      let d = length-drop header_width bs in
      let n : bank_length (length (held_in bs)) ≡ length bs = ap bank_length formed-count ∙ sym l in
      let rest : all_bytes (held_in bs) ≡ drop header_width bs =
      batches_again (count_in bs) (drop header_width bs) (omega arith) (bytes_drop header_width bs h) ∙ take_all (batch_width * count_in bs) (drop header_width bs) (omega arith) in
      ap (λ (k : ℕ). 1 ∷ (big_endian 2 k ++ all_bytes (held_in bs))) n ∙
      (ap (λ (x : List ℕ). 1 ∷ (big_endian 2 (length bs) ++ x)) rest ∙ header_back bs 1 g.low g.version g.field h)

-- ---- the stored form of some batches
module _ (bs : List Batch) (l : length bs ≤ most) where
  -- the length field, whatever stands behind the form
  form-field : (rest : List ℕ) → number_of (take 2 (drop 1 (bank_form bs ++ rest))) ≡ length (bank_form bs)
  unfolding bank_form header_bytes
  form-field rest =
      let n : ℕ = bank_length (length bs) in
      ap (λ (x : List ℕ). number_of (take 2 x)) (append_assoc (big_endian 2 n) (all_bytes bs) rest) ∙
      (number_front 2 n (all_bytes bs ++ rest) (omega arith) ∙ sym (form-length bs))

  form-headed : Headed (bank_form bs)
  unfolding bank_form header_bytes
  form-headed =
      let n = form-length bs in
      record {
        version = refl;
        low = omega arith;
        field = ap (λ (x : List ℕ). number_of (take 2 (drop 1 x))) (sym (append-nil (bank_form bs))) ∙ form-field [];
        whole = omega arith;
        few = omega arith;
      }

  module _ (v : all_valid bs ≡ true) where
    form-held : held_in (bank_form bs) ≡ bs
    unfolding bank_form header_bytes
    form-held =
        let n = form-length bs in
        let c : count_in (bank_form bs) ≡ length bs = omega arith in
        ap (λ (k : ℕ). batches_read k (drop header_width (bank_form bs))) c ∙
        (ap (batches_read (length bs)) (drop_at (big_endian 2 (bank_length (length bs))) (all_bytes bs) 2 (big_length 2 (bank_length (length bs))) ∙ sym (append-nil (all_bytes bs))) ∙
        batches_back bs [] v)

    form_read : read_of (bank_form bs) ≡ (done, bank_with bs)
    unfolding read_of
    form_read =
        let w : well_formed (bank_form bs) ≡ true =
        formed_parts (bank_form bs) ∙ and_yes (headed (bank_form bs)) (all_valid (held_in (bank_form bs))) (headed_made (bank_form bs) form-headed) (ap all_valid form-held ∙ v) in
        ap (λ (t : Bool). unless {A = Outcome × Bank} t refusal (done, bank_with (held_in (bank_form bs)))) w ∙ ap (λ (xs : List Batch). (done, bank_with xs)) form-held

-- ---- reading what was written gives the batches
module _ (k : Bank) (v : valid k ≡ true) where
  facts : Valid k
  facts = valid_tell k v

  count-few : length (batches_in k) ≤ most
  count-few = omega (arith, count-length k facts, facts.few)

  pub read_written : read_of (bank_form (batches_in k)) ≡ (done, bank_with (batches_in k))
  read_written = form_read (batches_in k) count-few facts.each

  -- those that the bank holds
  pub batches_read_lem : batches_in (read_of (bank_form (batches_in k))).1 ≡ batches_in k
  batches_read_lem = ap (λ (x : Outcome × Bank). batches_in x.1) read_written ∙ with_batches (batches_in k)

-- writing what was read gives the bytes
form_again : (bs : List ℕ) (k : Bank) → Bytes bs → read_of bs ≡ (done, k) → bank_form (batches_in k) ≡ bs
form_again bs k h e =
    let t = read_tells bs k e in
    ap (λ (x : Bank). bank_form (batches_in x)) t.1 ∙ (ap bank_form (with_batches (held_in bs)) ∙ formed-form bs t.0 h)

pub written_read : (bs : List ℕ) (k : Bank) → ((i : ℕ) → i < length bs → get_or bs i 0 < 256) → read_of bs ≡ (done, k) → bank_form (batches_in k) ≡ bs
written_read bs k h e = form_again bs k (all_bytes_lem bs h) e

-- so the same batches have one form, and other batches another
pub one_form : (j k : Bank) → valid j ≡ true → valid k ≡ true → bank_form (batches_in j) ≡ bank_form (batches_in k) ↔ batches_in j ≡ batches_in k
one_form j k v w = (
  λ e. sym (batches_read_lem j v) ∙ (ap (λ (x : List ℕ). batches_in (read_of x).1) e ∙ batches_read_lem k w),
  λ e. ap bank_form e,
)

-- whatever the bytes, the bank beside the answer is valid
pub read_valid : (bs : List ℕ) → valid (read_of bs).1 ≡ true
unfolding read_of
read_valid bs =
    let P : Bool → Type 0 = λ t. valid (unless {A = Outcome × Bank} t refusal (done, bank_with (held_in bs))).1 ≡ true in
    by_test (well_formed bs)
    (λ t. subst P (sym t) (with_valid (held_in bs) (omega (arith, formed-count bs t, (formed-headed bs t).few)) (formed-valid bs t)))
    (λ f. subst P (sym f) empty_valid)

-- the same of the two functions: a bank that is written into a buffer is read from it
pub write_then_read : (k : Bank) (o b : List ℕ) → write_of k o ≡ (done, b) → read_of (take (bank_length k.count) b) ≡ (done, bank_with (batches_in k))
unfolding write_of
write_then_read k o b e = go (valid k) (leb (bank_length k.count) (length o)) refl e
  where
    refused : (n : ℕ) → ◌≡◌ {A = Outcome × List ℕ} (K n, o) (done, b) → ⊥
    refused n f = let g : K n ≡ done = ap (λ (x : Outcome × List ℕ). x.0) f in never cc

    go : (p q : Bool) → valid k ≡ p → unless {A = Outcome × List ℕ} p (K 5, o) (unless q (K 6, o) (done, over (bank_form (batches_in k)) o)) ≡ (done, b)
        → read_of (take (bank_length k.count) b) ≡ (done, bank_with (batches_in k))
    go false q v f = absurd (refused 5 f)
    go true false v f = absurd (refused 6 f)
    go true true v f =
        let n : length (bank_form (batches_in k)) ≡ bank_length k.count = form-length (batches_in k) ∙ ap bank_length (count-length k (facts k v)) in
        ap (λ (x : Outcome × List ℕ). read_of (take (bank_length k.count) x.1)) (sym f) ∙
        (ap read_of (over-take (bank_form (batches_in k)) o (bank_length k.count) n) ∙ read_written k v)

-- and one that is read from bytes is written as these
pub read_then_write : (bs : List ℕ) (k : Bank) (o : List ℕ) → ((i : ℕ) → i < length bs → get_or bs i 0 < 256) → length bs ≤ length o → read_of bs ≡ (done, k)
    → write_of k o ≡ (done, over bs o)
unfolding write_of
read_then_write bs k o h l e =
    let v : valid k ≡ true = ap (λ (x : Outcome × Bank). valid x.1) (sym e) ∙ read_valid bs in
    let f : bank_form (batches_in k) ≡ bs = written_read bs k h e in
    let n : bank_length k.count ≡ length bs = sym (form-length (batches_in k) ∙ ap bank_length (count-length k (facts k v))) ∙ ap length f in
    simp (v, le-leb (bank_length k.count) (length o) (omega arith)) (ap (λ (x : List ℕ). (done, over x o)) f)

-- K7 exactly for bytes "of wrong version, length or field", "with an empty bank beside it"
pub read_wrong : (bs : List ℕ) → ((read_of bs).0 ≡ K 7 ↔ well_formed bs ≡ false) × (well_formed bs ≡ false → (read_of bs).1 ≡ empty_bank)
unfolding read_of
read_wrong bs = go (well_formed bs)
  where
    go : (t : Bool) → (((unless {A = Outcome × Bank} t refusal (done, bank_with (held_in bs))).0 ≡ K 7) ↔ (t ≡ false))
        × (t ≡ false → (unless {A = Outcome × Bank} t refusal (done, bank_with (held_in bs))).1 ≡ empty_bank)
    go true = ((λ e. absurd (never cc), λ f. absurd (false≢true (sym f))), λ f. absurd (false≢true (sym f)))
    go false = ((λ e. refl, λ f. refl), λ f. refl)

-- ---- a bank that is lent to grow in place
pub open_tells : (b : List ℕ) (k : Bank) → open_of b ≡ (done, k) → (length b ≡ room_length) × (read_of (front_of b) ≡ (done, k))
unfolding open_of
open_tells b k e = let t = go (eqb (length b) room_length) e in (eqb-true (length b) room_length t.0, t.1)
  where
    go : (t : Bool) → unless {A = Outcome × Bank} t refusal (read_of (front_of b)) ≡ (done, k) → (t ≡ true) × (read_of (front_of b) ≡ (done, k))
    go true f = (refl, f)
    go false f = absurd (not_done k f)

front_rest : (n : ℕ) (b : List ℕ) → take n b ++ drop (length (take n b)) b ≡ b
front_rest zero b = refl
front_rest (suc n) [] = refl
front_rest (suc n) (x ∷ b) = ap (λ (l : List ℕ). x ∷ l) (front_rest n b)

-- written back unchanged, it leaves every byte
pub open_left : (b : List ℕ) (k : Bank) → ((i : ℕ) → i < length b → get_or b i 0 < 256) → open_of b ≡ (done, k) → over (bank_form (batches_in k)) b ≡ b
unfolding over
open_left b k h e =
    let n : ℕ = number_of (take 2 (drop 1 b)) in
    ap (λ (x : List ℕ). x ++ drop (length x) b) (form_again (take n b) k (bytes_take n b (all_bytes_lem b h)) (open_tells b k e).1) ∙ front_rest n b

-- any valid bank is written, and read again
module _ (k : Bank) (v : valid k ≡ true) (b : List ℕ) (l : length b ≡ room_length) where
  abbrev form : List ℕ
  form = bank_form (batches_in k)

  form-fits : length form ≤ length b
  form-fits = omega (arith, form-length (batches_in k), count-few k v)

  over-field : number_of (take 2 (drop 1 (over form b))) ≡ length form
  unfolding over
  over-field = form-field (batches_in k) (count-few k v) (drop (length form) b)

  pub open_written : open_of (over form b) ≡ (done, bank_with (batches_in k))
  unfolding open_of
  open_written =
      let w : length (over form b) ≡ room_length = over-length form b form-fits ∙ l in
      simp (eq-eqb (length (over form b)) room_length w)
      (ap (λ (n : ℕ). read_of (take n (over form b))) over-field ∙ (ap read_of (over-take form b (length form) refl) ∙ read_written k v))

  pub grown : write_of k b ≡ (done, over form b)
  unfolding write_of
  grown = simp (v, le-leb (bank_length k.count) (length b) (omega (arith, (facts k v).few)))
