-- Batches stored one behind the other, and what the returns of writing give. Assumes nothing.
use Prim.Native.Nat.{ℕ, ◌+◌, ◌-◌, ◌*◌, ◌/◌, ◌%◌, ◌≤◌, ◌<◌}
use mathlib.Core.Bool.{Bool, true, false, not}
use mathlib.Core.Path.{◌≡◌, refl, sym, ap, ◌∙◌}
use mathlib.Core.List.{List, [], ◌∷◌, ◌++◌, append_assoc, append-nil}
use native.Mathlib.Numerals.{add-one}
use native.Mathlib.Omega.{arith}
use lib.ListN.{length, get_or, take, drop, length-append}
use lib.Seq.{length-take-le, take-suc, drop-drop}
use borrow.Author.Tests.{le-leb, lt-leb, not-true, not-false}
use Rattle.std.specs.Int.{w16, w32, to_be_bytes}
use Rattle.base.specs.Lists.{over, over_at}
use Rattle.base.proofs.Lists.{over_at-none, over_at_start, over_at-length, over_at-append}
use Rattle.stored.specs.Form.{big_endian, pack}
use Rattle.stored.proofs.Bytes.{big_length}
use Rattle.stored.proofs.Packing.{pack-length}
use Rattle.bank.specs.declared.Batch.{Batch}
use Rattle.bank.specs.declared.Bank.{Bank}
use Rattle.bank.specs.Bank.{most, no_batch, batch_numbers, batches_in, valid}
use Rattle.bank.proofs.Theorems.{Valid, valid_tell}
use Rattle.storedbank.specs.StoredBank.{K, done, batch_widths, batch_width, header_width, bank_length, batch_bytes, all_bytes, header_bytes, bank_form, write_of}

-- ---- one batch
pub batch_put : (b : Batch) (at : ℕ) (o ys n f v p : List ℕ) → b.recipe < 256 → n ≡ to_be_bytes w16 b.number → f ≡ to_be_bytes w32 b.factor
    → v ≡ to_be_bytes w32 b.raw → p ≡ to_be_bytes w32 b.preset
    → ys ≡ get_or n 0 0 ∷ get_or n 1 0 ∷ b.recipe ∷ get_or f 2 0 ∷ get_or f 3 0 ∷ get_or v 0 0 ∷ get_or v 1 0 ∷ get_or v 2 0 ∷ get_or v 3 0
    ∷ get_or p 1 0 ∷ get_or p 2 0 ∷ get_or p 3 0 ∷ []
    → take at o ++ (ys ++ drop (at + batch_width - at) (drop at o)) ≡ over_at at (batch_bytes b) o
unfolding pack big_endian over_at
batch_put b at o ys n f v p h en ef ev ep e =
    let r : b.recipe % 256 ≡ b.recipe = omega arith in
    let two : (x : ℕ) → x / 65536 % 256 ≡ x / 256 / 256 % 256 = λ (x : ℕ). omega arith in
    let three : (x : ℕ) → x / 16777216 % 256 ≡ x / 256 / 256 / 256 % 256 = λ (x : ℕ). omega arith in
    let bytes : ys ≡ batch_bytes b = e ∙ simp (en, ef, ev, ep, two, three, r) in
    let behind : drop (at + batch_width - at) (drop at o) ≡ drop (at + batch_width) o =
    let i : at + batch_width - at ≡ batch_width = omega arith in ap (λ (k : ℕ). drop k (drop at o)) i ∙ drop-drop batch_width at o in
    ap (λ (x : List ℕ). take at o ++ (x ++ drop (at + batch_width - at) (drop at o))) bytes
    ∙ ap (λ (x : List ℕ). take at o ++ (batch_bytes b ++ x)) behind

-- ---- several batches
pub batch_length : (b : Batch) → length (batch_bytes b) ≡ batch_width
batch_length b = pack-length batch_widths (batch_numbers b) refl

pub bytes-length : (bs : List Batch) → length (all_bytes bs) ≡ batch_width * length bs
unfolding all_bytes
bytes-length [] = refl
bytes-length (b ∷ bs) = length-append (batch_bytes b) (all_bytes bs) ∙ omega (arith, batch_length b, bytes-length bs)

bytes-last : (bs : List Batch) (b : Batch) → all_bytes (bs ++ (b ∷ [])) ≡ all_bytes bs ++ batch_bytes b
unfolding all_bytes
bytes-last [] b = append-nil (batch_bytes b)
bytes-last (x ∷ bs) b = ap (λ (l : List ℕ). batch_bytes x ++ l) (bytes-last bs b) ∙ sym (append_assoc (batch_bytes x) (all_bytes bs) (batch_bytes b))

-- the first i batches are stored
abbrev pub Laid : Bank → ℕ → List ℕ → List ℕ → Type 0
Laid k i o z = z ≡ over_at header_width (all_bytes (take i k.batches)) o

pub laid_none : (k : Bank) (o : List ℕ) → Laid k 0 o o
unfolding all_bytes over_at
laid_none k o = sym (over_at-none header_width o)

module _ (k : Bank) (i : ℕ) (o y z : List ℕ) (full : length k.batches ≡ most) (few : k.count ≤ most) (room : bank_length k.count ≤ length o) (left : i < k.count) where
  pub laid_more : Laid k i o y → z ≡ over_at (header_width + batch_width * i) (batch_bytes (get_or k.batches i no_batch)) y → Laid k (i + 1) o z
  laid_more e w =
      let b : Batch = get_or k.batches i no_batch in
      let bs : List Batch = take i k.batches in
      let l : length (all_bytes bs) ≡ batch_width * i = bytes-length bs ∙ ap (λ (n : ℕ). batch_width * n) (length-take-le i k.batches (omega arith)) in
      let t : take (i + 1) k.batches ≡ bs ++ (b ∷ []) = rw add-one (take-suc k.batches i no_batch (omega arith)) in
      w ∙ (ap (over_at (header_width + batch_width * i) (batch_bytes b)) e ∙
      (ap (λ (n : ℕ). over_at (header_width + n) (batch_bytes b) (over_at header_width (all_bytes bs) o)) (sym l) ∙
      (sym (over_at-append header_width (all_bytes bs) (batch_bytes b) o) ∙ ap (λ (x : List ℕ). over_at header_width x o) (sym (ap all_bytes t ∙ bytes-last bs b)))))

  pub laid_length : length y ≡ length o → z ≡ over_at (header_width + batch_width * i) (batch_bytes (get_or k.batches i no_batch)) y → length z ≡ length o
  laid_length e w =
      let b : Batch = get_or k.batches i no_batch in
      ap length w ∙ (over_at-length (header_width + batch_width * i) (batch_bytes b) y (omega (arith, batch_length b)) ∙ e)

pub laid_all : (k : Bank) (i : ℕ) (o z : List ℕ) → i ≤ k.count → k.count ≤ i → Laid k i o z → z ≡ over_at header_width (all_bytes (batches_in k)) o
laid_all k i o z h l e = let n : i ≡ k.count = omega arith in e ∙ ap (λ (j : ℕ). over_at header_width (all_bytes (take j k.batches)) o) n

-- ---- the whole
pub header_length : (n : ℕ) → length (header_bytes n) ≡ header_width
unfolding header_bytes
header_length n = omega (arith, big_length 2 (bank_length n))

pub form-length : (bs : List Batch) → length (bank_form bs) ≡ bank_length (length bs)
unfolding bank_form
form-length bs = length-append (header_bytes (length bs)) (all_bytes bs) ∙ omega (arith, header_length (length bs), bytes-length bs)

pub count-length : (k : Bank) → Valid k → length (batches_in k) ≡ k.count
count-length k v = length-take-le k.count k.batches (omega (arith, v.size, v.few))

module _ (k : Bank) (b : Bool) (v : b ≡ valid k) where
  pub write_invalid : (o : List ℕ) → not b ≡ true → (K 5, o) ≡ write_of k o
  unfolding write_of
  write_invalid o n = simp (sym v ∙ not-true b n)

  module _ (n : not b ≡ false) where
    facts : Valid k
    facts = valid_tell k (sym v ∙ not-false b n)

    pub few_kept : k.count ≤ most
    few_kept = facts.few

    pub write_short : (o : List ℕ) → length o < bank_length k.count → (K 6, o) ≡ write_of k o
    unfolding write_of
    write_short o h = simp (sym v ∙ not-false b n, lt-leb _ _ h)

    pub write_whole : (o y z : List ℕ) → bank_length k.count ≤ length o → y ≡ over_at 0 (header_bytes k.count) o
        → z ≡ over_at header_width (all_bytes (batches_in k)) y → (done, z) ≡ write_of k o
    unfolding write_of bank_form
    write_whole o y z h ey ez =
        let c : k.count ≡ length (batches_in k) = sym (count-length k facts) in
        let f : List ℕ = header_bytes k.count in
        let g : List ℕ = all_bytes (batches_in k) in
        let place : header_width ≡ 0 + length f = omega (arith, header_length k.count) in
        let whole : f ++ g ≡ bank_form (batches_in k) = ap (λ (m : ℕ). header_bytes m ++ g) c in
        let w : z ≡ over (bank_form (batches_in k)) o =
        ez ∙ (ap (over_at header_width g) ey ∙
        (ap (λ (m : ℕ). over_at m g (over_at 0 f o)) place ∙
        (sym (over_at-append 0 f g o) ∙ (over_at_start (f ++ g) o ∙ ap (λ (x : List ℕ). over x o) whole)))) in
        ap (λ (x : List ℕ). (done, x)) w ∙ simp (sym v ∙ not-false b n, le-leb _ _ h)

pub ruleset writing = (few_kept, write_invalid, write_short, write_whole)
