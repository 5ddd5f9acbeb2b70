-- What storing does to the batches of a valid bank: the new one is the newest, each that stays is asked for by one more than before, and
-- the bank stays valid. By whether there is room. Assumes nothing.
use Prim.Native.Nat.{ℕ, ◌+◌, ◌-◌, ◌≤◌, ◌<◌}
use mathlib.Core.Bool.{true, false, ◌&&◌}
use mathlib.Core.Path.{◌≡◌, refl, sym, ap, subst, ◌∙◌}
use mathlib.Core.Logic.{⊎_elim}
use mathlib.Core.List.{List, [], ◌∷◌, ◌++◌}
use native.Mathlib.Numerals.{add-one}
use native.Mathlib.Omega.{arith}
use lib.Dec.{leb, ltb}
use lib.ListN.{length, get_or, set, take, drop, length-append, length-drop, length-set, get_or-append}
use lib.Seq.{length-take-le, take_all, take-suc-set, get_or-set_same, get_or-set_other, get_or-append_seam, get_or-drop}
use borrow.Author.Tests.{le-leb, lt-ltb, le-ltb, leb-true, eqb-true, eq-eqb}
use Rattle.base.specs.Test.{pick}
use Rattle.base.proofs.Tests.{and_yes, and_left, and_right, below_or_not, between_yes, between_no}
use Rattle.bank.specs.declared.Batch.{Batch}
use Rattle.bank.specs.declared.Bank.{Bank}
use Rattle.bank.specs.Bank.{most, batch_valid, all_valid, batches_in, full_length, valid, bank_of, keep_of, kept, no_batch, is_kept, batch_at}

-- ---- a valid bank
pub record Valid (k : Bank) : Type 0 where
  pub size : length k.batches ≡ most
  pub few : k.count ≤ most
  pub each : all_valid (batches_in k) ≡ true

pub valid_tell : (k : Bank) → valid k ≡ true → Valid k
unfolding valid
valid_tell k h =
    let right = and_right (full_length k) (leb k.count most && all_valid (batches_in k)) h in
    record {
      size = eqb-true (length k.batches) most (and_left (full_length k) (leb k.count most && all_valid (batches_in k)) h);
      few = leb-true k.count most (and_left (leb k.count most) (all_valid (batches_in k)) right);
      each = and_right (leb k.count most) (all_valid (batches_in k)) right;
    }

pub valid_made : (k : Bank) → Valid k → valid k ≡ true
unfolding valid
valid_made k v =
    and_yes (full_length k) (leb k.count most && all_valid (batches_in k)) (eq-eqb _ _ v.size)
    (and_yes (leb k.count most) (all_valid (batches_in k)) (le-leb _ _ v.few) v.each)

-- ---- lists of valid batches
all_append : (xs ys : List Batch) → all_valid xs ≡ true → all_valid ys ≡ true → all_valid (xs ++ ys) ≡ true
unfolding all_valid
all_append [] ys p q = q
all_append (x ∷ xs) ys p q =
    and_yes (batch_valid x) (all_valid (xs ++ ys)) (and_left (batch_valid x) (all_valid xs) p) (all_append xs ys (and_right (batch_valid x) (all_valid xs) p) q)

all_one : (b : Batch) → batch_valid b ≡ true → all_valid (b ∷ []) ≡ true
unfolding all_valid
all_one b h = and_yes (batch_valid b) true h refl

all_rest : (xs : List Batch) → all_valid xs ≡ true → all_valid (drop 1 xs) ≡ true
unfolding all_valid
all_rest [] h = refl
all_rest (x ∷ xs) h = and_right (batch_valid x) (all_valid xs) h

-- ---- storing
module _ (b : Batch) (k : Bank) (v : Valid k) where
  room : k.count < most → keep_of b k ≡ bank_of (k.count + 1) (set k.batches k.count b)
  unfolding keep_of
  room h = simp (lt-ltb _ _ h)

  full : most ≤ k.count → keep_of b k ≡ bank_of k.count (drop 1 k.batches ++ (b ∷ []))
  unfolding keep_of
  full h = simp (le-ltb _ _ h)

  room-batches : k.count < most → take (k.count + 1) (set k.batches k.count b) ≡ batches_in k ++ (b ∷ [])
  room-batches h = rw add-one (take-suc-set k.batches k.count b (let s = v.size in omega arith))

  new_length : length (drop 1 k.batches ++ (b ∷ [])) ≡ most
  new_length = length-append (drop 1 k.batches) (b ∷ []) ∙ (let s = v.size in let d : length (drop 1 k.batches) ≡ length k.batches - 1 = length-drop 1 k.batches in omega arith)

  full-batches : most ≤ k.count → take k.count (drop 1 k.batches ++ (b ∷ [])) ≡ drop 1 (batches_in k) ++ (b ∷ [])
  full-batches h =
      let all : batches_in k ≡ k.batches = take_all k.count k.batches (let s = v.size in omega arith) in
      take_all k.count _ (let n = new_length in omega arith) ∙ ap (λ (l : List Batch). drop 1 l ++ (b ∷ [])) (sym all)

  count_is : length (batches_in k) ≡ k.count
  count_is = length-take-le k.count k.batches (let s = v.size in let f = v.few in omega arith)

  -- what holds of the bank by whether there was room
  by_room : (P : Bank → Type 0) → (k.count < most → P (bank_of (k.count + 1) (set k.batches k.count b)))
      → (most ≤ k.count → P (bank_of k.count (drop 1 k.batches ++ (b ∷ [])))) → P (keep_of b k)
  by_room P f g =
      ⊎_elim (λ (h : k.count < most). subst P (sym (room h)) (f h))
      (λ (h : most ≤ k.count). subst P (sym (full h)) (g h)) (below_or_not k.count most)

  -- "up to 100, then the oldest gives its room to the new one", of the batches alone
  pub keep_batches : batches_in (keep_of b k) ≡ kept b (batches_in k)
  unfolding kept
  keep_batches =
      by_room (λ y. batches_in y ≡ kept b (batches_in k))
      (λ h. room-batches h ∙ sym (simp (lt-ltb (length (batches_in k)) most (let c = count_is in omega arith))))
      (λ h. full-batches h ∙ sym (simp (le-ltb (length (batches_in k)) most (let c = count_is in omega arith))))

  pub keep_valid : batch_valid b ≡ true → valid (keep_of b k) ≡ true
  keep_valid h =
      by_room (λ y. valid y ≡ true)
      (λ l. valid_made _ record {
        size = length-set k.batches k.count b ∙ v.size;
        few = omega arith;
        each = ap all_valid (room-batches l) ∙ all_append (batches_in k) (b ∷ []) v.each (all_one b h);
      })
      (λ l. valid_made _ record {
        size = new_length;
        few = v.few;
        each = ap all_valid (full-batches l) ∙ all_append (drop 1 (batches_in k)) (b ∷ []) (all_rest (batches_in k) v.each) (all_one b h);
      })

  -- ---- asking afterwards

  -- how many are kept then
  pub keep_count : (keep_of b k).count ≡ pick (ltb k.count most) (k.count + 1) most
  keep_count =
      by_room (λ y. y.count ≡ pick (ltb k.count most) (k.count + 1) most) (λ h. simp (lt-ltb _ _ h))
      (λ h. let l = v.few in simp (le-ltb k.count most h) (omega arith))

  -- "with 001 the newest": the one that was stored
  pub stored_newest : batch_at 1 (keep_of b k) ≡ b
  stored_newest =
      by_room (λ y. batch_at 1 y ≡ b)
      (λ h. let i : k.count + 1 - 1 ≡ k.count = omega arith in
      ap (λ (j : ℕ). get_or (set k.batches k.count b) j no_batch) i ∙ get_or-set_same k.batches k.count b no_batch (let s = v.size in omega arith))
      (λ e. let d : length (drop 1 k.batches) ≡ length k.batches - 1 = length-drop 1 k.batches in
      let i : k.count - 1 ≡ length (drop 1 k.batches) = let s = v.size in let l = v.few in omega arith in
      ap (λ (j : ℕ). get_or (drop 1 k.batches ++ (b ∷ [])) j no_batch) i ∙ get_or-append_seam (drop 1 k.batches) b [] no_batch)

  pub stored-first : is_kept 1 (keep_of b k) ≡ true
  stored-first =
      by_room (λ y. is_kept 1 y ≡ true) (λ h. between_yes 1 (k.count + 1) 1 (omega arith) (omega arith))
      (λ h. between_yes 1 k.count 1 (omega arith) (omega arith))

  module _ (n : ℕ) (low : 1 ≤ n) where
    -- each other is asked for by one more than before; the hundredth gave its room
    pub stored_older : n ≤ k.count → n < most → batch_at (n + 1) (keep_of b k) ≡ batch_at n k
    stored_older high few =
        by_room (λ y. batch_at (n + 1) y ≡ batch_at n k)
        (λ h. let i : k.count + 1 - (n + 1) ≡ k.count - n = omega arith in
        ap (λ (j : ℕ). get_or (set k.batches k.count b) j no_batch) i ∙ get_or-set_other k.batches k.count (k.count - n) b no_batch (λ z. omega arith))
        (λ e. let d : length (drop 1 k.batches) ≡ length k.batches - 1 = length-drop 1 k.batches in
        let i : k.count - (n + 1) < length (drop 1 k.batches) = let s = v.size in let l = v.few in omega arith in
        let j : 1 + (k.count - (n + 1)) ≡ k.count - n = omega arith in
        get_or-append (drop 1 k.batches) (b ∷ []) no_batch (k.count - (n + 1)) i
        ∙ (get_or-drop 1 k.batches (k.count - (n + 1)) no_batch ∙ ap (λ (m : ℕ). get_or k.batches m no_batch) j))

    -- and that is one of those that are kept exactly if it stayed
    pub stored_kept : n ≤ k.count → n < most → is_kept (n + 1) (keep_of b k) ≡ true
    stored_kept high few =
        by_room (λ y. is_kept (n + 1) y ≡ true) (λ h. between_yes 1 (k.count + 1) (n + 1) (omega arith) (omega arith))
        (λ e. between_yes 1 k.count (n + 1) (omega arith) (omega arith))

    pub stored_gone : (n ≤ k.count → n < most → ⊥) → is_kept (n + 1) (keep_of b k) ≡ false
    stored_gone gone =
        let few = v.few in
        by_room (λ y. is_kept (n + 1) y ≡ false) (λ h. between_no 1 (k.count + 1) (n + 1) (λ l m. gone (omega arith) (omega arith)))
        (λ e. between_no 1 k.count (n + 1) (λ l m. gone (omega arith) (omega arith)))
