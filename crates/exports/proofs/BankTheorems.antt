-- What a caller who lends a bank can rely on, for any numbers, bytes and lengths: which numbers are answered, what a refusal or a silence
-- leaves, and that the stored record and the bank read back as what is held after. Assumes nothing.
use Prim.Native.Nat.{ℕ, ◌≤◌, ◌<◌}
use mathlib.Core.Bool.{true}
use mathlib.Core.Path.{◌≡◌, refl, sym, ap, subst, ◌∙◌}
use mathlib.Core.List.{List}
use mathlib.Core.Logic.{◌⊎◌, inl, inr, ⊎_elim}
use native.Mathlib.Omega.{arith}
use lib.Dec.{eqb}
use lib.ListN.{length}
use borrow.Author.Tests.{eq-eqb}
use Rattle.base.specs.Lists.{over}
use Rattle.base.proofs.FirstFailing.{not_both}
use Rattle.base.proofs.Tests.{by_test, and_left, and_right}
use Rattle.state.specs.Valid as state
use Rattle.stored.specs.Form as stored
use Rattle.stored.specs.Form.{done, stored_form}
use Rattle.stored.proofs.RoundTrip.{form_read}
use Rattle.bank.specs.declared.Bank.{Bank}
use Rattle.bank.specs.Bank.{batches_in}
use Rattle.bank.specs.Bank as bank
use Rattle.storedbank.specs.StoredBank as storedbank
use Rattle.storedbank.specs.StoredBank.{bank_form, bank_with, room_length, front_of, well_formed, held_in}
use Rattle.storedbank.proofs.RoundTrip.{with_batches, open_written}
use Rattle.controller.specs.Call.{OutcomeOf}
use Rattle.banked.specs.declared.Banked.{Banked}
use Rattle.banked.specs.Banked.{valid, banked_of}
use Rattle.banked.specs.Steps.{stored_between}
use Rattle.banked.proofs.Theorems.{Answered, every_input}
use Rattle.banked.proofs.Unseen.{stays_valid}
use Rattle.banked.proofs.Left.{unstored}
use Rattle.banked.proofs.Exactly.{silence_exactly}
use Rattle.several.specs.Several.{SeveralOn}
use Rattle.several.specs.Beside.{banked_several_of}
use Rattle.several.proofs.Theorems.{banked_proved}
use Rattle.exports.specs.Bytes.{kind_of, open_of, SeveralLeft, several_numbers, nothing_taken, bank_answer, open_banked, bank_left, banked_left, banked_bytes, banked_several_left, banked_several_bytes}
use Rattle.exports.proofs.InPlace.{either, Within, open_cases, answers, replies}
use Rattle.exports.proofs.Theorems.{StoredAnswer, stored_high, record_number}
use Rattle.exports.proofs.Banks.{tells, held-valid, room_there}

-- 201 to 204 or 206 for the record, or 207 for the bank
abbrev pub BankedAnswer : ℕ → Type 0
BankedAnswer n = StoredAnswer n ⊎ (n ≡ 207)

-- a buffer starts with a stored bank of the batches that k keeps
abbrev pub Stands : List ℕ → Bank → Type 0
Stands b k = ((storedbank.open_of b).0 ≡ storedbank.done) × (batches_in (storedbank.open_of b).1 ≡ batches_in k)

pub banked_high : (n : ℕ) → BankedAnswer n → 100 ≤ n
banked_high n (inl w) = stored_high n w
banked_high n (inr e) = omega arith

pub banked_below : (n : ℕ) → BankedAnswer n → n ≤ 207
banked_below n (inl (inl w)) = omega arith
banked_below n (inl (inr e)) = omega arith
banked_below n (inr e) = omega arith

-- ---- a record and a bank that are lent to be written in their places, whatever is done with them
module _ (s b : List ℕ) where
  bank_number : (bank_answer (storedbank.open_of b).0 ≡ 0) ⊎ BankedAnswer (bank_answer (storedbank.open_of b).0)
  unfolding storedbank.open_of storedbank.read_of
  bank_number =
      let P : storedbank.Outcome × Bank → Type 0 = λ p. (bank_answer p.0 ≡ 0) ⊎ BankedAnswer (bank_answer p.0) in
      either P (eqb (length b) room_length) storedbank.refusal (storedbank.read_of (front_of b)) (inr (inr refl))
      (either P (well_formed (front_of b)) storedbank.refusal (storedbank.done, bank_with (held_in (front_of b))) (inr (inr refl)) (inl refl))

  pub banked_number : ((open_banked s b).0 ≡ 0) ⊎ BankedAnswer (open_banked s b).0
  unfolding open_banked
  banked_number =
      either (λ (n : ℕ). (n ≡ 0) ⊎ BankedAnswer n) (eqb (open_of s).0 0) (open_of s).0 (bank_answer (storedbank.open_of b).0)
      (⊎_elim (λ (e : (open_of s).0 ≡ 0). inl e) (λ (w : StoredAnswer (open_of s).0). inr (inl w)) (record_number s)) bank_number

  -- a bank that is valid stands in the buffer then
  stands : (h : Banked) → open_banked s b ≡ (0, h) → (k : Bank) → bank.valid k ≡ true → Stands (over (bank_form (batches_in k)) b) k
  stands h e k v =
      let w = open_written k v b (room_there s b h e) in
      (ap (λ (p : storedbank.Outcome × Bank). p.0) w, ap (λ (p : storedbank.Outcome × Bank). batches_in p.1) w ∙ with_batches (batches_in k))

-- ---- `khuyapesh_banked_call`
module _ (kind : ℕ) (s b q o : List ℕ) where
  abbrev called : Banked → OutcomeOf Banked
  called h = banked_of (kind_of kind) h q o

  abbrev left_by : Banked → List ℕ × (List ℕ × List ℕ)
  left_by h = (stored_form (called h).after.state, (bank_left h (called h).after b, (called h).buffer))

  never_silent : (h : Banked) → open_banked s b ≡ (0, h) → (called h).silence ≡ 1 → ⊥
  never_silent h e y = not_both (valid h) (held-valid s b h e) ((silence_exactly (kind_of kind) h q o 0).0 y).fails

  -- "the reply's length", "or no such kind, then K1 to K4 or K6 .., then K7 for the bank, .. then S2 to S8"; "a refusal or silence leaves every
  -- lent byte as it was", the bank's with them
  call_answers : (Within 7 64 (banked_bytes kind s b q o).0 ⊎ (Within 102 108 (banked_bytes kind s b q o).0 ⊎ (BankedAnswer (banked_bytes kind s b q o).0 ⊎ ((banked_bytes kind s b q o).0 ≡ 300)))) × (100 ≤ (banked_bytes kind s b q o).0 → (banked_bytes kind s b q o).1 ≡ (s, (b, o)))
  unfolding banked_bytes banked_left
  call_answers =
      answers (open_banked s b) BankedAnswer (banked_number s b) kind (s, (b, o)) called left_by o
      (λ h. Answered (kind_of kind) h q o) (λ h. every_input (kind_of kind) h q o) (λ h x. (x.heard, (x.low, x.high))) never_silent

  pub call-numbers : Within 7 64 (banked_bytes kind s b q o).0 ⊎ (Within 102 108 (banked_bytes kind s b q o).0 ⊎ (BankedAnswer (banked_bytes kind s b q o).0 ⊎ ((banked_bytes kind s b q o).0 ≡ 300)))
  call-numbers = call_answers.0

  pub call_keeps : 100 ≤ (banked_bytes kind s b q o).0 → (banked_bytes kind s b q o).1 ≡ (s, (b, o))
  call_keeps = call_answers.1

  -- "the record and the bank after it in their places": it is what the bytes then read as
  abbrev pub AfterStands : List ℕ × (List ℕ × List ℕ) → Banked → Type 0
  AfterStands p h = (stored.read_of p.0 ≡ (done, (called h).after.state)) × Stands p.1.0 (called h).after.bank

  after_stands : (h : Banked) → open_banked s b ≡ (0, h) → Answered (kind_of kind) h q o → AfterStands (left_by h) h
  unfolding valid
  after_stands h e x =
      let c : Banked = (called h).after in
      let v : valid c ≡ true = stays_valid (kind_of kind) h q o (held-valid s b h e) x.room in (
        form_read c.state (and_left (state.valid c.state) (bank.valid c.bank) v),
        by_test (stored_between h.state c.state)
            (λ t. simp t (stands s b h e c.bank (and_right (state.valid c.state) (bank.valid c.bank) v)))
            (λ t. simp t (subst (Stands b) (sym (unstored (kind_of kind) h q o t))
            (let w = (tells s b h e).1 in (ap (λ (p : storedbank.Outcome × Bank). p.0) w, ap (λ (p : storedbank.Outcome × Bank). batches_in p.1) w)))),
      )

  pub call_stores : (banked_bytes kind s b q o).0 < 100 → AfterStands (banked_bytes kind s b q o).1 (open_banked s b).1
  unfolding banked_bytes banked_left
  call_stores =
      replies (open_banked s b) BankedAnswer (banked_number s b) kind (s, (b, o)) called left_by o
      (λ h. Answered (kind_of kind) h q o) (λ h. every_input (kind_of kind) h q o) (λ h x. (x.heard, (x.low, x.high))) never_silent
      AfterStands banked_high after_stands

-- ---- `khuyapesh_banked_several`
module _ (s b q o : List ℕ) where
  abbrev served : Banked → SeveralOn Banked
  served h = banked_several_of h q o

  abbrev served_left : Banked → SeveralLeft × List ℕ
  served_left h =
      (several_numbers 0 (served h).taken (served h).answered (served h).written (stored_form (served h).after.state) (served h).buffer, over (bank_form (batches_in (served h).after.bank)) b)

  several_cases : (P : SeveralLeft × List ℕ → Type 0) → ((n : ℕ) → BankedAnswer n → P (nothing_taken n s o, b))
      → ((h : Banked) → open_banked s b ≡ (0, h) → P (served_left h)) → P (banked_several_bytes s b q o)
  unfolding banked_several_bytes banked_several_left
  several_cases P refused answered =
      open_cases (open_banked s b) BankedAnswer (banked_number s b) (λ n. (nothing_taken n s o, b)) (λ h. banked_several_left (served h) s b o) P refused
      (λ h e. simp (eq-eqb (served h).silence 0 (banked_proved.several-heard h q o (held-valid s b h e))) (answered h e))

  pub several_numbers_lem : ((banked_several_bytes s b q o).0.answer ≡ 0) ⊎ BankedAnswer (banked_several_bytes s b q o).0.answer
  several_numbers_lem = several_cases (λ (p : SeveralLeft × List ℕ). (p.0.answer ≡ 0) ⊎ BankedAnswer p.0.answer) (λ n w. inr w) (λ h e. inl refl)

  -- "with 0 in all three numbers", and nothing else is changed
  pub several_keeps : ((banked_several_bytes s b q o).0.answer ≡ 0 → ⊥) → banked_several_bytes s b q o ≡ (nothing_taken (banked_several_bytes s b q o).0.answer s o, b)
  several_keeps =
      several_cases (λ (p : SeveralLeft × List ℕ). (p.0.answer ≡ 0 → ⊥) → p ≡ (nothing_taken p.0.answer s o, b)) (λ n w z. refl) (λ h e z. absurd (z refl))

  -- "with the bank after them in its place"
  abbrev pub ServedStands : SeveralLeft × List ℕ → Banked → Type 0
  ServedStands p h = (stored.read_of p.0.stored ≡ (done, (served h).after.state)) × Stands p.1 (served h).after.bank

  served_stands : (h : Banked) → open_banked s b ≡ (0, h) → ServedStands (served_left h) h
  unfolding valid
  served_stands h e =
      let c : Banked = (served h).after in
      let v : valid c ≡ true = banked_proved.several-valid h q o (held-valid s b h e) in (
        form_read c.state (and_left (state.valid c.state) (bank.valid c.bank) v),
        stands s b h e c.bank (and_right (state.valid c.state) (bank.valid c.bank) v),
      )

  pub several_stores : (banked_several_bytes s b q o).0.answer ≡ 0 → ServedStands (banked_several_bytes s b q o) (open_banked s b).1
  several_stores =
      several_cases (λ (p : SeveralLeft × List ℕ). p.0.answer ≡ 0 → ServedStands p (open_banked s b).1) (λ n w z. absurd (omega (arith, banked_high n w)))
      (λ h e z. subst (ServedStands (served_left h)) (ap (λ (p : ℕ × Banked). p.1) (sym e)) (served_stands h e))
