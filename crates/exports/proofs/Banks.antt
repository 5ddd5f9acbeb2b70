-- With a bank beside the record: one law for each return of the functions that take one. What was opened is valid, so that what a call leaves
-- is, and its forms take their places. Assumes nothing.
use Prim.Native.Nat.{ℕ, ◌+◌, ◌^◌, ◌<◌}
use mathlib.Core.Bool.{Bool, true, false}
use mathlib.Core.Path.{◌≡◌, refl, sym, ap, ◌∙◌}
use mathlib.Core.List.{List}
use mathlib.Core.Logic.{⊎_elim}
use native.Mathlib.Omega.{arith}
use lib.Dec.{eqb, leb}
use lib.ListN.{length}
use borrow.Author.Tests.{ne_eqb, eqb-true, eqb-false}
use Rattle.base.specs.Test.{pick, unless}
use Rattle.base.specs.Lists.{over}
use Rattle.base.proofs.Tests.{by_test, and_yes, and_left, and_right, never}
use Rattle.state.specs.declared.Record.{Record}
use Rattle.state.specs.Valid as state
use Rattle.std.specs.Prelude.{Result, Ok, Err}
use Rattle.std.specs.Result.{IsOk}
use Rattle.stored.specs.declared.WriteRefusal.{WriteRefusal}
use Rattle.stored.specs.Form.{written_as, stored_form, write_of}
use Rattle.bank.specs.declared.Bank.{Bank}
use Rattle.bank.specs.Bank.{batches_in, empty_bank}
use Rattle.bank.specs.Bank as bank
use Rattle.storedbank.specs.declared.Refused.{Refused}
use Rattle.storedbank.specs.declared.WriteRefusal as bankwritten
use Rattle.storedbank.specs.declared.WriteRefusal.TheVariants as written
use Rattle.storedbank.specs.StoredBank as storedbank
use Rattle.storedbank.specs.StoredBank.{bank_length, bank_form, room_length}
use Rattle.storedbank.proofs.RoundTrip.{read_valid, open_tells, grown}
use Rattle.frame.specs.declared.Kind.{Kind}
use Rattle.frame.specs.declared.UnknownKind.{UnknownKind}
use Rattle.frame.specs.declared.Silence.{Silence}
use Rattle.frame.specs.Numbers.{kind_numbered, silence_number}
use Rattle.frame.proofs.Laws.{silence_low}
use Rattle.controller.specs.Call.{OutcomeOf, outcome_as}
use Rattle.banked.specs.declared.Banked.{Banked}
use Rattle.banked.specs.Banked.{with, valid, banked_of}
use Rattle.banked.specs.Steps.{stored_between}
use Rattle.banked.proofs.Theorems.{Silenced, Answered, every_input}
use Rattle.banked.proofs.Unseen.{stays_valid}
use Rattle.several.specs.declared.Report.{Report}
use Rattle.several.specs.Several.{SeveralOn, several_held}
use Rattle.several.specs.Beside.{banked_several_of, several_of_banked}
use Rattle.several.specs.Answers as answers
use Rattle.several.proofs.Theorems.{banked_proved}
use Rattle.exports.specs.Bytes.{silence_answer, no_such, kind_of, Opened, open_of, SeveralLeft, several_numbers, several_as, reported_as, nothing_taken, bank_answer, open_banked, bank_left, saved_bank, banked_left, banked_bytes, banked_several_left, banked_several_bytes, bank_bytes}
use Rattle.exports.proofs.Steps.{kind_is, kind_none, opens, refuses, left_refused, left_opened, opened-valid, replaced, replaced_ok, reported_lem}

-- ---- what is opened
module _ (s b : List ℕ) (a : Result Record ℕ) (e : Opened a (open_of s)) where
  pub banked_none : (n : ℕ) → a ≡ Err n → Opened {S = Banked} (Err n) (open_banked s b)
  unfolding open_banked
  banked_none n z =
      let (m, h) = refuses (open_of s) a e n z in
      (simp (ne_eqb (open_of s).0 0 (λ y. h (sym m ∙ y))) m, h)

  module _ (r : Record) (z : a ≡ Ok r) (x : Result Bank Refused) (f : storedbank.reading_as x ≡ storedbank.open_of b) where
    by_bank : (y : Result Bank Refused) → x ≡ y → open_banked s b ≡ (bank_answer (storedbank.reading_as y).0, with r (storedbank.reading_as y).1)
    unfolding open_banked
    by_bank y g =
        let same : storedbank.open_of b ≡ storedbank.reading_as y = sym f ∙ ap storedbank.reading_as g in
        simp (opens (open_of s) a e r z, same)

    pub bank_none : (u : Refused) → x ≡ Err u → Opened {S = Banked} (Err 207) (open_banked s b)
    bank_none u g = (ap (λ (p : ℕ × Banked). p.0) (by_bank (Err u) g), λ h. omega arith)

    pub bank_whole : (k : Bank) → x ≡ Ok k → Opened (Ok (with r k)) (open_banked s b)
    bank_whole k g = by_bank (Ok k) g

pub ruleset banks_opening = (banked_none, bank_none, bank_whole)

-- what an answer of 0 tells
module _ (s b : List ℕ) (h : Banked) (e : open_banked s b ≡ (0, h)) where
  pub tells : (open_of s ≡ (0, h.state)) × (storedbank.open_of b ≡ (storedbank.done, h.bank))
  unfolding open_banked
  tells =
      go (open_of s) refl (storedbank.open_of b) refl (ap (λ (p : ℕ × Banked). p.1) e) (ap (λ (p : ℕ × Banked). p.0) e)
    where
      go : (x : ℕ × Record) → open_of s ≡ x → (y : storedbank.Outcome × Bank) → storedbank.open_of b ≡ y → with x.1 y.1 ≡ h
          → unless (eqb x.0 0) x.0 (bank_answer y.0) ≡ 0 → (open_of s ≡ (0, h.state)) × (storedbank.open_of b ≡ (storedbank.done, h.bank))
      go (n, r) p (storedbank.K m, k) q w z =
          by_test (eqb n 0) (λ t. let y : 200 + m ≡ 0 = simp t at z in absurd (omega arith)) (λ t. let y : n ≡ 0 = simp t at z in absurd (eqb-false n 0 t y))
      go (n, r) p (storedbank.done, k) q w z =
          by_test (eqb n 0)
          (λ t. (
            p ∙ (ap (λ (m : ℕ). (m, r)) (eqb-true n 0 t) ∙ ap (λ (y : Banked). (0, y.state)) w),
            q ∙ ap (λ (y : Banked). (storedbank.done, y.bank)) w,
          ))
          (λ t. let y : n ≡ 0 = simp t at z in absurd (eqb-false n 0 t y))

  pub held-valid : valid h ≡ true
  unfolding valid
  held-valid =
      let (of_record, of_bank) = tells in
      let (long, whole) = open_tells b h.bank of_bank in
      and_yes (state.valid h.state) (bank.valid h.bank) (opened-valid s h.state of_record)
      (ap (λ (p : storedbank.Outcome × Bank). bank.valid p.1) (sym whole) ∙ read_valid (storedbank.front_of b))

  pub room_there : length b ≡ room_length
  room_there = (open_tells b h.bank tells.1).0

  -- the forms of what is valid take their places
  pub record_replaced : (t : Record) (d : List ℕ) (w : Result (Unit {0}) WriteRefusal) → state.valid t ≡ true → (written_as w, d) ≡ write_of t s → d ≡ stored_form t
  record_replaced t d w v i = replaced s h.state tells.0 t d w v i

  pub bank_replaced : (k : Bank) → bank.valid k ≡ true → (storedbank.write_of k b).1 ≡ over (bank_form (batches_in k)) b
  bank_replaced k v = ap (λ (p : storedbank.Outcome × List ℕ). p.1) (grown k v b room_there)

-- ---- the bank in its place, if a batch was stored
module _ (r t : Record) (k : Bank) (b : List ℕ) (x : Bool) (e : x ≡ stored_between r t) where
  pub bank_saved : (w : Result (Unit {0}) bankwritten.WriteRefusal) (c : List ℕ) → x ≡ true → (storedbank.written_as w, c) ≡ storedbank.write_of k b → c ≡ saved_bank r t k b
  unfolding saved_bank
  bank_saved w c h i = ap (λ (p : storedbank.Outcome × List ℕ). p.1) i ∙ sym (simp (sym e ∙ h))

  pub bank_stays : x ≡ false → b ≡ saved_bank r t k b
  unfolding saved_bank
  bank_stays h = sym (simp (sym e ∙ h))

pub ruleset saving = (bank_saved, bank_stays)

-- ---- one call on what was opened
module _ (k : Kind) (h : Banked) (q o s b : List ℕ) (f : open_banked s b ≡ (0, h)) (a : Result ℕ Silence) (t : Banked) (p : List ℕ)
    (e : outcome_as a t p ≡ banked_of k h q o) where
  pub left_silent : (w : Silence) (x : ℕ) → a ≡ Err w → x ≡ silence_answer (silence_number w) → (x, (s, (b, p))) ≡ banked_left h (banked_of k h q o) s b o
  unfolding banked_left
  left_silent w x i j =
      let c : (banked_of k h q o).silence ≡ silence_number w = ap (λ (y : OutcomeOf Banked). y.silence) (sym e) ∙ ap (λ (y : Result ℕ Silence). (outcome_as y t p).silence) i in
      let z : (banked_of k h q o).silence ≡ 0 → ⊥ = λ y. omega (arith, silence_low w) in
      let same : p ≡ o =
      ap (λ (y : OutcomeOf Banked). y.buffer) e
      ∙ ⊎_elim (λ (y : Silenced k h q o). y.same-buffer) (λ (y : Answered k h q o). absurd (z y.heard)) (every_input k h q o) in
      ap (λ (y : ℕ). (y, (s, (b, p)))) j ∙ (ap (λ (y : List ℕ). (silence_answer (silence_number w), (s, (b, y)))) same
      ∙ (ap (λ (y : ℕ). (silence_answer y, (s, (b, o)))) (sym c) ∙ simp (ne_eqb _ _ z)))

  module _ (m : ℕ) (i : a ≡ Ok m) where
    heard : outcome_as (Ok m) t p ≡ banked_of k h q o
    heard = ap (λ (y : Result ℕ Silence). outcome_as y t p) (sym i) ∙ e

    pub reply_fits : m < 2 ^ 32
    reply_fits =
        let c : m ≡ (banked_of k h q o).reported = ap (λ (y : OutcomeOf Banked). y.reported) heard in
        ⊎_elim (λ (x : Silenced k h q o). omega (arith, x.nothing)) (λ (x : Answered k h q o). omega (arith, x.high)) (every_input k h q o)

    after_valid : valid t ≡ true
    after_valid =
        let room = ⊎_elim (λ (x : Silenced k h q o). absurd (let l = x.low in let z : 0 ≡ (banked_of k h q o).silence = ap (λ (y : OutcomeOf Banked). y.silence) heard in omega arith)) (λ (x : Answered k h q o). x.room) (every_input k h q o) in
        ap (λ (y : OutcomeOf Banked). valid y.after) heard ∙ stays_valid k h q o (held-valid s b h f) room

    pub reply_ok : (d : List ℕ) (w : Result (Unit {0}) WriteRefusal) → (written_as w, d) ≡ write_of t.state s → IsOk w
    unfolding valid
    reply_ok d w i = replaced_ok s h.state (tells s b h f).0 t.state d w (and_left (state.valid t.state) (bank.valid t.bank) after_valid) i

    pub left_reply : (d c : List ℕ) (w : Result (Unit {0}) WriteRefusal) → c ≡ saved_bank h.state t.state t.bank b → (written_as w, d) ≡ write_of t.state s
        → (m, (d, (c, p))) ≡ banked_left h (banked_of k h q o) s b o
    unfolding banked_left saved_bank valid
    left_reply d c w j l =
        let v = after_valid in
        let of_record : d ≡ stored_form t.state = record_replaced s b h f t.state d w (and_left (state.valid t.state) (bank.valid t.bank) v) l in
        let of_bank : c ≡ bank_left h t b =
        j ∙ ap (λ (y : List ℕ). pick (stored_between h.state t.state) y b) (bank_replaced s b h f t.bank (and_right (state.valid t.state) (bank.valid t.bank) v)) in
        ap (λ (y : List ℕ). (m, (y, (c, p)))) of_record ∙ (ap (λ (y : List ℕ). (m, (stored_form t.state, (y, p)))) of_bank
        ∙ ap (λ (y : OutcomeOf Banked). banked_left h y s b o) heard)

pub ruleset banked_calling = (left_silent, reply_fits, reply_ok, left_reply)

-- ---- `khuyapesh_banked_call`
module _ (n : ℕ) (s b q o : List ℕ) (i : Result Kind UnknownKind) (z : i ≡ kind_numbered n) where
  pub call_none : (u : UnknownKind) → i ≡ Err u → (no_such, (s, (b, o))) ≡ banked_bytes n s b q o
  unfolding banked_bytes
  call_none u h = simp (kind_none n i z u h)

  module _ (k : Kind) (g : i ≡ Ok k) (x : Result Banked ℕ) (e : Opened x (open_banked s b)) where
    pub call_refused : (m : ℕ) → x ≡ Err m → (m, (s, (b, o))) ≡ banked_bytes n s b q o
    unfolding banked_bytes
    call_refused m h =
        simp ((kind_is n i z k g).0)
        (left_refused (open_banked s b) x e (λ m. (m, (s, (b, o)))) (λ y. banked_left y (banked_of (kind_of n) y q o) s b o) m h)

    pub call_answered : (h : Banked) (y : ℕ × (List ℕ × (List ℕ × List ℕ))) → x ≡ Ok h → y ≡ banked_left h (banked_of k h q o) s b o → y ≡ banked_bytes n s b q o
    unfolding banked_bytes
    call_answered h y j f =
        let (known, same) = kind_is n i z k g in
        f ∙ (ap (λ (j : Kind). banked_left h (banked_of j h q o) s b o) same
        ∙ simp known (left_opened (open_banked s b) x e (λ m. (m, (s, (b, o)))) (λ z. banked_left z (banked_of (kind_of n) z q o) s b o) h j))

pub ruleset banked_serving = (call_none, call_refused, call_answered, opens)

-- ---- several frames on what was opened
module _ (h : Banked) (q o s b : List ℕ) (f : open_banked s b ≡ (0, h)) (a : Result Report Silence) (t : Banked) (p : List ℕ)
    (g : answers.several_as a t p ≡ several_held banked_of valid h q o) where
  e : answers.several_as a t p ≡ banked_several_of h q o
  e = g ∙ several_of_banked h q o

  pub never_silent : (w : Silence) (x : SeveralLeft × List ℕ) → a ≡ Err w → x ≡ banked_several_left (banked_several_of h q o) s b o
  never_silent w x i =
      let c : silence_number w ≡ (banked_several_of h q o).silence =
      ap (λ (y : Result Report Silence). (answers.several_as y t p).silence) (sym i) ∙ ap (λ (y : SeveralOn Banked). y.silence) e in
      absurd (omega (arith, silence_low w, banked_proved.several-heard h q o (held-valid s b h f)))

  module _ (r : Report) (i : a ≡ Ok r) where
    made : answers.several_as (Ok r) t p ≡ banked_several_of h q o
    made = ap (λ (y : Result Report Silence). answers.several_as y t p) (sym i) ∙ e

    made-valid : (state.valid t.state ≡ true) × (bank.valid t.bank ≡ true)
    unfolding valid
    made-valid =
        let good : valid t ≡ true = ap (λ (y : SeveralOn Banked). valid y.after) made ∙ banked_proved.several-valid h q o (held-valid s b h f) in
        (and_left (state.valid t.state) (bank.valid t.bank) good, and_right (state.valid t.state) (bank.valid t.bank) good)

    module _ (d : List ℕ) (w : Result (Unit {0}) WriteRefusal) (j : (written_as w, d) ≡ write_of t.state s) where
      pub served_ok : IsOk w
      served_ok = replaced_ok s h.state (tells s b h f).0 t.state d w made-valid.0 j

      module _ (c : List ℕ) (v : Result (Unit {0}) bankwritten.WriteRefusal) (l : (storedbank.written_as v, c) ≡ storedbank.write_of t.bank b) where
        pub bank_ok : IsOk v
        bank_ok = go v (ap (λ (y : storedbank.Outcome × List ℕ). y.0) (l ∙ grown t.bank made-valid.1 b (room_there s b h f)))
          where
            go : (v : Result (Unit {0}) bankwritten.WriteRefusal) → storedbank.written_as v ≡ storedbank.done → IsOk v
            go (Ok u) g = refl
            go (Err written.InvalidBank) g = absurd (never (cc))
            go (Err written.ShortBuffer) g = absurd (never (cc))

        pub left_served : (several_as (Ok r) d p, c) ≡ banked_several_left (banked_several_of h q o) s b o
        unfolding banked_several_left
        left_served =
            let of_record : d ≡ stored_form t.state = record_replaced s b h f t.state d w made-valid.0 j in
            let of_bank : c ≡ over (bank_form (batches_in t.bank)) b = ap (λ (y : storedbank.Outcome × List ℕ). y.1) l ∙ bank_replaced s b h f t.bank made-valid.1 in
            ap (λ (y : List ℕ). (several_numbers 0 r.taken r.answered r.written y p, c)) of_record
            ∙ (ap (λ (y : List ℕ). (several_numbers 0 r.taken r.answered r.written (stored_form t.state) p, y)) of_bank
            ∙ ap (λ (y : SeveralOn Banked). banked_several_left y s b o) made)

pub ruleset banked_hearing = (never_silent, served_ok, bank_ok, left_served)

-- ---- `khuyapesh_banked_several`
module _ (s b q o : List ℕ) (x : Result Banked ℕ) (e : Opened x (open_banked s b)) where
  pub several_refused : (n : ℕ) → x ≡ Err n → (several_as (Err n) s o, b) ≡ banked_several_bytes s b q o
  unfolding banked_several_bytes
  several_refused n h = left_refused (open_banked s b) x e (λ m. (nothing_taken m s o, b)) (λ z. banked_several_left (banked_several_of z q o) s b o) n h

  pub several_answered : (h : Banked) (y : SeveralLeft × List ℕ) → x ≡ Ok h → y ≡ banked_several_left (banked_several_of h q o) s b o → y ≡ banked_several_bytes s b q o
  unfolding banked_several_bytes
  several_answered h y j f =
      f ∙ left_opened (open_banked s b) x e (λ m. (nothing_taken m s o, b)) (λ z. banked_several_left (banked_several_of z q o) s b o) h j

pub ruleset banked_taking = (several_refused, several_answered, opens)

-- what is reported, handed out
pub banked_handed : (x : Result Report ℕ) (y : SeveralLeft × List ℕ) (n p u w : ℕ) (s o b : List ℕ) → (several_as x s o, b) ≡ y → reported_as x ≡ (n, (p, (u, w)))
    → (several_numbers n p u w s o, b) ≡ y
banked_handed x y n p u w s o b e f = ap (λ (z : SeveralLeft). (z, b)) (reported_lem x n p u w s o f) ∙ e

-- ---- `khuyapesh_bank`
module _ (b o d : List ℕ) (x : Result Bank Refused) (e : storedbank.reading_as x ≡ storedbank.read_of b) (k : Bank) (w : Result (Unit {0}) bankwritten.WriteRefusal)
    (f : (storedbank.written_as w, d) ≡ storedbank.write_of k o) where
  module _ (a : storedbank.Outcome) (g : (a, k) ≡ storedbank.read_of b) where
    good : bank.valid k ≡ true
    good = ap (λ (p : storedbank.Outcome × Bank). bank.valid p.1) g ∙ read_valid b

    written_by : (y : Bool) → leb (bank_length k.count) (length o) ≡ y
        → ◌≡◌ {A = storedbank.Outcome × List ℕ} (storedbank.written_as w, d) (unless y (storedbank.K 6, o) (storedbank.done, over (bank_form (batches_in k)) o))
    unfolding storedbank.write_of
    written_by y h = f ∙ simp (good, h)

    bytes_by : (y : Bool) → leb (bank_length k.count) (length o) ≡ y
        → ◌≡◌ {A = ℕ × List ℕ} (unless y (206, o) (bank_answer a, over (bank_form (batches_in k)) o)) (bank_bytes b o)
    unfolding bank_bytes
    bytes_by y h =
        ap (λ (z : Bool). unless z (206, o) (bank_answer a, over (bank_form (batches_in k)) o)) (sym h)
        ∙ ap (λ (p : storedbank.Outcome × Bank). unless (leb (bank_length p.1.count) (length o)) (206, o) (bank_answer p.0, over (bank_form (batches_in p.1)) o)) g

    told_by : (y : Bool) → leb (bank_length k.count) (length o) ≡ y → storedbank.written_as w ≡ unless y (storedbank.K 6) storedbank.done
    told_by true h = ap (λ (p : storedbank.Outcome × List ℕ). p.0) (written_by true h)
    told_by false h = ap (λ (p : storedbank.Outcome × List ℕ). p.0) (written_by false h)

    -- what is read is valid, so that only room can lack
    pub never_invalid : w ≡ Err written.InvalidBank → ⊥
    never_invalid z =
        by_test (leb (bank_length k.count) (length o))
        (λ h. let y : storedbank.K 5 ≡ storedbank.done = sym (ap storedbank.written_as z) ∙ told_by true h in never (cc))
        (λ h. let y : storedbank.K 5 ≡ storedbank.K 6 = sym (ap storedbank.written_as z) ∙ told_by false h in let i : ◌≡◌ {A = ℕ} 5 6 = cc in omega arith)

    no_room : (u : bankwritten.WriteRefusal) → w ≡ Err u → (206, d) ≡ bank_bytes b o
    no_room u z =
        by_test (leb (bank_length k.count) (length o)) (λ h. absurd (refused u z (told_by true h)))
        (λ h. ap (λ (p : storedbank.Outcome × List ℕ). (206, p.1)) (written_by false h) ∙ bytes_by false h)
      where
        refused : (u : bankwritten.WriteRefusal) → w ≡ Err u → storedbank.written_as w ≡ storedbank.done → ⊥
        refused written.InvalidBank z h = never_invalid z
        refused written.ShortBuffer z h = let y : storedbank.K 6 ≡ storedbank.done = sym (ap storedbank.written_as z) ∙ h in never (cc)

    copied : (u : Unit {0}) → w ≡ Ok u → (bank_answer a, d) ≡ bank_bytes b o
    copied u z =
        by_test (leb (bank_length k.count) (length o))
        (λ h. ap (λ (p : storedbank.Outcome × List ℕ). (bank_answer a, p.1)) (written_by true h) ∙ bytes_by true h)
        (λ h. absurd (let y : storedbank.done ≡ storedbank.K 6 = sym (ap storedbank.written_as z) ∙ ap (λ (p : storedbank.Outcome × List ℕ). p.0) (written_by false h) in never (cc)))

  -- what stands in the place of what was read, and the answer that goes with it
  module _ (r : Result Bank Refused) (n : ℕ) (held : r ≡ Ok k) where
    module _ (j : r ≡ x) where
      whole_so : (storedbank.done, k) ≡ storedbank.read_of b
      whole_so = sym (ap storedbank.reading_as held) ∙ (ap storedbank.reading_as j ∙ e)

      pub whole_short : (u : bankwritten.WriteRefusal) → w ≡ Err u → (206, d) ≡ bank_bytes b o
      whole_short u z = no_room storedbank.done whole_so u z

      pub whole_copied : n ≡ 0 → (u : Unit {0}) → w ≡ Ok u → (n, d) ≡ bank_bytes b o
      whole_copied l u z = ap (λ (m : ℕ). (m, d)) l ∙ copied storedbank.done whole_so u z

    -- the empty bank beside a refusal
    module _ (v : Refused) (i : x ≡ Err v) (y : Bank) (none : y ≡ empty_bank) (j : r ≡ Ok y) where
      refused_so : (storedbank.K 7, k) ≡ storedbank.read_of b
      refused_so =
          ap (λ (q : Result Bank Refused). (storedbank.K 7, (storedbank.reading_as q).1)) (sym held ∙ j)
          ∙ (ap (λ (q : Bank). (storedbank.K 7, q)) none ∙ (sym (ap storedbank.reading_as i) ∙ e))

      pub refused_short : (u : bankwritten.WriteRefusal) → w ≡ Err u → (206, d) ≡ bank_bytes b o
      refused_short u z = no_room (storedbank.K 7) refused_so u z

      pub refused_copied : n ≡ 207 → (u : Unit {0}) → w ≡ Ok u → (n, d) ≡ bank_bytes b o
      refused_copied l u z = ap (λ (m : ℕ). (m, d)) l ∙ copied (storedbank.K 7) refused_so u z

pub ruleset bank_copying = (whole_short, whole_copied, refused_short, refused_copied)
