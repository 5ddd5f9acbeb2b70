-- What is proved of every call on Modbus, for any record, request bytes and reply buffer. Assumes nothing.
use Prim.Native.Nat.{ℕ, ◌+◌, ◌≤◌, ◌<◌}
use mathlib.Core.Bool.{Bool, true, false}
use mathlib.Core.Path.{◌≡◌, refl, sym, ap, ◌∙◌}
use mathlib.Core.List.{List, [], ◌∷◌}
use mathlib.Core.Logic.{◌↔◌, ◌⊎◌, inl, inr}
use native.Mathlib.Omega.{arith}
use lib.Dec.{eqb, leb}
use lib.ListN.{length, drop, get_or, get_or-append}
use lib.Seq.{get_or-take, length-take-le}
use borrow.Author.Tests.{le-leb, ne_eqb}
use Rattle.base.specs.Test.{pick, unless, between}
use Rattle.base.proofs.FirstFailing.{FirstFailing, NoneFails, failing, not_both}
use Rattle.base.proofs.Lists.{over-take, over-rest}
use Rattle.base.proofs.Tests.{by_test, between_low, and_yes, and_no, and_left, and_right}
use Rattle.state.specs.declared.Record.{Record}
use Rattle.state.specs.Event.{flag_after}
use Rattle.state.specs.Parameter.{parameter_count, range_at}
use Rattle.state.specs.Field.{Field, address, changed, value, get, position, scalar_fields}
use Rattle.state.specs.Valid.{within, valid}
use Rattle.state.proofs.Fields.{pick_same}
use Rattle.state.proofs.Validity.{all_at, valid_tell}
use Rattle.bank.specs.Bank as bank
use Rattle.command.specs.Commands.{acknowledged, applied}
use Rattle.command.specs.Request.{Answered, no, shows}
use Rattle.command.proofs.Tables.{number_after}
use Rattle.controller.specs.Call.{Outcome, reply_in, silent}
use Rattle.controller.proofs.Theorems.{SilentOutcome}
use Rattle.controller.proofs.Exactly.{number_exactly, zero_exactly}
use Rattle.controller.proofs.ReadBack.{held_there, held_elsewhere}
use Rattle.banked.specs.declared.Banked.{Banked}
use Rattle.banked.specs.Banked as banked
use Rattle.banked.specs.Banked.{with, beside}
use Rattle.crc.specs.Crc.{crc_bytes, sealed, crc_right}
use Rattle.crc.proofs.Sealed.{sealed-length, sealed_right}
use Rattle.modbus.specs.Request.{Asked, M, exception, reads, writes, slave_in, function_in, read_whole, write_whole, asked_read, asked_write, asked_function, asked_frame, asked_of}
use Rattle.modbus.specs.Reply.{refusal, shown, echoed, write_body}
use Rattle.modbus.specs.Call.{replied, as_pc, written_of, answered_as, served_by, modbus_of, banked_modbus_of}
use Rattle.modbus.proofs.Laying.{registers-length}
use Rattle.modbus.proofs.Fits.{Fits, asked-fits}
use Rattle.modbus.proofs.ByPC.{writing, PC_cases, PC-valid, PC_left, PC-leaves}

-- ---- every input gets a reply or exactly one named silence, which leaves record and buffer as they were

-- a reply: 5 to 255 bytes with a right check over the start of the buffer, the rest of which stays
pub record ReplyOutcome (c : Outcome) (good : Bool) (o : List ℕ) : Type 0 where
  pub heard : c.silence ≡ 0
  pub low : 5 ≤ c.reported
  pub high : c.reported ≤ 255
  pub check : crc_right (reply_in c) ≡ true
  pub rest : drop c.reported c.buffer ≡ drop c.reported o
  pub valid_record : good ≡ true
  pub room : 256 ≤ length o

module _ (good : Bool) (r : Record) (q o : List ℕ) where
  reply_of : (b : List ℕ) (s : Record) → 3 ≤ length b → length b ≤ 253 → good ≡ true → 256 ≤ length o → ReplyOutcome (replied b s o) good o
  reply_of b s l h v room =
      record {
        heard = refl;
        low = omega (arith, sealed-length b);
        high = omega (arith, sealed-length b);
        check = ap crc_right (over-take (sealed b) o (length (sealed b)) refl) ∙ sealed_right b;
        rest = over-rest (sealed b) o (length (sealed b)) refl;
        valid_record = v;
        room = room;
      }

  write_body_lem : (a : Answered) → 9 ≤ length q → (3 ≤ length (write_body a q)) × (length (write_body a q) ≤ 253)
  write_body_lem (no n) h = omega arith
  write_body_lem (shows s) h = omega (arith, length-take-le 6 q (omega arith))

  pub every_input : SilentOutcome (served_by good r q o) r o ⊎ ReplyOutcome (served_by good r q o) good o
  unfolding served_by written_of
  every_input = go (asked_of good (get address r) q (length o)) (asked-fits good q (length o) (get address r))
    where
      go : (y : Asked) → Fits good q (length o) y → SilentOutcome (answered_as y r q o) r o ⊎ ReplyOutcome (answered_as y r q o) good o
      go (M n) f = inl record { low = f.0; high = f.1; nothing = refl; same_record = refl; same-buffer = refl }
      go (exception n) f = inr (reply_of (refusal n q) r (omega arith) (omega arith) f.held f.enough)
      go (reads s n) f =
          let m = registers-length r.values s n in
          inr (reply_of (shown r.values s n q) r (omega arith) (let k = f.few in omega arith) f.answered.held f.answered.enough)
      go (writes i v) f =
          let w = write_body_lem (as_pc i v r).0 f.nine in
          inr (reply_of (write_body (as_pc i v r).0 q) (as_pc i v r).1 w.0 w.1 f.answered.held f.answered.enough)

  -- ---- silence Mn if and only if test n is the first that fails, in L9's order
  abbrev pub tests : List Bool
  tests =
      good ∷ leb 256 (length o) ∷ between 4 256 (length q) ∷ crc_right q ∷ eqb (slave_in q) (get address r) ∷ leb (function_in q) 127 ∷ read_whole q
      ∷ write_whole q ∷ []

  -- the number of a silence, by what is asked for; nothing else has one
  abbrev silence_of : Asked → ℕ
  silence_of y = (answered_as y r q o).silence

  silence-unless : (b : Bool) (x y : Asked) → silence_of (unless b x y) ≡ unless b (silence_of x) (silence_of y)
  silence-unless true x y = refl
  silence-unless false x y = refl

  silence-pick : (b : Bool) (x y : Asked) → silence_of (pick b x y) ≡ pick b (silence_of x) (silence_of y)
  silence-pick true x y = refl
  silence-pick false x y = refl

  none_left : (b : Bool) (n : ℕ) → unless b n n ≡ n
  none_left true n = refl
  none_left false n = refl

  unnumbered : silence_of (asked_function q) ≡ 0
  unfolding asked_read asked_write written_of
  unnumbered = simp (silence-unless, silence-pick, none_left, pick_same)

  silence_failing : (served_by good r q o).silence ≡ failing 1 tests
  unfolding served_by asked_of asked_frame
  silence_failing = simp (silence-unless, unnumbered)

  pub silence_exactly : (i : ℕ) → (served_by good r q o).silence ≡ i + 1 ↔ FirstFailing tests i
  silence_exactly = number_exactly tests (served_by good r q o).silence silence_failing

  pub heard_exactly : (served_by good r q o).silence ≡ 0 ↔ NoneFails tests
  heard_exactly = zero_exactly tests (served_by good r q o).silence silence_failing

  -- ---- a valid record stays valid
  pub served_valid : valid r ≡ true → valid (served_by good r q o).after ≡ true
  unfolding served_by written_of
  served_valid h = go (asked_of good (get address r) q (length o)) (asked-fits good q (length o) (get address r))
    where
      go : (y : Asked) → Fits good q (length o) y → valid (answered_as y r q o).after ≡ true
      go (M n) f = h
      go (exception n) f = h
      go (reads s n) f = h
      go (writes i v) f = PC-valid i v r f.listed h

  -- ---- the record is as it was, or it is as an accepted PC leaves it
  pub record Wrote : Type 0 where
    pub place : ℕ
    pub new : ℕ
    pub listed : place < parameter_count
    pub asked : asked_of good (get address r) q (length o) ≡ writes place new
    pub accepted : (as_pc place new r).0 ≡ shows acknowledged
    pub left : (served_by good r q o).after ≡ applied (writing place new) r

  after_is : (y : Asked) → asked_of good (get address r) q (length o) ≡ y → (served_by good r q o).after ≡ (answered_as y r q o).after
  unfolding served_by
  after_is y e = ap (λ (u : Asked). (answered_as u r q o).after) e

  written_is : (i v : ℕ) → (answered_as (writes i v) r q o).after ≡ (as_pc i v r).1
  unfolding written_of
  written_is i v = refl

  wrote_by : (i v : ℕ) → asked_of good (get address r) q (length o) ≡ writes i v → i < parameter_count → as_pc i v r ≡ (shows acknowledged, applied (writing i v) r) → Wrote
  wrote_by i v e l z =
      record {
        place = i;
        new = v;
        listed = l;
        asked = e;
        accepted = ap (λ (p : Answered × Record). p.0) z;
        left = after_is (writes i v) e ∙ (written_is i v ∙ ap (λ (p : Answered × Record). p.1) z);
      }

  pub kept_or_wrote : (served_by good r q o).after ≡ r ⊎ Wrote
  kept_or_wrote = go (asked_of good (get address r) q (length o)) refl (asked-fits good q (length o) (get address r))
    where
      kept : (i v : ℕ) → asked_of good (get address r) q (length o) ≡ writes i v → {b : Bool} {a : Answered} → within (range_at i) v ≡ b → as_pc i v r ≡ (a, r)
          → (served_by good r q o).after ≡ r ⊎ Wrote
      kept i v e w z = inl (after_is (writes i v) e ∙ (written_is i v ∙ ap (λ (p : Answered × Record). p.1) z))

      go : (y : Asked) → asked_of good (get address r) q (length o) ≡ y → Fits good q (length o) y → (served_by good r q o).after ≡ r ⊎ Wrote
      go (M n) e f = inl (after_is (M n) e)
      go (exception n) e f = inl (after_is (exception n) e)
      go (reads s n) e f = inl (after_is (reads s n) e)
      go (writes i v) e f =
          PC_cases i v r f.listed (λ (p : Answered × Record). as_pc i v r ≡ p → (served_by good r q o).after ≡ r ⊎ Wrote)
          (kept i v e) (kept i v e) (kept i v e) (kept i v e) (λ w z. inr (wrote_by i v e f.listed z)) refl

  -- ---- a reply's second byte tells which: an exception (128 and more) has kept the record, and 16 has written
  second : (b : List ℕ) (s : Record) → 2 ≤ length b → get_or (reply_in (replied b s o)) 1 0 ≡ get_or b 1 0
  unfolding sealed
  second b s l =
      ap (λ (x : List ℕ). get_or x 1 0) (over-take (sealed b) o (length (sealed b)) refl) ∙ get_or-append b (crc_bytes b) 0 1 (omega arith)

  abbrev Told : Outcome → Type 0
  Told c = (128 ≤ get_or (reply_in c) 1 0 → c.after ≡ r) × (get_or (reply_in c) 1 0 ≡ 16 → Wrote)

  pub reply-tells : Told (served_by good r q o)
  unfolding served_by written_of
  reply-tells = go (asked_of good (get address r) q (length o)) refl (asked-fits good q (length o) (get address r))
    where
      refused : (i v n : ℕ) → function_in q ≡ 16 → {b : Bool} → within (range_at i) v ≡ b → as_pc i v r ≡ (no n, r) → Told (replied (write_body (no n) q) r o)
      refused i v n f w z = let s = second (write_body (no n) q) r (omega arith) in (λ h. refl, λ h. absurd (omega arith))

      go : (y : Asked) → asked_of good (get address r) q (length o) ≡ y → Fits good q (length o) y → Told (answered_as y r q o)
      go (M n) e f = (λ h. refl, λ h. absurd (omega arith))
      go (exception n) e f = let s = second (refusal n q) r (omega arith) in (λ h. refl, λ h. absurd (omega arith))
      go (reads s n) e f =
          let l = registers-length r.values s n in
          let b = second (shown r.values s n q) r (omega arith) in
          let t : function_in q ≡ 3 = f.function in
          (λ h. refl, λ h. absurd (omega arith))
      go (writes i v) e f =
          let t : function_in q ≡ 16 = f.function in
          PC_cases i v r f.listed (λ (p : Answered × Record). as_pc i v r ≡ p → Told (replied (write_body p.0 q) p.1 o))
          (refused i v 6 t) (refused i v 2 t) (refused i v 7 t) (refused i v 5 t)
          (λ w z.
          let n = f.nine in
          let six = length-take-le 6 q (omega arith) in
          let b = second (echoed q) (applied (writing i v) r) (omega arith) in
          let own : get_or (echoed q) 1 0 ≡ function_in q = get_or-take 6 q 1 0 (omega arith) in
          (λ h. absurd (omega arith), λ h. wrote_by i v e f.listed z)) refl

  -- an accepted write shows in its parameter and in the changed flag, "exactly if the value differs from the one held" (L2), and in no other field
  module _ (h : valid r ≡ true) (w : Wrote) where
    holds : (g : Field) → get g (served_by good r q o).after ≡ number_after g (writing w.place w.new) r
    holds g =
        ap (get g) w.left ∙ ap (get g) (sym (PC_left w.place w.new r w.listed w.accepted))
        ∙ PC-leaves w.place w.new r w.listed h g w.accepted

    pub value_written : get (value w.place) (served_by good r q o).after ≡ w.new
    unfolding number_after
    value_written = holds (value w.place) ∙ held_there (value w.place) w.new _

    pub flag_written : get changed (served_by good r q o).after ≡ flag_after (get (value w.place) r) w.new (get changed r)
    unfolding number_after
    flag_written =
        holds changed ∙ (held_elsewhere (value w.place) changed w.new _ (λ z. omega arith) ∙ held_there changed _ (get changed r))

    pub others_kept : (g : Field) → (position (value w.place) ≡ position g → ⊥) → (position changed ≡ position g → ⊥) → get g (served_by good r q o).after ≡ get g r
    unfolding number_after
    others_kept g a b = holds g ∙ (held_elsewhere (value w.place) g w.new _ a ∙ held_elsewhere changed g _ _ b)

-- ---- of a record alone
module _ (r : Record) (q o : List ℕ) where
  pub keeps_valid : valid r ≡ true → valid (modbus_of r q o).after ≡ true
  unfolding modbus_of
  keeps_valid = served_valid (valid r) r q o

  -- "another slave (0 too)": the record's address is 1 at least, so slave 0 is another one's: M5, for every frame that gets so far
  pub broadcast_silent : valid r ≡ true → 256 ≤ length o → between 4 256 (length q) ≡ true → crc_right q ≡ true → slave_in q ≡ 0 → modbus_of r q o ≡ silent 5 r o
  unfolding modbus_of served_by asked_of asked_frame
  broadcast_silent v room size check z =
      let low : 1 ≤ get address r = between_low 1 99 (get address r) (all_at r scalar_fields (position address) (valid_tell r v).scalars_in (omega arith)) in
      let other : slave_in q ≡ get address r → ⊥ = λ e. omega arith in
      simp (v, le-leb 256 (length o) room, size, check, ne_eqb (slave_in q) (get address r) other)

-- ---- with a bank beside it: one that is not valid is M1, and a valid one is never seen
module _ (b : Banked) (q o : List ℕ) where
  pub bad_bank : bank.valid b.bank ≡ false → banked_modbus_of b q o ≡ silent 1 b o
  unfolding banked_modbus_of served_by asked_of banked.valid
  bad_bank h = let n : banked.valid b ≡ false = and_no (valid b.state) (bank.valid b.bank) (λ x y. not_both (bank.valid b.bank) y h) in simp n

  pub good_bank : bank.valid b.bank ≡ true → banked_modbus_of b q o ≡ beside (modbus_of b.state q o) b.bank
  unfolding banked_modbus_of modbus_of banked.valid
  good_bank h =
      ap (λ (g : Bool). beside (served_by g b.state q o) b.bank) (by_test (valid b.state) (λ t. simp (t, h)) (λ t. simp t))

  pub beside-valid : banked.valid b ≡ true → banked.valid (banked_modbus_of b q o).after ≡ true
  unfolding banked_modbus_of banked.valid
  beside-valid h =
      and_yes (valid (banked_modbus_of b q o).after.state) (bank.valid b.bank)
      (served_valid (banked.valid b) b.state q o (and_left (valid b.state) (bank.valid b.bank) h)) (and_right (valid b.state) (bank.valid b.bank) h)
