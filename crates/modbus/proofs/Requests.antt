-- The frames that a master of the standard sends are heard as what they ask for, and what was written is read. Assumes nothing.
use Prim.Native.Nat.{ℕ, ◌+◌, ◌*◌, ◌/◌, ◌%◌, ◌≤◌, ◌<◌}
use mathlib.Core.Bool.{true}
use mathlib.Core.Path.{◌≡◌, refl, sym, ap, ap₂, subst, ◌∙◌}
use mathlib.Core.List.{List, ◌∷◌, ◌++◌}
use native.Mathlib.Nat.{div-add-mod'}
use native.Mathlib.Omega.{arith}
use lib.ListN.{length, get_or}
use borrow.Author.Tests.{le-leb, eq-eqb, ne_eqb}
use Rattle.base.specs.Text.{text}
use Rattle.state.specs.declared.Record.{Record}
use Rattle.state.specs.Parameter.{parameter_count, code_at}
use Rattle.state.specs.Field.{address, value, get}
use Rattle.state.specs.Valid.{valid}
use Rattle.state.proofs.Parameters.{place_has_code}
use Rattle.frame.specs.declared.Kind.{Kind}
use Rattle.text.specs.Word.{digits}
use Rattle.controller.proofs.ReadBack.{parameter_shown, AnswersAt, value_read}
use Rattle.crc.specs.Crc.{crc_bytes, sealed, crc_right}
use Rattle.crc.proofs.Sealed.{sealed_right}
use Rattle.modbus.specs.Request.{Asked, reads, writes, slave_in, function_in, byte_count_in, register_count, asked_read, asked_write, asked_frame, asked_of}
use Rattle.modbus.specs.Reply.{two_bytes, register_at, registers, shown}
use Rattle.modbus.specs.Call.{replied, written_of, answered_as, served_by, modbus_of}
use Rattle.modbus.specs.Frames.{four_bytes, read_request, write_request}
use Rattle.modbus.proofs.Theorems.{Wrote, value_written, keeps_valid}

joined : (n : ℕ) → n ≡ n / 256 * 256 + n % 256
joined n = sym (div-add-mod' n 256)

-- ---- a frame of 4 to 256 bytes with its check, for this slave
module _ (a : ℕ) (q : List ℕ) (low : 4 ≤ length q) (high : length q ≤ 256) (check : crc_right q ≡ true) (slave : slave_in q ≡ a) where
  frame_read : function_in q ≡ 3 → length q ≡ 8 → asked_frame a q ≡ asked_read q
  unfolding asked_frame
  frame_read f g = simp (le-leb _ _ low, le-leb _ _ high, check, eq-eqb _ _ slave, f, eq-eqb _ _ g)

  frame_write : function_in q ≡ 16 → length q ≡ 9 + byte_count_in q → asked_frame a q ≡ asked_write q
  unfolding asked_frame
  frame_write f g = simp (le-leb _ _ low, le-leb _ _ high, check, eq-eqb _ _ slave, f, eq-eqb _ _ g)

-- ---- what is asked for
module _ (r : Record) (o : List ℕ) (v : valid r ≡ true) (room : 256 ≤ length o) where
  abbrev asked : List ℕ → Asked
  asked q = asked_of (valid r) (get address r) q (length o)

  by_frame : (q : List ℕ) → asked q ≡ asked_frame (get address r) q
  unfolding asked_of
  by_frame q = simp (v, le-leb _ _ room)

  pub read_heard : (s n : ℕ) → 1 ≤ n → n ≤ 125 → s + n ≤ register_count → asked (read_request (get address r) s n) ≡ reads s n
  unfolding read_request sealed crc_bytes asked_read
  read_heard s n h k l =
      let q : List ℕ = read_request r.address s n in
      by_frame q
      ∙ frame_read r.address q (omega arith) (omega arith) (sealed_right (r.address ∷ 3 ∷ (two_bytes s ++ two_bytes n))) refl refl (omega arith)
      ∙ simp (← joined s, ← joined n, le-leb _ _ h, le-leb _ _ k, le-leb _ _ l)

  pub write_heard : (i m : ℕ) → i < parameter_count → asked (write_request (get address r) i m) ≡ writes i m
  unfolding write_request sealed crc_bytes asked_write
  write_heard i m h =
      let q : List ℕ = write_request r.address i m in
      let whole : m / 65536 * 65536 + m % 65536 ≡ m = div-add-mod' m 65536 in
      let inside : 2 * i + 2 ≤ register_count = omega arith in
      let even : 2 * i % 2 ≡ 0 = omega arith in
      let half : 2 * i / 2 ≡ i = omega arith in
      by_frame q
      ∙ frame_write r.address q (omega arith) (omega arith) (sealed_right (r.address ∷ 16 ∷ (two_bytes (2 * i) ++ (0 ∷ 2 ∷ 4 ∷ four_bytes m)))) refl refl refl
      ∙ simp (← joined (2 * i), ← joined (m / 65536), ← joined (m % 65536), le-leb _ _ inside, eq-eqb _ _ even, whole, half)

  -- a read "may span any registers of the 64", and is answered with them
  pub every_read : (s n : ℕ) → 1 ≤ n → n ≤ 125 → s + n ≤ register_count
      → modbus_of r (read_request (get address r) s n) o ≡ replied (shown r.values s n (read_request (get address r) s n)) r o
  unfolding modbus_of served_by
  every_read s n h k l = ap (λ y. answered_as y r (read_request (get address r) s n) o) (read_heard s n h k l)

  -- a write of a whole pair, whatever the value, is answered as PC is
  pub every_write : (i m : ℕ) → i < parameter_count → modbus_of r (write_request (get address r) i m) o ≡ written_of i m r (write_request (get address r) i m) o
  unfolding modbus_of served_by
  every_write i m h = ap (λ y. answered_as y r (write_request (get address r) i m) o) (write_heard i m h)

-- ---- the pair of place i shows the value there, high word first
pub pair_shown : (vs : List ℕ) (i : ℕ) → registers vs (2 * i) 2 ≡ four_bytes (get_or vs i 0)
unfolding registers
pair_shown vs i = ap₂ (λ (x y : ℕ). two_bytes x ++ two_bytes y) high low
  where
    high : register_at vs (2 * i + 0) ≡ get_or vs i 0 / 65536
    high =
        let e : (2 * i + 0) % 2 ≡ 0 = omega arith in
        let h : (2 * i + 0) / 2 ≡ i = omega arith in
        simp (eq-eqb _ _ e) (ap (λ (k : ℕ). get_or vs k 0 / 65536) h)

    low : register_at vs (2 * i + 1) ≡ get_or vs i 0 % 65536
    low =
        let e : (2 * i + 1) % 2 ≡ 0 → ⊥ = λ z. omega arith in
        let h : (2 * i + 1) / 2 ≡ i = omega arith in
        simp (ne_eqb _ _ e) (ap (λ (k : ℕ). get_or vs k 0 % 65536) h)

-- ---- read-back: after an accepted write, however it was framed, its pair shows the value, and so does PV on the Smith link
module _ (r : Record) (q o : List ℕ) (v : valid r ≡ true) (w : Wrote (valid r) r q o) where
  abbrev after : Record
  after = (modbus_of r q o).after

  after_valid : valid after ≡ true
  after_valid = keeps_valid r q o v

  held : get (value w.place) after ≡ w.new
  unfolding modbus_of
  held = value_written (valid r) r q o v w

  pub read_back : (p : List ℕ) → 256 ≤ length p
      → modbus_of after (read_request (get address after) (2 * w.place) 2) p ≡ replied (get address after ∷ 3 ∷ 4 ∷ four_bytes w.new) after p
  unfolding read_request sealed
  read_back p room =
      let l = w.listed in
      every_read after p after_valid room (2 * w.place) 2 (omega arith) (omega arith) (omega arith)
      ∙ ap (λ (b : List ℕ). replied (get address after ∷ 3 ∷ 4 ∷ b) after p) (pair_shown after.values w.place ∙ ap four_bytes held)

  pub shown_by_PV : (k : Kind) (p : List ℕ) → 64 ≤ length p
      → AnswersAt k after p (get address after) (text "PV " ++ digits 3 (code_at w.place)) (parameter_shown (text "PV ") (code_at w.place) 8 w.new)
  shown_by_PV k p room =
      subst (λ (n : ℕ). AnswersAt k after p (get address after) (text "PV " ++ digits 3 (code_at w.place)) (parameter_shown (text "PV ") (code_at w.place) 8 n)) held
      (value_read k after p after_valid room (code_at w.place) w.place (place_has_code w.place w.listed))
