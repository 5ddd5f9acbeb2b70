-- What holds of a request by what it asks for: of every silence, exception, read and write. Assumes nothing.
use Prim.Native.Nat.{ℕ, ◌+◌, ◌/◌, ◌%◌, ◌≤◌, ◌<◌}
use mathlib.Core.Bool.{Bool, true, false, not, ◌&&◌, ◌||◌}
use mathlib.Core.Path.{◌≡◌, refl, sym, subst}
use mathlib.Core.List.{List}
use native.Mathlib.Omega.{arith}
use lib.Dec.{eqb, leb}
use lib.ListN.{length}
use borrow.Author.Tests.{leb-true, eqb-true}
use Rattle.base.specs.Test.{pick, unless, between}
use Rattle.base.proofs.Tests.{between_low, between_high, and_left}
use Rattle.state.specs.Parameter.{parameter_count}
use Rattle.crc.specs.Crc.{crc_right}
use Rattle.modbus.specs.declared.Silence.{Silence}
use Rattle.modbus.specs.declared.Silence.TheVariants as silence
use Rattle.modbus.specs.Request.{Asked, M, exception, reads, writes, slave_in, function_in, start_in, count_in, byte_count_in, value_in, register_count, is_read, is_write, read_whole, write_whole, asked_read, asked_write, asked_function, asked_frame, asked_of}
use Rattle.modbus.specs.Numbers.{silence_number}

-- silences are counted from 1
pub silence_low : (w : Silence) → 1 ≤ silence_number w
silence_low silence.InvalidRecord = omega arith
silence_low silence.ShortReplyBuffer = omega arith
silence_low silence.FrameLength = omega arith
silence_low silence.Crc = omega arith
silence_low silence.OtherSlave = omega arith
silence_low silence.FunctionRange = omega arith
silence_low silence.ReadLength = omega arith
silence_low silence.WriteLength = omega arith

-- a request that is answered; `good` if what the unit holds is valid; so much reply room is lent
pub record Open (good : Bool) (q : List ℕ) (room : ℕ) : Type 0 where
  pub held : good ≡ true
  pub enough : 256 ≤ room
  pub four : 4 ≤ length q
  pub small : function_in q ≤ 127

-- a read of n registers from s on
pub record Reads (good : Bool) (q : List ℕ) (room s n : ℕ) : Type 0 where
  pub answered : Open good q room
  pub function : function_in q ≡ 3
  pub some : 1 ≤ n
  pub few : n ≤ 125
  pub inside : s + n ≤ register_count

-- a write at place i
pub record Writes (good : Bool) (q : List ℕ) (room i : ℕ) : Type 0 where
  pub answered : Open good q room
  pub function : function_in q ≡ 16
  pub nine : 9 ≤ length q
  pub listed : i < parameter_count

abbrev pub Fits : Bool → List ℕ → ℕ → Asked → Type 0
Fits good q room (M n) = (1 ≤ n) × (n ≤ 8)
Fits good q room (exception n) = Open good q room
Fits good q room (reads s n) = Reads good q room s n
Fits good q room (writes i v) = Writes good q room i

module _ (good : Bool) (q : List ℕ) (room : ℕ) where
  -- along the chain of refusals: one more test passed
  after : (t : Bool) (u y : Asked) → Fits good q room u → (t ≡ true → Fits good q room y) → Fits good q room (unless t u y)
  after true u y h k = k refl
  after false u y h k = h

  choice : (t : Bool) (u y : Asked) → (t ≡ true → Fits good q room u) → Fits good q room y → Fits good q room (pick t u y)
  choice true u y h k = h refl
  choice false u y h k = k

  implied : (t u : Bool) → (not t || u) ≡ true → t ≡ true → u ≡ true
  implied true u h k = h
  implied false u h k = absurd (let z : ◌≡◌ {A = ℕ} 0 1 = cc in omega arith)

  read_fits : Open good q room → is_read q ≡ true → Fits good q room (asked_read q)
  unfolding asked_read
  read_fits h f =
      after (between 1 125 (count_in q)) (exception 3) (unless (leb (start_in q + count_in q) register_count) (exception 2) (reads (start_in q) (count_in q))) h
      (λ b. after (leb (start_in q + count_in q) register_count) (exception 2) (reads (start_in q) (count_in q)) h
      (λ l. record {
        answered = h;
        function = eqb-true (function_in q) 3 f;
        some = between_low 1 125 (count_in q) b;
        few = between_high 1 125 (count_in q) b;
        inside = leb-true (start_in q + count_in q) register_count l;
      }))

  write_fits : Open good q room → is_write q ≡ true → 9 ≤ length q → Fits good q room (asked_write q)
  unfolding asked_write
  write_fits h f n =
      let two : Bool = eqb (count_in q) 2 in
      let inside : Bool = leb (start_in q + count_in q) register_count in
      let t : Bool = inside && eqb (start_in q % 2) 0 in
      let y : Asked = writes (start_in q / 2) (value_in q) in
      after (two && eqb (byte_count_in q) 4) (exception 3) (unless t (exception 2) y) h
      (λ b. after t (exception 2) y h
      (λ l. record {
        answered = h;
        function = eqb-true (function_in q) 16 f;
        nine = n;
        listed = omega (arith, eqb-true (count_in q) 2 (and_left two _ b), leb-true (start_in q + count_in q) register_count (and_left inside _ l));
      }))

  function_fits : Open good q room → write_whole q ≡ true → Fits good q room (asked_function q)
  function_fits h w =
      choice (is_read q) (asked_read q) (pick (is_write q) (asked_write q) (exception 1)) (λ b. read_fits h b)
      (choice (is_write q) (asked_write q) (exception 1)
      (λ b. let e : length q ≡ 9 + byte_count_in q = eqb-true (length q) (9 + byte_count_in q) (implied (is_write q) (eqb (length q) (9 + byte_count_in q)) w b) in write_fits h b (omega arith)) h)

  pub asked-fits : (a : ℕ) → Fits good q room (asked_of good a q room)
  unfolding asked_of asked_frame
  asked-fits a =
      let x₈ : Asked = unless (write_whole q) (M 8) (asked_function q) in
      let x₇ : Asked = unless (read_whole q) (M 7) x₈ in
      let x₆ : Asked = unless (leb (function_in q) 127) (M 6) x₇ in
      let x₅ : Asked = unless (eqb (slave_in q) a) (M 5) x₆ in
      let x₄ : Asked = unless (crc_right q) (M 4) x₅ in
      let x₃ : Asked = unless (between 4 256 (length q)) (M 3) x₄ in
      after good (M 1) (unless (leb 256 room) (M 2) x₃) (omega arith)
      (λ v. after (leb 256 room) (M 2) x₃ (omega arith)
      (λ e. after (between 4 256 (length q)) (M 3) x₄ (omega arith)
      (λ b. after (crc_right q) (M 4) x₅ (omega arith)
      (λ c. after (eqb (slave_in q) a) (M 5) x₆ (omega arith)
      (λ d. after (leb (function_in q) 127) (M 6) x₇ (omega arith)
      (λ f. after (read_whole q) (M 7) x₈ (omega arith)
      (λ g. after (write_whole q) (M 8) (asked_function q) (omega arith)
      (λ w.
      function_fits
      (record { held = v; enough = leb-true 256 room e; four = between_low 4 256 (length q) b; small = leb-true (function_in q) 127 f }) w))))))))

  -- by what is asked for
  module _ (a : ℕ) where
    fitted : (y : Asked) → y ≡ asked_of good a q room → Fits good q room y
    fitted y e = subst (Fits good q room) (sym e) (asked-fits a)

    pub exception_fits : (n : ℕ) → exception n ≡ asked_of good a q room → Open good q room
    exception_fits n = fitted (exception n)

    pub reads_fit : (s n : ℕ) → reads s n ≡ asked_of good a q room → Reads good q room s n
    reads_fit s n = fitted (reads s n)

    pub writes_fit : (i v : ℕ) → writes i v ≡ asked_of good a q room → Writes good q room i
    writes_fit i v = fitted (writes i v)
