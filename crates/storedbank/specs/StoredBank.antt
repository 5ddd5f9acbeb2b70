-- Document 02, L7: "The stored bank: version byte 1, total length in 2 bytes, batches oldest first."
use Rattle.std.specs.Prelude.{ℕ, zero, suc, ◌+◌, ◌-◌, ◌*◌, ◌/◌, ◌%◌, Bool, ◌&&◌, List, [], ◌∷◌, ◌++◌, eqb, leb, length, get_or, take, drop, replicate, Result, Ok, Err}
use Rattle.base.specs.Test.{unless}
use Rattle.base.specs.Lists.{over}
use Rattle.stored.specs.Form.{big_endian, number_of, pack, unpack}
use Rattle.bank.specs.declared.Batch.{Batch}
use Rattle.bank.specs.declared.Bank.{Bank}
use Rattle.storedbank.specs.declared.WriteRefusal.{WriteRefusal}
use Rattle.storedbank.specs.declared.WriteRefusal.TheVariants as refused
use Rattle.storedbank.specs.declared.Refused.{Refused}
use Rattle.bank.specs.Bank.{most, batch_numbers, all_valid, batches_in, valid, bank_of, no_batch, empty_bank}

-- ---- the bytes of a batch: "(12 bytes: 2, 1, 2, 4, 3)"
abbrev pub batch_widths : List ℕ
batch_widths = 2 ∷ 1 ∷ 2 ∷ 4 ∷ 3 ∷ []

abbrev pub batch_width : ℕ
batch_width = 12

abbrev pub batch_bytes : Batch → List ℕ
batch_bytes b = pack batch_widths (batch_numbers b)

-- "oldest first"
unfoldable pub all_bytes : List Batch → List ℕ
all_bytes [] = []
all_bytes (b ∷ bs) = batch_bytes b ++ all_bytes bs

-- ---- the form of so many batches
abbrev pub header_width : ℕ
header_width = 3

abbrev pub bank_length : ℕ → ℕ
bank_length n = header_width + batch_width * n

-- "version byte 1, total length in 2 bytes"
unfoldable pub header_bytes : ℕ → List ℕ
header_bytes n = 1 ∷ big_endian 2 (bank_length n)

unfoldable pub bank_form : List Batch → List ℕ
bank_form bs = header_bytes (length bs) ++ all_bytes bs

-- ---- the code's answers as document 02 numbers them: K5 to K7, or done
pub data Outcome : Type 0 where
  K : ℕ → Outcome
  done : Outcome

abbrev pub written_as : Result (Unit {0}) WriteRefusal → Outcome
written_as (Err refused.InvalidBank) = K 5
written_as (Err refused.ShortBuffer) = K 6
written_as (Ok u) = done

-- "K7 .., with an empty bank beside it"
abbrev pub refusal : Outcome × Bank
refusal = (K 7, empty_bank)

abbrev pub reading_as : Result Bank Refused → Outcome × Bank
reading_as (Ok k) = (done, k)
reading_as (Err e) = refusal

-- ---- writing: "K5 also for a bank ..; K6 a buffer under the bank's length"; the buffer is untouched then, and else its rest stays
unfoldable pub write_of : Bank → List ℕ → Outcome × List ℕ
write_of k o =
    unless (valid k) (K 5, o)
    (unless (leb (bank_length k.count) (length o)) (K 6, o)
    (done, over (bank_form (batches_in k)) o))

-- ---- reading: the batch that twelve bytes are, and the first n batches of some bytes
abbrev pub batch_from : List ℕ → Batch
batch_from ns = record { number = get_or ns 0 0; recipe = get_or ns 1 0; factor = get_or ns 2 0; raw = get_or ns 3 0; preset = get_or ns 4 0 }

abbrev pub batch_read : List ℕ → Batch
batch_read bs = batch_from (unpack batch_widths bs)

unfoldable pub batches_read : ℕ → List ℕ → List Batch
batches_read zero bs = []
batches_read (suc n) bs = batch_read bs ∷ batches_read n (drop batch_width bs)

-- how many there are in the bytes of a bank, and which
abbrev pub count_in : List ℕ → ℕ
count_in bs = (length bs - header_width) / batch_width

abbrev pub held_in : List ℕ → List Batch
held_in bs = batches_read (count_in bs) (drop header_width bs)

-- behind them there is free room
unfoldable pub with_room : List Batch → List Batch
with_room bs = bs ++ replicate (most - length bs) no_batch

abbrev pub bank_with : List Batch → Bank
bank_with bs = bank_of (length bs) (with_room bs)

-- "of wrong version, length or field"
abbrev pub length_right : List ℕ → Bool
length_right bs =
    leb header_width (length bs) && (eqb (number_of (take 2 (drop 1 bs))) (length bs) && (eqb ((length bs - header_width) % batch_width) 0 && leb (count_in bs) most))

abbrev pub well_formed : List ℕ → Bool
well_formed bs = eqb (get_or bs 0 0) 1 && (length_right bs && all_valid (held_in bs))

unfoldable pub read_of : List ℕ → Outcome × Bank
read_of bs = unless (well_formed bs) refusal (done, bank_with (held_in bs))

-- ---- a bank that is lent to grow in place: a buffer with room for 100 batches that starts with a stored bank, as its length field says
abbrev pub room_length : ℕ
room_length = bank_length most

abbrev pub front_of : List ℕ → List ℕ
front_of b = take (number_of (take 2 (drop 1 b))) b

unfoldable pub open_of : List ℕ → Outcome × Bank
open_of b = unless (eqb (length b) room_length) refusal (read_of (front_of b))
