-- Stored banks, computed on the definitions that the promises cite: an empty one, and one of a single batch. Assumes nothing.
use Rattle.std.specs.Prelude.{ℕ, ◌≡◌, refl, List, [], ◌∷◌, map, replicate}
use Rattle.base.specs.Lists.{over}
use Rattle.stored.specs.Form.{big_endian, number_from, pack, unpack}
use Rattle.bank.specs.declared.Batch.{Batch}
use Rattle.bank.specs.Bank.{all_within, batch_valid, all_valid, valid}
use Rattle.storedbank.specs.StoredBank.{done, all_bytes, header_bytes, bank_form, write_of, batches_read, with_room, bank_with, read_of, open_of}

pub record Example : Type 0 where
  pub batches : List Batch
  pub bytes : List ℕ

abbrev pub table : List Example
table =
    record { batches = []; bytes = 0x01 ∷ 0x00 ∷ 0x03 ∷ [] }
    ∷ record {
      batches = record { number = 9999; recipe = 3; factor = 10150; raw = 500; preset = 400 } ∷ [];
      bytes = 0x01 ∷ 0x00 ∷ 0x0f ∷ 0x27 ∷ 0x0f ∷ 0x03 ∷ 0x27 ∷ 0xa6 ∷ 0x00 ∷ 0x00 ∷ 0x01 ∷ 0xf4 ∷ 0x00 ∷ 0x01 ∷ 0x90 ∷ [];
    }
    ∷ []

-- written over the start of a buffer, the rest of which stays
pub written : map (λ e. write_of (bank_with e.batches) (replicate 20 0xdd)) table ≡ map (λ e. (done, over e.bytes (replicate 20 0xdd))) table
unfolding write_of valid all_valid batch_valid all_within with_room bank_form header_bytes all_bytes pack big_endian over
written = refl

-- and read
pub worked : map (λ e. read_of e.bytes) table ≡ map (λ e. (done, bank_with e.batches)) table
unfolding read_of all_valid batch_valid all_within with_room batches_read unpack number_from
worked = refl

-- from a buffer with room for more
pub opened : map (λ e. open_of (over e.bytes (replicate 1203 0xdd))) table ≡ map (λ e. (done, bank_with e.batches)) table
unfolding open_of over read_of all_valid batch_valid all_within with_room batches_read unpack number_from
opened = refl
