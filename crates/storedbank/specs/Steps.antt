-- The steps in which a stored bank is read and written.
use Rattle.std.specs.Prelude.{ℕ, Bool, ◌&&◌, List, eqb, get_or, drop, Option, Some, None}
use Rattle.base.specs.Test.{unless}
use Rattle.bank.specs.declared.Batch.{Batch}
use Rattle.bank.specs.declared.Bank.{Bank}
use Rattle.bank.specs.Bank.{batch_valid, all_valid}
use Rattle.storedbank.specs.StoredBank.{Outcome, done, header_width, batch_read, batches_read, count_in, bank_with, length_right, refusal}

-- version and length are right
abbrev pub headed : List ℕ → Bool
headed bs = eqb (get_or bs 0 0) 1 && length_right bs

-- how many batches there are, if they are
unfoldable pub header_of : List ℕ → Option ℕ
header_of bs = unless (headed bs) None (Some (count_in bs))

-- the batch that stands at a place, if its fields lie in their ranges
unfoldable pub batch_found : ℕ → List ℕ → Option Batch
batch_found at bs = unless (batch_valid (batch_read (drop at bs))) None (Some (batch_read (drop at bs)))

-- a bank of these batches, if they are valid
unfoldable pub holding : List Batch → Outcome × Bank
holding bs = unless (all_valid bs) refusal (done, bank_with bs)

-- so many batches behind the header
unfoldable pub body_of : ℕ → List ℕ → Outcome × Bank
body_of n bs = holding (batches_read n (drop header_width bs))
