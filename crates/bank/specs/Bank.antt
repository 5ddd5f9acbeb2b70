-- Document 02, L7: the finished batches that are kept.
use Rattle.std.specs.Prelude.{ℕ, ◌+◌, ◌-◌, Bool, true, false, ◌&&◌, List, [], ◌∷◌, ◌++◌, eqb, leb, ltb, length, get_or, set, take, drop, replicate, Option, Some, None}
use Rattle.base.specs.Test.{pick, between}
use Rattle.state.specs.declared.Record.{Record}
use Rattle.state.specs.declared.Range.{Range}
use Rattle.state.specs.declared.ParameterKind.TheVariants.{Factor}
use Rattle.state.specs.Parameter.{kind_range, recipe_place}
use Rattle.state.specs.Field.{recipe, preset, raw, number, value, get, field_range}
use Rattle.state.specs.Valid.{within}
use Rattle.bank.specs.declared.Batch.{Batch}
use Rattle.bank.specs.declared.Bank.{Bank}

-- ---- "number, recipe, factor, raw and preset"
abbrev pub batch_numbers : Batch → List ℕ
batch_numbers b = b.number ∷ b.recipe ∷ b.factor ∷ b.raw ∷ b.preset ∷ []

-- the range of each: the record's own, and that of every recipe's factor
abbrev pub batch_ranges : List Range
batch_ranges = field_range number ∷ field_range recipe ∷ kind_range Factor ∷ field_range raw ∷ field_range preset ∷ []

-- each of several numbers lies in its range
unfoldable pub all_within : List Range → List ℕ → Bool
all_within [] [] = true
all_within [] (n ∷ ns) = false
all_within (g ∷ gs) [] = false
all_within (g ∷ gs) (n ∷ ns) = within g n && all_within gs ns

unfoldable pub batch_valid : Batch → Bool
batch_valid b = all_within batch_ranges (batch_numbers b)

-- what a record holds of its batch: the recipe's factor is the one "now"
unfoldable pub batch_of : Record → Batch
batch_of r =
    record {
      number = get number r;
      recipe = get recipe r;
      factor = get (value (recipe_place (get recipe r) Factor)) r;
      raw = get raw r;
      preset = get preset r;
    }

-- ---- the bank: "up to 100"
abbrev pub most : ℕ
most = 100

-- the batches that are kept, "oldest first"; behind them is free room
abbrev pub batches_in : Bank → List Batch
batches_in k = take k.count k.batches

unfoldable pub all_valid : List Batch → Bool
all_valid [] = true
all_valid (b ∷ bs) = batch_valid b && all_valid bs

-- a bank has room for 100 batches
abbrev pub full_length : Bank → Bool
full_length k = eqb (length k.batches) most

-- S1, K5: "a bank with over 100 batches or a field out of its range"
unfoldable pub valid : Bank → Bool
valid k = full_length k && (leb k.count most && all_valid (batches_in k))

-- ---- storing: "up to 100, then the oldest gives its room to the new one"
abbrev pub bank_of : ℕ → List Batch → Bank
bank_of n bs = record { count = n; batches = bs }

unfoldable pub keep_of : Batch → Bank → Bank
keep_of b k =
    pick (ltb k.count most) (bank_of (k.count + 1) (set k.batches k.count b))
    (bank_of k.count (drop 1 k.batches ++ (b ∷ [])))

-- the same of the batches alone
unfoldable pub kept : Batch → List Batch → List Batch
kept b bs = pick (ltb (length bs) most) (bs ++ (b ∷ [])) (drop 1 bs ++ (b ∷ []))

-- ---- asking: "with 001 the newest"; nothing "if fewer than NNN are kept or NNN is 000"
abbrev pub no_batch : Batch
no_batch = record { number = 0; recipe = 0; factor = 0; raw = 0; preset = 0 }

abbrev pub is_kept : ℕ → Bank → Bool
is_kept n k = between 1 k.count n

-- the n-th from the end; of a bank that counts more than it has room for, nothing stands beyond that
abbrev pub batch_at : ℕ → Bank → Batch
batch_at n k = get_or k.batches (k.count - n) no_batch

unfoldable pub newest_of : ℕ → Bank → Option Batch
newest_of n k = pick (is_kept n k) (Some (batch_at n k)) None

abbrev pub empty_bank : Bank
empty_bank = bank_of 0 (replicate most no_batch)
