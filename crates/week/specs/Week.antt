-- Document 02, L8: "One program reads a stored bank on standard input and prints a line per recipe that occurs".
use Rattle.std.specs.Prelude.{ℕ, List, ◌++◌, map, Result, Ok, Err}
use Rattle.base.specs.Text.{text}
use Rattle.text.specs.Word.{newline, decimal}
use Rattle.text.specs.Written.{written_first}
use Rattle.bank.specs.declared.Batch.{Batch}
use Rattle.bank.specs.declared.Bank.{Bank}
use Rattle.bank.specs.Bank.{batches_in}
use Rattle.storedbank.specs.StoredBank as stored
use Rattle.storedbank.specs.StoredBank.{K, done, read_of}
use Rattle.storedbank.specs.declared.Refused.{Refused}
use Rattle.totalling.specs.Totals.{Outcome, outcome, zeros, totals_of}
use Rattle.totalling.specs.declared.Totals.{Totals}
use Rattle.sheet.specs.Sheet.{sheet_text, room}

-- the lists of some batches
abbrev pub raws_of : List Batch → List ℕ
raws_of bs = map (λ (b : Batch). b.raw) bs

abbrev pub factors_of : List Batch → List ℕ
factors_of bs = map (λ (b : Batch). b.factor) bs

abbrev pub recipes_of : List Batch → List ℕ
recipes_of bs = map (λ (b : Batch). b.recipe) bs

unfoldable pub batch_totals : List Batch → Outcome
batch_totals bs = totals_of (raws_of bs) (factors_of bs) (recipes_of bs)

-- those of the batches that a bank keeps
abbrev pub bank_totals : Bank → Outcome
bank_totals k = batch_totals (batches_in k)

-- and of a stored bank: of a bad one all are 0, since an empty bank stands beside K7
unfoldable pub week_of : List ℕ → stored.Outcome × Outcome
week_of bs = ((read_of bs).0, bank_totals (read_of bs).1)

abbrev pub week_as : Result Totals Refused → stored.Outcome × Outcome
week_as (Ok t) = (done, outcome 0 t.sums t.counts)
week_as (Err e) = (K 7, outcome 0 zeros zeros)

abbrev pub answer_as : Result (Unit {0}) Refused → stored.Outcome
answer_as (Ok u) = done
answer_as (Err e) = K 7

-- what the program prints: "An empty bank prints nothing, a bad one `refused K7`."
unfoldable pub printed : stored.Outcome × Outcome → List ℕ
printed (done, t) = sheet_text t.counts t.sums
printed (K n, t) = text "refused K" ++ (decimal n ++ newline)

abbrev pub week_text : List ℕ → List ℕ
week_text bs = printed (week_of bs)

-- what reading answers, and the text over the start of a buffer with room for any
unfoldable pub write_of : List ℕ → List ℕ → stored.Outcome × (ℕ × List ℕ)
write_of bs o = ((week_of bs).0, written_first room (week_text bs) o)
