-- Document 01, "Commands": "A request that is not silent gets a reply."
use Rattle.std.specs.Prelude.{ℕ, List, [], ◌∷◌, ◌++◌, drop}
use Rattle.base.specs.Text.{text}
use Rattle.state.specs.declared.Record.{Record}
use Rattle.base.specs.Test.{pick}
use Rattle.state.specs.Field.{address, get}
use Rattle.text.specs.Word.{digits}
use Rattle.command.specs.Commands.{commands, code_in, row_of, Arguments, printed, applied}
use Rattle.command.specs.Refusals.{Row, applies, row_number, refusals, refusals_beside, arguments_for}

-- NOnn, or accepted
pub data Verdict : Type 0 where
  NO : ℕ → Verdict
  accepted : Verdict

-- what follows the code, and the arguments there
abbrev pub behind_code : List ℕ → List ℕ
behind_code t = drop 4 t

abbrev pub arguments_in : List ℕ → Arguments
arguments_in t = arguments_for (code_in t) (behind_code t)

-- "first that applies"
unfoldable pub first_of : List Row → ℕ → List ℕ → Record → Verdict
first_of [] c xs r = accepted
first_of (row ∷ rows) c xs r = pick (applies row c xs r) (NO (row_number row)) (first_of rows c xs r)

unfoldable pub verdict : List ℕ → Record → Verdict
verdict t r = first_of refusals (code_in t) (behind_code t) r

-- with a bank of n batches beside the record
unfoldable pub verdict_beside : ℕ → List ℕ → Record → Verdict
verdict_beside n t r = first_of (refusals_beside n) (code_in t) (behind_code t) r

-- "reply NO and two digits, record unchanged"
abbrev pub refusal_text : ℕ → List ℕ
refusal_text n = text "NO" ++ digits 2 n

abbrev pub reply_for : Verdict → List ℕ → Record → List ℕ
reply_for (NO n) t r = refusal_text n
reply_for accepted t r = printed ((row_of (code_in t) commands).reply (arguments_in t)) r

abbrev pub record_for : Verdict → List ℕ → Record → Record
record_for (NO n) t r = r
record_for accepted t r = applied ((row_of (code_in t) commands).effect (arguments_in t)) r

-- "address digits, then the reply"
unfoldable pub reply_text : List ℕ → Record → List ℕ
reply_text t r = digits 2 (get address r) ++ reply_for (verdict t r) t r

unfoldable pub record_after : List ℕ → Record → Record
record_after t r = record_for (verdict t r) t r
