-- `text::read_number` meets its contract, one law of `Words` for each return. Assumes nothing.
use Rattle.std.proofs.Common.{sym, ◌∙◌}
use Rattle.text.proofs.Words.{number_long, number_letter, number_digits}
use Rattle.text.proofs.read_number.Goals as goal
use Rattle.text.proofs.read_number.Goals.{then-s-gt8-via-then-s-gt8, then-s-gt8-via-else-s-gt8+then-not-all_digits}

pub returns-then-s-gt8 : goal.returns-then-s-gt8
returns-then-s-gt8 c =
    elim c.then-s-gt8.branch [
      | then-s-gt8-via-then-s-gt8 w ↦ number_long _ w.if-s-gt8.true
      | then-s-gt8-via-else-s-gt8+then-not-all_digits w ↦ number_letter _ w.if-s-gt8.false (sym w.if-not-all_digits.true ∙ w.all_digits.ensures)
    ]

pub returns : goal.returns
returns c = number_digits _ _ c.if-s-gt8.false (sym c.if-not-all_digits.false ∙ c.all_digits.ensures) c.value.ensures
