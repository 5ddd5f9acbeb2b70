-- `text::put_digits` meets its contract: the lent part from the place on comes back filled with the digits. Assumes nothing.
use Rattle.std.proofs.Common.{sym, ◌∙◌}
use Rattle.text.proofs.Words.{digits-length}
use Rattle.text.proofs.Writing.{none_written, digits_part}
use Rattle.text.proofs.put_digits.Goals as goal

pub returns-then-not-fits : goal.returns-then-not-fits
returns-then-not-fits c = none_written _ _ _ _ (digits-length _ _) (sym c.if-not-fits.true ∙ c.fits.ensures)

pub returns : goal.returns
returns c = digits_part _ _ _ _ _ (sym c.if-not-fits.false ∙ c.fits.ensures) c.fill_digits.ensures
