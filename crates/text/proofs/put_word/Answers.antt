-- `text::put_word` meets its contract: the lent part from the place on comes back as the word. Assumes nothing.
use Rattle.std.proofs.Common.{refl, sym, ◌∙◌}
use Rattle.text.proofs.Writing.{none_written, part_written}
use Rattle.text.proofs.put_word.Goals as goal

pub returns-then-not-fits : goal.returns-then-not-fits
returns-then-not-fits c = none_written _ _ _ _ refl (sym c.if-not-fits.true ∙ c.fits.ensures)

pub returns : goal.returns
returns c = part_written _ _ _ _ _ (sym c.if-not-fits.false ∙ c.fits.ensures) refl c.copy_from_slice.ensures.after
