-- `showing::parameter_label` meets its contract: the last three decimal digits of the place's code stand in it. Assumes nothing.
use Rattle.std.proofs.Common.{◌∙◌, refl}
use Rattle.showing.proofs.Reading.{label_printed}
use Rattle.showing.proofs.parameter_label.Goals as goal

pub returns : goal.returns
returns c = label_printed _ _ _ _ _ _ (c.from.ensures ∙ c.code_at.ensures) refl c.put_digits.ensures
