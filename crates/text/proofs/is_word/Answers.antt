-- `text::is_word` meets its contract. Assumes nothing.
use Rattle.std.proofs.Common.{◌∙◌}
use Rattle.text.proofs.Words.{equal-pointwise}
use Rattle.text.proofs.is_word.Goals as goal

pub returns : goal.returns
returns c = c.eq.ensures ∙ equal-pointwise c.args.s.now c.args.word.now
