-- `text::word_at` meets its contract. Assumes nothing.
use Rattle.std.proofs.Common.{◌∙◌}
use Rattle.text.proofs.Words.{stands_beyond, stands_here}
use Rattle.text.proofs.word_at.Goals as goal

pub returns-then-s-at : goal.returns-then-s-at
returns-then-s-at c = c.is_empty.ensures ∙ stands_beyond c.args.s.now c.args.word.now c.args.at c.if-s-at.true

pub returns : goal.returns
returns c =
    let s = c.args.s.now in
    c.starts_with.ensures.value ∙ stands_here s c.args.word.now c.args.at
