-- `hearing::replied` meets its contract, one law of `Steps` for each return; the address digits lie within the reply. Assumes nothing.
use Rattle.hearing.proofs.Steps.{digits_inside, replying}
use borrow.Author.Rules.{rules}
use Rattle.hearing.proofs.replied.Goals as goal

pub returns-then-is_empty : goal.returns-then-is_empty
returns-then-is_empty c = search replying

pub returns-in_default : goal.returns-in_default
returns-in_default c = search replying

pub slice_bounds-is_word-end : goal.slice_bounds-is_word-end
slice_bounds-is_word-end c = search (digits_inside, rules)

pub returns-then-not-is_word : goal.returns-then-not-is_word
returns-then-not-is_word c = search replying

pub returns : goal.returns
returns c = search replying
