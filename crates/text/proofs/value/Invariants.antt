-- `text::value` meets its contract. The loop's invariant: n is the number of the first i digits, of at most i digits itself.
-- Assumes nothing.
use Rattle.text.proofs.Words.{Reading}
use Rattle.text.proofs.value.Given as goal

abbrev pub invariant-loop-digit : goal.invariant-loop-digit
invariant-loop-digit l = Reading l.s l.n l.digit-index
