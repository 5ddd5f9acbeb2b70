-- `board::distinct` meets its contract: what is left of the list decides as the whole does. Assumes nothing.
use borrow.Author.Rules.{rules}
use Rattle.board.proofs.Laws.{distinct_found, distinct_turn, distinct_end}
use Rattle.board.proofs.distinct.Goals as goal

pub returns-then-has : goal.returns-then-has
returns-then-has c = search (distinct_found, rules)

pub loop-i-preserved : goal.loop-i-preserved
loop-i-preserved c = search (distinct_turn, rules)

pub returns : goal.returns
returns c = search (distinct_end, rules)
