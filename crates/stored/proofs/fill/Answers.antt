-- `stored::fill` meets its contract: a byte further to the front each turn. Assumes nothing.
use Rattle.stored.proofs.Bytes.{fill_again, fill_done}
use borrow.Author.Rules.{rules}
use Rattle.stored.proofs.fill.Goals as goal

pub loop-i-preserved : goal.loop-i-preserved
loop-i-preserved c = search (fill_again, rules)

pub returns : goal.returns
returns c = search (fill_done, rules)
