-- `stored::read` meets its contract: what the header answers, and behind a good one the numbers. Assumes nothing.
use Rattle.stored.proofs.Taking.{read_refused, good_version, read_good}
use borrow.Author.Rules.{rules}
use Rattle.stored.proofs.read.Goals as goal

pub read_numbers-requires : goal.read_numbers-requires
read_numbers-requires c = search (good_version, rules)

pub returns-in_default : goal.returns-in_default
returns-in_default c = read_good _ _ c.read_header.ensures _ c.in_default.is _ c.read_numbers.ensures

pub returns : goal.returns
returns c = search (read_refused, rules)
