-- `storedbank::read_batches` meets its contract. The invariant: the first i batches are read, and are valid. Assumes nothing.
use Rattle.storedbank.proofs.Taking.{taken_none, taken_more, taken_outside, taken_all}
use borrow.Author.Rules.{rules}
use Rattle.storedbank.proofs.read_batches.Goals as goal

pub loop-i-init : goal.loop-i-init
loop-i-init c = search taken_none

pub returns-in_default : goal.returns-in_default
returns-in_default c = search taken_outside

pub loop-i-preserved : goal.loop-i-preserved
loop-i-preserved c = search (taken_more, rules)

pub returns : goal.returns
returns c = search taken_all
