-- `storedbank::read_batch` meets its contract: the numbers of its bytes are the batch, which is tested. Assumes nothing.
use Rattle.storedbank.proofs.Taking.{batch_read_lem, batch_outside, batch_inside}
use borrow.Author.Rules.{rules}
use Rattle.storedbank.proofs.read_batch.Goals as goal

pub returns-then-not-valid : goal.returns-then-not-valid
returns-then-not-valid c = search (batch_outside, batch_read_lem, rules)

pub returns : goal.returns
returns c = search (batch_inside, batch_read_lem, rules)
