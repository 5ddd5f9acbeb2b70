-- `storedbank::put_batch` meets its contract: its twelve bytes are put at the place. Assumes nothing.
use Rattle.storedbank.proofs.Writing.{batch_put}
use borrow.Author.Rules.{rules}
use Rattle.storedbank.proofs.put_batch.Goals as goal

pub returns : goal.returns
returns c = search (batch_put, rules)
