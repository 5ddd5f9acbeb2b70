-- `exports::khuyapesh_learn` meets its contract: one law for a short buffer, one for a request for a kept batch, one for an exchange that refutes, and one for the sets after it. Assumes nothing.
use Rattle.exports.proofs.Tells.{learning}
use Rattle.exports.proofs.khuyapesh_learn.Goals as goal

pub returns : goal.returns
returns c = search learning

pub returns-then-sets-lt-FIELDS : goal.returns-then-sets-lt-FIELDS
returns-then-sets-lt-FIELDS c = search learning

pub returns-then-asks_batch : goal.returns-then-asks_batch
returns-then-asks_batch c = search learning

pub returns-then-not-after : goal.returns-then-not-after
returns-then-not-after c = search learning
