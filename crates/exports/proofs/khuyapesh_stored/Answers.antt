-- `exports::khuyapesh_stored` meets its contract: only a short buffer stops the writing. Assumes nothing.
use Rattle.exports.proofs.Steps.{stored_short, stored_roomy}
use Rattle.exports.proofs.khuyapesh_stored.Goals as goal

pub returns-then-out-lt-STORED_LENGTH : goal.returns-then-out-lt-STORED_LENGTH
returns-then-out-lt-STORED_LENGTH c = search stored_short

pub copy_stored-requires : goal.copy_stored-requires
copy_stored-requires c = search stored_roomy
