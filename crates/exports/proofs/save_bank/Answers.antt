-- `exports::save_bank` meets its contract: by whether a batch was stored. Assumes nothing.
use Rattle.exports.proofs.Banks.{saving}
use Rattle.exports.proofs.save_bank.Goals as goal

pub returns-then-stores : goal.returns-then-stores
returns-then-stores c = search saving

pub returns-else-stores : goal.returns-else-stores
returns-else-stores c = search saving
