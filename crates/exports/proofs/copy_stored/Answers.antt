-- `exports::copy_stored` meets its contract: every record that is read is valid, and there is room. Assumes nothing.
use Rattle.exports.proofs.Steps.{storing}
use Rattle.exports.proofs.copy_stored.Goals as goal

pub unwrap-requires : goal.unwrap-requires
unwrap-requires c = search storing

pub unwrap-requires-in-Err : goal.unwrap-requires-in-Err
unwrap-requires-in-Err c = search storing

pub returns-in-Ok : goal.returns-in-Ok
returns-in-Ok c = search storing

pub returns-in-Err : goal.returns-in-Err
returns-in-Err c = search storing
