-- `exports::open_record` meets its contract: one law for each answer. Assumes nothing.
use Rattle.exports.proofs.Steps.{opening}
use Rattle.exports.proofs.open_record.Goals as goal

pub returns-in-Err : goal.returns-in-Err
returns-in-Err c = search opening

pub returns-in-Ok : goal.returns-in-Ok
returns-in-Ok c = search opening

pub returns-in-Ok-2 : goal.returns-in-Ok-2
returns-in-Ok-2 c = search opening
