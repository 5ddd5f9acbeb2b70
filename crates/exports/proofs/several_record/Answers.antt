-- `exports::several_record` meets its contract: a record that was read is valid, so there is no silence; the form of the record after takes the place of the one that was read. Assumes nothing.
use Rattle.exports.proofs.Steps.{hearing}
use Rattle.exports.proofs.several_record.Goals as goal

pub unwrap-requires : goal.unwrap-requires
unwrap-requires c = search hearing

pub returns-in-Err : goal.returns-in-Err
returns-in-Err c = search hearing

pub returns-in-Ok : goal.returns-in-Ok
returns-in-Ok c = search hearing
