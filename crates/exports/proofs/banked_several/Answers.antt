-- `exports::banked_several` meets its contract: what was opened is valid, so there is no silence; the forms of what is left take their places. Assumes nothing.
use Rattle.exports.proofs.Banks.{banked_hearing}
use Rattle.exports.proofs.banked_several.Goals as goal

pub unwrap-requires : goal.unwrap-requires
unwrap-requires c = search banked_hearing

pub unwrap-requires-in-Ok : goal.unwrap-requires-in-Ok
unwrap-requires-in-Ok c = search banked_hearing

pub returns-in-Err : goal.returns-in-Err
returns-in-Err c = search banked_hearing

pub returns-in-Ok : goal.returns-in-Ok
returns-in-Ok c = search banked_hearing
