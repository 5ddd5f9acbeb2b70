-- `exports::banked_record` meets its contract: a silence leaves all as it was; what a reply leaves is valid, and its forms take their places. Assumes nothing.
use Rattle.exports.proofs.Banks.{banked_calling}
use Rattle.exports.proofs.banked_record.Goals as goal

pub unwrap-requires : goal.unwrap-requires
unwrap-requires c = search banked_calling

pub overflow_cast-result : goal.overflow_cast-result
overflow_cast-result c = record { fits = search banked_calling }

pub returns-in-Err : goal.returns-in-Err
returns-in-Err c = search banked_calling

pub returns-in-Ok : goal.returns-in-Ok
returns-in-Ok c = search banked_calling
