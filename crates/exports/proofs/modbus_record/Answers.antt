-- `exports::modbus_record` meets its contract: a silence leaves all as it was; the record after a reply is valid, and its form takes the place of the one that was read. Assumes nothing.
use Rattle.exports.proofs.Modbus.{modbus_calling}
use Rattle.exports.proofs.modbus_record.Goals as goal

pub unwrap-requires : goal.unwrap-requires
unwrap-requires c = search modbus_calling

pub overflow_cast-result : goal.overflow_cast-result
overflow_cast-result c = record { fits = search modbus_calling }

pub returns-in-Err : goal.returns-in-Err
returns-in-Err c = search modbus_calling

pub returns-in-Ok : goal.returns-in-Ok
returns-in-Ok c = search modbus_calling
