-- Head, registers and check are the body laid with its check. Assumes nothing.
use Rattle.modbus.proofs.Laying.{show_laid}
use Rattle.modbus.proofs.show.Goals as goal

pub returns : goal.returns
returns c = search show_laid
