-- The body is laid, and the check behind it. Assumes nothing.
use Rattle.modbus.proofs.Laying.{body_laid}
use Rattle.modbus.proofs.lay.Goals as goal

pub returns : goal.returns
returns c = search body_laid
