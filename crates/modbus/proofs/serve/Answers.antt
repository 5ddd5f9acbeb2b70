-- By what was heard, which tells of lengths and numbers. Assumes nothing.
use Rattle.std.proofs.Common.{arith, ◌∙◌}
use Rattle.modbus.proofs.Answering.{replied_as, heard_as}
use Rattle.modbus.proofs.Fits.{exception_fits, reads_fit, writes_fit}
use Rattle.modbus.proofs.serve.Goals as goal

pub refuse-requires : goal.refuse-requires
refuse-requires c = omega (arith, exception_fits _ _ _ _ _ (rw c.in-Ok-Exception.field-0-is at c.in-Ok-Exception.ensures))

pub show-requires : goal.show-requires
show-requires c = omega (arith, reads_fit _ _ _ _ _ _ (rw c.in-Ok-Read.field-0-is at c.in-Ok-Read.ensures))

pub write-requires : goal.write-requires
write-requires c = omega (arith, writes_fit _ _ _ _ _ _ (rw c.in-Ok-Write.field-0-is at c.in-Ok-Write.ensures))

pub returns-in-Ok-Write : goal.returns-in-Ok-Write
returns-in-Ok-Write c = c.write.ensures ∙ heard_as _ _ _ _ _ (rw c.in-Ok-Write.field-0-is at c.in-Ok-Write.ensures)

pub returns-in-Err : goal.returns-in-Err
returns-in-Err c = heard_as _ _ _ _ _ c.in-Err.ensures

pub returns-in-Ok-Exception : goal.returns-in-Ok-Exception
returns-in-Ok-Exception c = replied_as _ _ _ _ _ c.refuse.ensures ∙ heard_as _ _ _ _ _ (rw c.in-Ok-Exception.field-0-is at c.in-Ok-Exception.ensures)

pub returns-in-Ok-Read : goal.returns-in-Ok-Read
returns-in-Ok-Read c = replied_as _ _ _ _ _ c.show.ensures ∙ heard_as _ _ _ _ _ (rw c.in-Ok-Read.field-0-is at c.in-Ok-Read.ensures)
