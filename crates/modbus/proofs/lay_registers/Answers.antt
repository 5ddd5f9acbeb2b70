-- The first three bytes and the bytes of i registers are laid over the buffer. Assumes nothing.
use Rattle.std.proofs.Common.{arith, ◌∙◌}
use Rattle.modbus.proofs.Laying.{registers_begun, registers_again}
use Rattle.modbus.proofs.lay_registers.Goals as goal

pub loop-i-init : goal.loop-i-init
loop-i-init c = registers_begun _ _ _ (omega arith)

pub loop-i-preserved : goal.loop-i-preserved
loop-i-preserved c =
    registers_again _ _ _ c.args.out.now _ _ _ c.loop-i.invariant c.register.ensures c.register.type_inv
    (c.copy_from_slice.ensures.after ∙ c.to_be_bytes.ensures) (omega arith)
