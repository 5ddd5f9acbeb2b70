-- The first three bytes and the bytes of i registers are laid over the buffer. Assumes nothing.
use Rattle.std.proofs.Common.{◌≡◌, ◌++◌, take}
use Rattle.base.specs.Lists.{over}
use Rattle.modbus.specs.Reply.{registers}
use Rattle.modbus.proofs.lay_registers.Given as goal

abbrev pub invariant-loop-i : goal.invariant-loop-i
invariant-loop-i l = l.out ≡ over (take 3 l.initial.out ++ registers l.values l.start l.i) l.initial.out
