-- What is left of the eight shifts, from what was reached, comes to the whole. Assumes nothing.
use Rattle.std.proofs.Common.{◌≡◌, ◌-◌}
use Rattle.crc.specs.Crc.{shifted_times}
use Rattle.crc.proofs.eight_shifts.Given as goal

abbrev pub invariant-loop : goal.invariant-loop
invariant-loop l = shifted_times (8 - l.counter) l.shifting ≡ shifted_times 8 l.register
