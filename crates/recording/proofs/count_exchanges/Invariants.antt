-- `recording::count_exchanges` meets its contract: the count of the whole is that of those before the place and of what is left; the
-- measure is what is left of the bytes. Assumes nothing.
use Rattle.std.proofs.Common.{length, ◌-◌}
use Rattle.recording.proofs.Laws.{Counted}
use Rattle.recording.proofs.count_exchanges.Given as goal

abbrev pub invariant-loop-spans : goal.invariant-loop-spans
invariant-loop-spans l = Counted l.s l.at l.count

abbrev pub decreases-loop-spans : goal.decreases-loop-spans
decreases-loop-spans l = length l.s - l.at
