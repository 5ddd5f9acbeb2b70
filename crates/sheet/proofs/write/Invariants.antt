-- `sheet::write` meets its contract: the lines of the first i recipes are laid. Assumes nothing.
use Rattle.sheet.proofs.Laws.{Lines}
use Rattle.sheet.proofs.write.Given as goal

abbrev pub invariant-loop-i : goal.invariant-loop-i
invariant-loop-i l = Lines l.totals.counts l.totals.sums l.initial.out l.out l.at l.i
