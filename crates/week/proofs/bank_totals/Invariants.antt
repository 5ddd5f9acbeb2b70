-- `week::bank_totals` meets its contract: the lists hold the numbers of the batches so far. Assumes nothing.
use Rattle.week.proofs.Laws.{Filled}
use Rattle.week.proofs.bank_totals.Given as goal

abbrev pub invariant-loop-i : goal.invariant-loop-i
invariant-loop-i l = Filled l.batch-items l.raws l.factors l.recipes l.i
