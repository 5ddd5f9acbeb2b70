-- `totalling::add_batches` meets its contract: the sums and the numbers are those of the batches so far. Assumes nothing.
use lib.ListN.{length}
use Rattle.totalling.proofs.Adding.{Added}
use Rattle.totalling.proofs.add_batches.Given as goal

abbrev pub invariant-loop-raw : goal.invariant-loop-raw
invariant-loop-raw l = Added l.raws l.factors l.recipes l.totals.sums l.totals.counts (length l.yielded)
