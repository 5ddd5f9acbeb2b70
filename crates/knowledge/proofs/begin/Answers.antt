-- `begin` meets its contract: the codes before the loop are those of no parameter. Assumes nothing.
use Rattle.knowledge.specs.Sets.{mask_from}
use Rattle.knowledge.proofs.Steps.{begun}
use Rattle.knowledge.proofs.begin.Goals as goal

pub loop-i-init : goal.loop-i-init
unfolding begun mask_from
loop-i-init c = rw (c.from.ensures, c.from-2.ensures)
