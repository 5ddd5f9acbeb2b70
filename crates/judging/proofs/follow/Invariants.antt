-- `judging::follow` meets its contract: what passes and what is learnt of the whole is what has been and what will be of the rest, by the
-- laws of `Loop` for what stands at the place. Assumes nothing.
use Rattle.judging.proofs.Loop.{Going}
use Rattle.judging.proofs.follow.Given as goal

abbrev pub invariant-loop-passed : goal.invariant-loop-passed
invariant-loop-passed l = Going l.s l.link.address l.link.access l.most l.known l.at l.passed
