-- `judging::follow` meets its contract, by the laws of `Loop` for what stands at the place. Assumes nothing.
use Rattle.judging.proofs.Loop.{going_none, followed_broken}
use Rattle.judging.proofs.follow.Goals as goal

pub loop-passed-init : goal.loop-passed-init
loop-passed-init c = search going_none

pub returns-then-not-known : goal.returns-then-not-known
returns-then-not-known c = search followed_broken
