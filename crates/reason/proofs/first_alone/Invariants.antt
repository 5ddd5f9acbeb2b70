-- `reason::first_alone` meets its contract: none before the place is one, by the laws of `Steps`. Assumes nothing.
use Rattle.hearing.specs.Hearing.{lent}
use Rattle.reason.proofs.Steps.{Searched}
use Rattle.reason.proofs.first_alone.Given as goal

abbrev pub invariant-loop-at : goal.invariant-loop-at
invariant-loop-at l = Searched l.link.address l.link.access (lent l.exchange) l.known l.at
