-- `knowledge::may_hold` meets its contract: a field of many numbers holds any, or one. Assumes nothing.
use Rattle.knowledge.proofs.Membership.{holding}
use Rattle.knowledge.proofs.may_hold.Goals as goal

pub returns-then-code-eq-ANY : goal.returns-then-code-eq-ANY
returns-then-code-eq-ANY c = search holding

pub returns-else-code-eq-ANY : goal.returns-else-code-eq-ANY
returns-else-code-eq-ANY c = search holding
