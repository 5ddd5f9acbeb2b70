-- `drumstate::begin` meets its contract: one law for each return. Assumes nothing.
use Rattle.drumstate.proofs.Laws.{begin_no_state, begin_left}
use Rattle.drumstate.proofs.begin.Goals as goal

pub returns-then-state-ne-STATE : goal.returns-then-state-ne-STATE
returns-then-state-ne-STATE c = search begin_no_state

pub returns : goal.returns
returns c = search begin_left
