-- `drumstate::take` meets its contract: one law for each return. Assumes nothing.
use Rattle.drumstate.proofs.Laws.{state_known, take_no_state, take_left}
use Rattle.drumstate.proofs.take.Goals as goal

pub returns-in_default : goal.returns-in_default
returns-in_default c = take_no_state _ _ _ c.in_default.ensures

pub save-requires : goal.save-requires
save-requires c = (state_known _ _ c.in-Some.ensures).size

pub returns : goal.returns
returns c = take_left _ _ _ _ _ _ _ _ c.in-Some.ensures c.take.ensures c.save.ensures
