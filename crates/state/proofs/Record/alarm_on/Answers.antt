-- `state::Record::alarm_on` meets its contract: the bit of the one alarm, or of none. Assumes nothing.
use Rattle.state.proofs.Events.{alarm_raised}
use Rattle.state.proofs.Record.alarm_on.Goals as goal

pub returns : goal.returns
returns c = search alarm_raised
