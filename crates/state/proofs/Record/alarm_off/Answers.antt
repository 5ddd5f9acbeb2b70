-- `state::Record::alarm_off` meets its contract: the bit of the one alarm, or of none. Assumes nothing.
use Rattle.state.proofs.Events.{alarm_cleared}
use Rattle.state.proofs.Record.alarm_off.Goals as goal

pub returns : goal.returns
returns c = search alarm_cleared
