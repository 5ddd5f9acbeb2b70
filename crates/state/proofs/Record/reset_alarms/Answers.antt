-- `state::Record::reset_alarms` meets its contract: the lasting alarms are stored. Assumes nothing.
use Rattle.state.specs.Field.{put}
use Rattle.state.proofs.Events.{alarms_reset_lem}
use Rattle.state.proofs.Record.reset_alarms.Goals as goal

pub returns : goal.returns
unfolding put
returns c = search alarms_reset_lem
