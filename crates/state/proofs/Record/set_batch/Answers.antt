-- `state::Record::set_batch` meets its contract: the stores are the writes of SB in another order. Assumes nothing.
use Rattle.state.proofs.Events.{batch_set_lem}
use Rattle.state.specs.Field.{put}
use Rattle.state.proofs.Record.set_batch.Goals as goal

pub returns : goal.returns
unfolding put
returns c = batch_set_lem _ _ _ _ c.next_number.ensures c.in_phase.ensures
