-- `state::Record::in_phase` meets its contract: a phase is known by its number. Assumes nothing.
use Rattle.state.specs.Field.{put}
use Rattle.state.proofs.Fields.{phase_back}
use Rattle.state.proofs.Record.in_phase.Goals as goal

pub returns : goal.returns
unfolding put
returns c = simp phase_back
