-- `state::Record::power_back` meets its contract: one law for Running, one for the other phases. Assumes nothing.
use Rattle.std.proofs.Common.{refl, rules}
use Rattle.state.proofs.Events.{after_invalid, power_kept, power_stopped}
use Rattle.state.specs.Field.{put, phase_of}
use Rattle.state.proofs.Record.power_back.Goals as goal

pub returns-then-not-valid : goal.returns-then-not-valid
returns-then-not-valid c = search after_invalid

pub returns-then-eq : goal.returns-then-eq
unfolding put phase_of
returns-then-eq c = power_stopped _ _ c.valid.ensures (search rules) _ (search rules) refl

pub returns-else-eq : goal.returns-else-eq
unfolding put
returns-else-eq c = power_kept _ _ c.valid.ensures (search rules) _ (search rules) refl
