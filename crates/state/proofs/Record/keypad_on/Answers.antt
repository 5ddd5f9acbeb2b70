-- `state::Record::keypad_on` meets its contract: one law where the phase lets the keypad be taken, one where not. Assumes nothing.
use Rattle.std.proofs.Common.{refl, rules}
use Rattle.state.proofs.Events.{after_invalid, keypad_taken, keypad_kept}
use Rattle.state.specs.Field.{put}
use Rattle.state.proofs.Record.keypad_on.Goals as goal
use Rattle.state.proofs.Record.keypad_on.Goals.{in-Idle, in_default}

pub returns-then-not-valid : goal.returns-then-not-valid
returns-then-not-valid c = search after_invalid

pub returns-then-matches : goal.returns-then-matches
unfolding put
returns-then-matches c =
    elim c.match-matches.branch [ in-Idle w ↦ keypad_taken _ _ c.valid.ensures (search rules) _ w.in-Idle.is refl | in_default w ↦ absurd (cc) ]

pub returns-else-matches : goal.returns-else-matches
returns-else-matches c =
    elim c.match-matches.branch [ in-Idle w ↦ absurd (cc) | in_default w ↦ keypad_kept _ _ c.valid.ensures (search rules) w.in_default.not-Idle w.in_default.not-Done ]
