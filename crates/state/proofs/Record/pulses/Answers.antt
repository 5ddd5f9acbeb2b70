-- `state::Record::pulses` meets its contract: one law for each way through, and validity keeps the sum in range. Assumes nothing.
use Rattle.std.proofs.Common.{refl, arith, rules}
use Rattle.state.proofs.Events.{raw_limit, after_invalid, pulses-none, pulses-idle, pulses-counted, pulses-short, pulses-done}
use Rattle.state.specs.Field.{put, phase_of}
use Rattle.state.proofs.Record.pulses.Goals as goal
use Rattle.state.proofs.Record.pulses.Goals.{then-not-valid-via-then-not-valid, then-not-valid-via-else-not-valid+then-n-eq0, else-eq-2-via-then-eq-2+else-self-sum, else-eq-2-via-else-eq-2}

pub returns-then-not-valid : goal.returns-then-not-valid
returns-then-not-valid c =
    elim c.then-not-valid.branch [
      | then-not-valid-via-then-not-valid w ↦ after_invalid _ _ c.valid.ensures _ (search rules)
      | then-not-valid-via-else-not-valid+then-n-eq0 w ↦ pulses-none _ _ c.valid.ensures (search rules) _ (search rules)
    ]

pub overflow_add-sum : goal.overflow_add-sum
overflow_add-sum c = omega (arith, raw_limit _ _ c.valid.ensures (search rules))

pub returns-then-eq : goal.returns-then-eq
unfolding put
returns-then-eq c = pulses-idle _ _ c.valid.ensures (search rules) _ _ c.from.ensures (search rules) _ (search rules) refl

pub returns-then-self-sum : goal.returns-then-self-sum
unfolding put phase_of
returns-then-self-sum c = pulses-done _ _ c.valid.ensures (search rules) _ _ c.from.ensures (search rules) _ (search rules) (search rules) refl

pub returns-else-eq-2 : goal.returns-else-eq-2
unfolding put
returns-else-eq-2 c =
    elim c.else-eq-2.branch [
      | else-eq-2-via-then-eq-2+else-self-sum w ↦
          pulses-short _ _ c.valid.ensures (search rules) _ _ c.from.ensures (search rules) _ (search rules) (search rules) refl
      | else-eq-2-via-else-eq-2 w ↦ pulses-counted _ _ c.valid.ensures (search rules) _ _ c.from.ensures (search rules) _ (search rules) (search rules) refl
    ]
