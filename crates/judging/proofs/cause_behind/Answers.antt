-- `judging::cause_behind` meets its contract: those that passed pass again, and one law of `Loop` for what stands behind them. Assumes nothing.
use Rattle.judging.proofs.Loop.{breaking}
use Rattle.judging.proofs.cause_behind.Goals.{in_default-exchange_at-via-in-Ok+in_default, in_default-exchange_at-via-in_default}
use Rattle.judging.proofs.cause_behind.Goals as goal

pub unreachable-requires : goal.unreachable-requires
unreachable-requires c = search breaking

pub unreachable-requires-in_default-exchange_at : goal.unreachable-requires-in_default-exchange_at
unreachable-requires-in_default-exchange_at c =
    elim c.in_default-exchange_at.branch [ in_default-exchange_at-via-in-Ok+in_default w ↦ search breaking | in_default-exchange_at-via-in_default w ↦ search breaking ]

pub returns : goal.returns
returns c = search breaking
