-- Why an exchange refutes, by what is known before it. `proofs/Holds.antt` shows that of each reason that is so which the statement in
-- `recording` says. a is the address, c the access, k what is known.
use Rattle.std.specs.Prelude.{ℕ, zero, suc, ◌+◌, Bool, not}
use Rattle.base.specs.Test.{pick}
use Rattle.state.specs.Field.{field_at, field_count}
use Rattle.knowledge.specs.declared.Knowledge.{Knowledge}
use Rattle.knowledge.specs.Sets.{has}
use Rattle.knowledge.specs.Knowledge.{code_at, recoded, start}
use Rattle.recording.specs.Form.{Exchange}
use Rattle.recording.specs.Known as known
use Rattle.hearing.specs.declared.Said.{Said}
use Rattle.hearing.specs.declared.Said.TheVariants.{Quiet, Answered, Unanswered, Unreadable, Texts}
use Rattle.hearing.specs.Hearing.{said_of, exchange_heard}
use Rattle.reason.specs.declared.Reason.{Reason}
use Rattle.reason.specs.declared.Reason.TheVariants as reason

-- the first of n numbers from i on that passes a test; the one behind them if none does
unfoldable pub first_from : (ℕ → Bool) → ℕ → ℕ → ℕ
first_from p zero i = i
first_from p (suc n) i = pick (p i) i (first_from p n (i + 1))

-- ---- an exchange with a request and a reply that can be read
module _ (a c : ℕ) (e : Exchange) where
  -- what the reply leaves, before anything changes: of nothing known, and of the set at a position alone
  abbrev pub needed : Knowledge
  needed = exchange_heard a c (start a c) e

  abbrev pub alone : Knowledge → ℕ → Knowledge
  alone k p = exchange_heard a c (recoded p (code_at p k) (start a c)) e

  -- the first position whose set alone leaves nothing
  unfoldable pub first_alone : Knowledge → ℕ
  first_alone k = first_from (λ p. not (alone k p).alive) field_count 0

  unfoldable pub reply_reason : Knowledge → Reason
  reply_reason k = pick needed.alive (reason.Field (first_alone k) (code_at (first_alone k) k) (code_at (first_alone k) needed)) reason.Impossible

-- ---- any exchange; one where silence was due and kept refutes nothing
abbrev pub reason_by : ℕ → ℕ → Knowledge → Exchange → Said → Reason
reason_by a c k e Quiet = reason.Impossible
reason_by a c k e (Answered n) = reason.Answered n
reason_by a c k e Unanswered = reason.Unanswered
reason_by a c k e Unreadable = reason.Impossible
reason_by a c k e (Texts n m) = reply_reason a c e k

unfoldable pub reason_of : ℕ → ℕ → Knowledge → Exchange → Reason
reason_of a c k e = reason_by a c k e (said_of a e)

-- ---- as the statement has it
abbrev pub reason_as : Reason → known.Reason
reason_as (reason.Answered n) = known.answered n
reason_as reason.Unanswered = known.unanswered
reason_as reason.Impossible = known.impossible
reason_as (reason.Field p before needs) = known.conflict (field_at p) (has (field_at p) before) (has (field_at p) needs)
