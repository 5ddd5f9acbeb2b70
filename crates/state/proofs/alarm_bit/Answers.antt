-- `state::alarm_bit` meets its contract: no bit, or a bit shifted as far as the last alarm is away. Assumes nothing.
use Rattle.state.proofs.Alarms.{own_bit}
use borrow.Author.Rules.{rules}
use Rattle.state.proofs.alarm_bit.Goals as goal

pub returns : goal.returns
returns c = own_bit c.args.number _ c.is_alarm.ensures (search rules)
