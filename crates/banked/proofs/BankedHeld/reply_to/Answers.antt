-- `reply_to` of a record with a bank meets its contract: one law for a kept batch, and one for all else. Assumes nothing.
use Rattle.banked.proofs.Steps.{batch_replied, other_replied}
use Rattle.banked.proofs.BankedHeld.reply_to.Goals as goal

pub returns-in_default : goal.returns-in_default
returns-in_default c = search other_replied

pub returns : goal.returns
returns c = search batch_replied
