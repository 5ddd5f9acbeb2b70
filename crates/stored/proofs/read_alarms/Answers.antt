-- `stored::read_alarms` meets its contract: a law for each return. Assumes nothing.
use Rattle.stored.proofs.Versions.{alarms_room}
use Rattle.stored.proofs.Taking.{alarming}
use borrow.Author.Rules.{rules}
use Rattle.stored.proofs.read_alarms.Goals as goal

pub returns-in_default : goal.returns-in_default
returns-in_default c = search (alarming, rules)

pub read_number-requires : goal.read_number-requires
read_number-requires c = alarms_room _ c.in-WithAlarms.is _ c.scalar_slot.ensures _ c.requires

pub returns-in_default-read_number : goal.returns-in_default-read_number
returns-in_default-read_number c = search (alarming, rules)

pub returns-then-n-ne0 : goal.returns-then-n-ne0
returns-then-n-ne0 c = search (alarming, rules)

pub returns : goal.returns
returns c = search (alarming, rules)
