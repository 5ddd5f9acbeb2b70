-- `stored::value_slot` meets its contract: the range is that of the parameter. Assumes nothing.
use Rattle.stored.proofs.Slots.{value_is}
use Rattle.stored.proofs.value_slot.Goals as goal

pub returns : goal.returns
returns c = search value_is
