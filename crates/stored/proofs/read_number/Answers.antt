-- `stored::read_number` meets its contract: the number in the slot is tested against its range. Assumes nothing.
use Rattle.stored.proofs.Taking.{read_outside, read_inside}
use Rattle.stored.proofs.read_number.Goals as goal

pub returns-then-not-within : goal.returns-then-not-within
returns-then-not-within c = search read_outside

pub returns : goal.returns
returns c = search read_inside
