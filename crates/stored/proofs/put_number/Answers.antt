-- `stored::put_number` meets its contract: the part of the slot comes back filled. Assumes nothing.
use Rattle.stored.proofs.Writing.{number_put}
use Rattle.stored.proofs.put_number.Goals as goal

pub returns : goal.returns
returns c = number_put c.args.slot _ _ _ c.requires c.fill.ensures
