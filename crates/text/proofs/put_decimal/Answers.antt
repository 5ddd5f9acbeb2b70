-- `text::put_decimal` meets its contract: the digits are as many as the number has. Assumes nothing.
use Rattle.text.proofs.Writing.{decimal-written}
use Rattle.text.proofs.put_decimal.Goals as goal

pub returns : goal.returns
returns c = search decimal-written
