-- `text::width_of` meets its contract. The loop's invariant: the digits passed and those of the rest are one more than the
-- number's. Assumes nothing.
use Rattle.std.proofs.Common.{rules, arith}
use Rattle.text.proofs.Writing.{width_again, width_done, width_full}
use Rattle.text.proofs.width_of.Goals as goal

pub loop-width-preserved : goal.loop-width-preserved
loop-width-preserved c = search (width_again, rules)

pub returns-then-rest-lt10 : goal.returns-then-rest-lt10
returns-then-rest-lt10 c = search (width_done, rules)

pub returns : goal.returns
returns c = width_full _ _ _ (omega arith) c.loop-width.invariant
