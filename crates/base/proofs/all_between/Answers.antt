-- `base::all_between` meets its contract. The loop's invariant: the answer for what is left is the answer for the whole.
-- Assumes nothing.
use Rattle.std.proofs.Common.{rules}
use Rattle.base.proofs.Tests.{all_not, all_again, all_done}
use Rattle.base.proofs.all_between.Goals as goal

pub returns-then-not-contains : goal.returns-then-not-contains
returns-then-not-contains c =
    let a = c.args in
    all_not a.low a.high a.s.now c.loop-x.x-index _ (search rules) (search rules) c.loop-x.invariant

pub loop-x-preserved : goal.loop-x-preserved
loop-x-preserved c = search (all_again, rules)

pub returns : goal.returns
returns c = search (all_done, rules)
