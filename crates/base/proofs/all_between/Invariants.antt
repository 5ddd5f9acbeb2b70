-- `base::all_between` meets its contract. The loop's invariant: the answer for what is left is the answer for the whole.
-- Assumes nothing.
use Rattle.std.proofs.Common.{◌≡◌, drop}
use Rattle.base.specs.Test.{all_between}
use Rattle.base.proofs.all_between.Given as goal

abbrev pub invariant-loop-x : goal.invariant-loop-x
invariant-loop-x l = all_between l.low l.high (drop l.x-index l.s) ≡ all_between l.low l.high l.s
