-- `text::width_of` meets its contract. The loop's invariant: the digits passed and those of the rest are one more than the
-- number's. Assumes nothing.
use mathlib.Core.Path.{◌≡◌}
use Prim.Native.Nat.{◌+◌, ◌-◌}
use Rattle.text.specs.Word.{width_in}
use Rattle.text.proofs.width_of.Given as goal

abbrev pub invariant-loop-width : goal.invariant-loop-width
invariant-loop-width l = l.width + width_in (20 - l.width) l.rest ≡ 1 + width_in 19 l.n
