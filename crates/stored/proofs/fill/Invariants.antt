-- `stored::fill` meets its contract. The invariant: the bytes of the rest, as many as are left, and behind them those that are written, are
-- the number's. Assumes nothing.
use mathlib.Core.Path.{◌≡◌}
use mathlib.Core.List.{◌++◌}
use lib.ListN.{length, drop}
use Rattle.stored.specs.Form.{big_endian}
use Rattle.stored.proofs.fill.Given as goal

abbrev pub invariant-loop-i : goal.invariant-loop-i
invariant-loop-i l = big_endian l.i l.rest ++ drop l.i l.out ≡ big_endian (length l.initial.out) l.n
