-- `board::distinct` meets its contract: what is left of the list decides as the whole does. Assumes nothing.
use mathlib.Core.Path.{◌≡◌}
use lib.ListN.{drop}
use Rattle.base.specs.Test.{all_distinct}
use Rattle.board.specs.Board.{addresses}
use Rattle.board.proofs.distinct.Given as goal

abbrev pub invariant-loop-i : goal.invariant-loop-i
invariant-loop-i l = all_distinct (addresses l.records) ≡ all_distinct (drop l.i (addresses l.records))
