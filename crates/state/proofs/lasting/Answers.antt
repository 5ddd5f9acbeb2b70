-- `state::lasting` meets its contract: the mask is that of the lasting. Assumes nothing.
use mathlib.Core.Path.{sym, ap}
use lib.Bits.{bit_and}
use Rattle.state.proofs.Alarms.{lasting_mask, mask_limit}
use Rattle.state.proofs.lasting.Goals as goal

pub returns : goal.returns
returns c = let n = c.args.alarms in (ap (bit_and n) (sym lasting_mask), mask_limit n)
