-- `exports::hand_out_totals` meets its contract: one law for a short buffer, and one for what is handed out. Assumes nothing.
use Rattle.exports.proofs.Totals.{handing}
use Rattle.exports.proofs.hand_out_totals.Goals as goal

pub returns-then-not-lay : goal.returns-then-not-lay
returns-then-not-lay c = search handing

pub returns : goal.returns
returns c = search handing
