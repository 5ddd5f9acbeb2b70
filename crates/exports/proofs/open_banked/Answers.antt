-- `exports::open_banked` meets its contract: the record is opened, and then the bank. Assumes nothing.
use Rattle.exports.proofs.Banks.{banks_opening}
use Rattle.exports.proofs.open_banked.Goals as goal

pub returns-in_default : goal.returns-in_default
returns-in_default c = search (banks_opening, c.in_ok-state.was)

pub returns : goal.returns
returns c = search (banks_opening, c.in_ok-state.was)
