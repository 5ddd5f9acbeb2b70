-- `exports::khuyapesh_panel` meets its contract: one law for a number that is no event, one for a refusal of the stored bytes, and one for the event. Assumes nothing.
use Rattle.exports.proofs.Steps.{happening}
use Rattle.exports.proofs.khuyapesh_panel.Goals as goal

pub unwrap-requires : goal.unwrap-requires
unwrap-requires c = search happening

pub returns : goal.returns
returns c = search happening

pub returns-in_default : goal.returns-in_default
returns-in_default c = search happening

pub returns-in-Err : goal.returns-in-Err
returns-in-Err c = search happening
