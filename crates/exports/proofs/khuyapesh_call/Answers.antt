-- `exports::khuyapesh_call` meets its contract: one law for a number that is no kind, one for a refusal of the stored bytes, and one for the call. Assumes nothing.
use Rattle.exports.proofs.Steps.{serving}
use Rattle.exports.proofs.khuyapesh_call.Goals as goal

pub returns : goal.returns
returns c = search serving

pub returns-in_default : goal.returns-in_default
returns-in_default c = search serving

pub returns-in-Err : goal.returns-in-Err
returns-in-Err c = search serving
