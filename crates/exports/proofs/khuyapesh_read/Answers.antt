-- `exports::khuyapesh_read` meets its contract: one law for a number that is no kind, and one for what reading answers. Assumes nothing.
use Rattle.exports.proofs.Steps.{hosting}
use Rattle.exports.proofs.khuyapesh_read.Goals as goal

pub text_answer-requires : goal.text_answer-requires
text_answer-requires c = search hosting

pub returns : goal.returns
returns c = search hosting

pub returns-in_default : goal.returns-in_default
returns-in_default c = search hosting
