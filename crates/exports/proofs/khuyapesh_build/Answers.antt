-- `exports::khuyapesh_build` meets its contract: one law for a number that is no kind, and one for what building answers. Assumes nothing.
use Rattle.exports.proofs.Steps.{hosting}
use Rattle.exports.proofs.khuyapesh_build.Goals as goal

pub built_answer-requires : goal.built_answer-requires
built_answer-requires c = search hosting

pub returns : goal.returns
returns c = search hosting

pub returns-in_default : goal.returns-in_default
returns-in_default c = search hosting
