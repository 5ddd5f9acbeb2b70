-- `exports::khuyapesh_drum_begin` meets its contract: the answer as a number. Assumes nothing.
use Rattle.exports.proofs.Drums.{begun_tellable, begun_left}
use Rattle.exports.proofs.khuyapesh_drum_begin.Goals as goal

pub drum_answer-requires : goal.drum_answer-requires
drum_answer-requires c = search (begun_tellable, begun_left)

pub returns : goal.returns
returns c = search (begun_tellable, begun_left)
