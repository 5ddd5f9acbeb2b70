-- `exports::khuyapesh_drum_take` meets its contract: the answer as a number. Assumes nothing.
use Rattle.exports.proofs.Drums.{taken_tellable, drum_left_lem}
use Rattle.exports.proofs.khuyapesh_drum_take.Goals as goal

pub drum_answer-requires : goal.drum_answer-requires
drum_answer-requires c = search (taken_tellable, drum_left_lem)

pub returns : goal.returns
returns c = search (taken_tellable, drum_left_lem)
