-- `exports::khuyapesh_known` meets its contract: the sets are laid where there is room. Assumes nothing.
use Rattle.exports.proofs.Tells.{known_laid}
use Rattle.exports.proofs.khuyapesh_known.Goals as goal

pub returns-in-Ok-Sets : goal.returns-in-Ok-Sets
returns-in-Ok-Sets c = search known_laid
