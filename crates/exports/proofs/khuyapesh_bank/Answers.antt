-- `exports::khuyapesh_bank` meets its contract: one law for each answer of writing what was read, which is valid. Assumes nothing.
use Rattle.exports.proofs.Banks.{bank_copying}
use Rattle.exports.proofs.khuyapesh_bank.Goals as goal
use Rattle.exports.proofs.khuyapesh_bank.Goals.{in-Ok, in-Err}

pub returns-in-Ok-write : goal.returns-in-Ok-write
returns-in-Ok-write c = elim c.match-read.branch [ in-Ok w ↦ search bank_copying | in-Err w ↦ search bank_copying ]

pub returns-in-Err-write : goal.returns-in-Err-write
returns-in-Err-write c = elim c.match-read.branch [ in-Ok w ↦ search bank_copying | in-Err w ↦ search bank_copying ]
