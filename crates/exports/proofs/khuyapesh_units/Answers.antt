-- `exports::khuyapesh_units` meets its contract: one law for a short buffer, and two for what is written. Assumes nothing.
use Rattle.exports.proofs.Totals.{units_writing}
use Rattle.exports.proofs.khuyapesh_units.Goals as goal

pub returns-in_default : goal.returns-in_default
returns-in_default c = search units_writing

pub overflow_cast-result : goal.overflow_cast-result
overflow_cast-result c = record { fits = search units_writing }

pub returns : goal.returns
returns c = search units_writing
