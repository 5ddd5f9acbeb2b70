-- `exports::khuyapesh_totals_text` meets its contract: one law for a short buffer, and one for each answer beside what is written. Assumes nothing.
use Rattle.exports.proofs.Totals.{text_writing}
use Rattle.exports.proofs.khuyapesh_totals_text.Goals as goal

pub returns-in-Ok : goal.returns-in-Ok
returns-in-Ok c = search text_writing

pub returns-in-Err : goal.returns-in-Err
returns-in-Err c = search text_writing

pub returns-then-out-lt-ROOM : goal.returns-then-out-lt-ROOM
returns-then-out-lt-ROOM c = search text_writing
