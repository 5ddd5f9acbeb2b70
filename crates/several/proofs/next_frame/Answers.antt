-- `several::next_frame` meets its contract: `Seeking` holds at each turn of the walk and `Searching` at each turn of the search; one law for
-- each way on and each way out. The measure is the bytes left. Assumes nothing.
use Rattle.several.proofs.Places.{search_turn}
use Rattle.several.proofs.Seek.{seek_begun, seek_end, search_started, seek_nearer, seek_open, seek_byte, seek_long, seek_short, seek_frame}
use Rattle.several.proofs.next_frame.Goals as goal

pub walk-init : goal.walk-init
walk-init c = search seek_begun

pub returns-then-bytes-start : goal.returns-then-bytes-start
returns-then-bytes-start c = search seek_end

pub search-init : goal.search-init
search-init c = search search_started

pub returns-in-walk : goal.returns-in-walk
returns-in-walk c = search seek_open

pub walk-smaller-then-not-text_byte : goal.walk-smaller-then-not-text_byte
walk-smaller-then-not-text_byte c = search seek_nearer

pub walk-preserved-then-not-text_byte : goal.walk-preserved-then-not-text_byte
walk-preserved-then-not-text_byte c = search seek_byte

pub walk-smaller : goal.walk-smaller
walk-smaller c = search seek_nearer

pub walk-preserved : goal.walk-preserved
walk-preserved c = search seek_long

pub search-preserved : goal.search-preserved
search-preserved c = search (search_turn c.search.invariant)

pub returns-then-bytes-place-lt-TRAILER : goal.returns-then-bytes-place-lt-TRAILER
returns-then-bytes-place-lt-TRAILER c = search seek_short

pub returns : goal.returns
returns c = search seek_frame
