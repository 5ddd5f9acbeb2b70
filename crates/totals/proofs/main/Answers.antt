-- The text that was written lies within the buffer.
use Rattle.week.proofs.Laws.{printed-within, printed-count}
use Rattle.totals.proofs.main.Goals as goal

pub slice_bounds-text-end : goal.slice_bounds-text-end
slice_bounds-text-end c = printed-within _ _ _ _ _ _ c.unwrap-written.ensures c.write.ensures.written

pub slice_bounds-write_all-end : goal.slice_bounds-write_all-end
slice_bounds-write_all-end c = printed-count _ _ _ _ _ _ c.unwrap-written.ensures c.write.ensures.written
