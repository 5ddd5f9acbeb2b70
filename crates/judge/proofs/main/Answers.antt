-- The line that was written lies within the buffer.
use Rattle.text.proofs.Writing.{first-within, first_count}
use Rattle.judge.proofs.main.Goals as goal

pub slice_bounds-text-end : goal.slice_bounds-text-end
slice_bounds-text-end c = search first-within

pub slice_bounds-write_all-end : goal.slice_bounds-write_all-end
slice_bounds-write_all-end c = search first_count
