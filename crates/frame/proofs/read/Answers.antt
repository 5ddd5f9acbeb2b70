-- `frame::read` meets its contract: a frame that is located has its text within it. Assumes nothing.
use Rattle.std.proofs.Common.{arith, length-take, length-drop}
use Rattle.frame.proofs.Steps.{read_text, located_sizes}
use Rattle.frame.proofs.read.Goals as goal

pub slice_bounds-copy_from_slice-end-2 : goal.slice_bounds-copy_from_slice-end-2
slice_bounds-copy_from_slice-end-2 c = let h = located_sizes _ _ _ c.in_ok-n.ensures in simp length-take (omega arith)

pub copy_from_slice-requires : goal.copy_from_slice-requires
copy_from_slice-requires c = let h = located_sizes _ _ _ c.in_ok-n.ensures in simp (length-take, length-drop) (omega arith)

pub returns : goal.returns
returns c = read_text _ _ _ c.in_ok-n.ensures _ _ c.if-out-lt-ROOM.false c.copy_from_slice.ensures.after
