-- `frame::build` meets its contract: the text, laid behind the first byte, is what `close` then finds there. Assumes nothing.
use Rattle.std.proofs.Common.{rules}
use Rattle.frame.proofs.Steps.{built_laid}
use Rattle.frame.proofs.build.Goals as goal

pub returns : goal.returns
returns c =
    built_laid _ _ _ _ _ _ c.if-out-lt-ROOM.false (search rules) c.if-not-printable.ensures c.copy_from_slice.ensures.after c.close.ensures
