-- `learning::refused_by_alarms` meets its contract: the number is that of the alarms, or of no guard. Assumes nothing.
use Rattle.std.proofs.Common.{inl, inr, sym, ◌∙◌}
use Rattle.learning.proofs.Refusing.{alarms_unmet}
use Rattle.learning.proofs.refused_by_alarms.Goals as goal
use Rattle.learning.proofs.refused_by_alarms.Goals.{else-tested-via-then-tested+else-n-from, else-tested-via-else-tested}

pub returns : goal.returns
returns c =
    alarms_unmet _ _ _ _ _ (elim c.else-tested.branch [ else-tested-via-then-tested+else-n-from w ↦ inl (λ e. w.if-n-from.false (e ∙ sym w.from.ensures)) | else-tested-via-else-tested w ↦ inr w.if-tested.false ])
    c.pass_if.ensures c.refute.ensures
