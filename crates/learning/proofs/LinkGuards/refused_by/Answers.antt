-- `learning::LinkGuards::refused_by` meets its contract: the number is that of the keypad, or of a guard behind it. Assumes nothing.
use Rattle.std.proofs.Common.{inl, inr, sym, ◌∙◌}
use Rattle.knowledge.specs.Sets.{mask_from}
use Rattle.learning.proofs.Refusing.{keypad_unmet}
use Rattle.learning.proofs.LinkGuards.refused_by.Goals as goal
use Rattle.learning.proofs.LinkGuards.refused_by.Goals.{else-keypad-via-then-keypad+else-n-from, else-keypad-via-else-keypad}

pub returns : goal.returns
unfolding mask_from
returns c =
    keypad_unmet c.args.self.guards _ _ _ _ _ (elim c.else-keypad.branch [ else-keypad-via-then-keypad+else-n-from w ↦ inl (λ e. w.if-n-from.false (e ∙ sym w.from.ensures)) | else-keypad-via-else-keypad w ↦ inr w.if-keypad.false ])
    c.pass_if.ensures c.refused_by_level.ensures
