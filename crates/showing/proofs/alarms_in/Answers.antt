-- `showing::alarms_in` meets its contract: the five characters tell the number. Assumes nothing.
use Rattle.std.proofs.Common.{sym, ◌∙◌, arith}
use Rattle.showing.proofs.Alarms.{alarms_number}
use Rattle.showing.proofs.alarms_in.Goals as goal

pub returns : goal.returns
returns c =
    sym (alarms_number c.args.s.now (omega arith) _ _ _ _ _ (sym c.bits_in.ensures ∙ c.in_ok-first.was) (sym c.bits_in-2.ensures ∙ c.in_ok-second.was)
    (sym c.bits_in-3.ensures ∙ c.in_ok-third.was) (sym c.bits_in-4.ensures ∙ c.in_ok-fourth.was) (sym c.bits_in-5.ensures ∙ c.in_ok-bits_in.was))
