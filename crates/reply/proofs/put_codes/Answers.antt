-- `reply::put_codes` meets its contract: the codes are joined one before the others, from the last on. Assumes nothing.
use mathlib.Core.Path.{refl}
use Rattle.std.proofs.Common.{arith}
use Rattle.std.proofs.lemmas.Grind.{common_steps}
use Rattle.state.specs.Event.{running, stopped, done}
use Rattle.state.proofs.Fields.{flag_back}
use Rattle.reply.proofs.Laws.{InPhase, no_code_laid, in_one, in_two, code_laid}
use Rattle.reply.proofs.put_codes.Goals as goal

pub returns : goal.returns
returns c =
    let r = c.args.r in
    let is_running : InPhase r running c.eq-running.result = grind (arith, common_steps) in
    let is_stopped : InPhase r stopped c.eq-2.result = grind (arith, common_steps) in
    let is_done : InPhase r done c.eq.result = grind (arith, common_steps) in
    code_laid _ _ _ _ _ _ _ _ _ _ refl c.put_if-alarm.ensures.value
    (code_laid _ _ _ _ _ _ _ _ _ _ (flag_back r.flow) c.put_if-flow.ensures.value
    (code_laid _ _ _ _ _ _ _ _ _ _ (flag_back r.reset) c.put_if-reset.ensures.value
    (code_laid _ _ _ _ _ _ _ _ _ _ (flag_back r.changed) c.put_if-changed.ensures.value
    (code_laid _ _ _ _ _ _ _ _ _ _ (flag_back r.powerfail) c.put_if-power.ensures.value
    (code_laid _ _ _ _ _ _ _ _ _ _ (flag_back r.keypad) c.put_if-keypad.ensures.value
    (code_laid _ _ _ _ _ _ _ _ _ _ (in_one r done _ is_done) c.put_if-done.ensures.value
    (code_laid _ _ _ _ _ _ _ _ _ _ (in_two r running stopped _ _ is_running is_stopped) c.put_if-begun.ensures.value
    (code_laid _ _ _ _ _ _ _ _ _ _ (in_one r running _ is_running) c.put_if.ensures.value
    (no_code_laid _ _ _)))))))))
