-- `controller::call` meets its contract: one law for the silences, and one for a reply with an effect and without. Assumes nothing.
use Rattle.std.proofs.Common.{rules}
use Rattle.controller.proofs.Steps.{silent_call, changed_call, unchanged_call}
use Rattle.controller.proofs.call.Goals as goal
use Rattle.controller.proofs.call.Goals.{in-Some, in_default}

pub returns-in-Err : goal.returns-in-Err
returns-in-Err g c = search (silent_call g.met.H.Held.laws)

pub returns-after-replied : goal.returns-after-replied
returns-after-replied g c =
    elim c.match-replied.branch [
      | in-Some w ↦ rw w.held-is (search (changed_call g.met.H.Held.laws))
      | in_default w ↦ rw w.held-is (search (unchanged_call g.met.H.Held.laws, rules))
    ]
