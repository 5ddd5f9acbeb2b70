-- Document 01, "Worked on the bench record".
use Rattle.std.specs.Prelude.{ℕ, false, List, map, replicate, set}
use Rattle.state.specs.declared.Phase.TheVariants.{Idle}
use Rattle.state.specs.declared.Record.{Record}
use Rattle.state.specs.Alarm.{no_alarm}
use Rattle.state.specs.Parameter.{recipes, parameter_count, range_of, parameters_for, place_of}
use Rattle.command.specs.Commands.{place_number}

-- the list with n at the place of a parameter code
abbrev pub at : ℕ → ℕ → List ℕ → List ℕ
at code n xs = set xs (place_number (place_of code)) n

-- "address 1, access 2, Idle, recipe 3, number 9999, flags off, preset and raw 0, values at their low end but 032 = 10012,
-- levels 1 but 807 at 3"; and no alarm
unfoldable pub bench : Record
bench =
    record {
      address = 1;
      access = 2;
      phase = Idle;
      keypad = false;
      flow = false;
      changed = false;
      reset = false;
      powerfail = false;
      recipe = 3;
      preset = 0;
      raw = 0;
      number = 9999;
      alarms = no_alarm;
      values = at 32 10012 (map (λ p. (range_of p).low) (parameters_for recipes));
      levels = at 807 3 (replicate parameter_count 1);
    }
