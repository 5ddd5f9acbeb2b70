-- `showing::show` meets its contract: a parameter's number is told at the parameter's position. Assumes nothing.
use Rattle.command.specs.Commands.{row_of}
use Rattle.showing.specs.Shown.{shown}
use Rattle.showing.proofs.Telling.{value_shown, level_shown}
use Rattle.showing.proofs.show.Goals as goal

pub returns-in-Value : goal.returns-in-Value
unfolding shown row_of
returns-in-Value c =
    value_shown _ _ _ _ _ _ _ _ c.position_of-at.ensures _ c.in-Value.is c.number_behind-value.ensures c.parameter_label.ensures c.range_at.ensures
    c.show_number-in-Value.ensures

pub returns-in-Level : goal.returns-in-Level
unfolding shown row_of
returns-in-Level c =
    level_shown _ _ _ _ _ _ _ _ c.position_of-at-in-Level.ensures c.in-Level.is c.number_behind-level.ensures c.parameter_label-in-Level.ensures c.show_small-in-Level.ensures
