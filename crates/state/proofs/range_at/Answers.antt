-- `state::range_at` meets its contract: a recipe's parameter has the range of its kind, and the tables are the system's ranges. Assumes nothing.
use borrow.Author.Rules.{rules}
use Rattle.state.proofs.Parameters.{range-given-recipe, range-given-third, range-given_system, range_beyond}
use Rattle.state.proofs.range_at.Goals as goal

pub returns-then-place-ge-PARAMETERS : goal.returns-then-place-ge-PARAMETERS
returns-then-place-ge-PARAMETERS c = range_beyond _ c.if-place-ge-PARAMETERS.true

pub returns-then-place : goal.returns-then-place
returns-then-place c = range-given_system _ c.if-place.true c.if-place-ge-PARAMETERS.false

pub returns-in-0 : goal.returns-in-0
returns-in-0 c = range-given-recipe _ c.if-place.false 0 c.in-0.is

pub returns-in-1 : goal.returns-in-1
returns-in-1 c = range-given-recipe _ c.if-place.false 1 c.in-1.is

pub returns-in_default : goal.returns-in_default
returns-in_default c = search (range-given-third, rules)
