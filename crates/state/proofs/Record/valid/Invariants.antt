-- `state::Record::valid` meets its contract: the loops have passed the recipes before `recipe`, and then the places below `place`. Assumes nothing.

use Rattle.state.proofs.Validity.{ValuesIn, RecipesIn}
use Rattle.state.proofs.Record.valid.Given as goal

abbrev pub invariant-loop-recipe : goal.invariant-loop-recipe
invariant-loop-recipe l = RecipesIn l.self l.recipe

abbrev pub invariant-loop-place : goal.invariant-loop-place
invariant-loop-place l = ValuesIn l.self l.place
