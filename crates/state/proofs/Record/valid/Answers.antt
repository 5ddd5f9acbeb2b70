-- `state::Record::valid` meets its contract: the loops have passed the recipes before `recipe`, and then the places below `place`. Assumes nothing.
use native.Mathlib.Omega.{arith}
use borrow.Author.Rules.{rules}
use Rattle.state.proofs.Validity.{recipe_more, not-valid_scalars, not-valid_levels, not-valid-recipe, not-valid-value, valid_all}
use Rattle.state.proofs.Record.valid.Goals as goal

pub returns-then-not-scalars_valid : goal.returns-then-not-scalars_valid
returns-then-not-scalars_valid c = search not-valid_scalars

pub returns-then-not-all_between : goal.returns-then-not-all_between
returns-then-not-all_between c = search not-valid_levels

pub returns-then-not-recipe_valid : goal.returns-then-not-recipe_valid
returns-then-not-recipe_valid c =
    not-valid-recipe _ _ _ _ _ _
    c.recipe_place.ensures c.recipe_place-in-loop-recipe.ensures c.recipe_place-in-loop-recipe-2.ensures (omega arith) (omega arith) c.recipe_valid.ensures
    (search rules)

pub loop-recipe-preserved : goal.loop-recipe-preserved
loop-recipe-preserved c =
    recipe_more _ _ _ _ _ _
    c.recipe_place.ensures c.recipe_place-in-loop-recipe.ensures c.recipe_place-in-loop-recipe-2.ensures (omega arith) (omega arith) c.recipe_valid.ensures
    (search rules) c.loop-recipe.invariant

pub returns-then-not-within : goal.returns-then-not-within
returns-then-not-within c = not-valid-value _ _ _ _ c.range_at.ensures c.within.ensures (search rules) c.loop-place-test.true

pub returns : goal.returns
returns c = search (valid_all, rules)
