-- `state::code_at` meets its contract: one law of `Parameters` for each third of the places. Assumes nothing.
use Rattle.state.proofs.Parameters.{code_given-recipe, code_given_system, code_beyond}
use borrow.Author.Rules.{rules}
use Rattle.state.proofs.code_at.Goals as goal

pub returns-then-place : goal.returns-then-place
returns-then-place c = code_given-recipe _ (search rules)

pub returns-then-place-lt-PARAMETERS : goal.returns-then-place-lt-PARAMETERS
returns-then-place-lt-PARAMETERS c = code_given_system _ (search rules) (search rules)

pub returns : goal.returns
returns c = code_beyond _ (search rules)
