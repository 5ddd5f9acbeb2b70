-- `state::by_digits` meets its contract: no recipe, one arm for each kind, and one for other units. Assumes nothing.
use borrow.Author.Rules.{rules}
use Rattle.state.proofs.Parameters.{digits_outside, digits_inside, digits-none}
use Rattle.state.proofs.by_digits.Goals as goal

pub returns-then-not-contains : goal.returns-then-not-contains
returns-then-not-contains c = digits_outside _ (search rules)

pub returns-in-1 : goal.returns-in-1
returns-in-1 c = digits_inside _ (search rules) _ (simp c.in-1.is)

pub returns-in-2 : goal.returns-in-2
returns-in-2 c = digits_inside _ (search rules) _ (simp c.in-2.is)

pub returns-in-3 : goal.returns-in-3
returns-in-3 c = digits_inside _ (search rules) _ (simp c.in-3.is)

pub returns-in_default : goal.returns-in_default
returns-in_default c = search (digits-none, rules)
