-- `reply::put_if` meets its contract: the word if it is on, and nothing if it is off. Assumes nothing.
use native.Mathlib.Omega.{arith}
use borrow.Author.Rules.{rules}
use Rattle.text.proofs.Writing.{laid_none, room-written}
use Rattle.reply.proofs.put_if.Goals as goal

pub returns-then-on : goal.returns-then-on
returns-then-on c =
    let a = room-written _ _ _ _ _ (search rules) c.put_word.ensures in
    rw c.if-on.true record { value = a; upper_bound = omega (arith, a.0) }

pub returns-else-on : goal.returns-else-on
returns-else-on c = rw c.if-on.false record { value = laid_none _ _; upper_bound = omega arith }
