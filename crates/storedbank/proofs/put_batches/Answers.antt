-- `storedbank::put_batches` meets its contract. The invariant: the first i batches are stored. Assumes nothing.
use mathlib.Core.Path.{refl}
use Rattle.storedbank.proofs.Writing.{laid_none, laid_more, laid_length, laid_all}
use borrow.Author.Rules.{rules}
use Rattle.storedbank.proofs.put_batches.Goals as goal

pub loop-i-init : goal.loop-i-init
loop-i-init c = (refl, search laid_none)

pub loop-i-preserved : goal.loop-i-preserved
loop-i-preserved c = (search (laid_length, rules), search (laid_more, rules))

pub returns : goal.returns
returns c = search laid_all
