-- `storedboard::save` meets its contract: a law for each return. Assumes nothing.
use borrow.Author.Rules.{rules}
use Rattle.storedboard.proofs.Writing.{at_place, inside, saved_nobody, saved-short, saved_here}
use Rattle.storedboard.proofs.save.Goals as goal

pub returns-in_default : goal.returns-in_default
returns-in_default c = search (saved_nobody, rules)

pub returns-then-end-stored : goal.returns-then-end-stored
returns-then-end-stored c =
    let wrote = simp (at_place c.args.records.now c.in-Some.i (inside _ _ c.args.stored.now _ c.place_of.ensures _ c.in-Some.is)) at c.write.ensures in
    search (saved_here _ _ _ _ c.place_of.ensures _ c.in-Some.is wrote)

pub returns-else-end-stored : goal.returns-else-end-stored
returns-else-end-stored c = search (saved-short, rules)
