-- `totalling::add_batches` meets its contract: the sums and the numbers are those of the batches so far. Assumes nothing.
use mathlib.Core.Bool.{false, not}
use mathlib.Core.Path.{◌≡◌}
use native.Mathlib.Omega.{arith}
use lib.ListN.{length}
use Rattle.std.proofs.lemmas.Iterator.{YieldsList-from_slice, YieldsList-from_zip}
use Rattle.std.proofs.lemmas.Iterator.Consumers.{YieldsList-turn, YieldsList-end}
use Rattle.std.proofs.lemmas.List.{length_push}
use Rattle.totalling.proofs.Adding.{added_none, Here, here_zipped, all_zipped, here_out, Room, room, added_more, added_all}
use borrow.Author.Rules.{rules}
use Rattle.totalling.proofs.add_batches.Goals as goal
use Rattle.totalling.proofs.add_batches.Goals.{After-in_range}

-- where the batch at hand stands in the lists
here : (c : After-in_range) → Here c.args.raws.now c.args.factors.now c.args.recipes.now (length c.loop-raw.yielded) c.in-Some.field-0-0-0.now c.in-Some.field-0-0-1.now c.in-Some.field-0-1.now
here c =
    let lists = YieldsList-from_zip {s = c.into_iter-raw-iterator.result} (YieldsList-from_zip (YieldsList-from_slice c.args.raws.now cc) (YieldsList-from_slice c.args.factors.now cc)) (YieldsList-from_slice c.args.recipes.now cc) in
    here_zipped _ _ _ _ _ _ _ c.requires.0 c.requires.1.0
    (YieldsList-turn lists c.loop-raw.yielded c.loop-raw.raw-iterator c.loop-raw.yielded_by c.next.result c.next.new.self _ c.in-Some.is c.next.ensures.steps)

-- and there is room for it, if it is in its ranges
roomy : (c : After-in_range) → not c.in_range.result ≡ false → Room c.loop-raw.totals.sums c.loop-raw.totals.counts c.in-Some.field-0-0-0.now c.in-Some.field-0-0-1.now c.in-Some.field-0-1.now
roomy c ranged = room c.loop-raw.invariant (here c) c.in_range.ensures ranged

pub loop-raw-init : goal.loop-raw-init
loop-raw-init c = search added_none

pub returns-then-not-in_range : goal.returns-then-not-in_range
returns-then-not-in_range c =
    here_out c.loop-raw.invariant (here (goal.at.returns-then-not-in_range c).After-in_range) _ c.in_range.ensures (search rules)

pub overflow_sub-place : goal.overflow_sub-place
overflow_sub-place c = omega (arith, roomy (goal.at.overflow_sub-place c).After-in_range (search rules))

pub bounds-totals-place : goal.bounds-totals-place
bounds-totals-place c = omega (arith, roomy (goal.at.bounds-totals-place c).After-in_range (search rules))

pub overflow_add-totals : goal.overflow_add-totals
overflow_add-totals c = omega (arith, roomy (goal.at.overflow_add-totals c).After-in_range (search rules))

pub bounds-totals-place-in-loop-raw : goal.bounds-totals-place-in-loop-raw
bounds-totals-place-in-loop-raw c = omega (arith, roomy (goal.at.bounds-totals-place-in-loop-raw c).After-in_range (search rules))

pub bounds-totals-place-in-loop-raw-2 : goal.bounds-totals-place-in-loop-raw-2
bounds-totals-place-in-loop-raw-2 c = omega (arith, roomy (goal.at.bounds-totals-place-in-loop-raw-2 c).After-in_range (search rules))

pub overflow_add-totals-in-loop-raw : goal.overflow_add-totals-in-loop-raw
overflow_add-totals-in-loop-raw c = omega (arith, roomy (goal.at.overflow_add-totals-in-loop-raw c).After-in_range (search rules))

pub bounds-totals-place-in-loop-raw-3 : goal.bounds-totals-place-in-loop-raw-3
bounds-totals-place-in-loop-raw-3 c = omega (arith, roomy (goal.at.bounds-totals-place-in-loop-raw-3 c).After-in_range (search rules))

pub loop-raw-preserved : goal.loop-raw-preserved
loop-raw-preserved c =
    search (added_more c.loop-raw.invariant (here (goal.at.loop-raw-preserved c).After-in_range) c.in_range.ensures (search rules) c.amount.ensures, length_push)

pub returns : goal.returns
returns c =
    let lists = YieldsList-from_zip {s = c.into_iter-raw-iterator.result} (YieldsList-from_zip (YieldsList-from_slice c.args.raws.now cc) (YieldsList-from_slice c.args.factors.now cc)) (YieldsList-from_slice c.args.recipes.now cc) in
    let end = YieldsList-end lists c.loop-raw.yielded c.loop-raw.raw-iterator c.loop-raw.yielded_by c.next.result c.next.new.self c.in-None.is c.next.ensures.steps in
    added_all _ _ _ _ _ _ (all_zipped _ _ _ _ c.requires.0 c.requires.1.0 end.1) c.loop-raw.invariant
