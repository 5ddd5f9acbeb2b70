-- `several::call` meets its contract: `Walking` holds at each turn; one law for each way on and each way out. The measure is the bytes left.
-- Assumes nothing.
use Prim.Native.Nat.{◌+◌, ◌^◌, ◌<◌}
use borrow.Author.Rules.{rules}
use Rattle.several.specs.Several.{called_alone, several_held}
use Rattle.several.proofs.Walk.{walk_begun, walk_refused, walk_stop, text-order, text_inside, count_fits, nearer_end, reply_fits, walk_changed, walk_unchanged}
use Rattle.several.proofs.Form.{serving, replying}
use Rattle.several.proofs.call.Goals as goal

pub returns-then-not-is_valid : goal.returns-then-not-is_valid
unfolding several_held
returns-then-not-is_valid g c = search (walk_refused (called_alone g.H.Held.called) g.H.Held.valid g.H.Held.address)

pub loop-place-init : goal.loop-place-init
loop-place-init g c = search (walk_begun (called_alone g.H.Held.called) g.H.Held.valid g.H.Held.address)

pub returns-in-Err : goal.returns-in-Err
unfolding several_held
returns-in-Err g c = search (walk_stop (serving g.met.H.Held.laws g.met.H.Steady.steady))

pub slice_bounds-text-count : goal.slice_bounds-text-count
slice_bounds-text-count g c = search (text-order (serving g.met.H.Held.laws g.met.H.Steady.steady), rules)

pub slice_bounds-text-start : goal.slice_bounds-text-start
slice_bounds-text-start g c = search (text-order (serving g.met.H.Held.laws g.met.H.Steady.steady), rules)

pub slice_bounds-text-end : goal.slice_bounds-text-end
slice_bounds-text-end g c = search (text_inside (serving g.met.H.Held.laws g.met.H.Steady.steady), rules)

pub overflow_add-answered : goal.overflow_add-answered
overflow_add-answered g c = search (count_fits (serving g.met.H.Held.laws g.met.H.Steady.steady), rules)

pub overflow_add-written : goal.overflow_add-written
overflow_add-written g c =
    let fits : c.loop-place.written + c.unwrap_or-written.result < 2 ^ 64 =
    reply_fits (serving g.met.H.Held.laws g.met.H.Steady.steady) c.loop-place.invariant _ c.address-address.ensures _ c.next_due.ensures _ c.in-Ok.is
    (replying g.met.H.Held.laws g.met.H.Steady.steady) g.H.Held.changed _ _ _ c.reply_to-replied.ensures _ c.unwrap_or-written.ensures in
    search rules

pub loop-place-smaller-in-Some : goal.loop-place-smaller-in-Some
loop-place-smaller-in-Some g c = search (nearer_end (serving g.met.H.Held.laws g.met.H.Steady.steady))

-- a reply, whose effect is carried out
pub loop-place-preserved-in-Some : goal.loop-place-preserved-in-Some
loop-place-preserved-in-Some g c =
    walk_changed (serving g.met.H.Held.laws g.met.H.Steady.steady) c.loop-place.invariant _ c.address-address.ensures _ c.next_due.ensures _ c.in-Ok.is
    (replying g.met.H.Held.laws g.met.H.Steady.steady) g.H.Held.changed _ _ _ c.reply_to-replied.ensures _ c.unwrap_or-written.ensures _ _ c.in-Some.is c.carry_out.ensures

pub loop-place-smaller : goal.loop-place-smaller
loop-place-smaller g c = search (nearer_end (serving g.met.H.Held.laws g.met.H.Steady.steady))

-- ... or that has none
pub loop-place-preserved : goal.loop-place-preserved
loop-place-preserved g c =
    walk_unchanged (serving g.met.H.Held.laws g.met.H.Steady.steady) c.loop-place.invariant _ c.address-address.ensures _ c.next_due.ensures _ c.in-Ok.is
    (replying g.met.H.Held.laws g.met.H.Steady.steady) g.H.Held.changed _ _ _ c.reply_to-replied.ensures _ c.unwrap_or-written.ensures g.met.H.Held.laws.unchanged
    (search rules)
