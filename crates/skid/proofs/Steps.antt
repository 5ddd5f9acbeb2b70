-- One step of a drum change: what is handed out, and what a right reply brings. Assumes nothing.
use Prim.Native.Nat.{ℕ, ◌+◌, ◌≤◌}
use mathlib.Core.Bool.{true}
use mathlib.Core.Path.{◌≡◌, refl, ap, ◌∙◌}
use mathlib.Core.List.{List}
use lib.Dec.{eqb}
use lib.ListN.{length}
use borrow.Author.Tests.{le-leb}
use Rattle.base.specs.Test.{pick}
use Rattle.base.proofs.Tests.{between_yes}
use Rattle.base.proofs.Lists.{over-take}
use Rattle.text.proofs.Words.{equal-same}
use Rattle.state.specs.declared.Record.{Record}
use Rattle.bank.specs.declared.Bank.{Bank}
use Rattle.bank.specs.Bank as bank
use Rattle.frame.specs.declared.Kind.TheVariants.{Minicomputer}
use Rattle.controller.specs.Call as controller
use Rattle.controller.specs.Call.{OutcomeOf, reply_in}
use Rattle.controller.proofs.ReadBack.{LeavesAt}
use Rattle.banked.specs.declared.Banked.{Banked}
use Rattle.banked.specs.Banked.{with, beside}
use Rattle.drum.specs.declared.Change.{Change}
use Rattle.drum.specs.Drum.{asks, wants, request_frame, reply_frame, good, checked, last, ended, at_step, end, Outcome, tells, hands_out, take_of}
use Rattle.drum.proofs.Cases.{good-awaits}
use Rattle.drum.proofs.Order.{handed_so}
use Rattle.skid.specs.Exchange.{Lent, Roomy, Both, both, called, exchanged}
use Rattle.skid.proofs.Beside.{request_spares, passed}

-- ---- the exchange while step i is out, whatever the controller replies
abbrev pub asking : ℕ → Change → Lent → Banked → Both
asking i s l u =
    let c = called u (request_frame i s) l.reply in
    both (take_of (at_step i s) (reply_in c) l.next) c.after

pub asked_so : (i : ℕ) (s : Change) (o : List ℕ) (l : Lent) (u : Banked) → exchanged l (both (hands_out i s o) u) ≡ asking i s l u
unfolding exchanged hands_out
asked_so i s o l u =
    ap (λ (q : List ℕ). both (take_of (at_step i s) (reply_in (called u q l.reply)) l.next) (called u q l.reply).after)
    (handed_so i s o)

-- ---- what a right reply brings: the next request, or behind the last the end
abbrev pub coming : ℕ → Change → List ℕ → Outcome
coming i s o = pick (eqb i last) (tells end (at_step ended s) o) (hands_out (i + 1) s o)

-- asked step i, document 01's controller with the record u replies as is wanted, and its record is then w
abbrev pub Gives : ℕ → Change → Record → Record → Type 0
Gives i s u w = (o : List ℕ) → 64 ≤ length o → LeavesAt Minicomputer u o s.address (asks i s) (wants i s) w

module _ (i : ℕ) (s : Change) (fine : checked s ≡ good) (low : 1 ≤ i) (high : i ≤ last) where
  taken_right : (o : List ℕ) → 64 ≤ length o → take_of (at_step i s) (reply_frame i s) o ≡ coming i s o
  unfolding take_of checked reply_frame wants hands_out request_frame asks
  taken_right o room = simp (good-awaits (at_step i s) fine (between_yes 1 last i low high), le-leb 64 (length o) room, equal-same (reply_frame i s))

  -- the same with a bank k beside the record, which stays
  pub answered_right : (o : List ℕ) (l : Lent) (k : Bank) (u w : Record) → bank.valid k ≡ true → Roomy l → Gives i s u w
      → exchanged l (both (hands_out i s o) (with u k)) ≡ both (coming i s l.next) (with w k)
  unfolding request_frame reply_frame
  answered_right o l k u w v m g =
      asked_so i s o l (with u k)
      ∙ (ap (λ (c : OutcomeOf Banked). both (take_of (at_step i s) (reply_in c) l.next) c.after)
      (passed (with u k) (request_frame i s) l.reply (request_spares i s) v ∙ ap (λ (c : controller.Outcome). beside c k) (g l.reply m.reply-room))
      ∙ (ap (λ (q : List ℕ). both (take_of (at_step i s) q l.next) (with w k)) (over-take (reply_frame i s) l.reply (length (reply_frame i s)) refl)
      ∙ ap (λ (x : Outcome). both x (with w k)) (taken_right l.next m.next_room)))
