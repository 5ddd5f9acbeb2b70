-- What the controller holds when SB goes out and when a change has ended, whatever its record and its bank were: a right reply is document
-- 01's, of the record alone, and S1 is none. Assumes nothing.
use Prim.Native.Nat.{ℕ, ◌+◌, ◌≤◌}
use mathlib.Core.Bool.{true}
use mathlib.Core.Path.{◌≡◌, refl, sym, ap, ◌∙◌, subst}
use mathlib.Core.List.{List, [], ◌∷◌}
use mathlib.Core.Logic.{◌⊎◌, inl, inr, ⊎_elim}
use native.Mathlib.Omega.{arith}
use lib.Dec.{leb}
use lib.ListN.{length, take}
use Rattle.base.proofs.Tests.{by_test, never, between_high}
use Rattle.frame.specs.Frame.{frame_of, within_limits}
use Rattle.controller.specs.Call.{reply_in}
use Rattle.banked.specs.declared.Banked.{Banked}
use Rattle.banked.specs.Banked.{with, valid, banked_of}
use Rattle.drum.specs.declared.Change.{Change}
use Rattle.drum.specs.Drum.{asks, wants, framed, request_frame, reply_frame, checked, last, ended, awaits, at_step, Told, Q, short, request, end, stop, Outcome, tells, hands_out, picked, begin_of, take_of}
use Rattle.drum.specs.Turns.{size_told, handed_out, batch_frame}
use Rattle.drum.proofs.Cases.{by_begin, by_take, awaits-good, InRange, good-tells}
use Rattle.drum.proofs.Order.{handed_so, batch_alone, batch_some}
use Rattle.skid.specs.Exchange.{Lent, Both, both, called, exchanged, run, Holds, Closed}
use Rattle.skid.proofs.Beside.{called_alone, request_spares, by_bank}
use Rattle.skid.proofs.Steps.{asking, asked_so}
use Rattle.skid.proofs.Calls.{Right, unit_after, composition_right, batch_right}

-- ---- no frame is empty
some_frame : (a : ℕ) (x : List ℕ) → [] ≡ framed a x → ⊥
unfolding frame_of
some_frame a x e = never (cc)

-- nothing asked, nothing replied
nothing-heard : (u : Banked) (o : List ℕ) → reply_in (called u [] o) ≡ []
unfolding banked_of within_limits
nothing-heard u o = by_test (valid u) (λ v. by_test (leb 64 (length o)) (λ l. simp (v, l)) (λ l. simp (v, l))) (λ v. simp v)

-- ---- the run: a request is out, and if it is SB's, the controller holds what was picked; or none is, and at the end the batch is set
record Going (s : Change) (w : Both) : Type 0 where
  step : ℕ
  room : List ℕ
  few : step ≤ last
  here : hands_out step s room ≡ w.change
  held : step ≡ last → Holds s.recipe s.factor w.unit.state

record Quiet (s : Change) (w : Both) : Type 0 where
  none : handed_out w.change ≡ []
  closed : w.change.told ≡ end → Closed s.recipe s.factor s.preset w.unit.state

abbrev Kept : Change → Both → Type 0
Kept s w = Going s w ⊎ Quiet s w

quiet_so : (s t : Change) (b : List ℕ) (w : Banked) (x : Told) → size_told x ≡ 0 → (x ≡ end → ⊥) → Kept s (both (tells x t b) w)
quiet_so s t b w x e other = inr (record { none = ap (λ (n : ℕ). take n b) e; closed = λ z. absurd (other z) })

-- it is kept by every reply, if by the right ones
kept_by : (s t : Change) (q b : List ℕ) (w : Banked)
    → (awaits t ≡ true → q ≡ reply_frame t.step t → t.step ≡ last → Kept s (both (tells end (at_step ended t) b) w))
    → (awaits t ≡ true → q ≡ reply_frame t.step t → (t.step ≡ last → ⊥) → Kept s (both (hands_out (t.step + 1) t b) w)) → Kept s (both (take_of t q b) w)
kept_by s t q b w ends goes_on =
    by_take t q b (λ (y : Outcome). Kept s (both y w)) (λ h. quiet_so s t b w (Q 4) refl (λ e. never (cc)))
    (λ h l. quiet_so s t b w short refl (λ e. never (cc))) (λ h l n. quiet_so s _ b w (stop t.step) refl (λ e. never (cc)))
    (λ h l. ends h) (λ h l. goes_on h)

-- one exchange
module _ (s : Change) (l : Lent) (u : Banked) where
  -- nothing replied
  quiet_by : (t : Change) (w : Banked) → Kept s (both (take_of t [] l.next) w)
  unfolding reply_frame
  quiet_by t w = kept_by s t [] l.next w (λ h e z. absurd (some_frame _ _ e)) (λ h e z. absurd (some_frame _ _ e))

  quiet_on : (x : Outcome) → handed_out x ≡ [] → Kept s (exchanged l (both x u))
  unfolding exchanged
  quiet_on x none =
      subst (λ (q : List ℕ). Kept s (both (take_of x.after (reply_in (called u q l.reply)) l.next) (called u q l.reply).after)) (sym none)
      (subst (λ (q : List ℕ). Kept s (both (take_of x.after q l.next) (called u [] l.reply).after)) (sym (nothing-heard u l.reply))
      (quiet_by x.after _))

  module _ (i : ℕ) (held : i ≡ last → Holds s.recipe s.factor u.state) where
    in_range_lem : awaits (at_step i s) ≡ true → InRange s
    unfolding checked
    in_range_lem h = good-tells s (awaits-good (at_step i s) h).0

    ending : awaits (at_step i s) ≡ true → Right s u.state l.reply i → i ≡ last → Closed s.recipe s.factor s.preset (unit_after s u.state l.reply i)
    ending h e z =
        subst (λ (j : ℕ). Right s u.state l.reply j → Closed s.recipe s.factor s.preset (unit_after s u.state l.reply j)) (sym z)
        (batch_right s (in_range_lem h) u.state l.reply (held z)) e

    showing : awaits (at_step i s) ≡ true → Right s u.state l.reply i → i + 1 ≡ last → Holds s.recipe s.factor (unit_after s u.state l.reply i)
    showing h e z =
        let y : 4 ≡ i = omega arith in
        subst (λ (j : ℕ). Right s u.state l.reply j → Holds s.recipe s.factor (unit_after s u.state l.reply j)) y
        (composition_right s (in_range_lem h) u.state l.reply) e

    going_on : Kept s (asking i s l u)
    unfolding request_frame asks reply_frame wants hands_out
    going_on =
        by_bank u (request_frame i s) l.reply (request_spares i s)
        (λ c. Kept s (both (take_of (at_step i s) (reply_in c) l.next) c.after))
        (kept_by s (at_step i s) (reply_in (called_alone u.state (request_frame i s) l.reply)) l.next (with (unit_after s u.state l.reply i) u.bank)
        (λ h e z. inr (record { none = refl; closed = λ x. ending h e z }))
        (λ h e z.
        let high = between_high _ _ i (awaits-good (at_step i s) h).1 in
        inl (record { step = i + 1; room = l.next; few = omega arith; here = refl; held = showing h e })))
        (quiet_by (at_step i s) u)

kept_on : (s : Change) (l : Lent) (w : Both) → Kept s w → Kept s (exchanged l w)
kept_on s l w =
    ⊎_elim
    (λ (g : Going s w). subst (λ (x : Outcome). Kept s (exchanged l (both x w.unit))) g.here
    (subst (Kept s) (sym (asked_so g.step s g.room l w.unit)) (going_on s l w.unit g.step g.held)))
    (λ (g : Quiet s w). quiet_on s l w.unit w.change g.none)

run_kept : (s : Change) (ls : List Lent) (w : Both) → Kept s w → Kept s (run ls w)
unfolding run
run_kept s [] w k = k
run_kept s (l ∷ ls) w k = run_kept s ls (exchanged l w) (kept_on s l w k)

-- ---- any record, any bank, any lent buffers, any number of exchanges
module _ (a r f p : ℕ) (o : List ℕ) (u : Banked) (ls : List Lent) where
  abbrev s : Change
  s = picked a r f p

  abbrev reached : Both
  reached = run ls (both (begin_of a r f p o) u)

  kept : Kept s reached
  kept =
      run_kept s ls (both (begin_of a r f p o) u)
      (by_begin a r f p o (λ (y : Outcome). Kept s (both y u)) (λ n e. quiet_so s s o u (Q n) refl (λ z. never (cc)))
      (λ e l. quiet_so s s o u short refl (λ z. never (cc)))
      (λ e l. inl (record { step = 1; room = o; few = omega arith; here = refl; held = λ z. absurd (omega arith) })))

  -- a change that ended left the picked recipe and factor in the controller, and a batch of the picked preset is set
  pub ended_closes : (run ls (both (begin_of a r f p o) u)).change.told ≡ end → Closed r f p (run ls (both (begin_of a r f p o) u)).unit.state
  unfolding hands_out
  ended_closes e =
      ⊎_elim
      (λ (g : Going s reached). let z : request (length (request_frame g.step s)) ≡ end = ap (λ (x : Outcome). x.told) g.here ∙ e in absurd (never (cc)))
      (λ (g : Quiet s reached). g.closed e) kept

  -- SB's frame is out only while the controller holds the picked recipe and factor
  pub batch_only-if-held : handed_out (run ls (both (begin_of a r f p o) u)).change ≡ batch_frame a p → Holds r f (run ls (both (begin_of a r f p o) u)).unit.state
  batch_only-if-held e =
      ⊎_elim (λ (g : Going s reached). g.held (batch_alone g.step s g.few (sym (handed_so g.step s g.room) ∙ (ap handed_out g.here ∙ e))))
      (λ (g : Quiet s reached). absurd (batch_some a p (sym e ∙ g.none))) kept
