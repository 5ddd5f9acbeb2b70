-- A change over its bytes is the change by value, reply for reply, so that all that holds of that one holds of this one. Assumes nothing.
use Prim.Native.Nat.{ℕ, ◌+◌, ◌≤◌}
use mathlib.Core.Path.{◌≡◌, refl, ap, subst, ◌∙◌}
use mathlib.Core.List.{List, [], ◌∷◌}
use native.Mathlib.Omega.{arith}
use lib.Dec.{eqb}
use lib.ListN.{length}
use borrow.Author.Tests.{eq-eqb}
use Rattle.base.proofs.Tests.{by_test, never, between_high}
use Rattle.stored.specs.Form.{big_endian}
use Rattle.stored.proofs.Bytes.{number_big}
use Rattle.drum.specs.declared.Change.{Change}
use Rattle.drum.specs.Drum as drum
use Rattle.drum.specs.Drum.{Checked, out, good, checked, at_step, picked, Outcome, hands_out}
use Rattle.drum.specs.Turns as drum-turns
use Rattle.drum.specs.Turns.{Turn}
use Rattle.drum.proofs.Cases.{out_low, by_begin, by_take, awaits-good, good-tells}
use Rattle.drum.proofs.Order as order
use Rattle.drum.proofs.Order.{checked_at, Sayable, refuses}
use Rattle.drumstate.specs.State.{state_of, change_in, Left, saved_in, left_by, no_state, begin_of, take_of, ran_on, Same}

-- what was stored is read again, for picks that are in their ranges
pub state_read : (s : Change) → checked s ≡ good → change_in (state_of s) ≡ s
unfolding change_in state_of big_endian
state_read s g =
    let h = good-tells s g in
    let f = between_high _ _ s.factor h.factor_in in
    let p = between_high _ _ s.preset h.preset_in in
    simp (number_big 2 s.factor (omega arith), number_big 3 s.preset (omega arith))

state-size : (s : Change) → length (state_of s) ≡ 8
unfolding state_of big_endian
state-size s = refl

-- the ways in which a state is stored
module _ (b : List ℕ) (s : Change) (g : checked s ≡ good) where
  stored-out : (i : ℕ) (o : List ℕ) → Same (left_by (hands_out i s o) b) (hands_out i s o)
  unfolding hands_out saved_in
  stored-out i o = record { same-told = refl; same-buffer = refl; size = state-size (at_step i s); same-state = state_read (at_step i s) (checked_at i s ∙ g) }

  stored_at : (i : ℕ) (t : drum.Told) (o : List ℕ) → saved_in t (at_step i s) b ≡ state_of (at_step i s) → Same (left_by (drum.tells t (at_step i s) o) b) (drum.tells t (at_step i s) o)
  stored_at i t o e =
      record {
        same-told = refl;
        same-buffer = refl;
        size = ap length e ∙ state-size (at_step i s);
        same-state = ap change_in e ∙ state_read (at_step i s) (checked_at i s ∙ g);
      }

-- a beginning
pub begun_same : (a r f p : ℕ) (b o : List ℕ) → length b ≡ 8 → checked (picked a r f p) ≡ good → 64 ≤ length o
    → Same (begin_of a r f p b o) (drum.begin_of a r f p o)
unfolding begin_of
begun_same a r f p b o l g room =
    simp (eq-eqb (length b) 8 l)
    (by_begin a r f p o (λ (x : Outcome). Same (left_by x b) x) (λ n e. absurd (never (cc))) (λ e m. absurd (omega arith))
    (λ e m. stored-out b (picked a r f p) g 1 o))

-- a reply
pub taken-same : (b q o : List ℕ) → length b ≡ 8 → Same (take_of b q o) (drum.take_of (change_in b) q o)
unfolding take_of saved_in
taken-same b q o l =
    let s : Change = change_in b in
    let kept : (t : drum.Told) → saved_in t s b ≡ b → Same (left_by (drum.tells t s o) b) (drum.tells t s o) =
    λ t e. record { same-told = refl; same-buffer = refl; size = ap length e ∙ l; same-state = ap change_in e } in
    simp (eq-eqb (length b) 8 l)
    (by_take s q o (λ (x : Outcome). Same (left_by x b) x) (λ h. kept (drum.Q 4) refl) (λ h m. kept drum.short refl)
    (λ h m w. stored_at b s (awaits-good s h).0 (drum.stopped s.step) (drum.stop s.step) o refl)
    (λ h m r e. stored_at b s (awaits-good s h).0 drum.ended drum.end o refl)
    (λ h m r e. stored-out b s (awaits-good s h).0 (s.step + 1) o))

-- all replies
run_on : (ts : List Turn) (x : Left) (y : Outcome) → Same x y → Same (ran_on x ts) (drum-turns.ran_on y ts)
unfolding ran_on drum-turns.ran_on
run_on [] x y h = h
run_on (t ∷ ts) x y h =
    let s = taken-same x.state t.reply t.room h.size in
    run_on ts (take_of x.state t.reply t.room) (drum.take_of y.after t.reply t.room)
    (subst (λ (z : Change). Same (take_of x.state t.reply t.room) (drum.take_of z t.reply t.room)) h.same-state s)

pub same-run : (a r f p : ℕ) (b o : List ℕ) (ts : List Turn) → length b ≡ 8 → checked (picked a r f p) ≡ good → 64 ≤ length o
    → Same (ran_on (begin_of a r f p b o) ts) (drum-turns.ran_on (drum.begin_of a r f p o) ts)
same-run a r f p b o ts l g room = run_on ts (begin_of a r f p b o) (drum.begin_of a r f p o) (begun_same a r f p b o l g room)

-- ---- what may be told
pub begun_says : (a r f p : ℕ) (b o : List ℕ) → Sayable (begin_of a r f p b o).told
unfolding begin_of
begun_says a r f p b o =
    by_test (eqb (length b) 8) (λ l. simp l (order.begun_says a r f p o)) (λ l. simp l (none (checked (picked a r f p)) refl))
  where
    none : (x : Checked) → checked (picked a r f p) ≡ x → Sayable (no_state x)
    none (out n) e = let h = out_low (picked a r f p) n e in refuses n (omega arith)
    none good e = refuses 4 (omega arith)

pub taken_says : (b q o : List ℕ) → Sayable (take_of b q o).told
unfolding take_of
taken_says b q o = by_test (eqb (length b) 8) (λ l. simp l (order.taken_says (change_in b) q o)) (λ l. simp l (refuses 4 (omega arith)))
