-- What a call leaves in the reply buffer, and that nothing else depends on what the buffer held or how long it is, but for S2. Assumes
-- nothing.
use Prim.Native.Nat.{ℕ, ◌≤◌}
use mathlib.Core.Bool.{Bool, true, false}
use mathlib.Core.Path.{◌≡◌, refl, sym, ap, subst, ◌∙◌}
use mathlib.Core.List.{List, []}
use mathlib.Core.Logic.{◌⊎◌, ⊎_elim}
use lib.Dec.{eqb, leb}
use native.Mathlib.Omega.{arith}
use lib.ListN.{length, take}
use Rattle.base.specs.Test.{unless}
use Rattle.base.specs.Lists.{over}
use Rattle.base.proofs.Lists.{over-take}
use Rattle.state.specs.declared.Record.{Record}
use Rattle.state.specs.Field.{address, get}
use Rattle.state.specs.Valid.{valid}
use Rattle.frame.specs.declared.Kind.{Kind}
use Rattle.frame.specs.Frame.{all_text, names_unit, address_in, frame_of, text_in, within_limits, marks_right, check_right}
use Rattle.command.specs.Answer.{reply_text, record_after}
use Rattle.controller.specs.Call.{OutcomeOf, reply_in, silent, answered, unless_silent, call_of}
use Rattle.controller.proofs.Theorems.{SilentOutcome, ReplyOutcome}

-- ---- of what any call leaves, whatever is held

-- two outcomes have the same silence, report the same, leave the same held and show the same bytes
pub record Alike {S : Type 0} (x y : OutcomeOf S) : Type 0 where
  pub same-silence : x.silence ≡ y.silence
  pub same_length : x.reported ≡ y.reported
  pub same_record : x.after ≡ y.after
  pub same_bytes : reply_in x ≡ reply_in y

alike_by : {S : Type 0} (b : Bool) {x y x' y' : OutcomeOf S} → Alike x x' → Alike y y' → Alike (unless b x y) (unless b x' y')
alike_by true p q = q
alike_by false p q = p

-- a call that is silent by s, or is answered by the text x and leaves t: both buffers have room, or neither has
module _ {S : Type 0} (k : Kind) (good : Bool) (a : ℕ) (q x : List ℕ) (s t : S) (o o' : List ℕ) where
  both_silent : (n : ℕ) → Alike (silent n s o) (silent n s o')
  both_silent n = record { same-silence = refl; same_length = refl; same_record = refl; same_bytes = refl }

  both_answered : Alike (answered k x t o) (answered k x t o')
  both_answered =
      let f : List ℕ = frame_of k x in
      record { same-silence = refl; same_length = refl; same_record = refl; same_bytes = over-take f o (length f) refl ∙ sym (over-take f o' (length f) refl) }

  pub outcomes_alike : leb 64 (length o) ≡ leb 64 (length o')
      → Alike (unless_silent (λ n. silent n s o) k good a q (length o) (answered k x t o)) (unless_silent (λ n. silent n s o') k good a q (length o') (answered k x t o'))
  outcomes_alike e =
      let u : List ℕ = text_in k q in
      let rest : (y y' : OutcomeOf S) → Alike y y' → Alike (unless (leb 64 (length o)) (silent 2 s o) y) (unless (leb 64 (length o')) (silent 2 s o') y') =
      λ y y' p. subst (λ (b : Bool). Alike (unless (leb 64 (length o)) (silent 2 s o) y) (unless b (silent 2 s o') y')) e
      (alike_by (leb 64 (length o)) (both_silent 2) p) in
      alike_by good (both_silent 1) (rest _ _ (alike_by (within_limits k (length q)) (both_silent 3) (alike_by (marks_right k q) (both_silent 4)
      (alike_by (check_right k q) (both_silent 5) (alike_by (all_text u) (both_silent 6) (alike_by (names_unit u) (both_silent 7)
      (alike_by (eqb (address_in u) a) (both_silent 8) both_answered)))))))

-- a silence shows nothing; a reply its frame
pub none-shown : {S : Type 0} {c : OutcomeOf S} {r : S} {o : List ℕ} → SilentOutcome c r o → reply_in c ≡ []
none-shown {S} {c} s = ap (λ (n : ℕ). take n c.buffer) s.nothing

pub frame-shown : {S : Type 0} {c : OutcomeOf S} {good : Bool} {k : Kind} {x : List ℕ} {s : S} {o : List ℕ} → ReplyOutcome c good k x s o → reply_in c ≡ frame_of k x
frame-shown {S} {c} {good} {k} {x} {s} {o} a =
    ap (λ (n : ℕ). take n c.buffer) a.size ∙ (ap (take (length (frame_of k x))) a.frame ∙ over-take (frame_of k x) o (length (frame_of k x)) refl)

module _ {S : Type 0} {c : OutcomeOf S} {good : Bool} {k : Kind} {x o : List ℕ} {r s : S} (either : SilentOutcome c r o ⊎ ReplyOutcome c good k x s o) where
  -- what is shown is laid over the buffer, and that is all
  pub buffer_left : c.buffer ≡ over (reply_in c) o
  unfolding over
  buffer_left =
      ⊎_elim (λ (y : SilentOutcome c r o). y.same-buffer ∙ sym (ap (λ (z : List ℕ). over z o) (none-shown y)))
      (λ (y : ReplyOutcome c good k x s o). y.frame ∙ sym (ap (λ (z : List ℕ). over z o) (frame-shown y))) either

  -- no more than 64 bytes are reported, and as many are shown
  pub shown-length : (length (reply_in c) ≡ c.reported) × (c.reported ≤ 64)
  shown-length =
      ⊎_elim (λ (y : SilentOutcome c r o). (ap length (none-shown y) ∙ sym y.nothing, omega (arith, y.nothing)))
      (λ (y : ReplyOutcome c good k x s o). (ap length (frame-shown y) ∙ sym y.size, y.high)) either

-- ---- document 01's call
pub calls_alike : (k : Kind) (r : Record) (q o o' : List ℕ) → leb 64 (length o) ≡ leb 64 (length o') → Alike (call_of k r q o) (call_of k r q o')
unfolding call_of
calls_alike k r q o o' e = outcomes_alike k (valid r) (get address r) q (reply_text (text_in k q) r) r (record_after (text_in k q) r) o o' e
