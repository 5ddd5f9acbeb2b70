-- Of all requests ET alone leads from Stopped or Done to Idle, in any record: so the phases before and after tell whether a batch is
-- stored. One line for a command. Assumes nothing.
use Prim.Native.Nat.{ℕ}
use mathlib.Core.Bool.{Bool, true, false, ◌&&◌, and-false}
use mathlib.Core.Path.{◌≡◌, refl, sym, ap, subst, ◌∙◌}
use mathlib.Core.List.{List, [], ◌∷◌}
use native.Mathlib.Omega.{arith}
use lib.Dec.{eqb}
use borrow.Author.Tests.{ne_eqb}
use Rattle.base.specs.Test.{pick, member}
use Rattle.base.specs.Text.{text}
use Rattle.base.proofs.Tests.{◌also◌, by_test, never}
use Rattle.state.specs.declared.Record.{Record}
use Rattle.state.specs.Alarm.{lasting}
use Rattle.state.specs.Field.{Field, phase, changed, reset, recipe, preset, raw, alarms, value, level, get, put, position, phase_of, phase_number, on, off}
use Rattle.state.specs.Event.{idle, set, running, stopped, done, flag_after}
use Rattle.state.proofs.Fields.{get-put_other}
use Rattle.text.specs.Word.{equal}
use Rattle.bank.specs.declared.Bank.{Bank}
use Rattle.bank.specs.Bank.{batch_of, keep_of}
use Rattle.command.specs.Commands.{ET, code_in, Arguments, Change, ◌≔◌, next_batch, applied, commands, row_of}
use Rattle.command.specs.Answer.{Verdict, NO, accepted, arguments_in, record_for}
use Rattle.command.specs.Answer as tables
use Rattle.command.proofs.Fits.{codes, All, by_member, SoundAsked, asked_sound}
use Rattle.command.proofs.Agree.{accepted-asked}
use Rattle.banked.specs.Banked.{with, bank_for}
use Rattle.banked.specs.Steps.{stored_between, bank_after}

-- Stopped or Done
abbrev pub halted : ℕ → Bool
halted p = member p (stopped ∷ done ∷ [])

pub not-idle : (p : ℕ) → halted p ≡ true → eqb p idle ≡ false
not-idle p h = ne_eqb p idle (λ e. let z : ◌≡◌ {A = Bool} (halted idle) true = ap halted (sym e) ∙ h in never (cc))

-- ---- the phase that a request leaves
module _ (x : Arguments) (r : Record) (h : halted (get phase r) ≡ true) where
  abbrev Idles : ℕ → Type 0
  Idles d = eqb (get phase (applied ((row_of d commands).effect x) r)) idle ≡ eqb d ET

  -- a field other than the phase is written
  stays : (f : Field) (n : ℕ) (s : Record) → get phase s ≡ get phase r → (position f ≡ position phase → ⊥) → eqb (get phase (put f n s)) idle ≡ false
  stays f n s e o = ap (λ (p : ℕ). eqb p idle) (get-put_other f phase n s o ∙ e) ∙ not-idle (get phase r) h

  flag_stays : (b : Bool) → eqb (get phase (put (pick b reset changed) off r)) idle ≡ false
  flag_stays true = stays reset off r refl (λ z. omega arith)
  flag_stays false = stays changed off r refl (λ z. omega arith)

  still : eqb (get phase r) idle ≡ false
  still = not-idle (get phase r) h

  phased : (n : ℕ) (cs : List Change) → eqb (get phase (applied ((phase ≔ n) ∷ cs) r)) idle ≡ eqb (phase_number (phase_of n)) idle
  unfolding put applied
  phased n cs = refl

  each : All Idles codes
  unfolding row_of applied phase_of
  each =
      -- EQ, RS, TN, RR, RC, RT, PV, XV
      still also still also still also still also still also still also still also still also
      -- PC
      stays (value x.place) x.number (put changed (flag_after (get (value x.place) r) x.number (get changed r)) r)
      (get-put_other changed phase (flag_after (get (value x.place) r) x.number (get changed r)) r (λ z. omega arith)) (λ z. omega arith) also
      -- XC, NR
      stays (level x.place) x.number r refl (λ z. omega arith) also stays recipe x.number r refl (λ z. omega arith) also
      -- SB, SA, SP, ET
      phased set ((preset ≔ x.number) ∷ (raw ≔ 0) ∷ (reset ≔ on) ∷ next_batch ∷ []) also phased running [] also phased stopped [] also phased idle [] also
      -- RE
      flag_stays (equal x.word (text "BD")) also
      -- EA, AR
      still also stays alarms (lasting (get alarms r)) r refl (λ z. omega arith) also
      tt

  pub idle_after : (c : ℕ) → member c codes ≡ true → Idles c
  idle_after c m = by_member Idles codes each c m

-- ---- the bank that is left, by the record that is left: r and k are the record and the bank before a text t
module _ (t : List ℕ) (r : Record) (k : Bank) where
  kept_so : (v : Verdict) → tables.verdict t r ≡ v → bank_after k r (record_for v t r) ≡ bank_for v t (with r k)
  unfolding bank_after stored_between
  kept_so (NO n) e = by_test (halted (get phase r)) (λ h. simp (not-idle (get phase r) h, and-false)) (λ h. simp h)
  kept_so accepted e =
      by_test (halted (get phase r))
      (λ h. simp (h, idle_after (arguments_in t) r h (code_in t) (subst SoundAsked (accepted-asked t r e) (asked_sound t)).known) (same (eqb (code_in t) ET)))
      (λ h. simp (h, and-false))
    where
      same : (b : Bool) → pick b (keep_of (batch_of r) k) k ≡ pick (b && true) (keep_of (batch_of r) k) k
      same true = refl
      same false = refl

  pub bank_kept : bank_after k r (record_for (tables.verdict t r) t r) ≡ bank_for (tables.verdict t r) t (with r k)
  bank_kept = kept_so (tables.verdict t r) refl
