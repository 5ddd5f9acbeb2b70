-- A call that is silent as document 01 says and else replies with a legal text has the laws of the walk, whatever is held. Assumes nothing.
use Prim.Native.Nat.{ℕ, ◌≤◌}
use mathlib.Core.Bool.{Bool}
use mathlib.Core.Path.{◌≡◌, sym, ap, ◌∙◌}
use mathlib.Core.List.{List, []}
use mathlib.Core.Logic.{◌⊎◌, ⊎_elim}
use native.Mathlib.Omega.{arith}
use lib.ListN.{length, replicate}
use borrow.Author.Tests.{le-leb}
use Rattle.base.proofs.FirstFailing.{failing}
use Rattle.base.specs.Lists.{over}
use Rattle.frame.specs.declared.Kind.{Kind}
use Rattle.frame.specs.declared.Kind.TheVariants.{Minicomputer}
use Rattle.command.specs.declared.Writing.{Writing}
use Rattle.std.specs.Prelude.{Option}
use Rattle.frame.specs.Frame.{text_in}
use Rattle.controller.specs.Call.{OutcomeOf, HeldLaws, reply_in}
use Rattle.controller.proofs.Exactly.{tests_of, outcome_failing}
use Rattle.controller.proofs.Theorems.{SilentOutcome, ReplyOutcome, every_outcome}
use Rattle.controller.proofs.Buffers.{none-shown, frame-shown, shown-length}
use Rattle.several.specs.Several.{SteadyLaws, called_alone}
use Rattle.several.proofs.Serving.{Serving, Replying}

module _ {H : Type 0} {good : H → Bool} {address : H → ℕ} {reply_text : List ℕ → H → List ℕ} {held_after : List ℕ → H → H} {changed : Option Writing → H → H}
    {replied called_by : Kind → H → List ℕ → List ℕ → OutcomeOf H}
    (laws : HeldLaws good address reply_text held_after changed replied called_by) (steady : SteadyLaws good address reply_text called_by) where
  abbrev called : H → List ℕ → OutcomeOf H
  called = called_alone called_by

  module _ (r : H) (q : List ℕ) where
    abbrev t : List ℕ
    t = text_in Minicomputer q

    abbrev Silenced : Type 0
    Silenced = SilentOutcome (called r q) r (replicate 64 0)

    abbrev Answered : Type 0
    Answered = ReplyOutcome (called r q) (good r) Minicomputer (reply_text t r) (held_after t r) (replicate 64 0)

    either : Silenced ⊎ Answered
    either = every_outcome Minicomputer (good r) (address r) r (held_after t r) q (replicate 64 0) (reply_text t r) (steady.legal t r) (called r q) (laws.call Minicomputer r q (replicate 64 0))

    silence : (called r q).silence ≡ failing 1 (tests_of Minicomputer (good r) (address r) q 64)
    silence = outcome_failing Minicomputer (good r) (address r) r (held_after t r) q (replicate 64 0) (reply_text t r) (called r q) (laws.call Minicomputer r q (replicate 64 0))

    quiet : ((called r q).silence ≡ 0 → ⊥) → (reply_in (called r q) ≡ []) × ((called r q).after ≡ r)
    quiet e = ⊎_elim (λ (s : Silenced). (none-shown s, s.same_record)) (λ (a : Answered). absurd (e a.heard)) either

    anywhere : (o : List ℕ) → (called r q).silence ≡ 0 → 64 ≤ length o
        → replied Minicomputer r t o ≡ record { silence = 0; reported = (called r q).reported; after = (called r q).after; buffer = over (reply_in (called r q)) o }
    anywhere o e l = ⊎_elim (λ (s : Silenced). absurd (omega (arith, s.low))) so either
      where
        left : ℕ → H → List ℕ → OutcomeOf H
        left n s y = record { silence = 0; reported = n; after = s; buffer = over y o }

        so : Answered → replied Minicomputer r t o ≡ left (called r q).reported (called r q).after (reply_in (called r q))
        so a =
            laws.reply Minicomputer r t o
            ∙ (simp (le-leb 64 (length o) l, sym a.size, sym a.next_record) (ap (left (called r q).reported (called r q).after) (sym (frame-shown a))))

  pub serving : Serving called good address
  serving =
      record {
        silence = silence;
        quiet = quiet;
        shown = λ r q. shown-length (either r q);
        sound = λ r q v. steady.sound Minicomputer r q (replicate 64 0) v (omega arith);
        unit = λ r q v. steady.unit Minicomputer r q (replicate 64 0) v (omega arith);
      }

  pub replying : Replying called (replied Minicomputer)
  replying = record { anywhere = anywhere }
