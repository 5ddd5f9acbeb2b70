-- What the walk asks of a call, as laws over any that is held: all theorems of this crate are proved of every call that has them. Which of
-- its tests a silence tells. Assumes nothing.
use Prim.Native.Nat.{ℕ, ◌+◌, ◌≤◌}
use mathlib.Core.Bool.{Bool, true}
use mathlib.Core.Path.{◌≡◌, ◌∙◌}
use mathlib.Core.List.{List, []}
use mathlib.Core.Logic.{◌↔◌}
use lib.Dec.{eqb}
use lib.ListN.{length}
use Rattle.base.specs.Test.{unless}
use Rattle.base.specs.Lists.{over}
use Rattle.base.proofs.FirstFailing.{FirstFailing, NoneFails, failing}
use Rattle.frame.specs.declared.Kind.TheVariants.{Minicomputer}
use Rattle.frame.specs.Frame.{text_in}
use Rattle.frame.proofs.Laws.{Named}
use Rattle.controller.specs.Call.{OutcomeOf, reply_in}
use Rattle.controller.proofs.Exactly.{tests_of, number_exactly, zero_exactly}

module _ {S : Type 0} (called : S → List ℕ → OutcomeOf S) where
  -- `good` if what is held is valid; the address of the unit that holds it
  pub record Serving (good : S → Bool) (address : S → ℕ) : Type 0 where
    -- "Silences, in this order": the number of the first test that fails, 0 if none does
    pub silence : (r : S) (q : List ℕ) → (called r q).silence ≡ failing 1 (tests_of Minicomputer (good r) (address r) q 64)
    -- a silence replies nothing, and leaves what is held
    pub quiet : (r : S) (q : List ℕ) → ((called r q).silence ≡ 0 → ⊥) → (reply_in (called r q) ≡ []) × ((called r q).after ≡ r)
    -- a reply is as long as is reported, and at most 64 bytes
    pub shown : (r : S) (q : List ℕ) → (length (reply_in (called r q)) ≡ (called r q).reported) × ((called r q).reported ≤ 64)
    -- what is valid stays so, and keeps its address
    pub sound : (r : S) (q : List ℕ) → good r ≡ true → good (called r q).after ≡ true
    pub unit : (r : S) (q : List ℕ) → good r ≡ true → address (called r q).after ≡ address r

  -- the reply to the text of a frame, in any buffer with room, is the one that the frame gets in a buffer of its own
  pub record Replying (reply : S → List ℕ → List ℕ → OutcomeOf S) : Type 0 where
    pub anywhere : (r : S) (q o : List ℕ) → (called r q).silence ≡ 0 → 64 ≤ length o
        → reply r (text_in Minicomputer q) o
        ≡ record { silence = 0; reported = (called r q).reported; after = (called r q).after; buffer = over (reply_in (called r q)) o }

-- ---- which test a silence tells
module _ {S : Type 0} {called : S → List ℕ → OutcomeOf S} {good : S → Bool} {address : S → ℕ} (laws : Serving called good address) (r : S) (q : List ℕ) where
  -- the tests of S1 to S8, with room
  abbrev pub tests : List Bool
  tests = tests_of Minicomputer (good r) (address r) q 64

  pub silence_exactly : (i : ℕ) → (called r q).silence ≡ i + 1 ↔ FirstFailing tests i
  silence_exactly = number_exactly tests (called r q).silence (laws.silence r q)

  pub heard_exactly : (called r q).silence ≡ 0 ↔ NoneFails tests
  heard_exactly = zero_exactly tests (called r q).silence (laws.silence r q)

  -- a frame for a unit: S8, or a reply
  pub unit-silence : good r ≡ true → (a n : ℕ) → Named Minicomputer q a n → (called r q).silence ≡ unless (eqb a (address r)) 8 0
  unit-silence v a n f =
      laws.silence r q
      ∙ simp (v, f.text.limits, f.text.marks, f.text.sum, f.text.text, f.code, f.number)
