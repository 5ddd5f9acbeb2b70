-- The bank has no part in a drum change: by their codes the five requests neither show a kept batch nor store one. So with a bank that S1
-- lets pass the controller does what document 01's does with the record alone, and the bank stays; with any other it is silent. By this what
-- is proved of document 01's call is brought over. Assumes nothing.
use Prim.Native.Nat.{ℕ, zero, suc, ◌-◌}
use mathlib.Core.Bool.{Bool, true, false, and-true, and-false}
use mathlib.Core.Path.{◌≡◌, refl, sym, ap, ◌∙◌, subst}
use mathlib.Core.List.{List, [], ◌∷◌}
use lib.Dec.{eqb}
use lib.ListN.{length, get_or, replicate, get_or-map}
use Rattle.base.specs.Test.{member}
use Rattle.base.proofs.Tests.{by_test, neither}
use Rattle.text.specs.Word.{digits}
use Rattle.state.specs.declared.Record.{Record}
use Rattle.state.specs.Field.{address, get}
use Rattle.state.specs.Valid as state
use Rattle.bank.specs.Bank as bank
use Rattle.frame.specs.declared.Kind.TheVariants.{Minicomputer}
use Rattle.frame.specs.Frame.{frame_of, text_in}
use Rattle.command.specs.Commands.{RT, ET, code_in, batch_asked}
use Rattle.command.specs.Answer.{Verdict, NO, accepted}
use Rattle.controller.specs.Call.{Outcome, OutcomeOf, silent, Hearing, S, text, hearing_of, call_of}
use Rattle.controller.specs.Call as controller
use Rattle.controller.proofs.Hearing.{heard_by, by_hearing}
use Rattle.banked.specs.declared.Banked.{Banked}
use Rattle.banked.specs.Banked.{valid, asks_batch, verdict, bank_for, held_after, replied, banked_of, beside}
use Rattle.banked.proofs.Unseen.{replied-beside}
use Rattle.drum.specs.declared.Change.{Change}
use Rattle.drum.specs.Drum.{Step, ◌wanting◌, steps, framed, asks, request_frame, last}
use Rattle.skid.specs.Exchange.{called}

-- document 01's call, of the record alone
abbrev pub called_alone : Record → List ℕ → List ℕ → Outcome
called_alone u q o = call_of Minicomputer u q o

-- ---- the requests

-- a request's code is one of the two that have to do with a bank
abbrev shows_or_stores : List ℕ → Bool
shows_or_stores q = member (code_in (text_in Minicomputer q)) (RT ∷ ET ∷ [])

none_there : (n i : ℕ) → get_or (replicate n false) i false ≡ false
none_there zero i = refl
none_there (suc n) zero = refl
none_there (suc n) (suc i) = none_there n i

-- that of no step is
pub request_spares : (i : ℕ) (s : Change) → shows_or_stores (request_frame i s) ≡ false
unfolding request_frame asks frame_of text_in digits code_in
request_spares i s =
    sym (get_or-map (λ (x : Step). shows_or_stores (framed s.address x.asked)) (steps s) (i - 1) ([] wanting [])) ∙ none_there last (i - 1)

-- ---- the call with a request of any other code
module _ (u : Banked) (q o : List ℕ) (spares : shows_or_stores q ≡ false) where
  abbrev t : List ℕ
  t = text_in Minicomputer q

  neither_code : (eqb (code_in t) RT ≡ false) × (eqb (code_in t) ET ≡ false)
  neither_code = let (shows, stores) = neither (eqb (code_in t) RT) (member (code_in t) (ET ∷ [])) spares in (shows, (neither (eqb (code_in t) ET) false stores).0)

  bank_stays : (held_after t u).bank ≡ u.bank
  unfolding held_after
  bank_stays = go (verdict t u)
    where
      go : (v : Verdict) → bank_for v t u ≡ u.bank
      go (NO n) = refl
      go accepted = simp neither_code.1

  not-asked : asks_batch t ≡ false
  unfolding batch_asked
  not-asked = simp neither_code.0

  pub passed : bank.valid u.bank ≡ true → called u q o ≡ beside (called_alone u.state q o) u.bank
  unfolding banked_of call_of valid
  passed v =
      simp (v, and-true)
      (by_hearing (λ (n : ℕ). silent n u o) Minicomputer a q (replied Minicomputer t u o) good (length o)
      ∙ (go (hearing_of Minicomputer good a q (length o))
      ∙ ap (λ (c : Outcome). beside c u.bank)
      (sym (by_hearing (λ (n : ℕ). silent n u.state o) Minicomputer a q (controller.replied Minicomputer t u.state o) good (length o)))))
    where
      a : ℕ
      a = get address u.state

      good : Bool
      good = state.valid u.state

      go : (h : Hearing) → heard_by (λ (n : ℕ). silent n u o) Minicomputer a q (replied Minicomputer t u o) h
          ≡ beside (heard_by (λ (n : ℕ). silent n u.state o) Minicomputer a q (controller.replied Minicomputer t u.state o) h) u.bank
      go (S n) = refl
      go (text n) = replied-beside Minicomputer t u o not-asked ∙ ap (beside (controller.replied Minicomputer t u.state o)) bank_stays

  pub silenced : bank.valid u.bank ≡ false → called u q o ≡ silent 1 u o
  unfolding banked_of valid
  silenced v = simp (v, and-false)

  -- what holds in both cases
  pub by_bank : (P : OutcomeOf Banked → Type 0) → P (beside (called_alone u.state q o) u.bank) → P (silent 1 u o) → P (called u q o)
  by_bank P x y = by_test (bank.valid u.bank) (λ v. subst P (sym (passed v)) x) (λ v. subst P (sym (silenced v)) y)
