-- Whether a request asks for a kept batch: one law for each return of `asks_batch`. A frame of another length has another text, or none.
-- Assumes nothing.
use Prim.Native.Nat.{ℕ, ◌-◌}
use mathlib.Core.Bool.{Bool, true, false, not, false≢true}
use mathlib.Core.Path.{◌≡◌, refl, sym, ap, ◌∙◌}
use mathlib.Core.List.{List}
use native.Mathlib.Omega.{arith}
use lib.ListN.{length, take, drop}
use borrow.Author.Tests.{ne_eqb}
use Rattle.std.specs.Prelude.{Option, Some, None, Result, Ok, Err, is_some, is_ok}
use Rattle.frame.specs.declared.Kind.TheVariants.{Minicomputer}
use Rattle.frame.specs.declared.Silence.{Silence}
use Rattle.frame.specs.Frame.{text_in}
use Rattle.frame.proofs.Laws.{text-length}
use Rattle.command.specs.Request.{batch_in}
use Rattle.command.proofs.Beside.{batch_form, batch_told, none_told}
use Rattle.controller.specs.Call.{Hearing, S, text, hearing_of, heard_as}
use Rattle.controller.proofs.Hearing.{heard_by, by_hearing, told_of}
use Rattle.banked.specs.Banked.{asks_batch, asks_heard}

never-true : true ≡ false → ⊥
never-true e = false≢true (sym e)

other_length : (t : List ℕ) → (length t ≡ 10 → ⊥) → batch_in t ≡ None
other_length t h = batch_form t ∙ simp (ne_eqb (length t) 10 h)

module _ (a : ℕ) (q : List ℕ) where
  abbrev asks_by : Hearing → Bool
  asks_by h = heard_by (λ (n : ℕ). false) Minicomputer a q (asks_batch (text_in Minicomputer q)) h

  by_heard : asks_heard Minicomputer a q ≡ asks_by (hearing_of Minicomputer true a q 64)
  unfolding asks_heard
  by_heard = by_hearing (λ (n : ℕ). false) Minicomputer a q (asks_batch (text_in Minicomputer q)) true 64

  -- a text that asks for none, in a frame that is heard
  none-asked : ((n : ℕ) → hearing_of Minicomputer true a q 64 ≡ text n → asks_batch (text_in Minicomputer q) ≡ false) → false ≡ asks_heard Minicomputer a q
  none-asked f = go (hearing_of Minicomputer true a q 64) refl by_heard
    where
      go : (h : Hearing) → hearing_of Minicomputer true a q 64 ≡ h → asks_heard Minicomputer a q ≡ asks_by h → false ≡ asks_heard Minicomputer a q
      go (S n) e w = sym w
      go (text n) e w = sym (w ∙ f n e)

  pub other_frame : (length q ≡ 14 → ⊥) → false ≡ asks_heard Minicomputer a q
  other_frame h =
      none-asked (λ n e.
      let size : length (text_in Minicomputer q) ≡ length q - 3 - 1 = text-length Minicomputer q (told_of Minicomputer true a q 64 n e).for_unit.text.limits in
      let low = (told_of Minicomputer true a q 64 n e).for_unit.text.size in
      none_told (text_in Minicomputer q) (other_length (text_in Minicomputer q) (λ z. h (omega arith))))

  module _ (l : length q ≡ 14) (x : Option ℕ) (e : x ≡ batch_in (take (11 - 1) (drop 1 q))) (b : Bool) (z : is_some x ≡ not b) where
    text_is : take (11 - 1) (drop 1 q) ≡ text_in Minicomputer q
    unfolding text_in
    text_is = let i : 11 - 1 ≡ length q - 3 - 1 = omega arith in ap (λ (n : ℕ). take n (drop 1 q)) i

    batch_is : x ≡ batch_in (text_in Minicomputer q)
    batch_is = e ∙ ap batch_in text_is

    pub other_text : b ≡ true → false ≡ asks_heard Minicomputer a q
    other_text t = go x batch_is (z ∙ ap not t)
      where
        go : (y : Option ℕ) → y ≡ batch_in (text_in Minicomputer q) → is_some y ≡ false → false ≡ asks_heard Minicomputer a q
        go None f g = none-asked (λ n w. none_told (text_in Minicomputer q) (sym f))
        go (Some m) f g = absurd (never-true g)

    pub asked_heard : b ≡ false → (h : Result ℕ Silence) → heard_as h ≡ hearing_of Minicomputer true a q 64 → (r : Bool) → r ≡ is_ok h → r ≡ asks_heard Minicomputer a q
    asked_heard t h w r i = i ∙ go x batch_is (z ∙ ap not t) h w
      where
        go : (y : Option ℕ) → y ≡ batch_in (text_in Minicomputer q) → is_some y ≡ true → (h : Result ℕ Silence) → heard_as h ≡ hearing_of Minicomputer true a q 64
            → is_ok h ≡ asks_heard Minicomputer a q
        go None f g h w = absurd (never-true (sym g))
        go (Some m) f g (Err s) w = sym (by_heard ∙ ap asks_by (sym w))
        go (Some m) f g (Ok n) w = sym (by_heard ∙ (ap asks_by (sym w) ∙ (batch_told (text_in Minicomputer q) m (sym f)).0))

pub ruleset asking_batch = (other_frame, other_text, asked_heard)
