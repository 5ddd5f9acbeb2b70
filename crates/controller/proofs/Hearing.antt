-- What is heard of a frame before its text is looked at, over any answer: a call is what the frame's reader tells, and what `hear` tells, of
-- it. One law for each return of `hear`. Assumes nothing.
use Prim.Native.Nat.{ℕ, ◌+◌, ◌-◌, ◌≤◌}
use mathlib.Core.Bool.{Bool, true, false}
use mathlib.Core.Path.{◌≡◌, refl, sym, ap, ◌∙◌}
use mathlib.Core.List.{List}
use native.Mathlib.Omega.{arith}
use lib.Dec.{eqb, leb}
use lib.ListN.{length, take, drop}
use borrow.Author.Tests.{le-leb, leb-true, eqb-true}
use Rattle.base.specs.Test.{unless}
use Rattle.base.proofs.Tests.{never, by_test}
use Rattle.frame.specs.declared.Kind.{Kind}
use Rattle.frame.specs.Frame.{all_text, names_unit, address_in, text_in, within_limits, marks_right, check_right}
use Rattle.frame.specs.Numbers.{Answer, H, S, accepted, unit}
use Rattle.frame.specs.Answer.{locate_of, addressed, address_of}
use Rattle.frame.proofs.Laws.{Sizes, Named, named, found_text, found_sizes}
use Rattle.controller.specs.Call.{unless_silent, Hearing, text, hearing_of, heard_as}
use Rattle.controller.specs.Call as call

module _ {A : Type 0} (quiet : ℕ → A) (k : Kind) (a : ℕ) (q : List ℕ) (reply : A) where
  -- by what the frame's reader tells: S3 to S7, or a text for the unit of an address; it tells nothing else
  abbrev pub told_by : Answer → A
  told_by (S n) = quiet n
  told_by (unit d n) = unless (eqb d a) (quiet 8) reply
  told_by (H n) = quiet 0
  told_by (accepted n) = quiet 0

  last : (b₇ : Bool) → unless b₇ (quiet 7) (told_by (unit (address_in (text_in k q)) (length (text_in k q)))) ≡ told_by (unless b₇ (S 7) (unit (address_in (text_in k q)) (length (text_in k q))))
  last true = refl
  last false = refl

  chain : (b₃ b₄ b₅ b₆ : Bool)
      → unless b₃ (quiet 3) (unless b₄ (quiet 4) (unless b₅ (quiet 5) (unless b₆ (quiet 6)
      (unless (names_unit (text_in k q)) (quiet 7) (told_by (unit (address_in (text_in k q)) (length (text_in k q))))))))
      ≡ told_by (addressed (unless b₃ (S 3) (unless b₄ (S 4) (unless b₅ (S 5) (unless b₆ (S 6) (accepted (length (text_in k q))))))) (text_in k q))
  chain false b₄ b₅ b₆ = refl
  chain true false b₅ b₆ = refl
  chain true true false b₆ = refl
  chain true true true false = refl
  chain true true true true = last (names_unit (text_in k q))

  pub by_reader_lem : (room : ℕ) → 64 ≤ room → unless_silent quiet k true a q room reply ≡ told_by (address_of k q)
  unfolding address_of locate_of
  by_reader_lem room l = simp (le-leb 64 room l) (chain (within_limits k (length q)) (marks_right k q) (check_right k q) (all_text (text_in k q)))

  -- by what is heard
  abbrev pub heard_by : Hearing → A
  heard_by (call.S n) = quiet n
  heard_by (call.text n) = reply

  pub by_hearing : (good : Bool) (room : ℕ) → unless_silent quiet k good a q room reply ≡ heard_by (hearing_of k good a q room)
  unfolding hearing_of
  by_hearing good room =
      go good (leb 64 room) (within_limits k (length q)) (marks_right k q) (check_right k q) (all_text (text_in k q)) (names_unit (text_in k q)) (eqb (address_in (text_in k q)) a)
    where
      go : (b₁ b₂ b₃ b₄ b₅ b₆ b₇ b₈ : Bool)
          → unless b₁ (quiet 1) (unless b₂ (quiet 2) (unless b₃ (quiet 3) (unless b₄ (quiet 4) (unless b₅ (quiet 5) (unless b₆ (quiet 6) (unless b₇ (quiet 7) (unless b₈ (quiet 8) reply)))))))
          ≡ heard_by (unless b₁ (call.S 1) (unless b₂ (call.S 2) (unless b₃ (call.S 3) (unless b₄ (call.S 4) (unless b₅ (call.S 5) (unless b₆ (call.S 6) (unless b₇ (call.S 7) (unless b₈ (call.S 8) (call.text (length (text_in k q)))))))))))
      go false b₂ b₃ b₄ b₅ b₆ b₇ b₈ = refl
      go true false b₃ b₄ b₅ b₆ b₇ b₈ = refl
      go true true false b₄ b₅ b₆ b₇ b₈ = refl
      go true true true false b₅ b₆ b₇ b₈ = refl
      go true true true true false b₆ b₇ b₈ = refl
      go true true true true true false b₇ b₈ = refl
      go true true true true true true false b₈ = refl
      go true true true true true true true false = refl
      go true true true true true true true true = refl

-- ---- the steps of `hear`
pub hearing_form : (k : Kind) (good : Bool) (a : ℕ) (q : List ℕ) (room : ℕ)
    → hearing_of k good a q room ≡ unless good (call.S 1) (unless (leb 64 room) (call.S 2) (told_by call.S k a q (call.text (length (text_in k q))) (address_of k q)))
unfolding hearing_of
hearing_form k false a q room = refl
hearing_form k true a q room =
    by_test (leb 64 room)
    (λ h.
    let by_reader_so : hearing_of k true a q room ≡ told_by call.S k a q (call.text (length (text_in k q))) (address_of k q) =
    by_reader_lem call.S k a q (call.text (length (text_in k q))) room (leb-true 64 room h) in
    simp h (simp h at by_reader_so))
    (λ h. simp h)

pub text_size : (k : Kind) (q : List ℕ) (d n : ℕ) → unit d n ≡ address_of k q → length (text_in k q) ≡ n
text_size k q d n e = (named k q d n (sym e)).text.size

-- ---- what a text that is heard tells
pub record Told (k : Kind) (good : Bool) (a : ℕ) (q : List ℕ) (room n : ℕ) : Type 0 where
  pub all_good : good ≡ true
  pub enough : 64 ≤ room
  pub for_unit : Named k q a n

passed : (n m : ℕ) (b : Bool) (y : Hearing) → unless b (call.S m) y ≡ call.text n → (b ≡ true) × (y ≡ call.text n)
passed n m true y e = (refl, e)
passed n m false y e = absurd (never (cc))

pub told_of : (k : Kind) (good : Bool) (a : ℕ) (q : List ℕ) (room n : ℕ) → hearing_of k good a q room ≡ call.text n → Told k good a q room n
unfolding hearing_of
told_of k good a q room n e =
    let (c₁, e₁) = passed n 1 good _ e in
    let (c₂, e₂) = passed n 2 (leb 64 room) _ e₁ in
    let (c₃, e₃) = passed n 3 (within_limits k (length q)) _ e₂ in
    let (c₄, e₄) = passed n 4 (marks_right k q) _ e₃ in
    let (c₅, e₅) = passed n 5 (check_right k q) _ e₄ in
    let (c₆, e₆) = passed n 6 (all_text (text_in k q)) _ e₅ in
    let (c₇, e₇) = passed n 7 (names_unit (text_in k q)) _ e₆ in
    let (c₈, e₈) = passed n 8 (eqb (address_in (text_in k q)) a) (call.text (length (text_in k q))) e₇ in
    let size : length (text_in k q) ≡ n = cc in
    record {
      all_good = c₁;
      enough = leb-true 64 room c₂;
      for_unit = record { text = record { limits = c₃; marks = c₄; sum = c₅; text = c₆; size = size }; code = c₇; number = eqb-true _ _ c₈ };
    }

module _ (k : Kind) (good : Bool) (a : ℕ) (q : List ℕ) (room n : ℕ) (is_text : call.text n ≡ hearing_of k good a q room) where
  pub told : Told k good a q room n
  told = told_of k good a q room n (sym is_text)

  -- the text lies within the request, and is the one that is asked by
  pub text_within : Sizes q n
  text_within = found_sizes k q n told.for_unit.text

  pub text_there : take (n + 1 - 1) (drop 1 q) ≡ text_in k q
  text_there =
      let j : n + 1 - 1 ≡ n = omega arith in
      ap (λ (i : ℕ). take i (drop 1 q)) j ∙ found_text k q n told.for_unit.text
