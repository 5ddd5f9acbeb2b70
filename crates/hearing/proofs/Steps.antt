-- Laws for one exchange: one for each return of `silent` and `replied`, and of two texts for `learn`. Assumes nothing.
use Prim.Native.Nat.{ℕ, ◌+◌, ◌-◌, ◌/◌, ◌%◌, ◌≤◌}
use mathlib.Core.Bool.{Bool, true, false, not}
use mathlib.Core.Path.{◌≡◌, refl, sym, ap, subst, ◌∙◌}
use mathlib.Core.List.{List, [], ◌∷◌}
use native.Mathlib.Omega.{arith}
use lib.Dec.{eqb}
use lib.ListN.{length, take, drop, length-drop}
use lib.Seq.{length-take-le, take-take, take-add, drop_at, drop-drop}
use mir.Val.{Fits}
use mir.Syntax.{w64}
use borrow.Author.Tests.{eqb-true, eqb-false, not-true, not-false}
use Rattle.std.specs.Prelude.{Result, Ok, Err}
use Rattle.base.specs.Test.{pick, unless}
use Rattle.frame.specs.declared.Kind.TheVariants.{Minicomputer}
use Rattle.frame.specs.declared.Silence.{Silence}
use Rattle.frame.specs.Frame.{text_in}
use Rattle.frame.specs.Numbers.{Answer, located_as}
use Rattle.frame.specs.Answer.{locate_of}
use Rattle.frame.proofs.Laws.{Found, found, found_text, found_sizes, located_found, named}
use Rattle.command.specs.declared.Request.{Request}
use Rattle.command.specs.declared.Refusal.{Refusal}
use Rattle.text.specs.Word.{digits, equal}
use Rattle.command.specs.Request.{Asked, asked_in, request_as}
use Rattle.command.specs.Commands.{is_empty}
use Rattle.knowledge.specs.declared.Knowledge.{Knowledge}
use Rattle.learning.specs.Learn.{taught_of}
use Rattle.hearing.specs.declared.Said.{Said}
use Rattle.hearing.specs.declared.Said.TheVariants as said
use Rattle.hearing.specs.Hearing.{exchange, asked, told, silence_said, frame_said, reply_said, said_of, taught_by, exchange_taught}
use Rattle.hearing.proofs.Says.{Says, said_so}

-- ---- silence was due
module _ (n : ℕ) (reply : List ℕ) (b : Bool) (e : b ≡ eqb (length reply) 0) where
  pub quiet_kept : b ≡ true → said.Quiet ≡ silence_said n reply
  unfolding silence_said
  quiet_kept h = go reply (eqb-true (length reply) 0 (sym e ∙ h))
    where
      go : (xs : List ℕ) → length xs ≡ 0 → said.Quiet ≡ silence_said n xs
      go [] z = refl
      go (x ∷ xs) z = absurd (omega arith)

  pub quiet_broken : (m : ℕ) → b ≡ false → m ≡ n → said.Answered m ≡ silence_said n reply
  unfolding silence_said
  quiet_broken m h i = go reply (eqb-false (length reply) 0 (sym e ∙ h))
    where
      go : (xs : List ℕ) → (length xs ≡ 0 → ⊥) → said.Answered m ≡ silence_said n xs
      go [] z = absurd (z refl)
      go (x ∷ xs) z = ap said.Answered i

pub ruleset keeping = (quiet_kept, quiet_broken)

-- ---- a reply was due
module _ (a n : ℕ) (reply : List ℕ) (none : Bool) (empty : none ≡ eqb (length reply) 0) where
  pub reply-none : none ≡ true → said.Unanswered ≡ reply_said a n reply
  unfolding reply_said
  reply-none h = go reply (eqb-true (length reply) 0 (sym empty ∙ h))
    where
      go : (xs : List ℕ) → length xs ≡ 0 → said.Unanswered ≡ pick (is_empty xs) said.Unanswered (frame_said a n (locate_of Minicomputer reply) (text_in Minicomputer reply))
      go [] h = refl
      go (x ∷ xs) h = absurd (omega arith)

  module _ (some : none ≡ false) (x : Result ℕ Silence) (e : located_as x ≡ locate_of Minicomputer reply) where
    by_located : (y : Result ℕ Silence) → x ≡ y → reply_said a n reply ≡ frame_said a n (located_as y) (text_in Minicomputer reply)
    unfolding reply_said
    by_located y z = go reply (eqb-false (length reply) 0 (sym empty ∙ some)) ∙ ap (λ (w : Answer). frame_said a n w (text_in Minicomputer reply)) (sym e ∙ ap located_as z)
      where
        go : (xs : List ℕ) → (length xs ≡ 0 → ⊥)
            → pick (is_empty xs) said.Unanswered (frame_said a n (locate_of Minicomputer reply) (text_in Minicomputer reply))
            ≡ frame_said a n (locate_of Minicomputer reply) (text_in Minicomputer reply)
        go [] h = absurd (h refl)
        go (y ∷ ys) h = refl

    pub reply_no_frame : (s : Silence) → x ≡ Err s → said.Unreadable ≡ reply_said a n reply
    reply_no_frame s z = sym (by_located (Err s) z)

    module _ (m : ℕ) (z : x ≡ Ok m) where
      located : Found Minicomputer reply m
      located = located_found Minicomputer reply x m e z

      -- the digits lie within the reply
      pub digits_inside : 3 ≤ length reply
      digits_inside = omega (arith, found_sizes Minicomputer reply m located)

      -- the address digits, by the places that the code takes them from
      module _ (b : Bool) (w : b ≡ equal (take 2 (drop 1 reply)) ((0x30 + a / 10 % 10) ∷ (0x30 + a % 10) ∷ [])) where
        same_digits : equal (take 2 (text_in Minicomputer reply)) (digits 2 a) ≡ b
        unfolding digits
        same_digits =
            let l = found_sizes Minicomputer reply m located in
            let t : take 2 (text_in Minicomputer reply) ≡ take 2 (drop 1 reply) =
            ap (take 2) (sym (found_text Minicomputer reply m located)) ∙ take-take 2 m (drop 1 reply) (omega arith) in
            ap (λ (u : List ℕ). equal u ((0x30 + a / 10 % 10) ∷ (0x30 + a % 10) ∷ [])) t ∙ sym w

        pub reply_other : not b ≡ true → said.Unreadable ≡ reply_said a n reply
        reply_other h = sym (by_located (Ok m) z ∙ ap (λ (t : Bool). unless t said.Unreadable (said.Texts n m)) (same_digits ∙ not-true b h))

        pub reply_own : not b ≡ false → said.Texts n m ≡ reply_said a n reply
        reply_own h = sym (by_located (Ok m) z ∙ ap (λ (t : Bool). unless t said.Unreadable (said.Texts n m)) (same_digits ∙ not-false b h))

pub ruleset replying = (reply-none, reply_no_frame, reply_other, reply_own)

-- ---- two texts
module _ (a : ℕ) (q reply : List ℕ) (x : Said) (e : x ≡ said_of a (exchange q reply)) where
  module _ (n m : ℕ) (z : x ≡ said.Texts n m) where
    texts : Says a (exchange q reply) (said.Texts n m)
    texts = subst (Says a (exchange q reply)) (sym e ∙ z) (said_so a (exchange q reply))

    asked_found : Found Minicomputer q n
    asked_found = (named Minicomputer q a n texts.0).text

    told_found : Found Minicomputer reply m
    told_found = found Minicomputer reply m texts.2.0

    -- both texts lie within what is lent
    pub asked-fits : Fits w64 (n + 1)
    asked-fits = record { fits = omega (arith, found_sizes Minicomputer q n asked_found) }

    pub asked-ends : n + 1 ≤ length q
    asked-ends = omega (arith, found_sizes Minicomputer q n asked_found)

    pub told-fits : Fits w64 (m + 1)
    told-fits = record { fits = omega (arith, found_sizes Minicomputer reply m told_found) }

    pub told_starts : 3 ≤ m + 1
    told_starts = omega (arith, found_sizes Minicomputer reply m told_found)

    pub told-ends : m + 1 ≤ length reply
    told-ends = omega (arith, found_sizes Minicomputer reply m told_found)

    -- and are taken from there
    pub asked_part : take (n + 1 - 1) (drop 1 q) ≡ asked (exchange q reply)
    asked_part = let i : n + 1 - 1 ≡ n = omega arith in ap (λ (j : ℕ). take j (drop 1 q)) i ∙ found_text Minicomputer q n asked_found

    pub told_part : take (m + 1 - 3) (drop 3 reply) ≡ told (exchange q reply)
    told_part =
        let l = found_sizes Minicomputer reply m told_found in
        let i : m ≡ 2 + (m + 1 - 3) = omega arith in
        let rest : List ℕ = drop 1 reply in
        let two : length (take 2 rest) ≡ 2 = length-take-le 2 rest (omega (arith, length-drop 1 reply)) in
        sym (ap (drop 2) (sym (found_text Minicomputer reply m told_found) ∙ (ap (λ (j : ℕ). take j rest) i ∙ take-add 2 (m + 1 - 3) rest))
        ∙ (drop_at (take 2 rest) (take (m + 1 - 3) (drop 2 rest)) 2 two ∙ ap (take (m + 1 - 3)) (drop-drop 2 1 reply)))

-- ---- what is taught
module _ (after : Bool) (a c : ℕ) (q reply : List ℕ) (k r : Knowledge) (x : Said) (e : x ≡ said_of a (exchange q reply)) where
  by_said : (y : Said) → x ≡ y → exchange_taught after a c k (exchange q reply) ≡ taught_by (taught_of after c) (exchange q reply) y k
  unfolding exchange_taught
  by_said y z = ap (λ (w : Said). taught_by (taught_of after c) (exchange q reply) w k) (sym e ∙ z)

  pub learn_texts : (n m : ℕ) (y : Result Request Refusal) → x ≡ said.Texts n m → request_as y ≡ asked_in (take (n + 1 - 1) (drop 1 q))
      → r ≡ taught_of after c (request_as y) (take (m + 1 - 3) (drop 3 reply)) k → r ≡ exchange_taught after a c k (exchange q reply)
  learn_texts n m y z p w =
      w ∙ (ap (λ (v : Asked). taught_of after c v (take (m + 1 - 3) (drop 3 reply)) k) (p ∙ ap asked_in (asked_part a q reply x e n m z))
      ∙ (ap (λ (u : List ℕ). taught_of after c (asked_in (asked (exchange q reply))) u k) (told_part a q reply x e n m z) ∙ sym (by_said (said.Texts n m) z)))

pub ruleset texts_inside = (asked-fits, asked-ends, told-fits, told_starts, told-ends)
