-- "Equal to calling one by one": what is heard of any bytes is what single calls give over stretches of them, of any call. Assumes nothing.
use Prim.Native.Nat.{ℕ, zero, suc, ◌+◌, ◌-◌, ◌≤◌}
use mathlib.Core.Bool.{Bool, true, false}
use mathlib.Core.Path.{◌≡◌, refl, sym, ap, subst, ◌∙◌}
use mathlib.Core.List.{List, [], ◌∷◌, ◌++◌, map}
use native.Mathlib.Nat.{le_of_suc-le-suc, not-suc-le-zero}
use native.Mathlib.Omega.{arith}
use lib.Dec.{eqb}
use lib.ListN.{length, take, drop, length-drop}
use borrow.Author.Tests.{eq-eqb, ne_eqb}
use Rattle.base.specs.Test.{pick}
use Rattle.controller.specs.Call.{OutcomeOf, reply_in}
use Rattle.several.specs.Several.{place_of, whole, Step, stop, skip, full, silent, answer, step_of, Heard, nothing, taking, answering, ◌then◌, follow, heard_from}
use Rattle.several.specs.OneByOne.{Stretch, cut_out, calls, end_to_end, replies_in, answered_in, last_held, next_start, InOrder, OneByOne}
use Rattle.several.proofs.Joined.{onward, behind}
use Rattle.several.proofs.Places.{whole-told}
use Rattle.several.proofs.Steps.{Quiet, Unanswered, Replied, Tells, step_tells, silent-fits, answer-fits}
use Rattle.several.proofs.Serving.{Serving}

module _ {S : Type 0} {called : S → List ℕ → OutcomeOf S} {good : S → Bool} {address : S → ℕ} (laws : Serving called good address) where
  -- an earlier place, a later end
  in_order : (s : List ℕ) (e e' p p' : ℕ) (r : S) (fs : List Stretch) → e ≡ e' → p' ≤ p → InOrder called s e p r fs → InOrder called s e' p' r fs
  in_order s e e' p p' r [] h l o = omega arith
  in_order s e e' p p' r (f ∷ fs) h l o =
      (omega (arith, o.0), o.1, subst (λ (n : ℕ). InOrder called s n (next_start (called r (cut_out s f)) f) (called r (cut_out s f)).after fs) h o.2)

  module _ (s : List ℕ) where
    -- what is heard from p on, where k bytes belong to a frame that is done
    record From (p k : ℕ) (r : S) (h : Heard S) : Type 0 where
      frames : List Stretch
      order : InOrder called s (p + h.taken) (p + k) r frames
      replies : h.replies ≡ replies_in (calls called r (map (cut_out s) frames))
      answered : h.answered ≡ answered_in (calls called r (map (cut_out s) frames))
      after : h.after ≡ last_held r (calls called r (map (cut_out s) frames))

    none : (p : ℕ) (r : S) → From p 0 r (nothing r)
    unfolding calls end_to_end answered_in last_held
    none p r = record { frames = []; order = omega arith; replies = refl; answered = refl; after = refl }

    -- a byte more
    byte : (p j k : ℕ) (r : S) (h : Heard S) → p + k ≤ p + 1 + j → From (p + 1) j r h → From p k r (taking 1 r then h)
    byte p j k r h l f =
        record {
          frames = f.frames;
          order = in_order s _ _ _ _ r f.frames (omega arith) l f.order;
          replies = f.replies;
          answered = sym (omega (arith, f.answered));
          after = f.after;
        }

    -- a frame of n bytes stands at p
    module _ (p n : ℕ) (x : ℕ) (xs : List ℕ) (there : drop p s ≡ x ∷ xs) (room : ℕ) (r : S) where
      abbrev stretch : Stretch
      stretch = record { start = p; size = n }

      abbrev q : List ℕ
      q = cut_out s stretch

      same-frame : take n (x ∷ xs) ≡ q
      same-frame = sym (ap (take n) there)

      inside : place_of x xs ≡ whole n → p + n ≤ length s
      inside e =
          let l : suc (length xs) ≡ length s - p = sym (ap length there) ∙ length-drop p s in
          let w = whole-told x xs n e in
          omega (arith, w.fits, w.least)

      silent_one : (k : ℕ) (h : Heard S) → Unanswered called x xs room r n k → From (p + 1) k r h → From p 0 r (taking 1 r then h)
      unfolding calls end_to_end answered_in last_held
      silent_one k h u f =
          record {
            frames = stretch ∷ f.frames;
            order = (omega arith, inside u.stands, subst (λ (t : S). InOrder called s (p + (1 + h.taken)) (next_start (called r q) stretch) t f.frames) (sym silence.same) (in_order s _ _ _ _ r f.frames (omega arith) later f.order));
            replies = f.replies ∙ sym (simp (silence.reply, silence.same));
            answered = simp (quiet_test, silence.same) (omega (arith, f.answered));
            after = f.after ∙ sym (simp silence.same);
          }
        where
          silence : Quiet called r q
          silence = subst (Quiet called r) same-frame u.quiet

          quiet_test : eqb (called r q).silence 0 ≡ false
          quiet_test = ne_eqb (called r q).silence 0 (λ z. omega (arith, silence.low))

          later : next_start (called r q) stretch ≤ p + 1 + k
          later = simp quiet_test (omega arith)

      answered_one : (c : OutcomeOf S) (h : Heard S) → Replied called x xs room r n c → From (p + 1) (n - 1) c.after h
          → From p 0 r (answering (reply_in c) c.after then (taking 1 c.after then h))
      unfolding calls end_to_end answered_in last_held
      answered_one c h u f =
          record {
            frames = stretch ∷ f.frames;
            order = (omega arith, inside u.stands, subst (λ (d : OutcomeOf S). InOrder called s (p + (0 + (1 + h.taken))) (next_start d stretch) d.after f.frames) call (in_order s _ _ _ _ c.after f.frames (omega arith) later f.order));
            replies = ap (λ (y : List ℕ). reply_in c ++ y) f.replies ∙ ap (λ (d : OutcomeOf S). reply_in d ++ replies_in (calls called d.after (map (cut_out s) f.frames))) call;
            answered = ap (λ (m : ℕ). 1 + (0 + m)) f.answered ∙ (sym (simp heard_test (omega arith)) ∙ ap (λ (d : OutcomeOf S). pick (eqb d.silence 0) 1 0 + answered_in (calls called d.after (map (cut_out s) f.frames))) call);
            after = f.after ∙ ap (λ (d : OutcomeOf S). last_held d.after (calls called d.after (map (cut_out s) f.frames))) call;
          }
        where
          call : c ≡ called r q
          call = u.call ∙ ap (called r) same-frame

          heard_test : eqb c.silence 0 ≡ true
          heard_test = eq-eqb _ _ u.heard

          later : next_start c stretch ≤ p + 1 + (n - 1)
          later = let w = whole-told x xs n u.stands in simp heard_test (omega (arith, w.least))

    -- from any place, of anything held and any room
    from : (l : List ℕ) (p k room : ℕ) (r : S) → drop p s ≡ l → k ≤ length l → From p k r (heard_from called k room r l)
    unfolding heard_from
    from [] p zero room r e h = none p r
    from [] p (suc k) room r e h = absurd (not-suc-le-zero h)
    from (x ∷ xs) p (suc k) room r e h = byte p k (suc k) r (heard_from called k room r xs) (omega arith) (from xs (p + 1) k room r (behind s p x xs e) (le_of_suc-le-suc h))
    from (x ∷ xs) p zero room r e h =
        go (step_of called (place_of x xs) (x ∷ xs) room r) (step_tells laws x xs room r) (λ k room r l. from xs (p + 1) k room r (behind s p x xs e) l)
      where
        go : (y : Step S) → Tells called x xs room r y → ((k m : ℕ) (t : S) → k ≤ length xs → From (p + 1) k t (heard_from called k m t xs)) → From p 0 r (follow y room r (onward called xs))
        go stop t on = none p r
        go skip t on = byte p 0 0 r (heard_from called 0 room r xs) (omega arith) (on 0 room r (omega arith))
        go (full n) t on = none p r
        go (silent n k) t on = silent_one p n x xs e room r k (heard_from called k room r xs) t (on k room r (silent-fits called x xs room r n k t))
        go (answer n c) t on =
            answered_one p n x xs e room r c (heard_from called (n - 1) (room - c.reported) c.after xs) t
            (on (n - 1) (room - c.reported) c.after (answer-fits called x xs room r n c t))

  pub one_by_one : (s : List ℕ) (room : ℕ) (r : S) → OneByOne called s r (heard_from called 0 room r s)
  one_by_one s room r =
      let f = from s s 0 0 room r refl (omega arith) in
      record {
        frames = f.frames;
        order = in_order s _ _ _ _ r f.frames (omega arith) (omega arith) f.order;
        replies = f.replies;
        answered = f.answered;
        after = f.after;
      }
