-- Frames back to back are called one by one, every one of them, and every byte is taken. Of any call. Assumes nothing.
use Prim.Native.Nat.{ℕ, zero, suc, ◌+◌, ◌-◌, ◌*◌, ◌≤◌}
use mathlib.Core.Bool.{Bool, true, false}
use mathlib.Core.Path.{◌≡◌, refl, sym, ap, subst, ◌∙◌}
use mathlib.Core.List.{List, [], ◌∷◌, ◌++◌, append_assoc, append-nil}
use mathlib.Core.Logic.{◌⊎◌, ⊎_elim}
use native.Mathlib.Omega.{arith}
use lib.Dec.{eqb, leb}
use lib.ListN.{length, take, drop, length-append}
use lib.Seq.{drop_at, drop-append-add, take_at}
use borrow.Author.Tests.{le-leb, eq-eqb, ne_eqb}
use Rattle.base.specs.Test.{pick, unless, all_between}
use Rattle.base.proofs.Tests.{and_left, and_right, never}
use Rattle.frame.specs.declared.Kind.TheVariants.{Minicomputer}
use Rattle.frame.specs.Frame.{stx, etx, pad, check_of, is_text, all_text, frame_of, marks_right}
use Rattle.frame.proofs.Laws.{frame-length, found}
use Rattle.frame.proofs.RoundTrip.{frame_located}
use Rattle.controller.specs.Call.{OutcomeOf, reply_in}
use Rattle.several.specs.Several.{whole, passed, undecided, through, end_at, searched, place_of, Step, stop, skip, full, silent, answer, step_of, Heard, taking, answering, ◌then◌, follow, heard_from}
use Rattle.several.specs.OneByOne.{calls, end_to_end, answered_in, last_held, AllLegal, frames_of, all_heard}
use Rattle.several.proofs.Joined.{made, made_same, then_assoc, taking_more, pass, onward}
use Rattle.several.proofs.Steps.{Quiet, Tells, step_tells}
use Rattle.several.proofs.Inside.{inside_passed}
use Rattle.several.proofs.Serving.{Serving}

-- the search passes a text and stands at the byte behind it
through-text : (n : ℕ) (t : List ℕ) (y : ℕ) (ys : List ℕ) → all_text t ≡ true → length t ≤ n → is_text y ≡ false → through n (t ++ (y ∷ ys)) ≡ length t
unfolding through all_between
through-text zero [] y ys a l e = refl
through-text (suc n) [] y ys a l e = simp e
through-text zero (x ∷ t) y ys a l e = absurd (omega arith)
through-text (suc n) (x ∷ t) y ys a l e =
    simp (and_left (is_text x) (all_text t) a) (ap suc (through-text n t y ys (and_right (is_text x) (all_text t) a) (omega arith) e))

module _ {S : Type 0} {called : S → List ℕ → OutcomeOf S} {good : S → Bool} {address : S → ℕ} (laws : Serving called good address) where
  module _ (t rest : List ℕ) (low : 4 ≤ length t) (high : length t ≤ 60) (text : all_text t ≡ true) where
    abbrev frame : List ℕ
    frame = frame_of Minicomputer t

    -- what follows its STX
    abbrev behind : List ℕ
    behind = t ++ (etx ∷ check_of t ∷ pad ∷ rest)

    size : length frame ≡ length t + 4
    size = frame-length Minicomputer t

    laid : frame ++ rest ≡ stx ∷ behind
    unfolding frame_of
    laid = ap (λ (x : List ℕ). stx ∷ x) (append_assoc t (etx ∷ check_of t ∷ pad ∷ []) rest)

    stands : place_of stx behind ≡ whole (length frame)
    unfolding searched
    stands =
        let n : through 60 behind ≡ length t = through-text 60 t etx (check_of t ∷ pad ∷ rest) text high refl in
        let d : drop (length t) behind ≡ etx ∷ check_of t ∷ pad ∷ rest = drop_at t (etx ∷ check_of t ∷ pad ∷ rest) (length t) refl in
        ap (λ (i : ℕ). end_at i (drop i behind)) n ∙ (ap (end_at (length t)) d ∙ (ends (length rest) ∙ ap whole (sym size)))
      where
        ends : (m : ℕ) → unless (leb 2 (suc (suc m))) undecided (whole (length t + 4)) ≡ whole (length t + 4)
        ends m = simp (le-leb 2 (suc (suc m)) (omega arith))

    cut_out : take (length frame) (stx ∷ behind) ≡ frame
    cut_out = ap (take (length frame)) (sym laid) ∙ take_at frame rest (length frame) refl

    marks : marks_right Minicomputer (take (length frame) (stx ∷ behind)) ≡ true
    marks = ap (marks_right Minicomputer) cut_out ∙ (found Minicomputer frame (length t) (frame_located Minicomputer t low high text).0).marks

    -- the walk goes on after the frame
    beyond : (m : ℕ) (s : S) → onward called behind (length frame - 1) m s ≡ taking (length frame) s then heard_from called 0 m s rest
    beyond m s =
        let n : length frame - 1 ≡ length t + 3 = omega (arith, size) in
        let d : drop (length frame - 1) behind ≡ rest = ap (λ (i : ℕ). drop i behind) n ∙ drop-append-add t (etx ∷ check_of t ∷ pad ∷ rest) 3 in
        let l : length behind ≡ length t + length (etx ∷ check_of t ∷ pad ∷ rest) = length-append t (etx ∷ check_of t ∷ pad ∷ rest) in
        ap (λ (g : Heard S). taking 1 s then g) (pass called (length frame - 1) m s behind (omega arith) ∙ ap (λ (x : List ℕ). taking (length frame - 1) s then heard_from called 0 m s x) d)
        ∙ taking_more 1 (length frame - 1) (length frame) s s (heard_from called 0 m s rest) (omega (arith, size))

    module _ (room : ℕ) (r : S) (there : 64 ≤ room) where
      abbrev c : OutcomeOf S
      c = called r frame

      -- what the frame gives
      abbrev one : Heard S
      one = made (length frame) (pick (eqb c.silence 0) 1 0) (reply_in c) c.after

      same : (n : ℕ) → place_of stx behind ≡ whole n → n ≡ length frame
      same n e = let z : whole n ≡ whole (length frame) = sym e ∙ stands in cc

      followed : (y : Step S) → Tells called stx behind room r y → follow y room r (onward called behind) ≡ one then heard_from called 0 (room - c.reported) c.after rest
      followed stop x = let z : undecided ≡ whole (length frame) = sym x ∙ stands in absurd (never (cc))
      followed skip x = let z : passed ≡ whole (length frame) = sym x ∙ stands in absurd (never (cc))
      followed (full n) x = absurd (omega (arith, x.1))
      followed (silent n k) x =
          let e : take n (stx ∷ behind) ≡ frame = ap (λ (i : ℕ). take i (stx ∷ behind)) (same n x.stands) ∙ cut_out in
          let quiet : Quiet called r frame = subst (Quiet called r) e x.quiet in
          let none : c.reported ≡ 0 = sym (laws.shown r frame).0 ∙ ap length quiet.reply in
          let z : room ≡ room - c.reported = omega arith in
          on k x.where_on
          ∙ (beyond room r ∙ (ap (λ (m : ℕ). taking (length frame) r then heard_from called 0 m r rest) z
          ∙ (ap (λ (s : S). taking (length frame) s then heard_from called 0 (room - c.reported) s rest) (sym quiet.same)
          ∙ ap (λ (g : Heard S). g then heard_from called 0 (room - c.reported) c.after rest)
          (made_same _ _ _ _ _ _ c.after refl (sym (simp (ne_eqb c.silence 0 (λ i. omega (arith, quiet.low))))) (sym quiet.reply)))))
        where
          on : (k : ℕ) → (k ≡ 0) ⊎ (k ≡ n - 1) → onward called behind k room r ≡ onward called behind (length frame - 1) room r
          on k w =
              ⊎_elim
              (λ (i : k ≡ 0). ap (λ (j : ℕ). onward called behind j room r) i ∙ ap (λ (g : Heard S). taking 1 r then g) (inside_passed called stx behind (length frame) stands marks room r))
              (λ (i : k ≡ n - 1). ap (λ (j : ℕ). onward called behind j room r) (i ∙ ap (λ (j : ℕ). j - 1) (same n x.stands))) w
      followed (answer n d) x =
          let e : d ≡ c = x.call ∙ ap (called r) (ap (λ (i : ℕ). take i (stx ∷ behind)) (same n x.stands) ∙ cut_out) in
          let rest_of : Heard S = heard_from called 0 (room - c.reported) c.after rest in
          ap (λ (i : ℕ). follow (answer i d) room r (onward called behind)) (same n x.stands)
          ∙ (ap (λ (o : OutcomeOf S). follow (answer (length frame) o) room r (onward called behind)) e
          ∙ (ap (λ (g : Heard S). answering (reply_in c) c.after then g) (beyond (room - c.reported) c.after)
          ∙ (sym (then_assoc (answering (reply_in c) c.after) (taking (length frame) c.after) rest_of)
          ∙ ap (λ (g : Heard S). g then rest_of)
          (made_same _ _ _ _ _ _ c.after (omega arith) (sym (simp (eq-eqb c.silence 0 (sym (ap (λ (o : OutcomeOf S). o.silence) e) ∙ x.heard)))) (append-nil (reply_in c))))))

      -- one frame, and then the rest
      first : heard_from called 0 room r (frame ++ rest) ≡ one then heard_from called 0 (room - c.reported) c.after rest
      unfolding heard_from
      first = ap (heard_from called 0 room r) laid ∙ followed (step_of called (place_of stx behind) (stx ∷ behind) room r) (step_tells laws stx behind room r)

  -- ---- with reply room of 64 bytes for each
  pub back_to_back : (ts : List (List ℕ)) (room : ℕ) (r : S) → AllLegal ts → 64 * length ts ≤ room
      → heard_from called 0 room r (end_to_end (frames_of ts)) ≡ all_heard called r (frames_of ts)
  unfolding end_to_end calls answered_in last_held heard_from
  back_to_back [] room r legal l = refl
  back_to_back (t ∷ ts) room r legal l =
      let c : OutcomeOf S = called r (frame_of Minicomputer t) in
      let s : List ℕ = end_to_end (frames_of ts) in
      let short = (laws.shown r (frame_of Minicomputer t)).1 in
      first t s legal.0 legal.1 legal.2 room r (omega arith)
      ∙ (ap (λ (g : Heard S). made (length (frame_of Minicomputer t)) (pick (eqb c.silence 0) 1 0) (reply_in c) c.after then g) (back_to_back ts (room - c.reported) c.after legal.3 (omega arith))
      ∙ made_same _ _ _ _ _ _ _ (sym (length-append (frame_of Minicomputer t) s)) refl refl)
