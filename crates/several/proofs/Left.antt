-- What a call over several frames leaves, of any call on what is held, any bytes and reply buffer. Assumes nothing.
use Prim.Native.Nat.{ℕ, zero, suc, ◌+◌, ◌-◌}
use mathlib.Core.Bool.{Bool, true, false}
use mathlib.Core.Path.{◌≡◌, refl, sym, ap, ◌∙◌}
use mathlib.Core.List.{List, [], ◌∷◌, ◌++◌, append-nil}
use lib.ListN.{length, take, drop, length-append, length-drop}
use Rattle.base.specs.Lists.{over}
use Rattle.base.proofs.Lists.{over-take, over-rest, over-append}
use Rattle.controller.specs.Call.{OutcomeOf}
use Rattle.several.specs.Several.{place_of, Step, stop, skip, full, silent, answer, step_of, Heard, nothing, ◌then◌, follow, heard_from, SeveralOn, report_of, several_by}
use Rattle.several.specs.OneByOne.{untaken, next_call, both_calls}
use Rattle.several.proofs.Joined.{onward}
use Rattle.several.proofs.Steps.{Tells, step_tells}
use Rattle.several.proofs.Cut.{cut, rest_unheard}
use Rattle.several.proofs.Serving.{Serving}

module _ {S : Type 0} {called : S → List ℕ → OutcomeOf S} {good : S → Bool} {address : S → ℕ} (laws : Serving called good address) where
  -- the call over several frames
  abbrev several : S → List ℕ → List ℕ → SeveralOn S
  several = several_by called good

  -- ---- what is valid stays so, and only S1 is a silence
  heard-valid : (s : List ℕ) (k room : ℕ) (r : S) → good r ≡ true → good (heard_from called k room r s).after ≡ true
  unfolding heard_from
  heard-valid [] k room r v = v
  heard-valid (x ∷ xs) (suc k) room r v = heard-valid xs k room r v
  heard-valid (x ∷ xs) zero room r v = go (step_of called (place_of x xs) (x ∷ xs) room r) (step_tells laws x xs room r) (λ k room r v. heard-valid xs k room r v)
    where
      go : (y : Step S) → Tells called x xs room r y → ((k room : ℕ) (t : S) → good t ≡ true → good (heard_from called k room t xs).after ≡ true)
          → good (follow y room r (onward called xs)).after ≡ true
      go stop t on = v
      go skip t on = on 0 room r v
      go (full n) t on = v
      go (silent n k) t on = on k room r v
      go (answer n c) t on = on (n - 1) (room - c.reported) c.after (ap (λ (d : OutcomeOf S). good d.after) t.call ∙ laws.sound r (take n (x ∷ xs)) v)

  pub several-valid : (r : S) (s o : List ℕ) → good r ≡ true → good (several r s o).after ≡ true
  unfolding several_by
  several-valid r s o v = simp v (heard-valid s 0 (length o) r v)

  pub several-heard : (r : S) (s o : List ℕ) → good r ≡ true → (several r s o).silence ≡ 0
  unfolding several_by
  several-heard r s o v = simp v

  -- (c) "S1 as before, nothing taken"
  pub several-refused : (r : S) (s o : List ℕ) → good r ≡ false
      → several r s o ≡ record { silence = 1; taken = 0; answered = 0; written = 0; after = r; buffer = o }
  unfolding several_by over
  several-refused r s o v = simp v

  -- ---- of what is valid, what is heard and nothing else
  pub several_served : (r : S) (s o : List ℕ) → good r ≡ true → several r s o ≡ report_of 0 (heard_from called 0 (length o) r s) o
  unfolding several_by
  several_served r s o v = simp v

  -- ---- what the bytes a left, with b behind it
  module _ (r : S) (a b o : List ℕ) (v : good r ≡ true) where
    h : Heard S
    h = heard_from called 0 (length o) r a

    -- the rest of the reply buffer
    rest : List ℕ
    rest = drop (length h.replies) (over h.replies o)

    g : Heard S
    g = heard_from called 0 (length o - length h.replies) h.after (untaken h a ++ b)

    rest_is : rest ≡ drop (length h.replies) o
    unfolding rest
    rest_is = over-rest h.replies o (length h.replies) refl

    rest-length : length rest ≡ length o - length h.replies
    rest-length = ap length rest_is ∙ length-drop (length h.replies) o

    next_served : next_call several (several r a o) a b ≡ report_of 0 g rest
    unfolding h rest g
    next_served =
        ap (λ (x : SeveralOn S). next_call several x a b) (several_served r a o v)
        ∙ (several_served h.after (untaken h a ++ b) rest (heard-valid a 0 (length o) r v)
        ∙ ap (λ (n : ℕ). report_of 0 (heard_from called 0 n h.after (untaken h a ++ b)) rest) rest-length)

    -- both replies over the buffer, and the second over the rest of it
    both_laid : over (h.replies ++ g.replies) o ≡ take (length h.replies) (over h.replies o) ++ over g.replies rest
    both_laid =
        over-append h.replies g.replies o
        ∙ (ap (λ (z : List ℕ). h.replies ++ over g.replies z) (sym rest_is)
        ∙ ap (λ (z : List ℕ). z ++ over g.replies rest) (sym (over-take h.replies o (length h.replies) refl)))

    joined : report_of 0 (h then g) o ≡ both_calls (report_of 0 h o) (report_of 0 g rest)
    joined = ap (λ (n : ℕ). left n (over (h.replies ++ g.replies) o)) (length-append h.replies g.replies) ∙ ap (left (length h.replies + length g.replies)) both_laid
      where
        left : ℕ → List ℕ → SeveralOn S
        left n u = record { silence = 0; taken = h.taken + g.taken; answered = h.answered + g.answered; written = n; after = g.after; buffer = u }

    -- (b) taking the rest again with what comes later gives the same as taking both at once
    pub several-cut : several r (a ++ b) o ≡ both_calls (several r a o) (next_call several (several r a o) a b)
    unfolding h g
    several-cut =
        several_served r (a ++ b) o v
        ∙ (ap (λ (x : Heard S). report_of 0 x o) (cut laws a b (length o) r)
        ∙ (joined ∙ (ap (λ (y : SeveralOn S). both_calls (report_of 0 h o) y) (sym next_served)
        ∙ ap (λ (x : SeveralOn S). both_calls x (next_call several (several r a o) a b)) (sym (several_served r a o v)))))

  -- (c) bytes that are not taken have done nothing: alone they are not taken, and leave what is held and the buffer as they were
  pub several-rest : (r : S) (s o : List ℕ) → good r ≡ true
      → next_call several (several r s o) s [] ≡ report_of 0 (nothing (several r s o).after) (drop (several r s o).written (several r s o).buffer)
  unfolding h rest g
  several-rest r s o v =
      let x : SeveralOn S = report_of 0 (h r s [] o v) o in
      next_served r s [] o v
      ∙ (ap (λ (i : Heard S). report_of 0 i (drop x.written x.buffer)) (ap (heard_from called 0 (length o - x.written) x.after) (append-nil (drop x.taken s)) ∙ rest_unheard laws s (length o) r)
      ∙ ap (λ (y : SeveralOn S). report_of 0 (nothing y.after) (drop y.written y.buffer)) (sym (several_served r s o v)))
