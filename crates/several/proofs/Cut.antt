-- Cutting the stream anywhere changes nothing: what is not taken has done nothing, and taking it again with what comes later gives what
-- taking both at once gives. Of any call. Assumes nothing.
use Prim.Native.Nat.{ℕ, zero, suc, ◌+◌, ◌-◌, ◌≤◌}
use mathlib.Core.Bool.{Bool}
use mathlib.Core.Path.{◌≡◌, refl, sym, ap, ◌∙◌}
use mathlib.Core.List.{List, [], ◌∷◌, ◌++◌, append_assoc, append-nil}
use native.Mathlib.Nat.{le_of_suc-le-suc, not-suc-le-zero}
use native.Mathlib.Omega.{arith}
use lib.Dec.{eqb}
use lib.ListN.{length, take, drop, length-append}
use lib.Seq.{take-append-le}
use borrow.Author.Tests.{le-leb}
use Rattle.base.proofs.Tests.{never}
use Rattle.base.specs.Test.{pick, unless}
use Rattle.controller.specs.Call.{OutcomeOf, reply_in}
use Rattle.several.specs.Several.{Place, passed, undecided, whole, place_of, Step, stop, skip, full, silent, answer, handed, step_of, Heard, nothing, taking, answering, ◌then◌, follow, heard_from}
use Rattle.several.specs.OneByOne.{end_to_end, untaken, ticks, Roomy, AllRoomy}
use Rattle.several.proofs.Joined.{made_same, then_assoc, nothing_then, onward}
use Rattle.several.proofs.Places.{whole-told, place-append, undecided-short}
use Rattle.several.proofs.Steps.{Tells, step_tells, silent-fits, answer-fits, reply-length}
use Rattle.several.proofs.Serving.{Serving}

module _ {S : Type 0} where
  -- ---- the numbers are within the bytes and the room; what is not taken is never more than 63 bytes, if there was room for an answer more
  pub record Bounded (s : List ℕ) (room : ℕ) (h : Heard S) : Type 0 where
    pub taken_inside : h.taken ≤ length s
    pub replies_fit : length h.replies ≤ room
    pub rest-short : Roomy room h → length s ≤ h.taken + 63

  byte_bounded : (x : ℕ) (xs : List ℕ) (room : ℕ) (r : S) (h : Heard S) → Bounded xs room h → Bounded (x ∷ xs) room (taking 1 r then h)
  byte_bounded x xs room r h b =
      record {
        taken_inside = omega (arith, b.taken_inside);
        replies_fit = b.replies_fit;
        rest-short = λ l. omega (arith, b.rest-short l);
      }

  answer_bounded : (s v : List ℕ) (m room : ℕ) (r : S) (h : Heard S) → length v ≡ m → m ≤ 64 → 64 ≤ room → Bounded s (room - m) h → Bounded s room (answering v r then h)
  answer_bounded s v m room r h e l k b =
      let n : length (v ++ h.replies) ≡ length v + length h.replies = length-append v h.replies in
      record {
        taken_inside = omega (arith, b.taken_inside);
        replies_fit = omega (arith, b.replies_fit);
        rest-short = λ i. let j : Roomy (room - m) h = omega arith in omega (arith, b.rest-short j);
      }

module _ {S : Type 0} (called : S → List ℕ → OutcomeOf S) where
  -- ---- more bytes behind: a step that is decided stays
  step_append : (x : ℕ) (xs b : List ℕ) (room : ℕ) (r : S) (y : Step S) → step_of called (place_of x xs) (x ∷ xs) room r ≡ y → (y ≡ stop → ⊥)
      → step_of called (place_of x (xs ++ b)) (x ∷ (xs ++ b)) room r ≡ y
  step_append x xs b room r y e d = go (place_of x xs) refl e
    where
      go : (p : Place) → place_of x xs ≡ p → step_of called p (x ∷ xs) room r ≡ y → step_of called (place_of x (xs ++ b)) (x ∷ (xs ++ b)) room r ≡ y
      go passed h f = ap (λ (p : Place). step_of called p (x ∷ (xs ++ b)) room r) (place-append x xs b passed h (λ z. never (cc))) ∙ f
      go undecided h f = absurd (d (sym f))
      go (whole n) h f =
          let w = whole-told x xs n h in
          ap (λ (p : Place). step_of called p (x ∷ (xs ++ b)) room r) (place-append x xs b (whole n) h (λ z. never (cc)))
          ∙ (ap (λ (q : List ℕ). handed n room (called r q)) (take-append-le n (x ∷ xs) b (omega (arith, w.fits))) ∙ f)

  -- ---- what the rest gives with what comes later, behind what was heard
  abbrev pub going_on : ℕ → Heard S → List ℕ → List ℕ → Heard S
  going_on room h a b = h then heard_from called 0 (room - length h.replies) h.after (untaken h a ++ b)

  cut-none : (room : ℕ) (r : S) (a b : List ℕ) → heard_from called 0 room r (a ++ b) ≡ going_on room (nothing r) a b
  cut-none room r a b =
      let z : room ≡ room - 0 = omega arith in
      sym (nothing_then r (heard_from called 0 room r (a ++ b))) ∙ ap (λ (n : ℕ). nothing r then heard_from called 0 n r (a ++ b)) z

  cut_byte : (x : ℕ) (xs b : List ℕ) (room : ℕ) (r : S) (g h : Heard S) → g ≡ going_on room h xs b → taking 1 r then g ≡ going_on room (taking 1 r then h) (x ∷ xs) b
  cut_byte x xs b room r g h e =
      let z : suc h.taken ≡ 1 + h.taken = omega arith in
      ap (λ (y : Heard S). taking 1 r then y) e
      ∙ (sym (then_assoc (taking 1 r) h (heard_from called 0 (room - length h.replies) h.after (untaken h xs ++ b)))
      ∙ ap (λ (n : ℕ). (taking 1 r then h) then heard_from called 0 (room - length h.replies) h.after (drop n (x ∷ xs) ++ b)) z)

  cut-answer : (a b v : List ℕ) (m room : ℕ) (r : S) (g h : Heard S) → length v ≡ m → g ≡ going_on (room - m) h a b → answering v r then g ≡ going_on room (answering v r then h) a b
  cut-answer a b v m room r g h l e =
      let z : h.taken ≡ 0 + h.taken = omega arith in
      let i : room - m - length h.replies ≡ room - length (v ++ h.replies) = omega (arith, length-append v h.replies) in
      ap (λ (y : Heard S). answering v r then y) e
      ∙ (sym (then_assoc (answering v r) h (heard_from called 0 (room - m - length h.replies) h.after (untaken h a ++ b)))
      ∙ (ap (λ (n : ℕ). (answering v r then h) then heard_from called 0 n h.after (untaken h a ++ b)) i
      ∙ ap (λ (n : ℕ). (answering v r then h) then heard_from called 0 (room - length (v ++ h.replies)) h.after (drop n a ++ b)) z))

  -- ---- what is heard depends on the room only where it does not suffice
  step_room : (p : Place) (s : List ℕ) (room room' : ℕ) (r : S) → 64 ≤ room → 64 ≤ room' → step_of called p s room' r ≡ step_of called p s room r
  step_room passed s room room' r h h' = refl
  step_room undecided s room room' r h h' = refl
  step_room (whole n) s room room' r h h' =
      let c : OutcomeOf S = called r (take n s) in
      ap (λ (b : Bool). pick (eqb c.silence 0) (unless b (full n) (answer n c)) (pick (eqb c.silence 8) (silent n (n - 1)) (silent n 0)))
      (le-leb 64 room' h' ∙ sym (le-leb 64 room h))

module _ {S : Type 0} {called : S → List ℕ → OutcomeOf S} {good : S → Bool} {address : S → ℕ} (laws : Serving called good address) where
  -- ---- of any bytes
  bounded : (s : List ℕ) (k room : ℕ) (r : S) → k ≤ length s → Bounded s room (heard_from called k room r s)
  unfolding heard_from
  bounded [] k room r h = record { taken_inside = omega arith; replies_fit = omega arith; rest-short = λ l. omega arith }
  bounded (x ∷ xs) (suc k) room r h = byte_bounded x xs room r (heard_from called k room r xs) (bounded xs k room r (le_of_suc-le-suc h))
  bounded (x ∷ xs) zero room r h = go (step_of called (place_of x xs) (x ∷ xs) room r) (step_tells laws x xs room r) (λ k room r l. bounded xs k room r l)
    where
      go : (y : Step S) → Tells called x xs room r y → ((k m : ℕ) (t : S) → k ≤ length xs → Bounded xs m (heard_from called k m t xs)) → Bounded (x ∷ xs) room (follow y room r (onward called xs))
      go stop t on =
          record {
            taken_inside = omega arith;
            replies_fit = omega arith;
            rest-short = λ l. omega (arith, undecided-short x xs t);
          }
      go skip t on = byte_bounded x xs room r (heard_from called 0 room r xs) (on 0 room r (omega arith))
      go (full n) t on = record { taken_inside = omega arith; replies_fit = omega arith; rest-short = λ l. omega (arith, t.1) }
      go (silent n k) t on = byte_bounded x xs room r (heard_from called k room r xs) (on k room r (silent-fits called x xs room r n k t))
      go (answer n c) t on =
          let sizes = reply-length laws x xs room r n c t in
          answer_bounded (x ∷ xs) (reply_in c) c.reported room c.after (taking 1 c.after then heard_from called (n - 1) (room - c.reported) c.after xs) sizes.0 sizes.1 t.room_there
          (byte_bounded x xs (room - c.reported) c.after (heard_from called (n - 1) (room - c.reported) c.after xs)
          (on (n - 1) (room - c.reported) c.after (answer-fits called x xs room r n c t)))

  pub within : (s : List ℕ) (room : ℕ) (r : S) → Bounded s room (heard_from called 0 room r s)
  within s room r = bounded s 0 room r (omega arith)

  -- ---- taking the rest again with what comes later
  cut_from : (a b : List ℕ) (k room : ℕ) (r : S) → k ≤ length a → heard_from called k room r (a ++ b) ≡ going_on called room (heard_from called k room r a) a b
  unfolding heard_from
  cut_from [] b zero room r h = cut-none called room r [] b
  cut_from [] b (suc k) room r h = absurd (not-suc-le-zero h)
  cut_from (x ∷ xs) b (suc k) room r h = cut_byte called x xs b room r (heard_from called k room r (xs ++ b)) (heard_from called k room r xs) (cut_from xs b k room r (le_of_suc-le-suc h))
  cut_from (x ∷ xs) b zero room r h =
      go (step_of called (place_of x xs) (x ∷ xs) room r) refl (step_tells laws x xs room r) (λ k room r l. cut_from xs b k room r l)
    where
      go : (y : Step S) → step_of called (place_of x xs) (x ∷ xs) room r ≡ y → Tells called x xs room r y
          → ((k m : ℕ) (t : S) → k ≤ length xs → heard_from called k m t (xs ++ b) ≡ going_on called m (heard_from called k m t xs) xs b)
          → follow (step_of called (place_of x (xs ++ b)) (x ∷ (xs ++ b)) room r) room r (onward called (xs ++ b)) ≡ going_on called room (follow y room r (onward called xs)) (x ∷ xs) b
      go stop e t on = cut-none called room r (x ∷ xs) b
      go skip e t on =
          ap (λ (z : Step S). follow z room r (onward called (xs ++ b))) (step_append called x xs b room r skip e (λ z. never (cc)))
          ∙ cut_byte called x xs b room r (heard_from called 0 room r (xs ++ b)) (heard_from called 0 room r xs) (on 0 room r (omega arith))
      go (full n) e t on = cut-none called room r (x ∷ xs) b
      go (silent n k) e t on =
          ap (λ (z : Step S). follow z room r (onward called (xs ++ b))) (step_append called x xs b room r (silent n k) e (λ z. never (cc)))
          ∙ cut_byte called x xs b room r (heard_from called k room r (xs ++ b)) (heard_from called k room r xs) (on k room r (silent-fits called x xs room r n k t))
      go (answer n c) e t on =
          let m : ℕ = room - c.reported in
          ap (λ (z : Step S). follow z room r (onward called (xs ++ b))) (step_append called x xs b room r (answer n c) e (λ z. never (cc)))
          ∙ cut-answer called (x ∷ xs) b (reply_in c) c.reported room c.after (onward called (xs ++ b) (n - 1) m c.after) (onward called xs (n - 1) m c.after) (reply-length laws x xs room r n c t).0
          (cut_byte called x xs b m c.after (heard_from called (n - 1) m c.after (xs ++ b)) (heard_from called (n - 1) m c.after xs) (on (n - 1) m c.after (answer-fits called x xs room r n c t)))

  -- ---- a stream in two parts: the second call gets what the first did not take, and the rest of the reply buffer
  pub cut : (a b : List ℕ) (room : ℕ) (r : S) → heard_from called 0 room r (a ++ b) ≡ going_on called room (heard_from called 0 room r a) a b
  cut a b room r = cut_from a b 0 room r (omega arith)

  -- ---- bytes that are not taken have done nothing: taken again alone they are not taken, and leave record and buffer as they were
  pub rest_unheard : (s : List ℕ) (room : ℕ) (r : S)
      → heard_from called 0 (room - length (heard_from called 0 room r s).replies) (heard_from called 0 room r s).after (untaken (heard_from called 0 room r s) s) ≡ nothing (heard_from called 0 room r s).after
  rest_unheard s room r = made_same _ _ _ _ _ _ g.after none-taken none-answered (no_bytes g.replies none-replied) ∙ ap nothing (sym (ap (λ (x : Heard S). x.after) same))
    where
      h : Heard S
      h = heard_from called 0 room r s

      g : Heard S
      g = heard_from called 0 (room - length h.replies) h.after (untaken h s)

      same : h ≡ h then g
      same =
          ap (heard_from called 0 room r) (sym (append-nil s))
          ∙ (cut s [] room r ∙ ap (λ (x : List ℕ). h then heard_from called 0 (room - length h.replies) h.after x) (append-nil (untaken h s)))

      none-taken : g.taken ≡ 0
      none-taken = omega (arith, ap (λ (x : Heard S). x.taken) same)

      none-answered : g.answered ≡ 0
      none-answered = omega (arith, ap (λ (x : Heard S). x.answered) same)

      none-replied : length g.replies ≡ 0
      none-replied = omega (arith, ap (λ (x : Heard S). length x.replies) same, length-append h.replies g.replies)

      no_bytes : (x : List ℕ) → length x ≡ 0 → x ≡ []
      no_bytes [] e = refl
      no_bytes (y ∷ ys) e = absurd (omega arith)

  -- ---- room that suffices
  room_enough : (s : List ℕ) (k room room' : ℕ) (r : S) → Roomy room (heard_from called k room r s) → Roomy room' (heard_from called k room r s) → heard_from called k room' r s ≡ heard_from called k room r s
  unfolding heard_from
  room_enough [] k room room' r h h' = refl
  room_enough (x ∷ xs) (suc k) room room' r h h' = ap (λ (g : Heard S). taking 1 r then g) (room_enough xs k room room' r h h')
  room_enough (x ∷ xs) zero room room' r h h' =
      let low : 64 ≤ room = omega arith in
      let low' : 64 ≤ room' = omega arith in
      ap (λ (y : Step S). follow y room' r (onward called xs)) (step_room called (place_of x xs) (x ∷ xs) room room' r low low')
      ∙ go (step_of called (place_of x xs) (x ∷ xs) room r) (step_tells laws x xs room r) h h' (λ k m m' t l l'. room_enough xs k m m' t l l')
    where
      go : (y : Step S) → Tells called x xs room r y → Roomy room (follow y room r (onward called xs)) → Roomy room' (follow y room r (onward called xs))
          → ((k m m' : ℕ) (t : S) → Roomy m (heard_from called k m t xs) → Roomy m' (heard_from called k m t xs) → heard_from called k m' t xs ≡ heard_from called k m t xs)
          → follow y room' r (onward called xs) ≡ follow y room r (onward called xs)
      go stop t h h' on = refl
      go skip t h h' on = ap (λ (g : Heard S). taking 1 r then g) (on 0 room room' r h h')
      go (full n) t h h' on = refl
      go (silent n k) t h h' on = ap (λ (g : Heard S). taking 1 r then g) (on k room room' r h h')
      go (answer n c) t h h' on =
          let d : List ℕ = (heard_from called (n - 1) (room - c.reported) c.after xs).replies in
          let l : length (reply_in c ++ d) ≡ c.reported + length d = length-append (reply_in c) d ∙ ap (λ (i : ℕ). i + length d) (reply-length laws x xs room r n c t).0 in
          ap (λ (g : Heard S). answering (reply_in c) c.after then (taking 1 c.after then g))
          (on (n - 1) (room - c.reported) (room' - c.reported) c.after (omega arith) (omega arith))

  -- ---- a tick loop in which room sufficed hears what one call hears of the whole stream: "equal", however the stream is cut
  pub cut_anywhere : (cs : List (List ℕ)) (room ample : ℕ) (r : S) (s : List ℕ) → AllRoomy called room r s cs → Roomy ample (ticks called room r s cs)
      → heard_from called 0 ample r (s ++ end_to_end cs) ≡ ticks called room r s cs
  unfolding end_to_end ticks
  cut_anywhere [] room ample r s h l = ap (heard_from called 0 ample r) (append-nil s) ∙ room_enough s 0 room ample r h l
  cut_anywhere (c ∷ cs) room ample r s h l =
      let g : Heard S = heard_from called 0 room r s in
      let t : Heard S = ticks called room g.after (untaken g s ++ c) cs in
      let n : length (g.replies ++ t.replies) ≡ length g.replies + length t.replies = length-append g.replies t.replies in
      let i : Roomy ample g = omega arith in
      let j : Roomy (ample - length g.replies) t = omega arith in
      cut s (c ++ end_to_end cs) ample r
      ∙ (ap (λ (x : Heard S). going_on called ample x s (c ++ end_to_end cs)) (room_enough s 0 room ample r h.0 i)
      ∙ ap (λ (x : Heard S). g then x) (ap (heard_from called 0 (ample - length g.replies) g.after) (sym (append_assoc (untaken g s) c (end_to_end cs)))
      ∙ cut_anywhere cs room (ample - length g.replies) g.after (untaken g s ++ c) h.1 j))
