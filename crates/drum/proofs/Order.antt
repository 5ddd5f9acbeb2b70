-- What holds of a drum change whatever the other side replies, byte for byte and in any order. Assumes nothing.
use Prim.Native.Nat.{ℕ, zero, suc, ◌+◌, ◌-◌, ◌≤◌, ◌<◌}
use mathlib.Core.Bool.{Bool, true, false, not, false≢true}
use mathlib.Core.Path.{◌≡◌, refl, sym, ap, subst, ◌∙◌}
use mathlib.Core.List.{List, [], ◌∷◌, ◌++◌, append_assoc, append-nil}
use mathlib.Core.Logic.{◌⊎◌, inl, inr, ⊎_elim}
use native.Mathlib.Omega.{arith}
use lib.Dec.{eqb}
use lib.ListN.{length, get_or, length-append, get_or-map}
use borrow.Author.Tests.{eqb-false, not-true}
use Rattle.base.proofs.Lists.{over-take}
use Rattle.base.proofs.Tests.{by_test, never, below_or_not, holds_below, between_yes, between_no, between_low, between_high}
use Rattle.base.specs.Text.{text}
use Rattle.text.specs.Word.{digits}
use Rattle.frame.specs.Frame.{frame_of}
use Rattle.drum.specs.declared.Change.{Change}
use Rattle.drum.specs.Drum.{Step, ◌wanting◌, steps, framed, asks, wants, request_frame, reply_frame, good, checked, last, ended, stopped, is_step, awaits, at_step, Told, Q, short, request, end, stop, Outcome, tells, hands_out, picked, begin_of, take_of}
use Rattle.drum.specs.Turns.{Turn, ran_on, handed_out, is_taken, kept_if, taken_of, right_from, Came, waits, ends, stops, batch_frame, before_batch, AllRoomy}
use Rattle.drum.proofs.Cases.{out_low, by_begin, by_take, awaits-good, good-awaits}
use Rattle.drum.proofs.Laws.{step_legal, framed-length}

-- ---- after the end or a stop nothing is taken, handed out or changed
not-awaits : (z : Change) → is_step z.step ≡ false → awaits z ≡ false
not-awaits z n = by_test (awaits z) (λ h. absurd (false≢true (sym n ∙ (awaits-good z h).1))) (λ h. h)

stop-over : (i : ℕ) → is_step (stopped i) ≡ false
stop-over i = between_no 1 last (stopped i) (λ l h. omega arith)

refused : (z : Change) (q o : List ℕ) → awaits z ≡ false → take_of z q o ≡ tells (Q 4) z o
refused z q o n =
    by_take z q o (λ (y : Outcome). y ≡ tells (Q 4) z o) (λ h. refl) (λ h l. no h) (λ h l d. no h) (λ h l e d. no h) (λ h l e d. no h)
  where
    no : {A : Type 0} → awaits z ≡ true → A
    no h = absurd (false≢true (sym n ∙ h))

pub record Over (x y : Outcome) (qs : List (List ℕ)) : Type 0 where
  pub none-taken : qs ≡ []
  pub none_out : handed_out x ≡ [] → handed_out y ≡ []
  pub same-state : y.after ≡ x.after

stays_over : (ts : List Turn) (x : Outcome) → awaits x.after ≡ false → Over x (ran_on x ts) (taken_of x.after ts)
unfolding ran_on taken_of
stays_over [] x n = record { none-taken = refl; none_out = λ h. h; same-state = refl }
stays_over (t ∷ ts) x n =
    simp (refused x.after t.reply t.room n)
    (let r = stays_over ts (tells (Q 4) x.after t.room) n in record { none-taken = r.none-taken; none_out = λ h. r.none_out refl; same-state = r.same-state })

-- ---- the replies that were taken tell how far it is

-- the frames do not depend on the step that is held
pub reply_at : (i j : ℕ) (s : Change) → reply_frame i (at_step j s) ≡ reply_frame i s
unfolding reply_frame wants
reply_at i j s = refl

pub request_at : (i j : ℕ) (s : Change) → request_frame i (at_step j s) ≡ request_frame i s
unfolding request_frame asks
request_at i j s = refl

pub hands_after : (i : ℕ) (s : Change) (o : List ℕ) → (hands_out i s o).after ≡ at_step i s
unfolding hands_out
hands_after i s o = refl

hands_taken : (i : ℕ) (s : Change) (o : List ℕ) → is_taken (hands_out i s o).told ≡ true
unfolding hands_out
hands_taken i s o = refl

pub handed_so : (i : ℕ) (s : Change) (o : List ℕ) → handed_out (hands_out i s o) ≡ request_frame i s
unfolding hands_out
handed_so i s o = over-take (request_frame i s) o (length (request_frame i s)) refl

pub checked_at : (i : ℕ) (s : Change) → checked (at_step i s) ≡ checked s
unfolding checked
checked_at i s = refl

-- one right reply more
right_more : (n i : ℕ) (s : Change) → right_from i n s ++ (reply_frame (i + n) s ∷ []) ≡ right_from i (suc n) s
unfolding right_from
right_more zero i s = let e : i + 0 ≡ i = omega arith in ap (λ (j : ℕ). reply_frame j s ∷ []) e
right_more (suc n) i s =
    let e : i + suc n ≡ i + 1 + n = omega arith in
    ap (λ (x : List (List ℕ)). reply_frame i s ∷ x) (ap (λ (j : ℕ). right_from (i + 1) n s ++ (reply_frame j s ∷ [])) e ∙ right_more n (i + 1) s)

right_count : (n i : ℕ) (s : Change) → length (right_from i n s) ≡ n
unfolding right_from
right_count zero i s = refl
right_count (suc n) i s = ap suc (right_count n (i + 1) s)

-- one turn
module _ (s : Change) (qs : List (List ℕ)) (q o : List ℕ) where
  abbrev Turned : Outcome → Type 0
  Turned y = Came s (qs ++ kept_if (is_taken y.told) q []) y.after

  stays : (z : Change) → Came s qs z → Came s (qs ++ []) z
  stays z = subst (λ (x : List (List ℕ)). Came s x z) (sym (append-nil qs))

  over_turned : (z : Change) → is_step z.step ≡ false → Came s qs z → Turned (take_of z q o)
  over_turned z n c = subst Turned (sym (refused z q o (not-awaits z n))) (stays z c)

  turned : (z : Change) → Came s qs z → Turned (take_of z q o)
  turned z (ends e d) = over_turned z (ap (λ (x : Change). is_step x.step) d) (ends e d)
  turned z (stops n w l x e d) =
      over_turned z (ap (λ (x : Change). is_step x.step) d ∙ stop-over (1 + n)) (stops n w l x e d)
  turned z (waits n l e d) = subst (λ (x : Change). Turned (take_of x q o)) (sym d) go
    where
      at : Change
      at = at_step (1 + n) s

      right : q ≡ reply_frame at.step at → qs ++ (q ∷ []) ≡ right_from 1 (suc n) s
      right r = ap (λ (x : List (List ℕ)). x ++ (q ∷ [])) e ∙ ap (λ (x : List ℕ). right_from 1 n s ++ (x ∷ [])) (r ∙ reply_at (1 + n) (1 + n) s) ∙ right_more n 1 s

      go : Turned (take_of at q o)
      go =
          by_take at q o Turned (λ h. stays at (waits n l e refl)) (λ h m. stays at (waits n l e refl))
          (λ h m w. stops n q l (λ r. w (r ∙ sym (reply_at (1 + n) (1 + n) s))) (ap (λ (x : List (List ℕ)). x ++ (q ∷ [])) e) refl)
          (λ h m r f. let k : n ≡ 4 = omega arith in ends (right r ∙ ap (λ (i : ℕ). right_from 1 (suc i) s) k) refl)
          (λ h m r f.
          let k : 1 + n + 1 ≡ 1 + suc n = omega arith in
          let b : qs ++ kept_if (is_taken (hands_out (1 + n + 1) at o).told) q [] ≡ qs ++ (q ∷ []) =
          ap (λ (t : Bool). qs ++ kept_if t q []) (hands_taken (1 + n + 1) at o) in
          waits (suc n) (omega arith) (b ∙ right r) (hands_after (1 + n + 1) at o ∙ ap (λ (i : ℕ). at_step i s) k))

kept_so : (b : Bool) (q : List ℕ) (xs : List (List ℕ)) → kept_if b q xs ≡ kept_if b q [] ++ xs
kept_so true q xs = refl
kept_so false q xs = refl

came_on : (s : Change) (ts : List Turn) (qs : List (List ℕ)) (x : Outcome) → Came s qs x.after → Came s (qs ++ taken_of x.after ts) (ran_on x ts).after
unfolding ran_on taken_of
came_on s [] qs x c = stays s qs [] [] x.after c
came_on s (t ∷ ts) qs x c =
    let y : Outcome = take_of x.after t.reply t.room in
    let k : List (List ℕ) = kept_if (is_taken y.told) t.reply [] in
    let e : (qs ++ k) ++ taken_of y.after ts ≡ qs ++ taken_of x.after (t ∷ ts) =
    append_assoc qs k (taken_of y.after ts) ∙ ap (λ (w : List (List ℕ)). qs ++ w) (sym (kept_so (is_taken y.told) t.reply (taken_of y.after ts))) in
    subst (λ (w : List (List ℕ)). Came s w (ran_on y ts).after) e (came_on s ts (qs ++ k) y (turned s qs t.reply t.room x.after c))

-- "It hands out NR, PC, PV, RC and SB in turn .., takes each reply": where the change stands is told by the replies that were taken
pub history : (a r f p : ℕ) (o : List ℕ) (ts : List Turn) → checked (picked a r f p) ≡ good → 64 ≤ length o
    → Came (picked a r f p) (taken_of (begin_of a r f p o).after ts) (ran_on (begin_of a r f p o) ts).after
unfolding right_from
history a r f p o ts g m =
    by_begin a r f p o (λ (x : Outcome). Came (picked a r f p) (taken_of x.after ts) (ran_on x ts).after) (λ n e. absurd (never (cc)))
    (λ e l. absurd (omega arith))
    (λ e l. came_on (picked a r f p) ts [] (hands_out 1 (picked a r f p) o) (waits 0 (omega arith) refl (hands_after 1 (picked a r f p) o)))

-- ---- what is handed out is the request of the step that is held
abbrev Handing : Outcome → Type 0
Handing y = (handed_out y ≡ []) ⊎ ((is_step y.after.step ≡ true) × (handed_out y ≡ request_frame y.after.step y.after))

handing_out : (i : ℕ) (s : Change) (o : List ℕ) → is_step i ≡ true → Handing (hands_out i s o)
handing_out i s o h =
    subst (λ (z : Change). (handed_out (hands_out i s o) ≡ []) ⊎ ((is_step z.step ≡ true) × (handed_out (hands_out i s o) ≡ request_frame z.step z)))
    (sym (hands_after i s o)) (inr (h, handed_so i s o ∙ sym (request_at i i s)))

next_step : (z : Change) → awaits z ≡ true → (z.step ≡ last → ⊥) → is_step (z.step + 1) ≡ true
next_step z h n =
    let u : z.step ≤ 5 = between_high 1 5 z.step (awaits-good z h).1 in
    between_yes 1 5 (z.step + 1) (omega arith) (omega arith)

handing_take : (z : Change) (q o : List ℕ) → Handing (take_of z q o)
handing_take z q o =
    by_take z q o Handing (λ h. inl refl) (λ h l. inl refl) (λ h l w. inl refl) (λ h l r f. inl refl)
    (λ h l r f. handing_out (z.step + 1) z o (next_step z h f))

handing_on : (ts : List Turn) (x : Outcome) → Handing x → Handing (ran_on x ts)
unfolding ran_on
handing_on [] x h = h
handing_on (t ∷ ts) x h = handing_on ts (take_of x.after t.reply t.room) (handing_take x.after t.reply t.room)

-- ---- what may be told
pub data Sayable : Told → Type 0 where
  refuses : (n : ℕ) → n ≤ 4 → Sayable (Q n)
  lacks_room : Sayable short
  hands_out_lem : (n : ℕ) → 8 ≤ n → n ≤ 64 → Sayable (request n)
  closes : Sayable end
  breaks_off : (i : ℕ) → 1 ≤ i → i ≤ last → Sayable (stop i)

says_request : (i : ℕ) (s : Change) (o : List ℕ) → is_step i ≡ true → Sayable (hands_out i s o).told
unfolding hands_out request_frame
says_request i s o h =
    let x = (step_legal i s (between_low 1 last i h, between_high 1 last i h)).0 in
    let l = x.low in
    let u = x.high in
    let size = framed-length s.address (asks i s) in
    hands_out_lem (length (framed s.address (asks i s))) (omega arith) (omega arith)

pub begun_says : (a r f p : ℕ) (o : List ℕ) → Sayable (begin_of a r f p o).told
begun_says a r f p o =
    by_begin a r f p o (λ (x : Outcome). Sayable x.told) (λ n e. refuses n (let h = out_low (picked a r f p) n e in omega arith)) (λ e l. lacks_room)
    (λ e l. says_request 1 (picked a r f p) o refl)

pub taken_says : (z : Change) (q o : List ℕ) → Sayable (take_of z q o).told
taken_says z q o =
    by_take z q o (λ (x : Outcome). Sayable x.told) (λ h. refuses 4 (omega arith)) (λ h l. lacks_room)
    (λ h l w. let s = (awaits-good z h).1 in breaks_off z.step (between_low 1 last z.step s) (between_high 1 last z.step s)) (λ h l r f. closes)
    (λ h l r f. says_request (z.step + 1) z o (next_step z h f))

-- every request that goes out is that of the step behind the right replies that were taken
pub record InTurn (s : Change) (q : List ℕ) (qs : List (List ℕ)) : Type 0 where
  pub count : ℕ
  pub few : count < last
  pub asked : q ≡ request_frame (1 + count) s
  pub taken : qs ≡ right_from 1 count s

in_turn_so : (s z : Change) (q : List ℕ) (qs : List (List ℕ)) → Came s qs z → is_step z.step ≡ true → q ≡ request_frame z.step z → InTurn s q qs
in_turn_so s z q qs (waits n l e d) h r =
    record { count = n; few = l; asked = r ∙ (ap (λ (x : Change). request_frame x.step x) d ∙ request_at (1 + n) (1 + n) s); taken = e }
in_turn_so s z q qs (ends e d) h r = absurd (false≢true (sym (ap (λ (x : Change). is_step x.step) d) ∙ h))
in_turn_so s z q qs (stops n w l x e d) h r =
    absurd (false≢true (sym (ap (λ (x : Change). is_step x.step) d ∙ stop-over (1 + n)) ∙ h))

pub in_turn : (a r f p : ℕ) (o : List ℕ) (ts : List Turn) → (handed_out (ran_on (begin_of a r f p o) ts) ≡ [] → ⊥)
    → InTurn (picked a r f p) (handed_out (ran_on (begin_of a r f p o) ts)) (taken_of (begin_of a r f p o).after ts)
in_turn a r f p o ts some =
    by_begin a r f p o (λ (x : Outcome). x ≡ begin_of a r f p o → InTurn (picked a r f p) (handed_out (ran_on (begin_of a r f p o) ts)) (taken_of (begin_of a r f p o).after ts))
    (λ n e z. not_begun (Q n) refl z) (λ e l z. not_begun short refl z)
    (λ e l z.
    let s : Change = picked a r f p in
    ⊎_elim
    (λ (h : handed_out (ran_on (begin_of a r f p o) ts) ≡ []). absurd (some h))
    (λ (h : (is_step (ran_on (begin_of a r f p o) ts).after.step ≡ true)
    × (handed_out (ran_on (begin_of a r f p o) ts) ≡ request_frame (ran_on (begin_of a r f p o) ts).after.step (ran_on (begin_of a r f p o) ts).after)).
    in_turn_so s (ran_on (begin_of a r f p o) ts).after _ _ (history a r f p o ts e l) h.0 h.1)
    (handing_on ts (begin_of a r f p o) (subst Handing z (handing_out 1 s o refl)))) refl
  where
    not_begun : {A : Type 0} (t : Told) → handed_out (tells t (picked a r f p) o) ≡ [] → tells t (picked a r f p) o ≡ begin_of a r f p o → A
    not_begun t h z =
        let x : Outcome = tells t (picked a r f p) o in
        absurd (some (sym (ap (λ (y : Outcome). handed_out (ran_on y ts)) z) ∙ (stays_over ts x (not-awaits (picked a r f p) refl)).none_out h))

-- ---- "gives SB only after PV and RC both showed the picked numbers"

-- SB's frame is that of no other step, by its first letter; behind the last step it would be ETX
letter_at : (i : ℕ) (s : Change) → get_or (request_frame i s) 3 0 ≡ get_or (text "NPPRS") (i - 1) 0x03
unfolding request_frame asks frame_of digits
letter_at i s = sym (get_or-map (λ (x : Step). get_or (framed s.address x.asked) 3 0) (steps s) (i - 1) ([] wanting []))

pub batch_alone : (i : ℕ) (s : Change) → i ≤ last → request_frame i s ≡ batch_frame s.address s.preset → i ≡ last
unfolding request_frame asks
batch_alone i s few e =
    ⊎_elim
    (λ (l : i < last).
    let z : get_or (text "NPPRS") (i - 1) 0x03 ≡ 0x53 = sym (letter_at i s) ∙ (ap (λ (x : List ℕ). get_or x 3 0) e ∙ letter_at last s) in
    absurd (eqb-false _ 0x53 (not-true _ (holds_below (λ (j : ℕ). not (eqb (get_or (text "NPPRS") j 0x03) 0x53)) 4 refl (i - 1) (omega arith))) z))
    (λ (l : last ≤ i). omega arith) (below_or_not i last)

pub batch_some : (a p : ℕ) → batch_frame a p ≡ [] → ⊥
unfolding frame_of
batch_some a p e = never (cc)

four_right : (a r f p : ℕ) → right_from 1 4 (picked a r f p) ≡ before_batch a r f
unfolding right_from reply_frame wants
four_right a r f p = refl

-- whatever is replied: where SB's frame goes out, the replies that were taken are OK to NR, OK to PC, and what PV and RC must show
pub batch_only_after : (a r f p : ℕ) (o : List ℕ) (ts : List Turn) → handed_out (ran_on (begin_of a r f p o) ts) ≡ batch_frame a p
    → taken_of (begin_of a r f p o).after ts ≡ before_batch a r f
batch_only_after a r f p o ts b =
    let g = in_turn a r f p o ts (λ h. batch_some a p (sym b ∙ h)) in
    let l = g.few in
    let k = batch_alone (1 + g.count) (picked a r f p) (omega arith) (sym g.asked ∙ b) in
    let n : g.count ≡ 4 = omega arith in
    g.taken ∙ (ap (λ (i : ℕ). right_from 1 i (picked a r f p)) n ∙ four_right a r f p)

-- ---- it ends or stops after at most five replies
came_few : (s z : Change) (qs : List (List ℕ)) → Came s qs z → length qs ≤ 5
came_few s z qs (waits n l e d) = omega (arith, ap length e ∙ right_count n 1 s)
came_few s z qs (ends e d) = omega (arith, ap length e ∙ right_count 5 1 s)
came_few s z qs (stops n q l w e d) = omega (arith, ap length e ∙ length-append (right_from 1 n s) (q ∷ []), right_count n 1 s)

pub at_most_five : (a r f p : ℕ) (o : List ℕ) (ts : List Turn) → length (taken_of (begin_of a r f p o).after ts) ≤ 5
at_most_five a r f p o ts =
    by_begin a r f p o (λ (x : Outcome). x ≡ begin_of a r f p o → length (taken_of x.after ts) ≤ 5) (λ n e z. none) (λ e l z. none)
    (λ e l z. subst (λ (x : Outcome). length (taken_of x.after ts) ≤ 5) (sym z) (came_few _ _ _ (history a r f p o ts e l))) refl
  where
    none : length (taken_of (picked a r f p) ts) ≤ 5
    none = omega (arith, ap length (stays_over ts (tells short (picked a r f p) []) (not-awaits (picked a r f p) refl)).none-taken)

-- a change that still waits has taken every reply that came with room for a request
all_taken : (ts : List Turn) (x : Outcome) → AllRoomy ts → awaits (ran_on x ts).after ≡ true → length (taken_of x.after ts) ≡ length ts
unfolding ran_on taken_of
all_taken [] x m h = refl
all_taken (t ∷ ts) x m h =
    by_take x.after t.reply t.room
    (λ (y : Outcome). awaits (ran_on y ts).after ≡ true → length (kept_if (is_taken y.told) t.reply (taken_of y.after ts)) ≡ suc (length ts))
    (λ n. over (tells (Q 4) x.after t.room) n) (λ a l. let r = m.0 in absurd (omega arith))
    (λ a l w.
    let s : Change = x.after in
    over (tells (stop s.step) (at_step (stopped s.step) s) t.room) (not-awaits (at_step (stopped s.step) s) (stop-over s.step)))
    (λ a l r f. over (tells end (at_step ended x.after) t.room) (not-awaits (at_step ended x.after) refl))
    (λ a l r f k.
    let y : Outcome = hands_out (x.after.step + 1) x.after t.room in
    ap (λ (b : Bool). length (kept_if b t.reply (taken_of y.after ts))) (hands_taken (x.after.step + 1) x.after t.room)
    ∙ ap suc (all_taken ts y m.1 k)) h
  where
    over : {A : Type 0} (y : Outcome) → awaits y.after ≡ false → awaits (ran_on y ts).after ≡ true → A
    over y n k = absurd (false≢true (sym (ap awaits (stays_over ts y n).same-state ∙ n) ∙ k))

-- begun, and given five replies or more, each with room for a request, it has ended or stands at the step that stopped it
abbrev pub EndedOrStopped : ℕ → Type 0
EndedOrStopped i = (i ≡ ended) ⊎ ((n : ℕ) × (n < last) × (i ≡ stopped (1 + n)))

pub ends-or-stops : (a r f p : ℕ) (o : List ℕ) (ts : List Turn) → checked (picked a r f p) ≡ good → 64 ≤ length o → AllRoomy ts → 5 ≤ length ts
    → EndedOrStopped (ran_on (begin_of a r f p o) ts).after.step
ends-or-stops a r f p o ts g room m enough = go (history a r f p o ts g room)
  where
    go : Came (picked a r f p) (taken_of (begin_of a r f p o).after ts) (ran_on (begin_of a r f p o) ts).after → EndedOrStopped (ran_on (begin_of a r f p o) ts).after.step
    go (waits n l e d) =
        let z : Change = (ran_on (begin_of a r f p o) ts).after in
        let at : is_step z.step ≡ true = ap (λ (c : Change). is_step c.step) d ∙ between_yes 1 5 (1 + n) (omega arith) (omega arith) in
        let h : awaits z ≡ true = good-awaits z (ap checked d ∙ checked_at (1 + n) (picked a r f p) ∙ g) at in
        absurd (omega (arith, all_taken ts (begin_of a r f p o) m h, ap length e ∙ right_count n 1 (picked a r f p)))
    go (ends e d) = inl (ap (λ (c : Change). c.step) d)
    go (stops n q l w e d) = inr (n, l, ap (λ (c : Change). c.step) d)
