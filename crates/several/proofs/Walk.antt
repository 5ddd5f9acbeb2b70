-- The walk over the frames, of any call: what each turn tells of what is heard, what holds at each turn, and one law for each way on and each
-- way out. Assumes nothing.
use Prim.Native.Nat.{ℕ, zero, suc, ◌+◌, ◌-◌, ◌^◌, ◌≤◌, ◌<◌}
use mathlib.Core.Bool.{Bool, true, false, not}
use mathlib.Core.Path.{◌≡◌, refl, sym, ap, subst, ◌∙◌}
use mathlib.Core.List.{List, [], ◌∷◌, ◌++◌, append_assoc, append-nil}
use native.Mathlib.Nat.{le_of_suc-le-suc}
use native.Mathlib.Omega.{arith}
use lib.ListN.{length, take, drop, length-append, length-drop, length-take, drop_of_length-le}
use lib.Seq.{drop-drop, take_all}
use borrow.Rule.Slice.PartMut.{put_mid}
use borrow.Author.Tests.{not-true, not-false}
use Rattle.base.specs.Test.{unless}
use Rattle.base.specs.Lists.{over}
use Rattle.base.proofs.Lists.{over-length, over-take, over-rest, over-append}
use Rattle.frame.specs.declared.Kind.TheVariants.{Minicomputer}
use Rattle.frame.specs.Frame.{text_in}
use Rattle.frame.proofs.Laws.{Sizes, found_sizes, found_text, Named}
use Rattle.frame.specs.declared.Silence.{Silence}
use Rattle.std.specs.Prelude.{Option, Some, None, Result, Ok, Err}
use Rattle.std.specs.Result.{result_unwrap_or}
use Rattle.command.specs.declared.Writing.{Writing}
use Rattle.controller.specs.Call.{OutcomeOf, answer_length, outcome_as, reply_in}
use Rattle.several.specs.declared.NotDue.{NotDue}
use Rattle.several.specs.declared.NotDue.TheVariants.{Refused, OtherUnit, NoRoom}
use Rattle.several.specs.declared.Turn.{Turn}
use Rattle.several.specs.declared.Report.{Report}
use Rattle.several.specs.Several.{Place, passed, undecided, whole, place_of, Step, full, silent, answer, Heard, nothing, taking, answering, ◌then◌, step_of, follow, heard_from, report_of, several_by}
use Rattle.several.specs.Answers.{several_as, served_as, due_of, turn_by, turn_at, turn_from}
use Rattle.several.proofs.Joined.{made, made_same, nothing_then, taking_more, onward, onward_to, behind}
use Rattle.several.proofs.Places.{whole-told}
use Rattle.several.proofs.Serving.{Serving, Replying}
use Rattle.several.proofs.Handing.{for_answered, behind_first, answer_due, step_refused, step_other, step_full, step_answer}

module _ {S : Type 0} {called : S → List ℕ → OutcomeOf S} {good : S → Bool} {address : S → ℕ} (laws : Serving called good address) where
  -- ---- what a turn tells of what is heard from p on
  module _ (s : List ℕ) (room : ℕ) (r : S) (v : good r ≡ true) where
    -- it stops at p'
    record Ends (p p' : ℕ) (h : Heard S) : Type 0 where
      order : p ≤ p'
      inside : p' ≤ length s
      all : h ≡ taking (p' - p) r

    -- an answer is due to the frame of n bytes at p', with a text of m bytes
    record Answers (p t e x : ℕ) (h : Heard S) : Type 0 where
      p' : ℕ
      n : ℕ
      m : ℕ
      order : p ≤ p'
      least : 4 ≤ n
      text : t ≡ p' + 1
      text-end : e ≡ p' + 1 + m
      end : x ≡ p' + n
      inside : p' + n ≤ length s
      room_there : 64 ≤ room
      unit : Named Minicomputer (take n (drop p' s)) (address r) m
      all :
          let c : OutcomeOf S = called r (take n (drop p' s)) in
          h ≡ taking (p' - p) r then (answering (reply_in c) c.after then (taking n c.after then heard_from called 0 (room - c.reported) c.after (drop (p' + n) s)))

    abbrev Tells : ℕ → Result Turn ℕ → Heard S → Type 0
    Tells p (Err p') h = Ends p p' h
    Tells p (Ok y) h = Answers p y.text y.text_end y.end h

    -- a byte more
    one_more : (p : ℕ) (y : Result Turn ℕ) (h : Heard S) → Tells (p + 1) y h → Tells p y (taking 1 r then h)
    one_more p (Err p') h t =
        record {
          order = omega (arith, t.order);
          inside = t.inside;
          all = ap (λ (g : Heard S). taking 1 r then g) t.all ∙ made_same _ _ _ _ _ _ r (omega (arith, t.order)) refl refl;
        }
    one_more p (Ok y) h t =
        record {
          p' = t.p';
          n = t.n;
          m = t.m;
          order = omega (arith, t.order);
          least = t.least;
          text = t.text;
          text-end = t.text-end;
          end = t.end;
          inside = t.inside;
          room_there = t.room_there;
          unit = t.unit;
          all = ap (λ (g : Heard S). taking 1 r then g) t.all ∙ taking_more 1 (t.p' - (p + 1)) (t.p' - p) r r _ (omega (arith, t.order));
        }

    stops : (p : ℕ) (h : Heard S) → p ≤ length s → h ≡ nothing r → Ends p p h
    stops p h l e =
        let z : 0 ≡ p - p = omega arith in
        record { order = omega arith; inside = l; all = e ∙ ap (λ (n : ℕ). taking n r) z }

    module _ (p x : ℕ) (xs : List ℕ) (e : drop p s ≡ x ∷ xs) where
      there : suc (length xs) ≡ length s - p
      there = sym (ap length e) ∙ length-drop p s

      -- a frame of n bytes that is answered
      answers : (n m : ℕ) → place_of x xs ≡ whole n → due_of (address r) room (take n (x ∷ xs)) ≡ Ok m
          → Answers p (p + 1) (p + 1 + m) (p + n) (follow (answer n (called r (take n (x ∷ xs)))) room r (onward called xs))
      answers n m f g =
          let w = whole-told x xs n f in
          let q : take n (x ∷ xs) ≡ take n (drop p s) = ap (take n) (sym e) in
          let c : OutcomeOf S = called r (take n (drop p s)) in
          let d = for_answered (address r) room (take n (x ∷ xs)) m g in
          let z : 0 ≡ p - p = omega arith in
          let on : onward called xs (n - 1) (room - c.reported) c.after ≡ taking n c.after then heard_from called 0 (room - c.reported) c.after (drop (p + n) s) =
          ap (λ (l : List ℕ). onward called l (n - 1) (room - c.reported) c.after) (sym (behind s p x xs e))
          ∙ onward_to called s p n (room - c.reported) c.after (omega (arith, w.least)) (omega (arith, w.fits, w.least, there)) in
          record {
            p' = p;
            n = n;
            m = m;
            order = omega arith;
            least = w.least;
            text = refl;
            text-end = refl;
            end = refl;
            inside = omega (arith, w.fits, w.least, there);
            room_there = d.1;
            unit = subst (λ (l : List ℕ). Named Minicomputer l (address r) m) q d.0;
            all =
                ap (λ (l : List ℕ). follow (answer n (called r l)) room r (onward called xs)) q
                ∙ (ap (λ (h : Heard S). answering (reply_in c) c.after then h) on
                ∙ (sym (nothing_then r _) ∙ ap (λ (k : ℕ). taking k r then (answering (reply_in c) c.after then (taking n c.after then heard_from called 0 (room - c.reported) c.after (drop (p + n) s)))) z));
          }

      -- by the step that is made
      by_step : (n : ℕ) (y : Step S) (z : Result Turn ℕ) → step_of called (whole n) (x ∷ xs) room r ≡ y → Tells p z (follow y room r (onward called xs))
          → Tells p z (follow (step_of called (whole n) (x ∷ xs) room r) room r (onward called xs))
      by_step n y z j t = subst (λ (w : Step S). Tells p z (follow w room r (onward called xs))) (sym j) t

      by_due : (n : ℕ) → place_of x xs ≡ whole n → (g : Result ℕ NotDue) → due_of (address r) room (take n (x ∷ xs)) ≡ g
          → ((k : ℕ) → k ≤ length xs → Tells (p + 1) (turn_from (address r) room k (p + 1) xs) (heard_from called k room r xs))
          → Tells p (turn_by g p n (λ k. turn_from (address r) room k (p + 1) xs)) (follow (step_of called (whole n) (x ∷ xs) room r) room r (onward called xs))
      by_due n f (Err Refused) i on =
          by_step n (silent n 0) (turn_from (address r) room 0 (p + 1) xs) (step_refused laws r (take n (x ∷ xs)) v n room i)
          (one_more p (turn_from (address r) room 0 (p + 1) xs) (heard_from called 0 room r xs) (on 0 (omega arith)))
      by_due n f (Err OtherUnit) i on =
          let w = whole-told x xs n f in
          by_step n (silent n (n - 1)) (turn_from (address r) room (n - 1) (p + 1) xs) (step_other laws r (take n (x ∷ xs)) v n room i)
          (one_more p (turn_from (address r) room (n - 1) (p + 1) xs) (heard_from called (n - 1) room r xs) (on (n - 1) (omega (arith, w.fits))))
      by_due n f (Err NoRoom) i on = by_step n (full n) (Err p) (step_full laws r (take n (x ∷ xs)) v n room i) (stops p (nothing r) (omega (arith, there)) refl)
      by_due n f (Ok m) i on =
          by_step n (answer n (called r (take n (x ∷ xs)))) (Ok (record { text = p + 1; text_end = p + 1 + m; end = p + n })) (step_answer laws r (take n (x ∷ xs)) v n room m i) (answers n m f i)

    tells : (l : List ℕ) (p k : ℕ) → p ≤ length s → drop p s ≡ l → k ≤ length l → Tells p (turn_from (address r) room k p l) (heard_from called k room r l)
    unfolding turn_from heard_from
    tells [] p k h e i = stops p (nothing r) h refl
    tells (x ∷ xs) p (suc k) h e i =
        one_more p (turn_from (address r) room k (p + 1) xs) (heard_from called k room r xs)
        (tells xs (p + 1) k (omega (arith, there p x xs e)) (behind s p x xs e) (le_of_suc-le-suc i))
    tells (x ∷ xs) p zero h e i = here (place_of x xs) refl (λ k j. tells xs (p + 1) k (omega (arith, there p x xs e)) (behind s p x xs e) j)
      where
        here : (y : Place) → place_of x xs ≡ y → ((k : ℕ) → k ≤ length xs → Tells (p + 1) (turn_from (address r) room k (p + 1) xs) (heard_from called k room r xs))
            → Tells p (turn_at y (address r) room (x ∷ xs) p (λ k. turn_from (address r) room k (p + 1) xs)) (follow (step_of called y (x ∷ xs) room r) room r (onward called xs))
        here passed f on = one_more p (turn_from (address r) room 0 (p + 1) xs) (heard_from called 0 room r xs) (on 0 (omega arith))
        here undecided f on = stops p (nothing r) h refl
        here (whole n) f on = by_due p x xs e n f (due_of (address r) room (take n (x ∷ xs))) refl on

    -- the turn that the walk takes
    told : (p : ℕ) → p ≤ length s → (d n : ℕ) → address r ≡ d → n ≡ room → (x y : Result Turn ℕ) → x ≡ turn_from d n 0 p (drop p s) → x ≡ y → Tells p y (heard_from called 0 room r (drop p s))
    told p h d n e f x y z i =
        subst (λ (w : Result Turn ℕ). Tells p w (heard_from called 0 room r (drop p s)))
        (ap (λ (j : ℕ). turn_from j room 0 p (drop p s)) e ∙ (ap (λ (j : ℕ). turn_from d j 0 p (drop p s)) (sym f) ∙ (sym z ∙ i)))
        (tells (drop p s) p 0 h refl (omega arith))

-- ---- the rest of the buffer comes back with a reply over its start
laid_on : (d x o₀ o ys : List ℕ) (u : ℕ) → length d ≡ u → u ≤ length o₀ → o ≡ over d o₀ → ys ≡ over x (take (length o - u) (drop u o))
    → put_mid u (length o - u) o ys ≡ over (d ++ x) o₀
laid_on d x o₀ o ys u e h l y =
    let n : length o ≡ length o₀ = ap length l ∙ over-length d o₀ (omega arith) in
    let a : take u o ≡ d = ap (take u) l ∙ over-take d o₀ u e in
    let b : drop u o ≡ drop u o₀ = ap (drop u) l ∙ over-rest d o₀ u e in
    let k : length (drop u o) ≤ length o - u = simp length-drop (omega arith) in
    let c : take (length o - u) (drop u o) ≡ drop (length d) o₀ = take_all (length o - u) (drop u o) k ∙ (b ∙ ap (λ (i : ℕ). drop i o₀) (sym e)) in
    let g : drop (length o - u) (drop u o) ≡ [] = drop_of_length-le (drop u o) k in
    ap (λ (v : List ℕ). v ++ (ys ++ drop (length o - u) (drop u o))) a
    ∙ (ap (λ (v : List ℕ). d ++ (ys ++ v)) g ∙ (ap (λ (v : List ℕ). d ++ v) (append-nil ys ∙ (y ∙ ap (over x) c)) ∙ sym (over-append d x o₀)))

-- ---- p bytes are taken, a frames answered, u reply bytes laid; r is held and o is the reply buffer
module _ {S : Type 0} (called : S → List ℕ → OutcomeOf S) (good : S → Bool) (address : S → ℕ) where
  pub record Walking (s o₀ : List ℕ) (r₀ : S) (o : List ℕ) (p a u : ℕ) (r : S) : Type 0 where
    pub inside : p ≤ length s
    pub few : a ≤ p
    pub first : good r₀ ≡ true
    pub sound : good r ≡ true
    pub unit : address r ≡ address r₀
    pub fits : u ≤ length o₀
    pub limit : length o₀ < 2 ^ 64
    pub short : length s < 2 ^ 64
    pub same : length o ≡ length o₀
    pub done : List ℕ
    pub size : length done ≡ u
    pub laid : o ≡ over done o₀
    pub all : heard_from called 0 (length o₀) r₀ s ≡ made p a done r then heard_from called 0 (length o₀ - u) r (drop p s)

  pub walk_begun : (s o : List ℕ) (r : S) (b : Bool) → b ≡ good r → not b ≡ false → length o < 2 ^ 64 → length s < 2 ^ 64 → Walking s o r o 0 0 0 r
  unfolding over
  walk_begun s o r b e n l m =
      let v : good r ≡ true = sym e ∙ not-false b n in
      let z : length o ≡ length o - 0 = omega arith in
      record {
        inside = omega arith;
        few = omega arith;
        first = v;
        sound = v;
        unit = refl;
        fits = omega arith;
        limit = l;
        short = m;
        same = refl;
        done = [];
        size = refl;
        laid = refl;
        all = sym (nothing_then r (heard_from called 0 (length o) r s)) ∙ ap (λ (n : ℕ). nothing r then heard_from called 0 n r s) z;
      }

  pub walk_refused : (s o : List ℕ) (r : S) (b : Bool) → b ≡ good r → not b ≡ true
      → record { silence = 1; taken = 0; answered = 0; written = 0; after = r; buffer = o } ≡ several_by called good r s o
  unfolding several_by over
  walk_refused s o r b e n = simp (sym e ∙ not-true b n)

-- the length that is reported, 0 for a silence
reported_so : (x : Result ℕ Silence) → result_unwrap_or x 0 ≡ answer_length x
reported_so (Err s) = refl
reported_so (Ok n) = refl

-- ---- by what the next turn is
module _ {S : Type 0} {called : S → List ℕ → OutcomeOf S} {good : S → Bool} {address : S → ℕ} (laws : Serving called good address)
    {s o₀ : List ℕ} {r₀ : S} {o : List ℕ} {p a u : ℕ} {r : S} (w : Walking called good address s o₀ r₀ o p a u r)
    (d : ℕ) (for_unit : d ≡ address r₀) (y : Result Turn ℕ) (due : y ≡ turn_from d (length o - u) 0 p (drop p s)) where
  tells_here : (z : Result Turn ℕ) → y ≡ z → Tells laws s (length o₀ - u) r w.sound p z (heard_from called 0 (length o₀ - u) r (drop p s))
  tells_here z i = told laws s (length o₀ - u) r w.sound p w.inside d (length o - u) (w.unit ∙ sym for_unit) (ap (λ (n : ℕ). n - u) w.same) y z due i

  -- the way out
  pub walk_stop : (p' : ℕ) (x : Result Report Silence) → y ≡ Err p' → x ≡ served_as p' a u → several_as x r o ≡ several_by called good r₀ s o₀
  unfolding several_by
  walk_stop p' x i z =
      let t = tells_here (Err p') i in
      let d : List ℕ = w.done in
      let h : heard_from called 0 (length o₀) r₀ s ≡ made p' a d r =
      w.all ∙ (ap (λ (g : Heard S). made p a d r then g) t.all ∙ made_same _ _ _ _ _ _ r (omega (arith, t.order)) (omega arith) (append-nil d)) in
      ap (λ (b : Result Report Silence). several_as b r o) z
      ∙ sym (ap (λ (b : Bool). unless b (report_of 1 (nothing r₀) o₀) (report_of 0 (heard_from called 0 (length o₀) r₀ s) o₀)) w.first
      ∙ (ap (λ (g : Heard S). report_of 0 g o₀) h ∙ simp (w.size, sym w.laid)))

  -- the way on: a frame that ends at e, with its text from t to t'
  module _ (turn : Turn) (i : y ≡ Ok turn) where
    abbrev t : ℕ
    t = turn.text

    abbrev t' : ℕ
    t' = turn.text_end

    abbrev e : ℕ
    e = turn.end

    it : Answers laws s (length o₀ - u) r w.sound p t t' e (heard_from called 0 (length o₀ - u) r (drop p s))
    it = tells_here (Ok turn) i

    abbrev q : List ℕ
    q = take it.n (drop it.p' s)

    frame-length : length q ≡ it.n
    frame-length = simp (length-take, length-drop) (omega (arith, it.inside))

    -- its text
    sizes : Sizes q it.m
    sizes = found_sizes Minicomputer q it.m it.unit.text

    pub text-order : t ≤ t'
    text-order = omega (arith, it.text, it.text-end)

    pub text_inside : t' ≤ length s
    text_inside = omega (arith, it.text-end, sizes.room, frame-length, it.inside)

    pub count_fits : a + 1 < 2 ^ 64
    count_fits = omega (arith, w.few, w.short, it.order, it.inside, it.least)

    pub nearer_end : length s - e < length s - p
    nearer_end = omega (arith, it.end, it.order, it.inside, it.least)

    text_there : take (t' - t) (drop t s) ≡ text_in Minicomputer q
    text_there =
        let j : t' - t ≡ it.m = omega (arith, it.text, it.text-end) in
        ap (λ (n : ℕ). take n (drop t s)) j
        ∙ (ap (λ (n : ℕ). take it.m (drop n s)) it.text
        ∙ (ap (take it.m) (sym (drop-drop 1 it.p' s)) ∙ (sym (behind_first it.m it.n (drop it.p' s) (omega (arith, sizes.room, frame-length)))
        ∙ found_text Minicomputer q it.m it.unit.text)))

    -- the reply is laid into the rest of the buffer
    module _ {reply : S → List ℕ → List ℕ → OutcomeOf S} (replies : Replying called reply) (x : Result ℕ Silence) (r' : S) (ys : List ℕ)
        (z : outcome_as x r' ys ≡ reply r (take (t' - t) (drop t s)) (take (length o - u) (drop u o))) (n : ℕ) (length_is : n ≡ result_unwrap_or x 0) where
      abbrev c : OutcomeOf S
      c = called r q

      heard : c.silence ≡ 0
      heard = answer_due laws r q w.sound it.m it.unit

      made_so : outcome_as x r' ys ≡ record { silence = 0; reported = c.reported; after = c.after; buffer = over (reply_in c) (take (length o - u) (drop u o)) }
      made_so =
          let l : 64 ≤ length (take (length o - u) (drop u o)) = simp (length-take, length-drop) (omega (arith, it.room_there, w.same)) in
          z ∙ (ap (λ (b : List ℕ). reply r b (take (length o - u) (drop u o))) text_there ∙ replies.anywhere r q (take (length o - u) (drop u o)) heard l)

      size : n ≡ c.reported
      size = length_is ∙ (reported_so x ∙ ap (λ (b : OutcomeOf S). b.reported) made_so)

      next : r' ≡ c.after
      next = ap (λ (b : OutcomeOf S). b.after) made_so

      long : length (reply_in c) ≡ n
      long = (laws.shown r q).0 ∙ sym size

      pub answer-fits : u + n < 2 ^ 64
      answer-fits = omega (arith, size, (laws.shown r q).1, it.room_there, w.limit)

      pub walk_answered : Walking called good address s o₀ r₀ (put_mid u (length o - u) o ys) e (a + 1) (u + n) r'
      walk_answered =
          let v : List ℕ = reply_in c in
          let laid : put_mid u (length o - u) o ys ≡ over (w.done ++ v) o₀ =
          laid_on w.done v o₀ o ys u w.size w.fits w.laid (ap (λ (b : OutcomeOf S). b.buffer) made_so) in
          let k : length o₀ - u - c.reported ≡ length o₀ - (u + n) = omega (arith, size) in
          let joined : length (w.done ++ v) ≡ u + n = simp length-append (omega (arith, w.size, long)) in
          let rest : Heard S = heard_from called 0 (length o₀ - (u + n)) r' (drop e s) in
          let on : heard_from called 0 (length o₀ - u - c.reported) c.after (drop (it.p' + it.n) s) ≡ rest =
          ap (λ (j : ℕ). heard_from called 0 j c.after (drop (it.p' + it.n) s)) k
          ∙ (ap (λ (b : S). heard_from called 0 (length o₀ - (u + n)) b (drop (it.p' + it.n) s)) (sym next)
          ∙ ap (λ (j : ℕ). heard_from called 0 (length o₀ - (u + n)) r' (drop j s)) (sym it.end)) in
          record {
            inside = omega (arith, it.end, it.inside);
            few = omega (arith, w.few, it.end, it.order, it.least);
            first = w.first;
            sound = ap good next ∙ laws.sound r q w.sound;
            unit = ap address next ∙ (laws.unit r q w.sound ∙ w.unit);
            fits = omega (arith, size, (laws.shown r q).1, it.room_there);
            limit = w.limit;
            short = w.short;
            same = ap length laid ∙ over-length (w.done ++ v) o₀ (omega (arith, joined, size, (laws.shown r q).1, it.room_there));
            done = w.done ++ v;
            size = joined;
            laid = laid;
            all =
                w.all ∙ (ap (λ (g : Heard S). made p a w.done r then g) (it.all ∙ ap (λ (g : Heard S). taking (it.p' - p) r then (answering v c.after then (taking it.n c.after then g))) on)
                ∙ made_same _ _ _ _ _ _ rest.after (omega (arith, it.end, it.order)) (omega arith) (sym (append_assoc w.done v rest.replies)));
          }

    -- ---- and what its effect leaves, carried out or not
    module _ {reply : S → List ℕ → List ℕ → OutcomeOf S} (replies : Replying called reply) (changed : Option Writing → S → S) (x : Result ℕ Silence) (c : Option Writing) (ys : List ℕ)
        (z : outcome_as x (changed c r) ys ≡ reply r (take (t' - t) (drop t s)) (take (length o - u) (drop u o))) (n : ℕ) (length_is : n ≡ result_unwrap_or x 0) where
      abbrev On : S → Type 0
      On = Walking called good address s o₀ r₀ (put_mid u (length o - u) o ys) e (a + 1) (u + n)

      pub reply_fits : u + n < 2 ^ 64
      reply_fits = answer-fits replies x (changed c r) ys z n length_is

      onward_so : On (changed c r)
      onward_so = walk_answered replies x (changed c r) ys z n length_is

      pub walk_changed : (v : Writing) (r' : S) → c ≡ Some v → r' ≡ changed (Some v) r → On r'
      walk_changed v r' f g = subst On (ap (λ (b : Option Writing). changed b r) f ∙ sym g) onward_so

      pub walk_unchanged : ((b : S) → changed None b ≡ b) → c ≡ None → On r
      walk_unchanged unchanged f = subst On (ap (λ (b : Option Writing). changed b r) f ∙ unchanged r) onward_so
