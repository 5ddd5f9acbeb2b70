-- The walk to the next frame to which an answer is due: what the next frame tells of it, what holds at each turn, and one law for each way on
-- and each way out. Assumes nothing.
use Prim.Native.Nat.{ℕ, zero, suc, ◌+◌, ◌-◌, ◌≤◌, ◌<◌, ◌^◌}
use mathlib.Core.Path.{◌≡◌, refl, sym, ap, subst, ◌∙◌}
use mathlib.Core.List.{List, [], ◌∷◌}
use native.Mathlib.Nat.{le_of_suc-le-suc, not-suc-le-zero}
use native.Mathlib.Omega.{arith}
use lib.ListN.{length, take, drop, length-drop, length-take}
use lib.Seq.{drop-drop}
use Rattle.frame.specs.declared.Kind.TheVariants.{Minicomputer}
use Rattle.frame.proofs.Laws.{found_sizes}
use Rattle.several.specs.declared.NotDue.{NotDue}
use Rattle.several.specs.declared.NotDue.TheVariants.{Refused, OtherUnit, NoRoom}
use Rattle.several.specs.declared.Frame.{Frame}
use Rattle.several.specs.declared.Turn.{Turn}
use Rattle.std.specs.Prelude.{Result, Ok, Err}
use Rattle.several.specs.Several.{Place, passed, undecided, whole, place_of}
use Rattle.several.specs.Answers.{found_at, found_from, due_of, turn_by, turn_at, turn_from}
use Rattle.several.proofs.Joined.{behind}
use Rattle.several.proofs.Places.{whole-told}
use Rattle.several.proofs.Handing.{for_answered}

module _ (d room : ℕ) where
  -- the bytes of a frame that is done are passed
  turn_pass : (k p : ℕ) (l : List ℕ) → k ≤ length l → turn_from d room k p l ≡ turn_from d room 0 (p + k) (drop k l)
  unfolding turn_from
  turn_pass zero p l h = let z : p ≡ p + 0 = omega arith in ap (λ (n : ℕ). turn_from d room 0 n l) z
  turn_pass (suc k) p [] h = absurd (not-suc-le-zero h)
  turn_pass (suc k) p (x ∷ xs) h =
      let z : p + 1 + k ≡ p + suc k = omega arith in
      turn_pass k (p + 1) xs (le_of_suc-le-suc h) ∙ ap (λ (n : ℕ). turn_from d room 0 n (drop k xs)) z

  module _ (s : List ℕ) where
    -- the turn from p on
    abbrev next : ℕ → Result Turn ℕ
    next p = turn_from d room 0 p (drop p s)

    -- ... at a frame from p to e, by what is due to it
    abbrev by_due : ℕ → ℕ → Result ℕ NotDue → Result Turn ℕ
    by_due p e g = turn_by g p (e - p) (λ k. turn_from d room k (p + 1) (drop (p + 1) s))

    -- ---- what the next frame tells of it
    record Leads (p p' e : ℕ) : Type 0 where
      order : p ≤ p'
      least : p' + 4 ≤ e
      fits : e ≤ length s
      all : next p ≡ by_due p' e (due_of d room (take (e - p') (drop p' s)))

    abbrev Tells : ℕ → Result Frame ℕ → Type 0
    Tells p (Err p') = next p ≡ Err p'
    Tells p (Ok f) = Leads p f.start f.end

    -- a byte more
    one_more : (p : ℕ) → next p ≡ next (p + 1) → (y : Result Frame ℕ) → Tells (p + 1) y → Tells p y
    one_more p e (Err p') t = e ∙ t
    one_more p e (Ok f) t = record { order = omega (arith, t.order); least = t.least; fits = t.fits; all = e ∙ t.all }

    tells : (l : List ℕ) (p : ℕ) → drop p s ≡ l → Tells p (found_from p l)
    unfolding found_from turn_from
    tells [] p e = ap (turn_from d room 0 p) e
    tells (x ∷ xs) p e = here (place_of x xs) refl (tells xs (p + 1) (behind s p x xs e))
      where
        by_place : (y : Place) → place_of x xs ≡ y → next p ≡ turn_at y d room (x ∷ xs) p (λ k. turn_from d room k (p + 1) xs)
        by_place y f = ap (turn_from d room 0 p) e ∙ ap (λ (z : Place). turn_at z d room (x ∷ xs) p (λ k. turn_from d room k (p + 1) xs)) f

        here : (y : Place) → place_of x xs ≡ y → Tells (p + 1) (found_from (p + 1) xs) → Tells p (found_at y p (found_from (p + 1) xs))
        here passed f t = one_more p (by_place passed f ∙ ap (turn_from d room 0 (p + 1)) (sym (behind s p x xs e))) (found_from (p + 1) xs) t
        here undecided f t = by_place undecided f
        here (whole n) f t =
            let g = whole-told x xs n f in
            let l : suc (length xs) ≡ length s - p = sym (ap length e) ∙ length-drop p s in
            let z : n ≡ p + n - p = omega arith in
            record {
              order = omega arith;
              least = omega (arith, g.least);
              fits = omega (arith, g.fits, g.least);
              all =
                  by_place (whole n) f
                  ∙ (ap (λ (m : ℕ). turn_by (due_of d room (take m (x ∷ xs))) p m (λ k. turn_from d room k (p + 1) xs)) z
                  ∙ (ap (λ (v : List ℕ). turn_by (due_of d room (take (p + n - p) v)) p (p + n - p) (λ k. turn_from d room k (p + 1) xs)) (sym e)
                  ∙ ap (λ (v : List ℕ). turn_by (due_of d room (take (p + n - p) (drop p s))) p (p + n - p) (λ k. turn_from d room k (p + 1) v)) (sym (behind s p x xs e))));
            }

    told : (p : ℕ) (x y : Result Frame ℕ) → x ≡ found_from p (drop p s) → x ≡ y → Tells p y
    told p x y e z = subst (Tells p) (sym e ∙ z) (tells (drop p s) p refl)

-- ---- nothing between f and p is due
pub record Turning (d room : ℕ) (s : List ℕ) (f p : ℕ) : Type 0 where
  pub inside : p ≤ length s
  pub all : turn_from d room 0 f (drop f s) ≡ turn_from d room 0 p (drop p s)

pub turn_begun : (d room : ℕ) (s : List ℕ) (f : ℕ) → f ≤ length s → Turning d room s f f
turn_begun d room s f h = record { inside = h; all = refl }

module _ {d room : ℕ} {s : List ℕ} {f t : ℕ} (w : Turning d room s f t) where
  pub turn_stop : (p : ℕ) → Err p ≡ found_from t (drop t s) → Err p ≡ turn_from d room 0 f (drop f s)
  turn_stop p y = sym (w.all ∙ told d room s t (Err p) (Err p) y refl)

  module _ (x : Frame) (found : Ok x ≡ found_from t (drop t s)) where
    abbrev p : ℕ
    p = x.start

    abbrev e : ℕ
    e = x.end

    it : Leads d room s t p e
    it = told d room s t (Ok x) (Ok x) found refl

    pub frame-order : p ≤ e
    frame-order = omega (arith, it.least)

    pub frame_inside : e ≤ length s
    frame_inside = it.fits

    pub frame_start : p < length s
    frame_start = omega (arith, it.least, it.fits)

    pub next_fits : length s < 2 ^ 64 → p + 1 < 2 ^ 64
    next_fits l = omega (arith, frame_start)

    pub nearer_one : length s - (p + 1) < length s - t
    nearer_one = omega (arith, it.order, frame_start)

    pub nearer_end : length s - e < length s - t
    nearer_end = omega (arith, it.order, it.least, it.fits)

    -- what is due to it
    module _ where
      abbrev due : Result ℕ NotDue
      due = due_of d room (take (e - p) (drop p s))

      so : (v : Result ℕ NotDue) → v ≡ due → turn_from d room 0 f (drop f s) ≡ by_due d room s p e v
      so v i = w.all ∙ (it.all ∙ ap (by_due d room s p e) (sym i))

      pub turn_on : Err Refused ≡ due → Turning d room s f (p + 1)
      turn_on i = record { inside = omega (arith, frame_start); all = so (Err Refused) i }

      pub turn_other : Err OtherUnit ≡ due → Turning d room s f e
      turn_other i =
          let j : p + 1 + (e - p - 1) ≡ e = omega (arith, it.least) in
          record {
            inside = frame_inside;
            all =
                so (Err OtherUnit) i ∙ (turn_pass d room (e - p - 1) (p + 1) (drop (p + 1) s) (simp length-drop (omega (arith, it.fits)))
                ∙ (ap (turn_from d room 0 (p + 1 + (e - p - 1))) (drop-drop (e - p - 1) (p + 1) s)
                ∙ ap (λ (n : ℕ). turn_from d room 0 n (drop n s)) j));
          }

      pub turn_room : Err NoRoom ≡ due → Err p ≡ turn_from d room 0 f (drop f s)
      turn_room i = sym (so (Err NoRoom) i)

      module _ (m : ℕ) (i : Ok m ≡ due) where
        pub text_inside : p + 1 + m ≤ length s
        text_inside =
            let named = (for_answered d room (take (e - p) (drop p s)) m (sym i)).0 in
            let sizes = found_sizes Minicomputer (take (e - p) (drop p s)) m named.text in
            let l : length (take (e - p) (drop p s)) ≤ e - p = simp length-take (omega arith) in
            omega (arith, sizes.room, it.fits, it.least)

        pub text-fits : length s < 2 ^ 64 → p + 1 + m < 2 ^ 64
        text-fits l = omega (arith, text_inside)

        pub turn_answer : Ok (record { text = p + 1; text_end = p + 1 + m; end = e }) ≡ turn_from d room 0 f (drop f s)
        turn_answer =
            let j : p + (e - p) ≡ e = omega (arith, it.least) in
            sym (so (Ok m) i ∙ ap (λ (x : ℕ). let y : Result Turn ℕ = Ok (record { text = p + 1; text_end = p + 1 + m; end = x }) in y) j)

pub ruleset frame-places = (frame-order, frame_inside, frame_start)
