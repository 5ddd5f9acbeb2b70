-- Reading what was built gives the text, and building from what was read gives the frame. A frame is its first mark, its
-- text and what follows the text; each test is read off that form, or gives one part of it. Assumes nothing.
use mathlib.Core.Path.{◌≡◌, refl, ap, sym, ◌∙◌}
use mathlib.Core.List.{List, [], ◌∷◌, ◌++◌, append-nil}
use mathlib.Core.Bool.{true}
use Prim.Native.Nat.{ℕ, suc, ◌+◌, ◌-◌, ◌≤◌, ◌<◌}
use native.Mathlib.Nat.{not-suc-le-zero}
use native.Mathlib.Numerals.{add-one}
use native.Mathlib.Omega.{arith}
use lib.ListN.{length, take, drop, get_or, drop_of_length-le, length-drop, take-append-drop}
use lib.Seq.{get_or-append-add, get_or-drop, take-append-add, take-suc}
use borrow.Author.Tests.{eq-eqb, eqb-true}
use Rattle.frame.specs.declared.Kind.{Kind}
use Rattle.frame.specs.declared.Kind.TheVariants.{Minicomputer, Terminal}
use Rattle.frame.specs.Frame.{etx, pad, cr, lf, all_text, xor_from, check_of, frame_of, tail_of, text_in, within_limits, from_end, marks_right, check_right}
use Rattle.frame.specs.Numbers.{accepted}
use Rattle.frame.specs.Answer.{build_of, locate_of, read_of}
use Rattle.base.specs.Lists.{over}
use Rattle.base.proofs.Lists.{next, over-take}
use Rattle.frame.proofs.Laws.{frame-length, first_mark, end_mark, last_mark, marks_form, marks_told, limits_low, limits_within, tail_low, Found, found, found_sizes, found_located, Framed, framed, framed_built, Taken, taken, taken_read}

-- ---- the form of a frame

-- what follows the text
abbrev after : Kind → List ℕ → List ℕ
after Minicomputer t = etx ∷ check_of t ∷ pad ∷ []
after Terminal t = cr ∷ lf ∷ []

frame-form : (k : Kind) (t : List ℕ) → frame_of k t ≡ first_mark k ∷ (t ++ after k t)
unfolding frame_of
frame-form Minicomputer t = refl
frame-form Terminal t = refl

after_first : (k : Kind) (t : List ℕ) → get_or (after k t) 0 0 ≡ end_mark k
after_first Minicomputer t = refl
after_first Terminal t = refl

after_last : (k : Kind) (t : List ℕ) → get_or (after k t) (tail_of k - 1) 0 ≡ last_mark k
after_last Minicomputer t = refl
after_last Terminal t = refl

-- ---- the frame of a text passes each test
module _ (k : Kind) (t f : List ℕ) (e : f ≡ frame_of k t) where
  form : f ≡ first_mark k ∷ (t ++ after k t)
  form = e ∙ frame-form k t

  total : length f ≡ length t + suc (tail_of k)
  total = ap length e ∙ frame-length k t

  -- the byte at j after the text
  after_byte : (i j : ℕ) → i ≡ suc (length t) + j → get_or f i 0 ≡ get_or (after k t) j 0
  after_byte i j q =
      ap (λ (l : List ℕ). get_or l i 0) form ∙ ap (λ (n : ℕ). get_or (first_mark k ∷ (t ++ after k t)) n 0) q
      ∙ get_or-append-add (first_mark k ∷ t) (after k t) j 0

  -- the text and the first j bytes after it
  after_take : (i j : ℕ) → i ≡ length t + j → take i (drop 1 f) ≡ t ++ take j (after k t)
  after_take i j q = ap (λ (l : List ℕ). take i (drop 1 l)) form ∙ ap (λ (n : ℕ). take n (t ++ after k t)) q ∙ take-append-add t (after k t) j

  frame-text : text_in k f ≡ t
  unfolding text_in
  frame-text = after_take (length f - tail_of k - 1) 0 (omega (arith, total)) ∙ append-nil t

  frame_marks : marks_right k f ≡ true
  frame_marks =
      let a : from_end f (tail_of k) ≡ end_mark k = after_byte (length f - tail_of k) 0 (omega (arith, total)) ∙ after_first k t in
      let b : from_end f 1 ≡ last_mark k = after_byte (length f - 1) (tail_of k - 1) (omega (arith, total, tail_low k)) ∙ after_last k t in
      marks_form k f ∙ simp (eq-eqb _ _ (ap (λ (l : List ℕ). get_or l 0 0) form), eq-eqb _ _ a, eq-eqb _ _ b)

  frame_limits : 4 ≤ length t → length t ≤ 60 → within_limits k (length f) ≡ true
  frame_limits a b = limits_within k (length f) (omega (arith, total)) (omega (arith, total))

frame-check : (k : Kind) (t f : List ℕ) → f ≡ frame_of k t → check_right k f ≡ true
unfolding check_right
frame-check Minicomputer t f e =
    let l = total Minicomputer t f e in
    eq-eqb _ _
    (ap (xor_from 0) (after_take Minicomputer t f e (length f - 2 - 1) 1 (omega arith))
    ∙ sym (after_byte Minicomputer t f e (length f - 2) 1 (omega arith)))
frame-check Terminal t f e = refl

-- a frame of a legal text is located, and its text is that text
pub frame_located : (k : Kind) (t : List ℕ) → 4 ≤ length t → length t ≤ 60 → all_text t ≡ true
    → (locate_of k (frame_of k t) ≡ accepted (length t)) × (text_in k (frame_of k t) ≡ t)
frame_located k t a b c =
    let f : List ℕ = frame_of k t in
    let x : text_in k f ≡ t = frame-text k t f refl in
    let h : Found k f (length t) = record {
      limits = frame_limits k t f refl a b;
      marks = frame_marks k t f refl;
      sum = frame-check k t f refl;
      text = ap all_text x ∙ c;
      size = ap length x;
    } in
    (found_located k f (length t) h, x)

-- reading what was built gives the text
pub read_built : (k : Kind) (t o o' b : List ℕ) (n : ℕ) → 64 ≤ length o' → build_of k t o ≡ (accepted n, b)
    → read_of k (take n b) o' ≡ (accepted (length t), over t o')
read_built k t o o' b n h e =
    let a : Framed k t o b n = framed k t o b n e in
    let q : take n b ≡ frame_of k t = ap (take n) (sym a.left) ∙ over-take (frame_of k t) o n a.size in
    let l = frame_located k t a.low a.high a.text in
    ap (λ (f : List ℕ). read_of k f o') q
    ∙ taken_read k (frame_of k t) o' (over t o') (length t) record {
      room = h;
      text = found k (frame_of k t) (length t) l.0;
      left = ap (λ (y : List ℕ). over y o') l.1;
    }

-- ---- a frame that passes the tests is the frame of its text

-- the first byte, the bytes up to i, those from i on
parts : (f : List ℕ) (i : ℕ) → i < length f → f ≡ get_or f 0 0 ∷ (take i (drop 1 f) ++ drop (i + 1) f)
parts [] i h = absurd (not-suc-le-zero h)
parts (x ∷ f) i h = ap (λ (l : List ℕ). x ∷ l) (sym (take-append-drop i f) ∙ ap (λ (n : ℕ). take i f ++ drop n (x ∷ f)) (sym (add-one i)))

-- the last j + 1 bytes: one, and the last j
last : (f : List ℕ) (j : ℕ) → j < length f → drop (length f - suc j) f ≡ from_end f (suc j) ∷ drop (length f - j) f
last f j h =
    let e : length f - suc j + 1 ≡ length f - j = omega arith in
    next f (length f - suc j) (omega arith) ∙ ap (λ (i : ℕ). from_end f (suc j) ∷ drop i f) e

last_none : (f : List ℕ) → drop (length f - 0) f ≡ []
last_none f = drop_of_length-le f {i = length f - 0} (omega arith)

-- what the check is over: the text and ETX
checked : (f : List ℕ) → 8 ≤ length f → from_end f 3 ≡ etx → take (length f - 2 - 1) (drop 1 f) ≡ text_in Minicomputer f ++ (etx ∷ [])
unfolding text_in
checked f h a =
    let m : ℕ = length f - 3 - 1 in
    let p : length f - 2 - 1 ≡ suc m = omega arith in
    let q : 1 + m ≡ length f - 3 = omega arith in
    ap (λ (i : ℕ). take i (drop 1 f)) p ∙ take-suc (drop 1 f) m 0 (simp length-drop (omega arith))
    ∙ ap (λ (x : ℕ). take m (drop 1 f) ++ (x ∷ [])) (get_or-drop 1 f m 0 ∙ ap (λ (i : ℕ). get_or f i 0) q ∙ a)

ending : (k : Kind) (f : List ℕ) (n : ℕ) → Found k f n → drop (length f - tail_of k) f ≡ after k (text_in k f)
unfolding check_right
ending Minicomputer f n a =
    let m = marks_told Minicomputer f a.marks in
    let h : 8 ≤ length f = limits_low Minicomputer (length f) a.limits in
    let x : from_end f 2 ≡ check_of (text_in Minicomputer f) = sym (eqb-true _ _ a.sum) ∙ ap (xor_from 0) (checked f h m.1) in
    last f 2 (omega arith) ∙ ap (λ (l : List ℕ). from_end f 3 ∷ l) (last f 1 (omega arith))
    ∙ ap (λ (l : List ℕ). from_end f 3 ∷ from_end f 2 ∷ l) (last f 0 (omega arith))
    ∙ ap (λ (l : List ℕ). from_end f 3 ∷ from_end f 2 ∷ from_end f 1 ∷ l) (last_none f) ∙ simp (m.1, x, m.2)
ending Terminal f n a =
    let m = marks_told Terminal f a.marks in
    let h : 7 ≤ length f = limits_low Terminal (length f) a.limits in
    last f 1 (omega arith) ∙ ap (λ (l : List ℕ). from_end f 2 ∷ l) (last f 0 (omega arith))
    ∙ ap (λ (l : List ℕ). from_end f 2 ∷ from_end f 1 ∷ l) (last_none f) ∙ simp (m.1, m.2)

pub reframed : (k : Kind) (f : List ℕ) (n : ℕ) → Found k f n → frame_of k (text_in k f) ≡ f
unfolding text_in
reframed k f n a =
    let i : ℕ = length f - tail_of k - 1 in
    let h = limits_low k (length f) a.limits in
    let e : i + 1 ≡ length f - tail_of k = omega arith in
    sym (parts f i (omega arith) ∙ ap (λ (m : ℕ). m ∷ (take i (drop 1 f) ++ drop (i + 1) f)) (marks_told k f a.marks).0
    ∙ ap (λ (m : ℕ). first_mark k ∷ (take i (drop 1 f) ++ drop m f)) e
    ∙ ap (λ (l : List ℕ). first_mark k ∷ (take i (drop 1 f) ++ l)) (ending k f n a) ∙ sym (frame-form k (text_in k f)))

-- building from what was read gives the frame
pub built_read : (k : Kind) (f o o' b : List ℕ) (n : ℕ) → 64 ≤ length o' → read_of k f o ≡ (accepted n, b)
    → build_of k (take n b) o' ≡ (accepted (length f), over f o')
built_read k f o o' b n h e =
    let a : Taken k f o b n = taken k f o b n e in
    let t : List ℕ = text_in k f in
    let x : take n b ≡ t = ap (take n) (sym a.left) ∙ over-take t o n a.text.size in
    let r : frame_of k t ≡ f = reframed k f n a.text in
    let l = found_sizes k f n a.text in
    ap (λ (y : List ℕ). build_of k y o') x
    ∙ framed_built k t o' (over f o') (length f) record {
      room = h;
      low = omega (arith, a.text.size);
      high = omega (arith, a.text.size);
      text = a.text.text;
      size = ap length r;
      left = ap (λ (y : List ℕ). over y o') r;
    }
