-- Laws on lists and on the definitions of specs/, for the proofs of this crate and of its callers. Assumes nothing.
use mathlib.Core.Path.{◌≡◌, refl, ap, sym, subst, ◌∙◌}
use mathlib.Core.List.{List, [], ◌∷◌, ◌++◌, append-nil}
use mathlib.Core.Bool.{Bool, true, false, ◌&&◌}
use Prim.Native.Nat.{ℕ, suc, ◌+◌, ◌-◌, ◌≤◌, ◌<◌}
use native.Mathlib.Nat.{not-suc-le-zero}
use native.Mathlib.Numerals.{add-one}
use native.Mathlib.Omega.{arith}
use lib.Dec.{leb, eqb}
use lib.ListN.{length, take, drop, get_or, length-append, length-drop, length-take}
use lib.Seq.{length-take-le, take_at, drop-length, take-length}
use borrow.Rule.Slice.PartMut.{put_mid, Post-is}
use borrow.Author.Tests.{le-leb, leb-true, eqb-true}
use Rattle.frame.specs.declared.Kind.{Kind}
use Rattle.frame.specs.declared.Kind.TheVariants.{Minicomputer, Terminal}
use Rattle.frame.specs.declared.Silence.{Silence}
use Rattle.frame.specs.declared.Silence.TheVariants as silence
use Rattle.std.specs.Prelude.{Result, Ok}
use Rattle.frame.specs.declared.BuildRefusal.{BuildRefusal}
use Rattle.frame.specs.Frame.{stx, etx, pad, star, cr, lf, is_digit, is_capital, all_text, names_unit, address_in, frame_of, tail_of, text_in, within_limits, from_end, marks_right, check_right}
use Rattle.base.specs.Test.{between, unless}
use Rattle.frame.specs.Numbers.{Answer, H, S, accepted, unit, silence_number, built_as, located_as}
use Rattle.frame.specs.Answer.{copied, addressed, build_of, locate_of, read_of, address_of}
use Rattle.base.specs.Lists.{over}
use Rattle.base.proofs.Tests.{never}

-- ---- silences are counted from 1
pub silence_low : (w : Silence) → 1 ≤ silence_number w
silence_low silence.InvalidRecord = omega arith
silence_low silence.ShortReplyBuffer = omega arith
silence_low silence.FrameLength = omega arith
silence_low silence.Mark = omega arith
silence_low silence.Check = omega arith
silence_low silence.TextByte = omega arith
silence_low silence.AddressOrCode = omega arith
silence_low silence.OtherAddress = omega arith

-- ---- the text that a buffer holds from its second byte on
pub held-length : (n : ℕ) (o : List ℕ) → n < length o → length (take n (drop 1 o)) ≡ n
held-length n o h = length-take-le n (drop 1 o) (simp length-drop (omega arith))

-- what was laid after the first byte is held there
pub over-held : (t o : List ℕ) (n m : ℕ) → length t ≡ n → take n (drop 1 (over (m ∷ t) o)) ≡ t
unfolding over
over-held t o n m e = take_at t _ n e

-- the part behind the first byte comes back with t in it
pub text_back : (t o : List ℕ) → 0 < length o → put_mid 1 (length t + 1 - 1) o t ≡ over (get_or o 0 0 ∷ t) o
unfolding over
text_back t [] h = absurd (not-suc-le-zero h)
text_back t (x ∷ o) h = rw (Post-is 1 (length t + 1) (x ∷ o) (omega arith), add-one) refl

less_one : (n : ℕ) → suc n - 1 ≡ n
less_one n = omega arith

-- the part from the second byte on comes back with t laid over its start
pub part_back : (t o d : List ℕ) → 0 < length o → d ≡ over t (take (length o - 1) (drop 1 o)) → put_mid 1 (length o - 1) o d ≡ over (get_or o 0 0 ∷ t) o
unfolding over
part_back t [] d h e = absurd (not-suc-le-zero h)
part_back t (x ∷ o) d h e =
    let e' : d ≡ t ++ drop (length t) o =
    e ∙ ap (λ (n : ℕ). t ++ drop (length t) (take n o)) (less_one (length o)) ∙ ap (λ (l : List ℕ). t ++ drop (length t) l) (take-length o) in
    ap (λ (l : List ℕ). x ∷ (l ++ drop (suc (length o) - 1) o)) e'
    ∙ ap (λ (n : ℕ). x ∷ ((t ++ drop (length t) o) ++ drop n o)) (less_one (length o))
    ∙ ap (λ (l : List ℕ). x ∷ ((t ++ drop (length t) o) ++ l)) (drop-length o)
    ∙ ap (λ (l : List ℕ). x ∷ l) (append-nil (t ++ drop (length t) o))

-- ---- the form of a frame
pub frame-length : (k : Kind) (t : List ℕ) → length (frame_of k t) ≡ length t + suc (tail_of k)
unfolding frame_of
frame-length Minicomputer t = simp length-append (omega arith)
frame-length Terminal t = simp length-append (omega arith)

-- both of two tests hold
and_true : (a b : Bool) → (a && b) ≡ true → (a ≡ true) × (b ≡ true)
and_true true b e = (refl, e)
and_true false b e = absurd (never (cc))

-- the marks, by kind: the first byte, the byte after the text, the last byte
abbrev pub first_mark : Kind → ℕ
first_mark Minicomputer = stx
first_mark Terminal = star

abbrev pub end_mark : Kind → ℕ
end_mark Minicomputer = etx
end_mark Terminal = cr

abbrev pub last_mark : Kind → ℕ
last_mark Minicomputer = pad
last_mark Terminal = lf

pub marks_form : (k : Kind) (f : List ℕ)
    → marks_right k f ≡ (eqb (get_or f 0 0) (first_mark k) && (eqb (from_end f (tail_of k)) (end_mark k) && eqb (from_end f 1) (last_mark k)))
unfolding marks_right
marks_form Minicomputer f = refl
marks_form Terminal f = refl

pub marks_told : (k : Kind) (f : List ℕ) → marks_right k f ≡ true
    → (get_or f 0 0 ≡ first_mark k) × (from_end f (tail_of k) ≡ end_mark k) × (from_end f 1 ≡ last_mark k)
marks_told k f e =
    let x : Bool = eqb (from_end f (tail_of k)) (end_mark k) in
    let y : Bool = eqb (from_end f 1) (last_mark k) in
    let a = and_true (eqb (get_or f 0 0) (first_mark k)) (x && y) (sym (marks_form k f) ∙ e) in
    let b = and_true x y a.1 in
    (eqb-true _ _ a.0, eqb-true _ _ b.0, eqb-true _ _ b.1)

-- the limits, by kind: the first mark, a text of 4 to 60 bytes and the tail
limits_form : (k : Kind) (n : ℕ) → within_limits k n ≡ between (tail_of k + 5) (tail_of k + 61) n
unfolding within_limits
limits_form Minicomputer n = refl
limits_form Terminal n = refl

limits_told : (k : Kind) (n : ℕ) → within_limits k n ≡ true → (leb (tail_of k + 5) n ≡ true) × (leb n (tail_of k + 61) ≡ true)
limits_told k n e = and_true (leb (tail_of k + 5) n) (leb n (tail_of k + 61)) (sym (limits_form k n) ∙ e)

pub limits_low : (k : Kind) (n : ℕ) → within_limits k n ≡ true → tail_of k + 5 ≤ n
limits_low k n e = leb-true _ _ (limits_told k n e).0

pub limits_high : (k : Kind) (n : ℕ) → within_limits k n ≡ true → n ≤ tail_of k + 61
limits_high k n e = leb-true _ _ (limits_told k n e).1

pub limits_within : (k : Kind) (n : ℕ) → tail_of k + 5 ≤ n → n ≤ tail_of k + 61 → within_limits k n ≡ true
limits_within k n a b = limits_form k n ∙ simp (le-leb _ _ a, le-leb _ _ b)

pub tail_low : (k : Kind) → 2 ≤ tail_of k
tail_low Minicomputer = omega arith
tail_low Terminal = omega arith

pub text-length : (k : Kind) (f : List ℕ) → within_limits k (length f) ≡ true → length (text_in k f) ≡ length f - tail_of k - 1
unfolding text_in
text-length k f e = simp (length-take, length-drop) (omega (arith, tail_low k))

-- the digits of an address
pub record Digits (tens units : ℕ) : Type 0 where
  pub tens_low : 0x30 ≤ tens
  pub tens_high : tens ≤ 0x39
  pub units_low : 0x30 ≤ units
  pub units_high : units ≤ 0x39

pub named_digits : (t : List ℕ) → names_unit t ≡ true → Digits (get_or t 0 0) (get_or t 1 0)
unfolding names_unit
named_digits t e =
    let x : ℕ = get_or t 0 0 in
    let y : ℕ = get_or t 1 0 in
    let z : Bool = is_capital (get_or t 2 0) && is_capital (get_or t 3 0) in
    let a = and_true (is_digit x) (is_digit y && z) e in
    let b = and_true (leb 0x30 x) (leb x 0x39) a.0 in
    let d = and_true (leb 0x30 y) (leb y 0x39) (and_true (is_digit y) z a.1).0 in
    record {
      tens_low = leb-true 0x30 x b.0;
      tens_high = leb-true x 0x39 b.1;
      units_low = leb-true 0x30 y d.0;
      units_high = leb-true y 0x39 d.1;
    }

pub address_high : (t : List ℕ) → names_unit t ≡ true → address_in t ≤ 99
unfolding address_in
address_high t e = let d = named_digits t e in omega arith

-- ---- what an answer tells

-- of two answers in order it is not the first
passed : {A : Type 0} (p : Bool) (r x y : A) → (r ≡ y → ⊥) → unless p r x ≡ y → (p ≡ true) × (x ≡ y)
passed true r x y h e = (refl, e)
passed false r x y h e = absurd (h e)

silent-accepted : (m n : ℕ) → S m ≡ accepted n → ⊥
silent-accepted m n e = never (cc)

silent-unit : (m a n : ℕ) → S m ≡ unit a n → ⊥
silent-unit m a n e = never (cc)

accepted-unit : (m a n : ℕ) → accepted m ≡ unit a n → ⊥
accepted-unit m a n e = never (cc)

refused-accepted : (m n : ℕ) (o b : List ℕ) → ◌≡◌ {A = Answer × List ℕ} (H m, o) (accepted n, b) → ⊥
refused-accepted m n o b e = let h : H m ≡ accepted n = ap (λ (y : Answer × List ℕ). y.0) e in never (cc)

accepted-same : (m n : ℕ) → accepted m ≡ accepted n → m ≡ n
accepted-same m n e = cc

-- ---- `locate` found a text of n bytes
pub record Found (k : Kind) (f : List ℕ) (n : ℕ) : Type 0 where
  pub limits : within_limits k (length f) ≡ true
  pub marks : marks_right k f ≡ true
  pub sum : check_right k f ≡ true
  pub text : all_text (text_in k f) ≡ true
  pub size : length (text_in k f) ≡ n

located_as_lem : (k : Kind) (f : List ℕ) (y : Answer) → ((m : ℕ) → S m ≡ y → ⊥) → locate_of k f ≡ y
    → Found k f (length (text_in k f)) × (accepted (length (text_in k f)) ≡ y)
unfolding locate_of
located_as_lem k f y h e =
    let x₄ : Answer = accepted (length (text_in k f)) in
    let x₃ : Answer = unless (all_text (text_in k f)) (S 6) x₄ in
    let x₂ : Answer = unless (check_right k f) (S 5) x₃ in
    let x₁ : Answer = unless (marks_right k f) (S 4) x₂ in
    let a = passed (within_limits k (length f)) (S 3) x₁ y (h 3) e in
    let b = passed (marks_right k f) (S 4) x₂ y (h 4) a.1 in
    let d = passed (check_right k f) (S 5) x₃ y (h 5) b.1 in
    let g = passed (all_text (text_in k f)) (S 6) x₄ y (h 6) d.1 in
    (record { limits = a.0; marks = b.0; sum = d.0; text = g.0; size = refl }, g.1)

pub found : (k : Kind) (f : List ℕ) (n : ℕ) → locate_of k f ≡ accepted n → Found k f n
found k f n e =
    let a = located_as_lem k f (accepted n) (λ m. silent-accepted m n) e in
    subst (Found k f) (accepted-same (length (text_in k f)) n a.1) a.0

pub found_located : (k : Kind) (f : List ℕ) (n : ℕ) → Found k f n → locate_of k f ≡ accepted n
unfolding locate_of
found_located k f n a = simp (a.limits, a.marks, a.sum, a.text, a.size)

-- its text, from the second byte on, lies within it
pub record Sizes (f : List ℕ) (n : ℕ) : Type 0 where
  pub low : 4 ≤ n
  pub high : n ≤ 60
  pub room : n + 3 ≤ length f

pub found_sizes : (k : Kind) (f : List ℕ) (n : ℕ) → Found k f n → Sizes f n
found_sizes k f n a =
    omega (arith, text-length k f a.limits, limits_low k (length f) a.limits, limits_high k (length f) a.limits, tail_low k)

pub found_text : (k : Kind) (f : List ℕ) (n : ℕ) → Found k f n → take n (drop 1 f) ≡ text_in k f
unfolding text_in
found_text k f n a = let e : n ≡ length f - tail_of k - 1 = omega (arith, a.size, text-length k f a.limits) in ap (λ (i : ℕ). take i (drop 1 f)) e

pub located_found : (k : Kind) (f : List ℕ) (r : Result ℕ Silence) (n : ℕ) → located_as r ≡ locate_of k f → r ≡ Ok n → Found k f n
located_found k f r n e z = found k f n (sym e ∙ ap located_as z)

-- ---- `build` or `enclose` made a frame of n bytes, and the buffer then holds b
pub record Framed (k : Kind) (t o b : List ℕ) (n : ℕ) : Type 0 where
  pub room : 64 ≤ length o
  pub low : 4 ≤ length t
  pub high : length t ≤ 60
  pub text : all_text t ≡ true
  pub size : length (frame_of k t) ≡ n
  pub left : over (frame_of k t) o ≡ b

pub framed : (k : Kind) (t o b : List ℕ) (n : ℕ) → build_of k t o ≡ (accepted n, b) → Framed k t o b n
unfolding build_of
framed k t o b n e =
    let x₃ : Answer × List ℕ = (accepted (length (frame_of k t)), over (frame_of k t) o) in
    let x₂ : Answer × List ℕ = unless (all_text t) (H 3, o) x₃ in
    let x₁ : Answer × List ℕ = unless (between 4 60 (length t)) (H 2, o) x₂ in
    let a = passed (leb 64 (length o)) (H 1, o) x₁ (accepted n, b) (refused-accepted 1 n o b) e in
    let d = passed (between 4 60 (length t)) (H 2, o) x₂ (accepted n, b) (refused-accepted 2 n o b) a.1 in
    let g = passed (all_text t) (H 3, o) x₃ (accepted n, b) (refused-accepted 3 n o b) d.1 in
    let l = and_true (leb 4 (length t)) (leb (length t) 60) d.0 in
    record {
      room = leb-true 64 (length o) a.0;
      low = leb-true 4 (length t) l.0;
      high = leb-true (length t) 60 l.1;
      text = g.0;
      size = accepted-same (length (frame_of k t)) n (ap (λ (y : Answer × List ℕ). y.0) g.1);
      left = ap (λ (y : Answer × List ℕ). y.1) g.1;
    }

pub framed_built : (k : Kind) (t o b : List ℕ) (n : ℕ) → Framed k t o b n → build_of k t o ≡ (accepted n, b)
unfolding build_of
framed_built k t o b n a = simp (le-leb _ _ a.room, le-leb _ _ a.low, le-leb _ _ a.high, a.text, a.size, a.left)

pub built_framed : (k : Kind) (t o b : List ℕ) (r : Result ℕ BuildRefusal) (n : ℕ) → (built_as r, b) ≡ build_of k t o → r ≡ Ok n → Framed k t o b n
built_framed k t o b r n e z = framed k t o b n (sym e ∙ ap (λ (y : Result ℕ BuildRefusal). (built_as y, b)) z)

-- ---- `read` found a text of n bytes, and the buffer then holds b
pub record Taken (k : Kind) (f o b : List ℕ) (n : ℕ) : Type 0 where
  pub room : 64 ≤ length o
  pub text : Found k f n
  pub left : over (text_in k f) o ≡ b

pub taken : (k : Kind) (f o b : List ℕ) (n : ℕ) → read_of k f o ≡ (accepted n, b) → Taken k f o b n
unfolding read_of
taken k f o b n e =
    let a = passed (leb 64 (length o)) (H 1, o) (locate_of k f, copied (locate_of k f) (text_in k f) o) (accepted n, b) (refused-accepted 1 n o b) e in
    let l : locate_of k f ≡ accepted n = ap (λ (y : Answer × List ℕ). y.0) a.1 in
    record {
      room = leb-true 64 (length o) a.0;
      text = found k f n l;
      left = sym (ap (λ (y : Answer). copied y (text_in k f) o) l) ∙ ap (λ (y : Answer × List ℕ). y.1) a.1;
    }

pub taken_read : (k : Kind) (f o b : List ℕ) (n : ℕ) → Taken k f o b n → read_of k f o ≡ (accepted n, b)
unfolding read_of
taken_read k f o b n a = simp (le-leb _ _ a.room, found_located k f n a.text, a.left)

-- ---- `address` found the unit a and a text of n bytes
pub record Named (k : Kind) (f : List ℕ) (a n : ℕ) : Type 0 where
  pub text : Found k f n
  pub code : names_unit (text_in k f) ≡ true
  pub number : address_in (text_in k f) ≡ a

addressed_as_lem : (y : Answer) (t : List ℕ) (a n : ℕ) → (y ≡ unit a n → ⊥) → addressed y t ≡ unit a n
    → (y ≡ accepted n) × (names_unit t ≡ true) × (address_in t ≡ a)
addressed_as_lem (accepted m) t a n h e =
    let b = passed (names_unit t) (S 7) (unit (address_in t) m) (unit a n) (silent-unit 7 a n) e in
    let q : unit (address_in t) m ≡ unit a n = b.1 in
    let l : m ≡ n = cc in
    (ap accepted l, b.0, (cc))
addressed_as_lem (H m) t a n h e = absurd (never (cc))
addressed_as_lem (S m) t a n h e = absurd (never (cc))
addressed_as_lem (unit b m) t a n h e = absurd (h e)

pub named : (k : Kind) (f : List ℕ) (a n : ℕ) → address_of k f ≡ unit a n → Named k f a n
unfolding address_of
named k f a n e =
    let h : locate_of k f ≡ unit a n → ⊥ = λ q. accepted-unit (length (text_in k f)) a n (located_as_lem k f (unit a n) (λ m. silent-unit m a n) q).1 in
    let b = addressed_as_lem (locate_of k f) (text_in k f) a n h e in
    record { text = found k f n b.0; code = b.1; number = b.2 }

pub named_addressed : (k : Kind) (f : List ℕ) (a n : ℕ) → Named k f a n → address_of k f ≡ unit a n
unfolding address_of
named_addressed k f a n b = simp (found_located k f n b.text, b.code, b.number)

-- S3 to S7, or the text's address and length
pub address_cases : (P : Answer → Type 0) (k : Kind) (f : List ℕ) → ((n : ℕ) → 3 ≤ n → n ≤ 7 → P (S n)) → P (unit (address_in (text_in k f)) (length (text_in k f))) → P (address_of k f)
unfolding address_of locate_of
address_cases P k f silent unit_so = go (within_limits k (length f)) (marks_right k f) (check_right k f) (all_text (text_in k f))
  where
    last : (b : Bool) → P (unless b (S 7) (unit (address_in (text_in k f)) (length (text_in k f))))
    last true = unit_so
    last false = silent 7 (omega arith) (omega arith)

    go : (b₃ b₄ b₅ b₆ : Bool)
        → P (addressed (unless b₃ (S 3) (unless b₄ (S 4) (unless b₅ (S 5) (unless b₆ (S 6) (accepted (length (text_in k f))))))) (text_in k f))
    go false b₄ b₅ b₆ = silent 3 (omega arith) (omega arith)
    go true false b₅ b₆ = silent 4 (omega arith) (omega arith)
    go true true false b₆ = silent 5 (omega arith) (omega arith)
    go true true true false = silent 6 (omega arith) (omega arith)
    go true true true true = last (names_unit (text_in k f))
