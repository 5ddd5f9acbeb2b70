-- One law for each return of the code, with premises in the form that the code's facts have, so that `search` finds them. Assumes
-- nothing.
use Prim.Native.Nat.{ℕ, zero, suc, ◌+◌, ◌-◌, ◌≤◌, ◌<◌}
use mathlib.Core.Bool.{Bool, true}
use mathlib.Core.Path.{◌≡◌, refl, sym, ap, ◌∙◌}
use mathlib.Core.List.{List, [], ◌∷◌, ◌++◌, append_assoc}
use native.Mathlib.Nat.{le_of_suc-le-suc, not-suc-le-zero}
use native.Mathlib.Omega.{arith}
use lib.ListN.{length, take, get_or, length-append}
use Rattle.base.specs.Test.{all_between}
use Rattle.base.specs.Lists.{over}
use Rattle.base.specs.Text.{text}
use Rattle.base.proofs.Lists.{over_at_start, over_at-length}
use Rattle.base.proofs.Tests.{◌also◌}
use Rattle.text.specs.Word.{space, digits, equal}
use Rattle.text.proofs.Printable.{Text, text_wider, text_joined, text-word, text-digits, text-labelled, text-labelled_two}
use Rattle.text.proofs.Words.{digits-length}
use Rattle.text.specs.Written.{written_at}
use Rattle.text.proofs.Writing.{Laid, laid_none, laid_same, laid_back, laid-count, joined, both_written, digits_high}
use Rattle.frame.specs.declared.Kind.TheVariants.{Minicomputer}
use Rattle.frame.specs.Frame.{all_text}
use Rattle.frame.specs.declared.BuildRefusal.{BuildRefusal}
use Rattle.frame.specs.declared.BuildRefusal.TheVariants as build
use Rattle.frame.specs.Numbers.{Answer, accepted, length_in, built_as}
use Rattle.frame.specs.Answer.{build_of}
use Rattle.frame.proofs.Laws.{frame-length, framed_built}
use Rattle.drum.specs.declared.Change.{Change}
use Rattle.drum.specs.declared.Step.{Step as AStep}
use Rattle.drum.specs.declared.Step.TheVariants as step
use Rattle.std.specs.Prelude.{Option, Some, None, Result, Ok, Err}
use Rattle.std.specs.Result.{result_unwrap_or}
use Rattle.drum.specs.declared.message.Number.{Number}
use Rattle.drum.specs.declared.message.Message.{Message}
use Rattle.drum.specs.Drum.{number, factor_code, Step, ◌wanting◌, steps, framed, asks, wants, request_frame, reply_frame, at_step, request, tells, hands_out}
use Rattle.drum.specs.Numbers.{number_text, message_text, step_number}

-- ---- `put_number`
pub number-none : (x : Option Number) (at : ℕ) (o : List ℕ) → x ≡ None → Laid at (number_text x) o at o
number-none x at o z = laid_same at at [] _ o o (simp z) (laid_none at o)

pub number-laid : (x : Option Number) (w : Number) (at b m : ℕ) (o o₁ o₂ : List ℕ) → x ≡ Some w → w.width ≤ 8 → at + 9 ≤ length o
    → (b, o₁) ≡ written_at at (space ∷ []) o → (m, o₂) ≡ written_at b (digits w.width w.value) o₁ → Laid at (number_text x) o m o₂
number-laid x w at b m o o₁ o₂ z l h f g =
    laid_same at m (number w.width w.value) _ o o₂ (simp z)
    (both_written at b m w.width (space ∷ []) (digits w.width w.value) o o₁ o₂ (digits_high w.width w.value) (omega arith) f g)

-- ---- `put_text`
number_high : (x : Option Number) → length (number_text x) ≤ 9
number_high None = omega arith
number_high (Some w) = let l = w.narrow in omega (arith, digits-length w.width w.value)

module _ (a : ℕ) (m : Message) (l f : ℕ) (o o₁ o₂ : List ℕ) (two : length m.letters ≡ 2) (room : 22 ≤ length o) (unit : (l, o₁) ≡ written_at 0 (digits 2 a) o)
    (letters : (f, o₂) ≡ written_at l m.letters o₁) where
  abbrev front : List ℕ
  front = digits 2 a ++ m.letters

  front_laid : Laid 0 front o f o₂
  front_laid = both_written 0 l f 2 (digits 2 a) m.letters o o₁ o₂ (omega arith) (omega (arith, digits-length 2 a)) unit letters

  front_end : f ≡ 4
  front_end = omega (arith, front_laid.0, length-append (digits 2 a) m.letters, digits-length 2 a)

  front_size : length o₂ ≡ length o
  front_size = ap length front_laid.1 ∙ over_at-length 0 front o (omega (arith, front_laid.0, front_end))

  pub first_fits : f + 9 ≤ length o₂
  first_fits = omega (arith, front_end, front_size)

  module _ (n : ℕ) (o₃ : List ℕ) (number-so : Laid f (number_text m.first) o₂ n o₃) where
    pub second_fits : n + 9 ≤ length o₃
    second_fits =
        let k = number_high m.first in
        omega (arith, front_end, front_size, number-so.0, ap length number-so.1 ∙ over_at-length f (number_text m.first) o₂ (omega (arith, front_end, front_size)))

    pub text-laid : (k : ℕ) (o₄ : List ℕ) → Laid n (number_text m.second) o₃ k o₄ → Laid 0 (digits 2 a ++ message_text m) o k o₄
    text-laid k o₄ last-so =
        let x : List ℕ = number_text m.first in
        let y : List ℕ = number_text m.second in
        let z : Laid 0 (front ++ (x ++ y)) o k o₄ = joined 0 f k front (x ++ y) o o₂ o₄ front_laid (joined f n k x y o₂ o₃ o₄ number-so last-so) in
        laid_same 0 k (front ++ (x ++ y)) _ o o₄ (append_assoc (digits 2 a) m.letters (x ++ y)) z

-- ---- `build`: the text at the start of a buffer
message_short : (m : Message) → length m.letters ≡ 2 → length (message_text m) ≤ 20
message_short m two =
    let x = number_high m.first in
    let y = number_high m.second in
    omega (arith, length-append m.letters (number_text m.first ++ number_text m.second), length-append (number_text m.first) (number_text m.second))

pub text-short : (a : ℕ) (m : Message) (n : ℕ) (o o₁ : List ℕ) → length m.letters ≡ 2 → Laid 0 (digits 2 a ++ message_text m) o n o₁ → n ≤ 22
text-short a m n o o₁ two l = omega (arith, l.0, length-append (digits 2 a) (message_text m), digits-length 2 a, message_short m two)

pub text_built : (t o o₁ : List ℕ) (n : ℕ) → Laid 0 t o n o₁ → (y : Answer) (q b : List ℕ) → (y, b) ≡ build_of Minicomputer (take n o₁) q
    → (y, b) ≡ build_of Minicomputer t q
text_built t o o₁ n l y q b e = e ∙ ap (λ (x : List ℕ). build_of Minicomputer x q) (laid_back t o o₁ n l)

-- ---- each step's texts may stand in a frame
abbrev Legal : Step → Type 0
Legal x = Text 2 20 x.asked × Text 2 20 x.wanted

abbrev AllLegal : List Step → Type 0
AllLegal [] = Unit {0}
AllLegal (x ∷ xs) = Legal x × AllLegal xs

legal_in : (xs : List Step) (i : ℕ) (d : Step) → AllLegal xs → i < length xs → Legal (get_or xs i d)
legal_in [] i d h l = absurd (not-suc-le-zero l)
legal_in (x ∷ xs) zero d h l = h.0
legal_in (x ∷ xs) (suc i) d h l = legal_in xs i d h.1 (le_of_suc-le-suc l)

module _ (c d : ℕ) (h : all_text (c ∷ d ∷ space ∷ []) ≡ true) where
  one_legal : (w n : ℕ) → w ≤ 8 → Text 2 20 (c ∷ d ∷ number w n)
  one_legal w n l = text_wider _ _ 2 20 _ (omega arith) (omega arith) (text-labelled (c ∷ d ∷ space ∷ []) w n h)

  two_legal : (w n w' n' : ℕ) → w ≤ 8 → w' ≤ 8 → Text 2 20 (c ∷ d ∷ (number w n ++ number w' n'))
  two_legal w n w' n' l l' = text_wider _ _ 2 20 _ (omega arith) (omega arith) (text-labelled_two (c ∷ d ∷ space ∷ []) w n w' n' h)

word_legal : (c d : ℕ) → all_text (c ∷ d ∷ []) ≡ true → Text 2 20 (c ∷ d ∷ [])
word_legal c d h = text_wider 2 2 2 20 (c ∷ d ∷ []) (omega arith) (omega arith) (text-word (c ∷ d ∷ []) h)

steps_legal : (s : Change) → AllLegal (steps s)
unfolding all_between
steps_legal s =
    let c : ℕ = factor_code s in
    let f : ℕ = s.factor in
    let ok : Text 2 20 (text "OK") = word_legal 0x4f 0x4b refl in
    (one_legal 0x4e 0x52 refl 2 s.recipe (omega arith), ok)
    also (two_legal 0x50 0x43 refl 3 c 8 f (omega arith) (omega arith), ok)
    also (one_legal 0x50 0x56 refl 3 c (omega arith), two_legal 0x50 0x56 refl 3 c 8 f (omega arith) (omega arith))
    also (word_legal 0x52 0x43 refl, two_legal 0x52 0x43 refl 2 s.recipe 8 f (omega arith) (omega arith))
    also (one_legal 0x53 0x42 refl 6 s.preset (omega arith), ok)
    also tt

pub step_legal : (i : ℕ) (s : Change) → (1 ≤ i) × (i ≤ 5) → Text 2 20 (asks i s) × Text 2 20 (wants i s)
unfolding asks wants
step_legal i s h = let l = h.0 in let u = h.1 in legal_in (steps s) (i - 1) ([] wanting []) (steps_legal s) (omega arith)

-- a frame that was built
pub framed-length : (a : ℕ) (t : List ℕ) → length (framed a t) ≡ 6 + length t
framed-length a t = omega (arith, frame-length Minicomputer (digits 2 a ++ t), length-append (digits 2 a) t, digits-length 2 a)

built-length : (y : Result ℕ BuildRefusal) → result_unwrap_or y 0 ≡ length_in (built_as y)
built-length (Ok n) = refl
built-length (Err build.ShortBuffer) = refl
built-length (Err build.TextLength) = refl
built-length (Err build.TextByte) = refl

body_built : (a : ℕ) (t t' o b : List ℕ) (y : Result ℕ BuildRefusal) (n : ℕ) → Text 2 20 t → t' ≡ t → 64 ≤ length o → (built_as y, b) ≡ build_of Minicomputer (digits 2 a ++ t') o
    → n ≡ result_unwrap_or y 0 → Laid 0 (framed a t) o n b
body_built a t t' o b y n h z room e size =
    let x : List ℕ = digits 2 a ++ t in
    let whole : Text 4 22 x = text_joined 2 2 2 20 (digits 2 a) t (text-digits 2 a) h in
    let made : build_of Minicomputer x o ≡ (accepted (length (framed a t)), over (framed a t) o) =
    framed_built Minicomputer x o _ _
    (record { room = room; low = whole.low; high = (let u = whole.high in omega arith); text = whole.bytes; size = refl; left = refl }) in
    let all : ◌≡◌ {A = Answer × List ℕ} (built_as y, b) (accepted (length (framed a t)), over (framed a t) o) =
    e ∙ (ap (λ (w : List ℕ). build_of Minicomputer (digits 2 a ++ w) o) z ∙ made) in
    let l : n ≡ length (framed a t) = size ∙ (built-length y ∙ ap (λ (w : Answer × List ℕ). length_in w.0) all) in
    (omega arith, ap (λ (w : Answer × List ℕ). w.1) all ∙ sym (over_at_start (framed a t) o))

-- a step's number is one of five
step_in : (x : AStep) → (1 ≤ step_number x) × (step_number x ≤ 5)
step_in step.Recipe = (omega arith, omega arith)
step_in step.Factor = (omega arith, omega arith)
step_in step.Value = (omega arith, omega arith)
step_in step.Composition = (omega arith, omega arith)
step_in step.Batch = (omega arith, omega arith)

-- ---- `is_right`
module _ (x : AStep) (s : Change) (m : Message) (o b : List ℕ) (y : Result ℕ BuildRefusal) (n : ℕ) (says_so : message_text m ≡ wants (step_number x) s)
    (room : 64 ≤ length o) (built : (built_as y, b) ≡ build_of Minicomputer (digits 2 s.address ++ message_text m) o) (size : n ≡ result_unwrap_or y 0) where
  right_laid : Laid 0 (reply_frame (step_number x) s) o n b
  unfolding reply_frame
  right_laid = body_built s.address (wants (step_number x) s) (message_text m) o b y n (step_legal (step_number x) s (step_in x)).1 says_so room built size

  pub right_short : n ≤ 26
  unfolding reply_frame
  right_short = let u = (step_legal (step_number x) s (step_in x)).1.high in omega (arith, right_laid.0, framed-length s.address (wants (step_number x) s))

  pub right_count : n ≡ length (take n b)
  right_count = laid-count _ _ _ _ right_laid

  pub right_compared : (q : List ℕ) (r : Bool) → r ≡ equal q (take n b) → r ≡ equal q (reply_frame (step_number x) s)
  right_compared q r e = e ∙ ap (equal q) (laid_back _ _ _ _ right_laid)

-- ---- `hand_out`
pub handed : (x : AStep) (s t : Change) (m : Message) (o b : List ℕ) (y : Result ℕ BuildRefusal) (n : ℕ) → 64 ≤ length o → message_text m ≡ asks (step_number x) s
    → (built_as y, b) ≡ build_of Minicomputer (digits 2 s.address ++ message_text m) o → n ≡ result_unwrap_or y 0 → t ≡ at_step (step_number x) s
    → tells (request n) t b ≡ hands_out (step_number x) s o
unfolding hands_out request_frame
handed x s t m o b y n room says_so built size z =
    let i : ℕ = step_number x in
    let w = body_built s.address (asks i s) (message_text m) o b y n (step_legal i s (step_in x)).0 says_so room built size in
    let l : n ≡ length (framed s.address (asks i s)) = omega (arith, w.0) in
    simp (l, w.1 ∙ over_at_start (framed s.address (asks i s)) o, z)
