-- Laws of the judge's line: its parts one behind the other, over the start of the buffer. Assumes nothing.
use mathlib.Core.Path.{◌≡◌, refl, ap, sym, ◌∙◌}
use mathlib.Core.List.{List, [], ◌∷◌, ◌++◌, append_assoc}
use Prim.Native.Nat.{ℕ, ◌+◌, ◌≤◌}
use native.Mathlib.Omega.{arith}
use lib.ListN.{length, length-append}
use Rattle.std.specs.Prelude.{Result, Ok, Err}
use Rattle.text.specs.Word.{newline, decimal}
use Rattle.text.specs.Written.{written_at}
use Rattle.text.proofs.Writing.{Laid, laid_same, joined, behind_written, decimal_high, first-none, first-laid}
use Rattle.recording.specs.Form.{refusal_number}
use Rattle.recording.specs.Replay.{refuted}
use Rattle.recording.specs.Statement.{judged}
use Rattle.recording.specs.declared.Refusal.{Refusal}
use Rattle.judging.specs.Judge.{judgement_as}
use Rattle.judging.specs.declared.Judgement.{Judgement}
use Rattle.judging.specs.declared.Judgement.TheVariants as judgement
use Rattle.line.specs.Line.{line_of, room, line_written}

-- ---- a word and a number, and the end of the line behind them
pub labelled_high : (w : List ℕ) (n : ℕ) → length (w ++ decimal n) ≤ length w + 20
labelled_high w n = omega (arith, length-append w (decimal n), decimal_high n)

pub last_laid : (at b m n : ℕ) (w o o₁ o₂ : List ℕ) → at + length w + 21 ≤ length o → Laid at (w ++ decimal n) o b o₁
    → (m, o₂) ≡ written_at b newline o₁ → Laid at (w ++ (decimal n ++ newline)) o m o₂
last_laid at b m n w o o₁ o₂ h f g =
    laid_same at m ((w ++ decimal n) ++ newline) (w ++ (decimal n ++ newline)) o o₂ (append_assoc w (decimal n) newline)
    (behind_written at b m 1 (w ++ decimal n) newline o o₁ o₂ (omega arith) (omega (arith, labelled_high w n)) f g)

-- ---- the whole line
-- the words as the code has them
abbrev pub fits_word : List ℕ
fits_word = 0x66 ∷ 0x69 ∷ 0x74 ∷ 0x73 ∷ 0x20 ∷ []

abbrev pub refuted_word : List ℕ
refuted_word = 0x72 ∷ 0x65 ∷ 0x66 ∷ 0x75 ∷ 0x74 ∷ 0x65 ∷ 0x64 ∷ 0x20 ∷ 0x61 ∷ 0x74 ∷ 0x20 ∷ []

abbrev pub of_word : List ℕ
of_word = 0x20 ∷ 0x6f ∷ 0x66 ∷ 0x20 ∷ []

abbrev pub refused_word : List ℕ
refused_word = 0x72 ∷ 0x65 ∷ 0x66 ∷ 0x75 ∷ 0x73 ∷ 0x65 ∷ 0x64 ∷ 0x20 ∷ 0x4a ∷ []

abbrev pub not_judged_word : List ℕ
not_judged_word = 0x6e ∷ 0x6f ∷ 0x74 ∷ 0x20 ∷ 0x6a ∷ 0x75 ∷ 0x64 ∷ 0x67 ∷ 0x65 ∷ 0x64 ∷ 0x20 ∷ 0x61 ∷ 0x74 ∷ 0x20 ∷ []

-- a word, a number and the end of the line, by the answer's case
module _ (a : Result Judgement Refusal) (m : ℕ) (o : List ℕ) (h : room ≤ length o) where
  written_last : (b : Result Judgement Refusal) (w : List ℕ) (n : ℕ) (o₁ : List ℕ) → line_of (judgement_as b) ≡ w ++ (decimal n ++ newline) → a ≡ b
      → Laid 0 (w ++ (decimal n ++ newline)) o m o₁ → (m, o₁) ≡ line_written (judgement_as a) o
  written_last b w n o₁ is e f =
      first-laid room m (line_of (judgement_as b)) o o₁ h (laid_same 0 m (w ++ (decimal n ++ newline)) (line_of (judgement_as b)) o o₁ (sym is) f)
      ∙ ap (λ (y : Result Judgement Refusal). line_written (judgement_as y) o) (sym e)

  pub written_refused : (k : Refusal) (i n : ℕ) (o₁ : List ℕ) → a ≡ Err k → i ≡ refusal_number k → n ≡ i
      → Laid 0 (refused_word ++ (decimal n ++ newline)) o m o₁ → (m, o₁) ≡ line_written (judgement_as a) o
  unfolding line_of
  written_refused k i n o₁ e g h f = written_last (Err k) refused_word n o₁ (ap (λ (j : ℕ). refused_word ++ (decimal j ++ newline)) (sym (h ∙ g))) e f

  module _ (y : Judgement) (e : a ≡ Ok y) where
    pub written_fits : (n : ℕ) (o₁ : List ℕ) → y ≡ judgement.Fits n → Laid 0 (fits_word ++ (decimal n ++ newline)) o m o₁ → (m, o₁) ≡ line_written (judgement_as a) o
    unfolding line_of
    written_fits n o₁ d f = written_last (Ok (judgement.Fits n)) fits_word n o₁ refl (e ∙ ap Ok d) f

    pub written_not_judged : (i n : ℕ) (o₁ : List ℕ) → y ≡ judgement.NotJudged i n
        → Laid 0 (not_judged_word ++ (decimal i ++ newline)) o m o₁ → (m, o₁) ≡ line_written (judgement_as a) o
    unfolding line_of
    written_not_judged i n o₁ d f = written_last (Ok (judgement.NotJudged i n)) not_judged_word i o₁ refl (e ∙ ap Ok d) f

    pub written_refuted : (b i n : ℕ) (o₁ o₂ : List ℕ) → y ≡ judgement.Refuted i n
        → Laid 0 (refuted_word ++ decimal i) o b o₁ → Laid b (of_word ++ (decimal n ++ newline)) o₁ m o₂ → (m, o₂) ≡ line_written (judgement_as a) o
    unfolding line_of
    written_refuted b i n o₁ o₂ d f g =
        let t : List ℕ = of_word ++ (decimal n ++ newline) in
        let l : Laid 0 ((refuted_word ++ decimal i) ++ t) o m o₂ = joined 0 b m (refuted_word ++ decimal i) t o o₁ o₂ f g in
        let k : Laid 0 (refuted_word ++ (decimal i ++ t)) o m o₂ =
        laid_same 0 m ((refuted_word ++ decimal i) ++ t) (refuted_word ++ (decimal i ++ t)) o o₂ (append_assoc refuted_word (decimal i) t) l in
        let w : (m, o₂) ≡ line_written (judged (refuted i n)) o = first-laid room m (line_of (judged (refuted i n))) o o₂ h k in
        w ∙ ap (λ (x : Result Judgement Refusal). line_written (judgement_as x) o) (sym (e ∙ ap Ok d))

pub ruleset writing = (first-none, written_fits, written_refuted, written_not_judged, written_refused)
