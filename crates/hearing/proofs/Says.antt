-- What is so of an exchange by what it says: which silence or that a reply was due, and what the reply is. By the cases of what the
-- request's reader tells. Assumes nothing.
use Prim.Native.Nat.{ℕ, ◌≤◌}
use mathlib.Core.Bool.{Bool, true, false, false≢true}
use mathlib.Core.Path.{◌≡◌, refl, sym, ap, ◌∙◌}
use mathlib.Core.List.{List, [], ◌∷◌}
use native.Mathlib.Omega.{arith}
use lib.Dec.{eqb}
use lib.ListN.{take}
use borrow.Author.Tests.{eqb-true, eqb-false}
use Rattle.base.specs.Test.{pick, unless}
use Rattle.base.proofs.Tests.{never}
use Rattle.frame.specs.declared.Kind.TheVariants.{Minicomputer}
use Rattle.frame.specs.Numbers.{Answer, H, S, accepted, unit}
use Rattle.frame.specs.Answer.{locate_of, address_of}
use Rattle.frame.proofs.Laws.{address_cases}
use Rattle.text.specs.Word.{digits, equal}
use Rattle.text.proofs.Words.{equal_true, equal-same}
use Rattle.command.specs.Commands.{is_empty}
use Rattle.recording.specs.Form.{Exchange}
use Rattle.hearing.specs.declared.Said.{Said}
use Rattle.hearing.specs.declared.Said.TheVariants.{Quiet, Answered, Unanswered, Unreadable, Texts}
use Rattle.hearing.specs.Hearing.{heard, silence_said, frame_said, reply_said, said_to, said_of}

-- the silence that a request meets at the unit with the address a, by what its reader tells; 0 for a reply
abbrev pub due_by : ℕ → Answer → ℕ
due_by a (S n) = n
due_by a (unit b n) = unless (eqb b a) 8 0
due_by a (H n) = 0
due_by a (accepted n) = 0

module _ (a : ℕ) (e : Exchange) where
  abbrev pub reader : Answer
  reader = address_of Minicomputer e.request

  -- the request names the unit
  abbrev pub Names : Type 0
  Names = (n : ℕ) × (reader ≡ unit a n)

  -- the reply is a frame whose text begins with the digits of a
  abbrev pub FromUnit : ℕ → Type 0
  FromUnit m = (locate_of Minicomputer e.reply ≡ accepted m) × (take 2 (heard e) ≡ digits 2 a)

  abbrev pub Says : Said → Type 0
  Says Quiet = (Names → ⊥) × (e.reply ≡ [])
  Says (Answered n) = (Names → ⊥) × (e.reply ≡ [] → ⊥) × (1 ≤ n) × (due_by a reader ≡ n)
  Says Unanswered = Names × (e.reply ≡ [])
  Says Unreadable = Names × (e.reply ≡ [] → ⊥) × ((m : ℕ) → FromUnit m → ⊥)
  Says (Texts n m) = (reader ≡ unit a n) × (e.reply ≡ [] → ⊥) × FromUnit m

  -- ---- the reader tells S3 to S7, or a unit
  abbrev Tells : Answer → Type 0
  Tells (S n) = 3 ≤ n
  Tells (unit b n) = Unit {0}
  Tells (H n) = ⊥
  Tells (accepted n) = ⊥

  tells : Tells reader
  tells = address_cases Tells Minicomputer e.request (λ n l h. l) tt

  -- ---- silence was due
  by_silence : (n : ℕ) → (Names → ⊥) → 1 ≤ n → due_by a reader ≡ n → Says (silence_said n e.reply)
  unfolding silence_said
  by_silence n other l due = go e.reply refl
    where
      go : (xs : List ℕ) → e.reply ≡ xs → Says (pick (is_empty xs) Quiet (Answered n))
      go [] q = (other, q)
      go (x ∷ xs) q = (other, λ z. let y : x ∷ xs ≡ [] = sym q ∙ z in absurd (never (cc)), l, due)

  -- ---- a reply was due
  module _ (n : ℕ) (names : reader ≡ unit a n) (some : e.reply ≡ [] → ⊥) where
    no_frame : (y : Answer) → locate_of Minicomputer e.reply ≡ y → ((m : ℕ) → accepted m ≡ y → ⊥) → Says Unreadable
    no_frame y q clash = ((n, names), some, λ m f. clash m (sym f.0 ∙ q))

    by_digits : (m : ℕ) → locate_of Minicomputer e.reply ≡ accepted m → (b : Bool) → equal (take 2 (heard e)) (digits 2 a) ≡ b
        → Says (unless b Unreadable (Texts n m))
    by_digits m q true d = (names, some, (q, equal_true (take 2 (heard e)) (digits 2 a) d))
    by_digits m q false d =
        ((n, names), some, λ i f. false≢true (sym d ∙ (ap (λ (xs : List ℕ). equal xs (digits 2 a)) f.1 ∙ equal-same (digits 2 a))))

    by_frame : (y : Answer) → locate_of Minicomputer e.reply ≡ y → Says (frame_said a n y (heard e))
    by_frame (accepted m) q = by_digits m q (equal (take 2 (heard e)) (digits 2 a)) refl
    by_frame (H m) q = no_frame (H m) q (λ i z. absurd (never (cc)))
    by_frame (S m) q = no_frame (S m) q (λ i z. absurd (never (cc)))
    by_frame (unit b m) q = no_frame (unit b m) q (λ i z. absurd (never (cc)))

  by_reply : (n : ℕ) → reader ≡ unit a n → Says (reply_said a n e.reply)
  unfolding reply_said
  by_reply n names = go e.reply refl
    where
      go : (xs : List ℕ) → e.reply ≡ xs → Says (pick (is_empty xs) Unanswered (frame_said a n (locate_of Minicomputer e.reply) (heard e)))
      go [] q = ((n, names), q)
      go (x ∷ xs) q = by_frame n names (λ z. let y : x ∷ xs ≡ [] = sym q ∙ z in absurd (never (cc))) (locate_of Minicomputer e.reply) refl

  -- ---- either
  by_unit : (b n : ℕ) → reader ≡ unit b n → (t : Bool) → eqb b a ≡ t → Says (unless t (silence_said 8 e.reply) (reply_said a n e.reply))
  by_unit b n q true i = by_reply n (q ∙ ap (λ (x : ℕ). unit x n) (eqb-true b a i))
  by_unit b n q false i =
      by_silence 8 (λ (m, h). let z : unit b n ≡ unit a m = sym q ∙ h in eqb-false b a i (cc)) (omega arith)
      (ap (due_by a) q ∙ ap (λ (t : Bool). unless t 8 0) i)

  by_reader_lem : (y : Answer) → reader ≡ y → Tells y → Says (said_to a y e.reply)
  by_reader_lem (S n) q l = by_silence n (λ (m, h). let z : S n ≡ unit a m = sym q ∙ h in absurd (never (cc))) (omega arith) (ap (due_by a) q)
  by_reader_lem (unit b n) q l = by_unit b n q (eqb b a) refl
  by_reader_lem (H n) q l = absurd l
  by_reader_lem (accepted n) q l = absurd l

  pub said_so : Says (said_of a e)
  unfolding said_of
  said_so = by_reader_lem reader refl tells
