-- Document 01, "Frames" and "Commands": one call of the controller.
use Rattle.std.specs.Prelude.{◌≡◌, refl, ℕ, Bool, Option, None, Result, Ok, Err, List, eqb, leb, length, take}
use Rattle.state.specs.declared.Record.{Record}
use Rattle.state.specs.Field.{address, get}
use Rattle.state.specs.Valid.{valid}
use Rattle.frame.specs.declared.Kind.{Kind}
use Rattle.frame.specs.Frame.{all_text, names_unit, address_in, frame_of, text_in, within_limits, marks_right, check_right}
use Rattle.frame.specs.Numbers.{silence_number}
use Rattle.base.specs.Test.{unless}
use Rattle.base.specs.Lists.{over}
use Rattle.command.specs.Answer.{reply_text, record_after}
use Rattle.command.specs.declared.Writing.{Writing}
use Rattle.command.specs.Request.{effect_as}
use Rattle.frame.specs.declared.Silence.{Silence}

-- what a call leaves: the number of the silence, 0 if there is a reply; the reported length; what is held, which is the record, alone or
-- with a bank beside it (02, L7); the reply buffer
pub record OutcomeOf (S : Type 0) : Type 0 where
  pub silence : ℕ
  pub reported : ℕ
  pub after : S
  pub buffer : List ℕ

abbrev pub Outcome : Type 0
Outcome = OutcomeOf Record

-- "the buffer's bytes up to that length"; nothing for a silence
abbrev pub reply_in : {S : Type 0} → OutcomeOf S → List ℕ
reply_in c = take c.reported c.buffer

-- "length 0, record and buffer untouched"
abbrev pub silent : {S : Type 0} → ℕ → S → List ℕ → OutcomeOf S
silent n r o = record { silence = n; reported = 0; after = r; buffer = o }

-- "The reply has the same kind: address digits, then the reply."; "bytes beyond the reported length keep their values"; x is the reply's text
abbrev pub answered : {S : Type 0} → Kind → List ℕ → S → List ℕ → OutcomeOf S
answered k x s o = record { silence = 0; reported = length (frame_of k x); after = s; buffer = over (frame_of k x) o }

-- the same for a reply f on another link
abbrev pub answered_by : {S : Type 0} → List ℕ → S → List ℕ → OutcomeOf S
answered_by f s o = record { silence = 0; reported = length f; after = s; buffer = over f o }

abbrev pub replied : Kind → List ℕ → Record → List ℕ → Outcome
replied k t r o = answered k (reply_text t r) (record_after t r) o

-- a text t that is for this unit: S2, or the reply
unfoldable pub reply_of : Kind → Record → List ℕ → List ℕ → Outcome
reply_of k r t o = unless (leb 64 (length o)) (silent 2 r o) (replied k t r o)

-- "Silences, in this order"; q is the lent request, of a unit with address a; `good` if what it holds is valid; so much reply room is lent
abbrev pub unless_silent : {A : Type 0} → (ℕ → A) → Kind → Bool → ℕ → List ℕ → ℕ → A → A
unless_silent quiet k good a q room reply =
    unless good (quiet 1)
    (unless (leb 64 room) (quiet 2)
    (unless (within_limits k (length q)) (quiet 3)
    (unless (marks_right k q) (quiet 4)
    (unless (check_right k q) (quiet 5)
    (unless (all_text (text_in k q)) (quiet 6)
    (unless (names_unit (text_in k q)) (quiet 7)
    (unless (eqb (address_in (text_in k q)) a) (quiet 8)
    reply)))))))

-- o is the lent reply buffer
unfoldable pub call_of : Kind → Record → List ℕ → List ℕ → Outcome
call_of k r q o = unless_silent (λ n. silent n r o) k (valid r) (get address r) q (length o) (replied k (text_in k q) r o)

-- ---- what is heard before the text is looked at: the number of a silence, or the length of the text, which starts at the second byte
pub data Hearing : Type 0 where
  S : ℕ → Hearing
  text : ℕ → Hearing

unfoldable pub hearing_of : Kind → Bool → ℕ → List ℕ → ℕ → Hearing
hearing_of k good a q room = unless_silent S k good a q room (text (length (text_in k q)))

abbrev pub heard_as : Result ℕ Silence → Hearing
heard_as (Err s) = S (silence_number s)
heard_as (Ok n) = text n

-- ---- the code's answer as document 01 numbers it: a silence's number and length 0, or no silence and the reply's length
abbrev pub answer_silence : Result ℕ Silence → ℕ
answer_silence (Err s) = silence_number s
answer_silence (Ok n) = 0

abbrev pub answer_length : Result ℕ Silence → ℕ
answer_length (Err s) = 0
answer_length (Ok n) = n

abbrev pub outcome_as : {S : Type 0} → Result ℕ Silence → S → List ℕ → OutcomeOf S
outcome_as a r o = record { silence = answer_silence a; reported = answer_length a; after = r; buffer = o }

-- ---- of whatever a unit holds: `valid` if all of it is; the address of the unit; the text of the reply to a text, and what is held then; and
-- what an effect leaves
module _ {S : Type 0} (valid : S → Bool) (address : S → ℕ) (reply_text : List ℕ → S → List ℕ) (held_after : List ℕ → S → S) (changed : Option Writing → S → S) where
  -- how the reply to a text and a whole call are defined
  pub record HeldLaws (replied called : Kind → S → List ℕ → List ℕ → OutcomeOf S) : Type 0 where
    -- S2, or the reply
    pub reply : (k : Kind) (s : S) (t o : List ℕ) → replied k s t o ≡ unless (leb 64 (length o)) (silent 2 s o) (answered k (reply_text t s) (held_after t s) o)
    -- "Silences, in this order", and then the reply
    pub call : (k : Kind) (s : S) (q o : List ℕ)
        → called k s q o
        ≡ unless_silent (λ n. silent n s o) k (valid s) (address s) q (length o) (answered k (reply_text (text_in k q) s) (held_after (text_in k q) s) o)
    -- no effect leaves it as it was
    pub unchanged : (s : S) → changed None s ≡ s

abbrev pub address_of : Record → ℕ
address_of r = get address r

pub record_laws : HeldLaws valid address_of reply_text record_after effect_as reply_of call_of
unfolding reply_of call_of
record_laws = record { reply = λ k r t o. refl; call = λ k r q o. refl; unchanged = λ r. refl }
