-- Document 02, L4, "A buffer with several frames": what of the lent bytes is taken, what is answered, and what is left. What is held is a
-- record, alone or with a bank beside it (L7): all here is said over any of these and a call on it, and at the end of a record.
use Rattle.std.specs.Prelude.{◌≡◌, refl, ℕ, zero, suc, ◌+◌, ◌-◌, ◌≤◌, Bool, true, List, [], ◌∷◌, ◌++◌, eqb, leb, length, take, drop, replicate}
use Rattle.base.specs.Test.{pick, unless}
use Rattle.base.specs.Lists.{over}
use Rattle.state.specs.declared.Record.{Record}
use Rattle.state.specs.Valid.{valid}
use Rattle.frame.specs.declared.Kind.{Kind}
use Rattle.frame.specs.declared.Kind.TheVariants.{Minicomputer}
use Rattle.text.proofs.Printable.{Text}
use Rattle.reply.proofs.Laws.{longest}
use Rattle.frame.specs.Frame.{stx, etx, is_text}
use Rattle.command.specs.Answer.{reply_text}
use Rattle.controller.specs.Call.{OutcomeOf, Outcome, reply_in, address_of, call_of}
use Rattle.controller.proofs.Theorems.{reply_legal, call_keeps_valid, address_kept}

-- ---- what stands at a place: a byte that is skipped or a break; what the bytes do not decide; a frame of so many bytes
pub data Place : Type 0 where
  passed : Place
  undecided : Place
  whole : ℕ → Place

-- "through at most 60 text bytes": how many stand at the start, of at most n
unfoldable pub through : ℕ → List ℕ → ℕ
through n [] = 0
through zero (x ∷ xs) = 0
through (suc n) (x ∷ xs) = pick (is_text x) (suc (through n xs)) 0

-- behind the STX and n text bytes: "if the bytes end before this is decided"; "A byte outside 0x20..0x7E before it, or a 61st, is
-- a break"; "With ETX and its two followers there, hand over that frame"
abbrev pub end_at : ℕ → List ℕ → Place
end_at n [] = undecided
end_at n (x ∷ xs) = unless (eqb x etx) passed (unless (leb 2 (length xs)) undecided (whole (n + 4)))

-- "From an STX at p, look for ETX through at most 60 text bytes."
unfoldable pub searched : List ℕ → Place
searched xs = end_at (through 60 xs) (drop (through 60 xs) xs)

-- "A byte that is not STX is skipped."
abbrev pub place_of : ℕ → List ℕ → Place
place_of x xs = unless (eqb x stx) passed (searched xs)

-- ---- a step of the walk
pub data Step (S : Type 0) : Type 0 where
  -- the bytes end before this is decided
  stop : Step S
  -- a byte is taken
  skip : Step S
  -- an answer is due to a frame of n bytes, and there is no room
  full : ℕ → Step S
  -- a frame of n bytes gets no answer, and k bytes behind its STX are passed
  silent : ℕ → ℕ → Step S
  -- a frame of n bytes is answered
  answer : ℕ → OutcomeOf S → Step S

-- ---- what is heard of the bytes: "bytes taken, frames answered and reply bytes", and what is held
pub record Heard (S : Type 0) : Type 0 where
  pub taken : ℕ
  pub answered : ℕ
  pub replies : List ℕ
  pub after : S

-- ---- what a call over several frames leaves: the number of the silence, 0 if there is none; what is reported; what is held; the
-- reply buffer
pub record SeveralOn (S : Type 0) : Type 0 where
  pub silence : ℕ
  pub taken : ℕ
  pub answered : ℕ
  pub written : ℕ
  pub after : S
  pub buffer : List ℕ

module _ {S : Type 0} where
  -- "if it is answered, or silent by S8, go on after it, else at p+1"; "an answer is due and under 64 bytes of reply room are left"
  abbrev pub handed : ℕ → ℕ → OutcomeOf S → Step S
  handed n room c =
      pick (eqb c.silence 0) (unless (leb 64 room) (full n) (answer n c))
      (pick (eqb c.silence 8) (silent n (n - 1)) (silent n 0))

  abbrev pub nothing : S → Heard S
  nothing r = record { taken = 0; answered = 0; replies = []; after = r }

  -- so many bytes are taken
  abbrev pub taking : ℕ → S → Heard S
  taking n r = record { taken = n; answered = 0; replies = []; after = r }

  -- a frame is answered
  abbrev pub answering : List ℕ → S → Heard S
  answering a r = record { taken = 0; answered = 1; replies = a; after = r }

  -- one after the other: "replies end to end"
  infixr 60 ◌then◌
  abbrev pub ◌then◌ : Heard S → Heard S → Heard S
  g then h =
      record { taken = g.taken + h.taken; answered = g.answered + h.answered; replies = g.replies ++ h.replies; after = h.after }

  -- `on k room r` takes a byte, passes k bytes more, and goes on
  abbrev pub follow : Step S → ℕ → S → (ℕ → ℕ → S → Heard S) → Heard S
  follow stop room r on = nothing r
  follow (full n) room r on = nothing r
  follow skip room r on = on 0 room r
  follow (silent n k) room r on = on k room r
  follow (answer n c) room r on = answering (reply_in c) c.after then on (n - 1) (room - c.reported) c.after

  abbrev pub report_of : ℕ → Heard S → List ℕ → SeveralOn S
  report_of n h o =
      record {
        silence = n;
        taken = h.taken;
        answered = h.answered;
        written = length h.replies;
        after = h.after;
        buffer = over h.replies o;
      }

-- ---- over what is held, and what a frame that is handed over gets, with a reply buffer of its own
module _ {S : Type 0} (called : S → List ℕ → OutcomeOf S) where
  -- "go on at p+1"; "Stop at p"; "hand over that frame"
  abbrev pub step_of : Place → List ℕ → ℕ → S → Step S
  step_of passed s room r = skip
  step_of undecided s room r = stop
  step_of (whole n) s room r = handed n room (called r (take n s))

  -- the bytes that are left, the first k of which belong to a frame that is done; so much reply room is left
  unfoldable pub heard_from : ℕ → ℕ → S → List ℕ → Heard S
  heard_from k room r [] = nothing r
  heard_from (suc k) room r (x ∷ xs) = taking 1 r then heard_from k room r xs
  heard_from zero room r (x ∷ xs) =
      follow (step_of (place_of x xs) (x ∷ xs) room r) room r (λ k room r. taking 1 r then heard_from k room r xs)

  -- "Refusals: S1 as before, nothing taken."; s are the lent bytes, o is the lent reply buffer
  unfoldable pub several_by : (S → Bool) → S → List ℕ → List ℕ → SeveralOn S
  several_by good r s o = unless (good r) (report_of 1 (nothing r) o) (report_of 0 (heard_from 0 (length o) r s) o)

-- ---- of whatever a unit holds, by its call on one frame
module _ {S : Type 0} (called : Kind → S → List ℕ → List ℕ → OutcomeOf S) where
  -- a frame that is handed over, with a reply buffer of its own
  abbrev pub called_alone : S → List ℕ → OutcomeOf S
  called_alone s q = called Minicomputer s q (replicate 64 0)

  unfoldable pub several_held : (S → Bool) → S → List ℕ → List ℕ → SeveralOn S
  several_held valid s bytes o = several_by called_alone valid s bytes o

-- what the walk rests on, beside how the call is defined
pub record SteadyLaws {S : Type 0} (valid : S → Bool) (address : S → ℕ) (reply_text : List ℕ → S → List ℕ) (called : Kind → S → List ℕ → List ℕ → OutcomeOf S) : Type 0 where
  -- a reply's text is legal, and its frame fits the buffer
  pub legal : (t : List ℕ) (s : S) → Text 4 (2 + longest) (reply_text t s)
  -- what is valid stays so, and keeps its address
  pub sound : (k : Kind) (s : S) (q o : List ℕ) → valid s ≡ true → 64 ≤ length o → valid (called k s q o).after ≡ true
  pub unit : (k : Kind) (s : S) (q o : List ℕ) → valid s ≡ true → 64 ≤ length o → address (called k s q o).after ≡ address s

-- ---- of a record: document 01's call
abbrev pub called_record : Record → List ℕ → Outcome
called_record r q = call_of Minicomputer r q (replicate 64 0)

abbrev pub Several : Type 0
Several = SeveralOn Record

unfoldable pub several_of : Record → List ℕ → List ℕ → Several
several_of r s o = several_by called_record valid r s o

-- so it is what is said of whatever is held
pub several_of_record : (r : Record) (s o : List ℕ) → several_held call_of valid r s o ≡ several_of r s o
unfolding several_held several_of
several_of_record r s o = refl

-- and its call has what the walk rests on
pub steady_record : SteadyLaws valid address_of reply_text call_of
steady_record =
    record {
      legal = reply_legal;
      sound = λ k r q o v l. call_keeps_valid k r q o v;
      unit = λ k r q o v l. address_kept k r q o;
    }
