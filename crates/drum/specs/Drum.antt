-- Document 02, L6: "Drum change on the two-drum skid."
-- s is the held state: what the foreman picked, and the step; q a reply, o the buffer that is lent for the next request.
use Rattle.std.specs.Prelude.{ℕ, ◌+◌, ◌-◌, Bool, false, List, [], ◌∷◌, ◌++◌, eqb, leb, length, get_or}
use Rattle.base.specs.Test.{pick, unless, between}
use Rattle.base.specs.Lists.{over}
use Rattle.base.specs.Text.{text}
use Rattle.text.specs.Word.{space, digits, equal}
use Rattle.state.specs.declared.Range.{Range}
use Rattle.state.specs.declared.ParameterKind.TheVariants.{Factor}
use Rattle.state.specs.Parameter.{code_of, of_recipe, range, kind_range}
use Rattle.state.specs.Field.{address, recipe, field_range}
use Rattle.state.specs.Valid.{within}
use Rattle.frame.specs.declared.Kind.TheVariants.{Minicomputer}
use Rattle.frame.specs.Frame.{frame_of}
use Rattle.drum.specs.declared.Change.{Change}

-- ---- the steps

-- "numbers in full width": a number behind a space
abbrev pub number : ℕ → ℕ → List ℕ
number width n = space ∷ digits width n

-- the code of the picked recipe's factor
abbrev pub factor_code : Change → ℕ
factor_code s = code_of (of_recipe s.recipe Factor)

-- what a step asks, and the reply that is right
pub record Step : Type 0 where
  pub asked : List ℕ
  pub wanted : List ℕ

infix 40 ◌wanting◌
abbrev pub ◌wanting◌ : List ℕ → List ℕ → Step
q wanting a = record { asked = q; wanted = a }

-- "It hands out NR, PC, PV, RC and SB in turn .., numbers in full width (8 digits in PC, 6 in SB)"; "PV and RC both showed the
-- picked numbers"
abbrev pub steps : Change → List Step
steps s =
    (text "NR" ++ number 2 s.recipe wanting text "OK")
    ∷ (text "PC" ++ (number 3 (factor_code s) ++ number 8 s.factor) wanting text "OK")
    ∷ (text "PV" ++ number 3 (factor_code s) wanting text "PV" ++ (number 3 (factor_code s) ++ number 8 s.factor))
    ∷ (text "RC" wanting text "RC" ++ (number 2 s.recipe ++ number 8 s.factor))
    ∷ (text "SB" ++ number 6 s.preset wanting text "OK")
    ∷ []

-- step i, counted from 1
abbrev pub step_at : ℕ → Change → Step
step_at i s = get_or (steps s) (i - 1) ([] wanting [])

unfoldable pub asks : ℕ → Change → List ℕ
asks i s = (step_at i s).asked

unfoldable pub wants : ℕ → Change → List ℕ
wants i s = (step_at i s).wanted

-- "as minicomputer frames"
abbrev pub framed : ℕ → List ℕ → List ℕ
framed a body = frame_of Minicomputer (digits 2 a ++ body)

unfoldable pub request_frame : ℕ → Change → List ℕ
request_frame i s = framed s.address (asks i s)

unfoldable pub reply_frame : ℕ → Change → List ℕ
reply_frame i s = framed s.address (wants i s)

-- ---- the picks: "a unit address 1..99, a recipe 1..8, a factor 8,000..12,000 and a preset", "preset not 1..999,999"
abbrev pub presets : Range
presets = range 1 999999

pub data Checked : Type 0 where
  out : ℕ → Checked
  good : Checked

-- "Refusals, in order: Q0 address, Q1 recipe, Q2 factor, Q3 preset"
unfoldable pub checked : Change → Checked
checked s =
    unless (within (field_range address) s.address) (out 0)
    (unless (within (field_range recipe) s.recipe) (out 1)
    (unless (within (kind_range Factor) s.factor) (out 2)
    (unless (within presets s.preset) (out 3)
    good)))

-- ---- the step that is held: 1 to 5, its reply is awaited; else none is
abbrev pub last : ℕ
last = 5

abbrev pub ended : ℕ
ended = 6

abbrev pub stopped : ℕ → ℕ
stopped i = 10 + i

abbrev pub is_step : ℕ → Bool
is_step i = between 1 last i

-- neither "after the end or a stop" nor "with a held state out of range"
abbrev pub awaits_with : Checked → ℕ → Bool
awaits_with (out n) i = false
awaits_with good i = is_step i

unfoldable pub awaits : Change → Bool
awaits s = awaits_with (checked s) s.step

-- the same picks at another step
abbrev pub at_step : ℕ → Change → Change
at_step i s = record { address = s.address; recipe = s.recipe; factor = s.factor; preset = s.preset; step = i }

-- ---- what is answered: Q0 to Q4; a buffer under 64 bytes (H1); the length of the request that is handed out; the end; "A wrong
-- reply stops it with the step named"
pub data Told : Type 0 where
  Q : ℕ → Told
  short : Told
  request : ℕ → Told
  end : Told
  stop : ℕ → Told

-- and what is left: the state and the lent buffer
pub record Outcome : Type 0 where
  pub told : Told
  pub after : Change
  pub buffer : List ℕ

abbrev pub tells : Told → Change → List ℕ → Outcome
tells t s o = record { told = t; after = s; buffer = o }

unfoldable pub hands_out : ℕ → Change → List ℕ → Outcome
hands_out i s o = tells (request (length (request_frame i s))) (at_step i s) (over (request_frame i s) o)

abbrev pub begin_with : Checked → Change → List ℕ → Outcome
begin_with (out n) s o = tells (Q n) s o
begin_with good s o = unless (leb 64 (length o)) (tells short s o) (hands_out 1 s o)

-- "each before any request"
abbrev pub picked : ℕ → ℕ → ℕ → ℕ → Change
picked a r f p = record { address = a; recipe = r; factor = f; preset = p; step = 0 }

unfoldable pub begin_of : ℕ → ℕ → ℕ → ℕ → List ℕ → Outcome
begin_of a r f p o = begin_with (checked (picked a r f p)) (picked a r f p) o

-- "takes each reply": "Q4 a reply after the end or a stop, or with a held state out of range, which changes nothing"
unfoldable pub take_of : Change → List ℕ → List ℕ → Outcome
take_of s q o =
    unless (awaits s) (tells (Q 4) s o)
    (unless (leb 64 (length o)) (tells short s o)
    (unless (equal q (reply_frame s.step s)) (tells (stop s.step) (at_step (stopped s.step) s) o)
    (pick (eqb s.step last) (tells end (at_step ended s) o)
    (hands_out (s.step + 1) s o))))
