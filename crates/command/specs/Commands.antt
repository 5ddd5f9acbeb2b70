-- Document 01, "Commands", first table, with the rows of 02, L1, PC's flag by 02, L2, and what a bank adds by 02, L7: each request's code, the
-- form of its arguments, its reply if accepted, and its effect.
use Rattle.std.specs.Prelude.{ℕ, ◌+◌, ◌*◌, Bool, true, false, ◌&&◌, Option, Some, None, List, [], ◌∷◌, ◌++◌, eqb, length, get_or, take, drop}
use Rattle.base.specs.Text.{text, letters}
use Rattle.state.specs.declared.Record.{Record}
use Rattle.state.specs.declared.ParameterKind.TheVariants.{Factor}
use Rattle.base.specs.Test.{pick, between, member}
use Rattle.state.specs.Parameter.{parameter_count, place_of, code_at, recipe_place}
use Rattle.state.specs.Field.{Field, phase, changed, reset, recipe, preset, raw, number, alarms, value, level, get, put, on, off}
use Rattle.state.specs.Event.{idle, set, running, stopped, done, next_number, alarms_reset, replaced}
use Rattle.text.specs.Word.{space, digits, all_digits, value_of, equal, one_of}
use Rattle.command.specs.Status.{status_characters, alarm_characters, status_codes, codes_on}

-- ---- the codes, two letters as one number
abbrev pub EQ : ℕ
EQ = letters "EQ"

abbrev pub RS : ℕ
RS = letters "RS"

abbrev pub TN : ℕ
TN = letters "TN"

abbrev pub RR : ℕ
RR = letters "RR"

abbrev pub RC : ℕ
RC = letters "RC"

abbrev pub RT : ℕ
RT = letters "RT"

abbrev pub PV : ℕ
PV = letters "PV"

abbrev pub XV : ℕ
XV = letters "XV"

abbrev pub PC : ℕ
PC = letters "PC"

abbrev pub XC : ℕ
XC = letters "XC"

abbrev pub NR : ℕ
NR = letters "NR"

abbrev pub SB : ℕ
SB = letters "SB"

abbrev pub SA : ℕ
SA = letters "SA"

abbrev pub SP : ℕ
SP = letters "SP"

abbrev pub ET : ℕ
ET = letters "ET"

abbrev pub RE : ℕ
RE = letters "RE"

abbrev pub EA : ℕ
EA = letters "EA"

abbrev pub AR : ℕ
AR = letters "AR"

-- the code of a text: its third and fourth byte
unfoldable pub code_in : List ℕ → ℕ
code_in t = get_or t 2 0 * 256 + get_or t 3 0

-- ---- the forms of arguments

-- numbers: whether a parameter code of three digits comes first, and of how many to how many digits a number then is (0 to 0: none);
-- or one of several words
pub data Form : Type 0 where
  numbers : Bool → ℕ → ℕ → Form
  words : List (List ℕ) → Form

abbrev pub nothing : Form
nothing = numbers false 0 0

-- "ppp"
abbrev pub parameter : Form
parameter = numbers true 0 0

-- "ppp v (1 to 8 digits)", "ppp l (1 digit)"
abbrev pub parameter_and : ℕ → ℕ → Form
parameter_and least most = numbers true least most

-- "rr (2 digits)", "n (1 to 6 digits)"
abbrev pub a_number : ℕ → ℕ → Form
a_number least most = numbers false least most

abbrev pub behind_space : (List ℕ → Bool) → List ℕ → Bool
behind_space p [] = false
behind_space p (x ∷ xs) = eqb x space && p xs

abbrev pub is_empty : List ℕ → Bool
is_empty [] = true
is_empty (x ∷ xs) = false

unfoldable pub digits_between : ℕ → ℕ → List ℕ → Bool
digits_between least most xs = between least most (length xs) && all_digits xs

-- the last argument, if there is one, and nothing behind it
abbrev pub last_number : ℕ → ℕ → List ℕ → Bool
last_number least most xs = pick (eqb most 0) (is_empty xs) (behind_space (digits_between least most) xs)

-- what follows the code has the form
unfoldable pub formed : Form → List ℕ → Bool
formed (numbers false least most) xs = last_number least most xs
formed (numbers true least most) xs = behind_space (λ (ys : List ℕ). digits_between 3 3 (take 3 ys) && last_number least most (drop 3 ys)) xs
formed (words ws) xs = behind_space (one_of ws) xs

-- ---- the arguments: a parameter by its place, a number, a word; 0, 0 and no word where the form has none
pub record Arguments : Type 0 where
  pub place : ℕ
  pub number : ℕ
  pub word : List ℕ

abbrev pub none : Arguments
none = record { place = 0; number = 0; word = [] }

abbrev pub a_place : ℕ → ℕ → Arguments
a_place i n = record { place = i; number = n; word = [] }

abbrev pub a_word : List ℕ → Arguments
a_word w = record { place = 0; number = 0; word = w }

-- the place of a parameter code; beyond the last if it has none
abbrev pub place_number : Option ℕ → ℕ
place_number (Some i) = i
place_number None = parameter_count

abbrev pub place_for : ℕ → ℕ
place_for p = place_number (place_of p)

-- in what follows the code: "ppp" behind a space, and the last number behind another
abbrev pub place_behind : Bool → List ℕ → ℕ
place_behind true xs = place_for (value_of (take 3 (drop 1 xs)))
place_behind false xs = 0

abbrev pub last_behind : Bool → ℕ → List ℕ → ℕ
last_behind true most xs = pick (eqb most 0) 0 (value_of (drop 5 xs))
last_behind false most xs = pick (eqb most 0) 0 (value_of (drop 1 xs))

abbrev pub arguments_of : Form → List ℕ → Arguments
arguments_of (numbers p least most) xs = a_place (place_behind p xs) (last_behind p most xs)
arguments_of (words ws) xs = a_word (drop 1 xs)

-- ---- replies
pub data Reply : Type 0 where
  -- "OK"
  acknowledged : Reply
  -- EQ: "six status characters"; RS: `"RS ", then each code and a space`
  status codes : Reply
  -- a label, and a field's number in so many digits
  numbered : List ℕ → ℕ → Field → Reply
  -- "RC rr vvvvvvvv, recipe and its factor now"
  composition : Reply
  -- EA: "five characters"
  system_alarms : Reply

-- "PV ppp ", "XV ppp "
abbrev pub parameter_label : List ℕ → ℕ → List ℕ
parameter_label w i = w ++ (digits 3 (code_at i) ++ (space ∷ []))

-- the place of recipe r's factor
abbrev pub factor_place : ℕ → ℕ
factor_place r = recipe_place r Factor

abbrev pub printed : Reply → Record → List ℕ
printed acknowledged r = text "OK"
printed status r = status_characters r
printed codes r = text "RS " ++ codes_on status_codes r
printed (numbered w n f) r = w ++ digits n (get f r)
printed composition r = (text "RC " ++ digits 2 (get recipe r)) ++ (space ∷ digits 8 (get (value (factor_place (get recipe r))) r))
printed system_alarms r = alarm_characters (get alarms r)

-- ---- effects
pub data Change : Type 0 where
  -- the field gets this number
  becomes : Field → ℕ → Change
  -- "batch number +1 (9999 goes to 1)"
  next_batch : Change
  -- AR: "switches off PA and U1 to U5; the others stay"
  reset_alarms : Change
  -- PC: the value at a place becomes n, and "changed" is switched on "exactly if the value differs from the one held; else the flag stays"
  new_value : ℕ → ℕ → Change

infix 70 ◌≔◌
abbrev pub ◌≔◌ : Field → ℕ → Change
f ≔ n = becomes f n

abbrev pub after_change : Change → Record → Record
after_change (becomes f n) r = put f n r
after_change next_batch r = put number (next_number (get number r)) r
after_change reset_alarms r = alarms_reset r
after_change (new_value i n) r = replaced (value i) n changed r

unfoldable pub applied : List Change → Record → Record
applied [] r = r
applied (c ∷ cs) r = after_change c (applied cs r)

-- "that flag": BD is batch reset, PC is changed
abbrev pub flag_named : List ℕ → Field
flag_named w = pick (equal w (text "BD")) reset changed

-- ---- the table
pub record Command : Type 0 where
  pub code : ℕ
  pub form : Form
  pub reply : Arguments → Reply
  pub effect : Arguments → List Change

abbrev pub reads : ℕ → Form → (Arguments → Reply) → Command
reads c f s = record { code = c; form = f; reply = s; effect = λ a. [] }

abbrev pub writes : ℕ → Form → (Arguments → List Change) → Command
writes c f e = record { code = c; form = f; reply = λ a. acknowledged; effect = e }

-- | request | reply if accepted | effect |
abbrev pub commands : List Command
commands =
    reads EQ nothing (λ a. status)
    ∷ reads RS nothing (λ a. codes)
    ∷ reads TN nothing (λ a. numbered (text "TN ") 4 number)
    ∷ reads RR nothing (λ a. numbered (text "RR ") 2 recipe)
    ∷ reads RC nothing (λ a. composition)
    ∷ reads RT (words (text "R" ∷ [])) (λ a. numbered (text "RT R ") 8 raw)
    ∷ reads PV parameter (λ a. numbered (parameter_label (text "PV ") a.place) 8 (value a.place))
    ∷ reads XV parameter (λ a. numbered (parameter_label (text "XV ") a.place) 1 (level a.place))
    -- 01: "value v; changed on"; amended by 02, L2: on "exactly if the value differs from the one held; else the flag stays"
    ∷ writes PC (parameter_and 1 8) (λ a. new_value a.place a.number ∷ [])
    ∷ writes XC (parameter_and 1 1) (λ a. (level a.place ≔ a.number) ∷ [])
    ∷ writes NR (a_number 2 2) (λ a. (recipe ≔ a.number) ∷ [])
    ∷ writes SB (a_number 1 6) (λ a. (phase ≔ set) ∷ (preset ≔ a.number) ∷ (raw ≔ 0) ∷ (reset ≔ on) ∷ next_batch ∷ [])
    ∷ writes SA nothing (λ a. (phase ≔ running) ∷ [])
    ∷ writes SP nothing (λ a. (phase ≔ stopped) ∷ [])
    ∷ writes ET nothing (λ a. (phase ≔ idle) ∷ [])
    ∷ writes RE (words (text "BD" ∷ text "PC" ∷ [])) (λ a. (flag_named a.word ≔ off) ∷ [])
    ∷ reads EA nothing (λ a. system_alarms)
    ∷ writes AR nothing (λ a. reset_alarms ∷ [])
    ∷ []

-- ---- with a bank of finished batches beside the record (02, L7) there is one row more,
-- | RT R NNN | RT R VVVVVVVV NNN | |
-- and an accepted ET stores a batch; without one "document 01 gave NO01, and other letters with NNN still get it"

-- "RT R NNN": the code, and what stands behind it
unfoldable pub batch_asked : ℕ → List ℕ → Bool
batch_asked c xs = eqb c RT && (equal (take 3 xs) (text " R ") && digits_between 3 3 (drop 3 xs))

-- NNN
abbrev pub batch_number : List ℕ → ℕ
batch_number xs = value_of (drop 3 xs)

-- "RT R VVVVVVVV NNN": the raw volume v of the n-th newest
abbrev pub batch_shown : ℕ → ℕ → List ℕ
batch_shown v n = (text "RT R " ++ digits 8 v) ++ (space ∷ digits 3 n)

-- "At ET from Stopped or Done store ..": the code, and the phase before it
abbrev pub stores_batch : ℕ → ℕ → Bool
stores_batch c p = eqb c ET && member p (stopped ∷ done ∷ [])

-- ---- the row of a code; the last entry stands for a code that is not in the table, which no request that is accepted has
unfoldable pub row_of : ℕ → List Command → Command
row_of c [] = reads c nothing (λ a. acknowledged)
row_of c (k ∷ ks) = pick (eqb c k.code) k (row_of c ks)
