-- What each read request shows of a valid record, what AR does to it while the keypad is off, and what NR, PC and SB do to it while it is
-- Idle too. `Theorems.antt` puts a write before a read. Assumes nothing.
use Prim.Native.Nat.{ℕ, ◌+◌, ◌*◌, ◌/◌, ◌%◌, ◌^◌, ◌≤◌, ◌<◌}
use mathlib.Core.Bool.{Bool, true}
use mathlib.Core.Path.{◌≡◌, refl, sym, ap, subst, ◌∙◌}
use mathlib.Core.List.{List, [], ◌∷◌, ◌++◌}
use mathlib.Core.Logic.{⊎_elim}
use native.Mathlib.Omega.{arith}
use lib.Dec.{eqb}
use lib.ListN.{length}
use borrow.Author.Tests.{le-leb, eq-eqb, ne_eqb, lt-ltb, le-ltb}
use Rattle.base.specs.Text.{text}
use Rattle.base.specs.Test.{pick, all_between}
use Rattle.state.specs.declared.Record.{Record}
use Rattle.std.specs.Prelude.{Some}
use Rattle.state.specs.Parameter.{recipes, parameter_count, place_of, range_at}
use Rattle.state.specs.Field.{Field, address, access, phase, keypad, changed, recipe, preset, raw, number, alarms, value, level, get, put, position, field_range, off}
use Rattle.state.specs.Valid.{within, valid}
use Rattle.state.specs.Event.{idle, batch_set, alarms_reset, replaced}
use Rattle.base.proofs.Tests.{between_yes, between_high, below_or_not}
use Rattle.state.proofs.Validity.{valid_tell}
use Rattle.state.proofs.Parameters.{code_has_place, code_given-recipe, code_given_system}
use Rattle.frame.specs.declared.Kind.{Kind}
use Rattle.frame.specs.Frame.{is_capital, all_text, names_unit, address_in, frame_of, text_in}
use Rattle.base.specs.Lists.{over}
use Rattle.frame.proofs.Laws.{found}
use Rattle.frame.proofs.RoundTrip.{frame_located}
use Rattle.text.specs.Word.{space, digits, value_of, equal}
use Rattle.command.specs.Status.{status_characters, alarm_characters, status_codes, codes_on}
use Rattle.command.specs.Commands.{EQ, RS, TN, RR, RC, RT, PV, XV, PC, NR, SB, EA, AR, code_in, formed, digits_between, Arguments, none, a_place, a_word, place_number, place_for, parameter_label, factor_place, printed, Change, applied, commands, row_of}
use Rattle.command.specs.Refusals.{refusals}
use Rattle.command.specs.Answer.{Verdict, accepted, reply_text, record_after}
use Rattle.command.specs.Request.{Asked, asked, first_by_text, first_by_arguments, asked_with, asked_for, asked_in, Guard, guards_in, guarded, Answered, shows, served_by, served_of}
use Rattle.text.proofs.Printable.{Text, text_wider, text_joined, text-word, text-digits, text-labelled, text-labelled_two}
use Rattle.text.proofs.Words.{value-digits, digits_all}
use Rattle.command.proofs.Agree.{record_by_steps}
use Rattle.reply.specs.Reply.{text_for}
use Rattle.controller.specs.Call.{silent, replied, unless_silent, call_of}
use Rattle.controller.proofs.Steps.{text_by_steps}

-- ---- a code that has a place has three digits
pub code_small : (c i : ℕ) → place_of c ≡ Some i → c < 1000
code_small c i e =
    let h = code_has_place c i e in
    let l : i < parameter_count = h.0 in
    ⊎_elim (λ (q : i < 3 * recipes). omega (arith, h.1, code_given-recipe i q)) (λ (q : 3 * recipes ≤ i). omega (arith, h.1, code_given_system i q l))
    (below_or_not i (3 * recipes))

-- ---- the requests that ask, and AR, PC, NR and SB; their numbers in full width
module _ (n : ℕ) where
  plain_asked : (asked_in (digits 2 n ++ text "EQ") ≡ asked EQ none) × (asked_in (digits 2 n ++ text "RS") ≡ asked RS none)
      × (asked_in (digits 2 n ++ text "TN") ≡ asked TN none) × (asked_in (digits 2 n ++ text "RR") ≡ asked RR none)
      × (asked_in (digits 2 n ++ text "RC") ≡ asked RC none) × (asked_in (digits 2 n ++ text "EA") ≡ asked EA none)
      × (asked_in (digits 2 n ++ text "AR") ≡ asked AR none)
  unfolding asked_in asked_for asked_with first_by_text first_by_arguments row_of code_in formed digits
  plain_asked = (refl, refl, refl, refl, refl, refl, refl)

  raw-asked : asked_in (digits 2 n ++ text "RT R") ≡ asked RT (a_word (text "R"))
  unfolding asked_in asked_for asked_with first_by_text first_by_arguments row_of code_in formed digits equal
  raw-asked = refl

  module _ (p i : ℕ) (e : place_of p ≡ Some i) where
    placed : place_for (value_of (digits 3 p)) ≡ i
    placed = ap place_for (value-digits 3 p (code_small p i e)) ∙ ap place_number e

    parameter-asked : (asked_in (digits 2 n ++ (text "PV " ++ digits 3 p)) ≡ asked PV (a_place i 0)) × (asked_in (digits 2 n ++ (text "XV " ++ digits 3 p)) ≡ asked XV (a_place i 0))
    unfolding asked_in asked_for asked_with first_by_text first_by_arguments row_of code_in formed digits_between digits
    parameter-asked = let l = lt-ltb i parameter_count (code_has_place p i e).0 in (simp (digits_all 3 p, placed, l), simp (digits_all 3 p, placed, l))

    -- PC by its place and value, in range or not
    pub value_argued : (v : ℕ) → v < 10 ^ 8 → asked_in (digits 2 n ++ (text "PC " ++ (digits 3 p ++ (space ∷ digits 8 v)))) ≡ asked_with PC (a_place i v)
    unfolding asked_in asked_for first_by_text row_of code_in formed digits_between digits
    value_argued v h = simp (digits_all 3 p, digits_all 8 v, placed, value-digits 8 v h)

    value-asked : (v : ℕ) → v < 10 ^ 8 → within (range_at i) v ≡ true → asked_in (digits 2 n ++ (text "PC " ++ (digits 3 p ++ (space ∷ digits 8 v)))) ≡ asked PC (a_place i v)
    unfolding asked_with first_by_arguments
    value-asked v h w = value_argued v h ∙ simp (lt-ltb i parameter_count (code_has_place p i e).0, w)

  recipe-asked : (r : ℕ) → within (field_range recipe) r ≡ true → asked_in (digits 2 n ++ (text "NR " ++ digits 2 r)) ≡ asked NR (a_place 0 r)
  unfolding asked_in asked_for asked_with first_by_text first_by_arguments row_of code_in formed digits_between digits
  recipe-asked r w = let h = between_high _ _ r w in simp (digits_all 2 r, value-digits 2 r (omega arith), w)

  batch_asked_lem : (v : ℕ) → 1 ≤ v → v ≤ (field_range preset).high → asked_in (digits 2 n ++ (text "SB " ++ digits 6 v)) ≡ asked SB (a_place 0 v)
  unfolding asked_in asked_for asked_with first_by_text first_by_arguments row_of code_in formed digits_between digits
  batch_asked_lem v l h = simp (digits_all 6 v, value-digits 6 v (omega arith), ne_eqb v 0 (λ e. omega arith))

-- ---- what is shown: "PV ppp vvvvvvvv", "XV ppp l", "RC rr vvvvvvvv"
abbrev pub parameter_shown : List ℕ → ℕ → ℕ → ℕ → List ℕ
parameter_shown w p width n = (w ++ (digits 3 p ++ (space ∷ []))) ++ digits width n

abbrev pub composed : ℕ → ℕ → List ℕ
composed r f = (text "RC " ++ digits 2 r) ++ (space ∷ digits 8 f)

-- ---- a frame for a unit is heard, whatever it holds
-- the unit that its own address digits name
pub named : (a c d : ℕ) (rest : List ℕ) → is_capital c ≡ true → is_capital d ≡ true → names_unit (digits 2 a ++ (c ∷ d ∷ rest)) ≡ true
unfolding names_unit digits
named a c d rest p q =
    simp (
      between_yes 0x30 0x39 (0x30 + a / 10 % 10) (omega arith) (omega arith),
      between_yes 0x30 0x39 (0x30 + a % 10) (omega arith) (omega arith),
      p,
      q,
    )

pub numbered : (a c d : ℕ) (rest : List ℕ) → a ≤ 99 → address_in (digits 2 a ++ (c ∷ d ∷ rest)) ≡ a
unfolding address_in digits
numbered a c d rest h = omega arith

-- and the reply goes by the frame's text
pub frame-heard : {A : Type 0} (quiet : ℕ → A) (k : Kind) (good : Bool) (a room : ℕ) (reply : List ℕ → A) (t : List ℕ) → good ≡ true → 64 ≤ room → Text 4 60 t
    → names_unit t ≡ true → address_in t ≡ a → unless_silent quiet k good a (frame_of k t) room (reply (text_in k (frame_of k t))) ≡ reply t
frame-heard quiet k good a room reply t v w f n e =
    let l = frame_located k t f.low f.high f.bytes in
    let g = found k (frame_of k t) (length t) l.0 in
    simp (v, le-leb 64 room w, g.limits, g.marks, g.sum, l.1, f.bytes, n, eq-eqb (address_in t) a e)

-- ---- the call that answers them

-- asked this at address n, the call shows that and leaves the record r
abbrev pub LeavesAt : Kind → Record → List ℕ → ℕ → List ℕ → List ℕ → Record → Type 0
LeavesAt k s o n question shown r =
    call_of k s (frame_of k (digits 2 n ++ question)) o
    ≡ record { silence = 0; reported = length (frame_of k (digits 2 n ++ shown)); after = r; buffer = over (frame_of k (digits 2 n ++ shown)) o }

-- and the record stays as it was
abbrev pub AnswersAt : Kind → Record → List ℕ → ℕ → List ℕ → List ℕ → Type 0
AnswersAt k s o n question shown = LeavesAt k s o n question shown s

module _ (k : Kind) (s : Record) (o : List ℕ) (v : valid s ≡ true) (room : 64 ≤ length o) where
  abbrev Answers : List ℕ → List ℕ → Type 0
  Answers question shown = AnswersAt k s o (get address s) question shown

  pub called : (t : List ℕ) → Text 4 60 t → names_unit t ≡ true → address_in t ≡ s.address → call_of k s (frame_of k t) o ≡ replied k t s o
  unfolding call_of
  called t f n a = frame-heard (λ m. silent m s o) k (valid s) s.address (length o) (λ x. replied k x s o) t v room f n a

  -- a request that no row of the record refuses
  request_served : (q : ℕ) (x : Arguments) → guarded (guards_in refusals q x (get access s)) s ≡ accepted
      → served_of (asked q x) s ≡ (shows ((row_of q commands).reply x), applied ((row_of q commands).effect x) s)
  unfolding served_of
  request_served q x g = ap (λ (w : Verdict). served_by w (asked q x) s) g

  module _ (c d : ℕ) (rest : List ℕ) (q : ℕ) (x : Arguments) (h : is_capital c ≡ true) (i : is_capital d ≡ true) (f : Text 2 58 (c ∷ d ∷ rest))
      (e : asked_in (digits 2 s.address ++ (c ∷ d ∷ rest)) ≡ asked q x) where
    served_so : guarded (guards_in refusals q x (get access s)) s ≡ accepted
        → LeavesAt k s o (get address s) (c ∷ d ∷ rest) (printed ((row_of q commands).reply x) s) (applied ((row_of q commands).effect x) s)
    unfolding text_for
    served_so g =
        let t : List ℕ = digits 2 s.address ++ (c ∷ d ∷ rest) in
        let legal : Text 4 60 t = text_joined 2 2 2 58 (digits 2 s.address) (c ∷ d ∷ rest) (text-digits 2 s.address) f in
        let served : served_of (asked_in t) s ≡ (shows ((row_of q commands).reply x), applied ((row_of q commands).effect x) s) =
        ap (λ (z : Asked). served_of z s) e ∙ request_served q x g in
        let reply_is : reply_text t s ≡ digits 2 s.address ++ printed ((row_of q commands).reply x) s =
        sym (text_by_steps t s) ∙ ap (λ (z : Answered × Record). text_for z.0 s) served in
        let record_is : record_after t s ≡ applied ((row_of q commands).effect x) s = sym (record_by_steps t s) ∙ ap (λ (z : Answered × Record). z.1) served in
        called t legal (named s.address c d rest h i) (numbered s.address c d rest (valid_tell s v).scalars.address_high) ∙ simp (reply_is, record_is)

    -- no row of the record concerns it, and it changes nothing
    answers : guards_in refusals q x (get access s) ≡ [] → (row_of q commands).effect x ≡ [] → Answers (c ∷ d ∷ rest) (printed ((row_of q commands).reply x) s)
    unfolding guarded applied
    answers g n =
        subst (λ (cs : List Change). LeavesAt k s o (get address s) (c ∷ d ∷ rest) (printed ((row_of q commands).reply x) s) (applied cs s)) n
        (served_so (ap (λ (gs : List Guard). guarded gs s) g))

  two : (c d : ℕ) → all_text (c ∷ d ∷ []) ≡ true → Text 2 58 (c ∷ d ∷ [])
  two c d h = text_wider 2 2 2 58 (c ∷ d ∷ []) (omega arith) (omega arith) (text-word (c ∷ d ∷ []) h)

  behind_two : (c d w m : ℕ) → w ≤ 8 → all_text (c ∷ d ∷ space ∷ []) ≡ true → Text 2 58 (c ∷ d ∷ space ∷ digits w m)
  behind_two c d w m l h = text_wider _ _ 2 58 _ (omega arith) (omega arith) (text-labelled (c ∷ d ∷ space ∷ []) w m h)

  pub status_read : Answers (text "EQ") (status_characters s)
  unfolding guards_in row_of all_between
  status_read = answers 0x45 0x51 [] EQ none refl refl (two 0x45 0x51 refl) (plain_asked s.address).0 refl refl

  pub codes_read : Answers (text "RS") (text "RS " ++ codes_on status_codes s)
  unfolding guards_in row_of all_between
  codes_read = answers 0x52 0x53 [] RS none refl refl (two 0x52 0x53 refl) (plain_asked s.address).1 refl refl

  pub number_read : Answers (text "TN") (text "TN " ++ digits 4 (get number s))
  unfolding guards_in row_of all_between
  number_read = answers 0x54 0x4e [] TN none refl refl (two 0x54 0x4e refl) (plain_asked s.address).2 refl refl

  pub recipe_read : Answers (text "RR") (text "RR " ++ digits 2 (get recipe s))
  unfolding guards_in row_of all_between
  recipe_read = answers 0x52 0x52 [] RR none refl refl (two 0x52 0x52 refl) (plain_asked s.address).3 refl refl

  pub composition_read : Answers (text "RC") (composed (get recipe s) (get (value (factor_place (get recipe s))) s))
  unfolding guards_in row_of all_between
  composition_read = answers 0x52 0x43 [] RC none refl refl (two 0x52 0x43 refl) (plain_asked s.address).4 refl refl

  pub alarms_read_lem : Answers (text "EA") (alarm_characters (get alarms s))
  unfolding guards_in row_of all_between
  alarms_read_lem = answers 0x45 0x41 [] EA none refl refl (two 0x45 0x41 refl) (plain_asked s.address).5 refl refl

  -- AR
  pub reset_served : get keypad s ≡ off → LeavesAt k s o (get address s) (text "AR") (text "OK") (alarms_reset s)
  unfolding guards_in guarded applied row_of all_between
  reset_served h = served_so 0x41 0x52 [] AR none refl refl (two 0x41 0x52 refl) (plain_asked s.address).6 (simp h)

  -- NR, PC and SB
  module _ (in_idle : get phase s ≡ idle) (keypad_off : get keypad s ≡ off) where
    pub recipe_served : (r : ℕ) → within (field_range recipe) r ≡ true → LeavesAt k s o (get address s) (text "NR " ++ digits 2 r) (text "OK") (put recipe r s)
    unfolding guards_in guarded applied row_of all_between
    recipe_served r w =
        served_so 0x4e 0x52 (space ∷ digits 2 r) NR (a_place 0 r) refl refl (behind_two 0x4e 0x52 2 r (omega arith) refl)
        (recipe-asked s.address r w) (simp (keypad_off, in_idle))

    pub value_served : (p i v : ℕ) → place_of p ≡ Some i → v < 10 ^ 8 → within (range_at i) v ≡ true → get (level i) s ≤ get access s
        → LeavesAt k s o (get address s) (text "PC " ++ (digits 3 p ++ (space ∷ digits 8 v))) (text "OK") (replaced (value i) v changed s)
    unfolding guards_in guarded applied row_of all_between
    value_served p i v e h w l =
        served_so 0x50 0x43 (space ∷ (digits 3 p ++ (space ∷ digits 8 v))) PC (a_place i v) refl refl
        (text_wider _ _ 2 58 _ (omega arith) (omega arith) (text-labelled_two (text "PC ") 3 p 8 v refl))
        (value-asked s.address p i e v h w) (simp (keypad_off, le-ltb (get access s) (get (level i) s) l, in_idle))

    pub batch_served : (v : ℕ) → 1 ≤ v → v ≤ (field_range preset).high → LeavesAt k s o (get address s) (text "SB " ++ digits 6 v) (text "OK") (batch_set v s)
    unfolding guards_in guarded applied row_of all_between batch_set
    batch_served v l h =
        served_so 0x53 0x42 (space ∷ digits 6 v) SB (a_place 0 v) refl refl (behind_two 0x53 0x42 6 v (omega arith) refl)
        (batch_asked_lem s.address v l h) (simp (keypad_off, in_idle))

  pub raw_read : Answers (text "RT R") (text "RT R " ++ digits 8 (get raw s))
  unfolding guards_in row_of all_between
  raw_read =
      let t : List ℕ = text "RT R" in
      answers 0x52 0x54 (0x20 ∷ 0x52 ∷ []) RT (a_word (text "R")) refl refl (text_wider 4 4 2 58 t (omega arith) (omega arith) (text-word t refl))
      (raw-asked s.address) refl refl

  module _ (p i : ℕ) (e : place_of p ≡ Some i) where
    -- the label has the code that was asked for
    label_so : (w : List ℕ) → parameter_label w i ≡ w ++ (digits 3 p ++ (space ∷ []))
    label_so w = ap (λ (c : ℕ). w ++ (digits 3 c ++ (space ∷ []))) (code_has_place p i e).1

    pub value_read : Answers (text "PV " ++ digits 3 p) (parameter_shown (text "PV ") p 8 (get (value i) s))
    unfolding guards_in row_of all_between
    value_read =
        subst (λ (w : List ℕ). Answers (text "PV " ++ digits 3 p) (w ++ digits 8 (get (value i) s))) (label_so (text "PV "))
        (answers 0x50 0x56 (space ∷ digits 3 p) PV (a_place i 0) refl refl (behind_two 0x50 0x56 3 p (omega arith) refl) (parameter-asked s.address p i e).0 refl refl)

    pub level_read : Answers (text "XV " ++ digits 3 p) (parameter_shown (text "XV ") p 1 (get (level i) s))
    unfolding guards_in row_of all_between
    level_read =
        subst (λ (w : List ℕ). Answers (text "XV " ++ digits 3 p) (w ++ digits 1 (get (level i) s))) (label_so (text "XV "))
        (answers 0x58 0x56 (space ∷ digits 3 p) XV (a_place i 0) refl refl (behind_two 0x58 0x56 3 p (omega arith) refl) (parameter-asked s.address p i e).1 refl refl)

-- RC shows two numbers
pub composition-same : (a b x y : ℕ) → a ≡ b → x ≡ y → composed a x ≡ composed b y
composition-same a b x y e f = cc

-- ---- a field after a change: the number that a field gets is held there and by no other field
pub held_there : (f : Field) (n m : ℕ) → pick (eqb (position f) (position f)) n m ≡ n
held_there f n m = simp (eq-eqb (position f) (position f) refl)

pub held_elsewhere : (f g : Field) (n m : ℕ) → (position f ≡ position g → ⊥) → pick (eqb (position f) (position g)) n m ≡ m
held_elsewhere f g n m h = simp (ne_eqb (position f) (position g) h)
