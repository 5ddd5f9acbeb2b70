-- Laws of the reply's text: what is laid into a buffer, and what a text holds. Assumes nothing.
use mathlib.Core.Path.{◌≡◌, refl, ap, sym, ◌∙◌}
use mathlib.Core.List.{List, [], ◌∷◌, ◌++◌, append_assoc}
use mathlib.Core.Bool.{Bool, true, false, not, ◌&&◌, ◌||◌, or-false}
use Prim.Native.Nat.{ℕ, ◌+◌, ◌*◌, ◌/◌, ◌%◌, ◌≤◌, ◌<◌}
use native.Mathlib.Nat.{add-zero, zero-add}
use native.Mathlib.Omega.{arith}
use lib.Dec.{eqb}
use lib.ListN.{length, length-append}
use borrow.Author.Tests.{le-leb, lt-leb, eqb-true}
use Rattle.base.specs.Text.{text}
use Rattle.base.specs.Test.{pick, member, all_between}
use Rattle.base.specs.Lists.{over}
use Rattle.base.proofs.Tests.{and_left, and_right}
use Rattle.base.proofs.Lists.{over_at_start, over_at-length}
use Rattle.state.specs.declared.Record.{Record}
use Rattle.state.specs.Parameter.{code_at}
use Rattle.state.specs.Alarm.{no_alarm, character_values}
use Rattle.state.specs.Field.{Field, access, recipe, raw, number, alarms, value, level, get, flag_number, phase_number}
use Rattle.state.specs.Event.{running, stopped, done}
use Rattle.state.specs.Event as event
use Rattle.state.proofs.Fields.{flag_back}
use Rattle.frame.specs.Frame.{all_text}
use Rattle.command.specs.declared.Request.{Request}
use Rattle.command.specs.declared.Refusal.{Refusal}
use Rattle.std.specs.Prelude.{Option, Some, None, Result}
use Rattle.command.specs.declared.Reading.{Reading}
use Rattle.command.specs.Status.{passes, Bit, first, second, third, fourth, weight_in, status_characters, alarm_characters, Code, status_codes, codes_on}
use Rattle.command.specs.Commands.{Arguments, numbered, acknowledged, composition, parameter_label, factor_place, printed, Command, commands, row_of}
use Rattle.command.specs.Answer.{Verdict, NO, accepted}
use Rattle.command.specs.Request.{Asked, refused, asked, guards_of, guarded, reply_of, Answered, no, shows, answer_text, served_by, served_of, reading_as, answer_as}
use Rattle.text.specs.Word.{space, digits}
use Rattle.text.specs.Written.{written_at}
use Rattle.text.proofs.Words.{digits-length}
use Rattle.text.proofs.Printable.{Text, text_wider, text_joined, text-word, one_text, no_text, space-text, text-digits, text-labelled}
use Rattle.text.proofs.Writing.{Laid, laid_none, laid_same, joined, room-written, digits_high}
use Rattle.reply.specs.declared.Kept.{Kept}
use Rattle.reply.specs.Reply.{labelled, labelled_two, text_for, laid_text, written_of, kept_words, kept_text}

-- ---- a word and a number
pub labelled-length : (w : List ℕ) (k n : ℕ) → length (labelled w k n) ≡ length w + k
labelled-length w k n = simp (length-append, digits-length k n)

-- ---- what the code finds in the record

-- a character of four signs
abbrev pub character_of : Bool → Bool → Bool → Bool → ℕ
character_of eight four two one = 0x30 + (8 * flag_number eight + (4 * flag_number four + (2 * flag_number two + 1 * flag_number one)))

-- whether the record is in a phase, as the code asks it
abbrev pub InPhase : Record → ℕ → Bool → Type 0
InPhase r p b = b ≡ eqb (phase_number r.phase) p

-- the six characters, from the signs that the code finds
pub status-laid : (r : Record) (at n a b c d : ℕ) (u v w x : Bool) (o o₁ : List ℕ)
    → a ≡ character_of r.keypad u r.flow (w || (u || v)) → b ≡ character_of (u || v) x r.reset false
    → c ≡ character_of false false false (not (eqb r.alarms no_alarm)) → d ≡ character_of r.changed false false r.powerfail
    → InPhase r running u → InPhase r stopped v → InPhase r event.set w → InPhase r done x
    → Laid at (a ∷ b ∷ c ∷ d ∷ 0x30 ∷ 0x30 ∷ []) o n o₁ → Laid at (status_characters r) o n o₁
unfolding status_characters weight_in
status-laid r at n a b c d u v w x o o₁ f g h i running_so stopped_so set_so done_so =
    laid_same at n _ _ o o₁ (simp (f, g, h, i, running_so, stopped_so, set_so, done_so, flag_back, or-false, add-zero, zero-add))

-- the five characters of the alarms
pub alarms-laid : (m at n a b c d e : ℕ) (o o₁ : List ℕ) → a ≡ 0x30 + m / 32768 % 16 → b ≡ 0x30 + m / 2048 % 16 → c ≡ 0x30 + m / 128 % 16
    → d ≡ 0x30 + m / 8 % 16 → e ≡ 0x30 + m % 8 % 16 → Laid at (a ∷ b ∷ c ∷ d ∷ e ∷ []) o n o₁ → Laid at (alarm_characters m) o n o₁
unfolding alarm_characters character_values
alarms-laid m at n a b c d e o o₁ f g h i k =
    let l : e ≡ 0x30 + m / 1 % 8 = omega arith in
    laid_same at n _ _ o o₁ (simp (f, g, h, i, l))

-- the phase of the record is one of these
pub in_one : (r : Record) (p : ℕ) (u : Bool) → InPhase r p u → member (phase_number r.phase) (p ∷ []) ≡ u
in_one r p u e = simp (e, or-false)

pub in_two : (r : Record) (p q : ℕ) (u v : Bool) → InPhase r p u → InPhase r q v → member (phase_number r.phase) (p ∷ q ∷ []) ≡ (u || v)
in_two r p q u v e f = simp (e, f, or-false)

-- one code more before the others
pub code_laid : (s : Code) (ss : List Code) (r : Record) (b : Bool) (at n m : ℕ) (o o₁ o₂ : List ℕ) → passes s.if r ≡ b
    → Laid at (pick b (s.letters ++ (space ∷ [])) []) o n o₁ → Laid n (codes_on ss r) o₁ m o₂ → Laid at (codes_on (s ∷ ss) r) o m o₂
unfolding codes_on
code_laid s ss r b at n m o o₁ o₂ e a d =
    let w : List ℕ = s.letters ++ (space ∷ []) in
    joined at n m (pick (passes s.if r) w []) (codes_on ss r) o o₁ o₂
    (laid_same at n (pick b w []) (pick (passes s.if r) w []) o o₁ (ap (λ (y : Bool). pick y w []) (sym e)) a) d

pub no_code_laid : (r : Record) (at : ℕ) (o : List ℕ) → Laid at (codes_on [] r) o at o
unfolding codes_on
no_code_laid r at o = laid_none at o

-- ---- what is shown, by what is asked
pub shown : (q k : Reading) (r : Record) (at n : ℕ) (o o₁ : List ℕ) → q ≡ k → Laid at (printed (reply_of (reading_as k)) r) o n o₁
    → Laid at (printed (reply_of (reading_as q)) r) o n o₁
shown q k r at n o o₁ e = laid_same at n _ _ o o₁ (ap (λ (y : Reading). printed (reply_of (reading_as y)) r) (sym e))

-- the recipe and its factor
pub composition-laid : (r : Record) (i v at n : ℕ) (o o₁ : List ℕ) → i ≡ factor_place r.recipe → v ≡ get (value i) r
    → Laid at (labelled_two (text "RC ") 2 r.recipe 8 v) o n o₁ → Laid at (printed composition r) o n o₁
composition-laid r i v at n o o₁ e f = laid_same at n _ _ o o₁ (simp (f, e))

-- a parameter's code and a number, by its place
pub parameter-laid : (w : List ℕ) (c i k v m at n : ℕ) (o o₁ : List ℕ) → c ≡ code_at i → v ≡ m → Laid at (labelled_two w 3 c k v) o n o₁
    → Laid at (parameter_label w i ++ digits k m) o n o₁
parameter-laid w c i k v m at n o o₁ e f = laid_same at n _ _ o o₁ (simp (e, f, append_assoc))

-- ---- the whole text
pub none-laid : (t o : List ℕ) → length o < 60 → (0, o) ≡ laid_text t o
unfolding laid_text
none-laid t o h = simp (lt-leb _ _ h)

pub written_none : (a : Answered) (r : Record) (o : List ℕ) → length o < 60 → (0, o) ≡ written_of a r o
unfolding written_of
written_none a r o h = none-laid (text_for a r) o h

-- the address digits
address-laid : (a b : ℕ) (o o₁ : List ℕ) → 60 ≤ length o → (b, o₁) ≡ written_at 0 (digits 2 a) o → Laid 0 (digits 2 a) o b o₁
address-laid a b o o₁ h e = room-written 0 b (digits 2 a) o o₁ (omega (arith, digits_high 2 a)) e

pub address-end : (a b : ℕ) (o o₁ : List ℕ) → 60 ≤ length o → (b, o₁) ≡ written_at 0 (digits 2 a) o → b ≡ 2
address-end a b o o₁ h e = omega (arith, digits-length 2 a, (address-laid a b o o₁ h e).0)

-- the words behind them
words-laid : (a : ℕ) (w : List ℕ) (b n : ℕ) (o o₁ o₂ : List ℕ) → 60 ≤ length o → (b, o₁) ≡ written_at 0 (digits 2 a) o → Laid b w o₁ n o₂
    → (n, o₂) ≡ laid_text (digits 2 a ++ w) o
unfolding laid_text
words-laid a w b n o o₁ o₂ h f l =
    let t : List ℕ = digits 2 a ++ w in
    let all : Laid 0 t o n o₂ = joined 0 b n (digits 2 a) w o o₁ o₂ (address-laid a b o o₁ h f) l in
    let m : n ≡ length t = omega (arith, all.0) in
    let g : o₂ ≡ over t o = all.1 ∙ over_at_start t o in
    simp (le-leb _ _ h, m, g)

pub written : (d e : Result Request Refusal) (r : Record) (b n : ℕ) (o o₁ o₂ : List ℕ) → 60 ≤ length o → d ≡ e
    → (b, o₁) ≡ written_at 0 (digits 2 r.address) o → Laid b (answer_text (answer_as e) r) o₁ n o₂ → (n, o₂) ≡ written_of (answer_as d) r o
unfolding written_of text_for
written d e r b n o o₁ o₂ h z f a =
    words-laid r.address (answer_text (answer_as e) r) b n o o₁ o₂ h f a ∙ ap (λ (y : Result Request Refusal). laid_text (digits 2 r.address ++ answer_text (answer_as y) r) o) (sym z)

-- of a kept batch
module _ (x : Option Kept) (a b n : ℕ) (o o₁ o₂ : List ℕ) (h : 60 ≤ length o) (f : (b, o₁) ≡ written_at 0 (digits 2 a) o) where
  kept_laid : (y : Option Kept) → x ≡ y → Laid b (kept_words y) o₁ n o₂ → (n, o₂) ≡ laid_text (kept_text a x) o
  unfolding kept_text
  kept_laid y z l = words-laid a (kept_words y) b n o o₁ o₂ h f l ∙ ap (λ (w : Option Kept). laid_text (digits 2 a ++ kept_words w) o) (sym z)

  same-room : length o₁ ≡ length o
  same-room = ap length (address-laid a b o o₁ h f).1 ∙ over_at-length 0 (digits 2 a) o (omega (arith, digits_high 2 a))

  pub kept_none : x ≡ None → (n, o₂) ≡ written_at b (0x4e ∷ 0x4f ∷ 0x30 ∷ 0x33 ∷ []) o₁ → (n, o₂) ≡ laid_text (kept_text a x) o
  unfolding digits
  kept_none z w = kept_laid None z (room-written b n (0x4e ∷ 0x4f ∷ 0x30 ∷ 0x33 ∷ []) o₁ o₂ (omega (arith, address-end a b o o₁ h f, same-room)) w)

  pub kept_volume : (k : Kept) → x ≡ Some k → Laid b (labelled_two (text "RT R ") 8 k.raw 3 k.number) o₁ n o₂ → (n, o₂) ≡ laid_text (kept_text a x) o
  kept_volume k z l = kept_laid (Some k) z l

  pub volume_room : b + length (text "RT R ") + 8 + 1 + 3 ≤ length o₁
  volume_room = omega (arith, address-end a b o o₁ h f, same-room)

pub ruleset batch-writing = (none-laid, kept_none, kept_volume)

-- ---- the texts that are shown

-- each status code has two letters
abbrev letters_of : Code → Bool
letters_of s = eqb (length s.letters) 2 && all_text s.letters

abbrev all_letters : List Code → Bool
all_letters [] = true
all_letters (s ∷ ss) = letters_of s && all_letters ss

code_text : (s : Code) (b : Bool) → letters_of s ≡ true → Text 0 3 (pick b (s.letters ++ (space ∷ [])) [])
code_text s true h =
    let l : length s.letters ≡ 2 = eqb-true _ _ (and_left (eqb (length s.letters) 2) (all_text s.letters) h) in
    let t : all_text s.letters ≡ true = and_right (eqb (length s.letters) 2) (all_text s.letters) h in
    text_wider _ _ _ _ _ (omega arith) (omega arith) (text_joined _ _ _ _ s.letters (space ∷ []) (text-word s.letters t) space-text)
code_text s false h = record { low = omega arith; high = omega arith; bytes = no_text }

text_codes : (ss : List Code) (r : Record) → all_letters ss ≡ true → Text 0 (3 * length ss) (codes_on ss r)
unfolding codes_on
text_codes [] r h = record { low = omega arith; high = omega arith; bytes = no_text }
text_codes (s ∷ ss) r h =
    text_wider 0 (3 + 3 * length ss) _ _ _ (omega arith) (omega arith)
    (text_joined _ _ _ _ _ (codes_on ss r) (code_text s (passes s.if r) (and_left (letters_of s) (all_letters ss) h))
    (text_codes ss r (and_right (letters_of s) (all_letters ss) h)))

-- the weights of bits
pub weight_high : (w : ℕ) (b : Bool) → w * flag_number b ≤ w
weight_high w true = omega arith
weight_high w false = omega arith

abbrev pub weights : List Bit → ℕ
weights [] = 0
weights (b ∷ bs) = b.weight + weights bs

pub weights_high : (r : Record) (bs : List Bit) → weight_in r bs ≤ weights bs
unfolding weight_in
weights_high r [] = omega arith
weights_high r (b ∷ bs) = omega (arith, weight_high b.weight (passes b.if r), weights_high r bs)

character_text : (r : Record) (bs : List Bit) (xs : List ℕ) → weights bs ≤ 15 → all_text xs ≡ true → all_text ((0x30 + weight_in r bs) ∷ xs) ≡ true
character_text r bs xs h = one_text _ xs (omega arith) (omega (arith, weights_high r bs))

text-status : (r : Record) → Text 6 6 (status_characters r)
unfolding status_characters
text-status r =
    text-word _
    (character_text r first _ (omega arith)
    (character_text r second _ (omega arith)
    (character_text r third _ (omega arith)
    (character_text r fourth _ (omega arith) (character_text r [] _ (omega arith) (character_text r [] _ (omega arith) no_text))))))

text-alarms : (n : ℕ) → Text 5 5 (alarm_characters n)
unfolding alarm_characters character_values
text-alarms n =
    text-word _
    (one_text _ _ (omega arith) (omega arith)
    (one_text _ _ (omega arith) (omega arith)
    (one_text _ _ (omega arith) (omega arith) (one_text _ _ (omega arith) (omega arith) (one_text _ _ (omega arith) (omega arith) no_text)))))

-- ---- an answer that has room in a frame: what is printed for it has 2 bytes to as many as RS with all its codes

abbrev pub longest : ℕ
longest = 3 + 3 * length status_codes

abbrev pub Answers : Answered → Type 0
Answers a = (r : Record) → Text 2 longest (answer_text a r)

-- a label and a number
numbered_answers : (a b n : ℕ) (w : List ℕ) (f : Field) → 2 ≤ a + n → b + n ≤ longest → Text a b w → Answers (shows (numbered w n f))
numbered_answers a b n w f l h t r = text_wider _ _ 2 longest _ l h (text_joined a b n n w _ t (text-digits n (get f r)))

parameter-text : (w : List ℕ) (i : ℕ) → all_text w ≡ true → Text (length w + 4) (length w + 4) (parameter_label w i)
parameter-text w i h = text_joined _ _ _ _ w _ (text-word w h) (text_joined 3 3 1 1 (digits 3 (code_at i)) _ (text-digits 3 (code_at i)) space-text)

ok_answers : (x : Arguments) → Answers (shows acknowledged)
unfolding all_between
ok_answers x r = text_wider 2 2 2 longest _ (omega arith) (omega arith) (text-word (text "OK") refl)

-- the replies of several rows, whatever the arguments
infixr 40 ◌then◌
data Rows : List Command → Type 0 where
  end : Rows []
  ◌then◌ : {k : Command} {ks : List Command} → ((x : Arguments) → Answers (shows (k.reply x))) → Rows ks → Rows (k ∷ ks)

-- of 01's rows, and 02's
rows : Rows commands
unfolding all_between
rows =
    (λ x r. text_wider 6 6 2 longest _ (omega arith) (omega arith) (text-status r))
    then (λ x r. text_wider 3 longest 2 longest _ (omega arith) (omega arith) (text_joined 3 3 0 _ (text "RS ") _ (text-word (text "RS ") refl) (text_codes status_codes r refl)))
    then (λ x. numbered_answers 3 3 4 _ number (omega arith) (omega arith) (text-word (text "TN ") refl))
    then (λ x. numbered_answers 3 3 2 _ recipe (omega arith) (omega arith) (text-word (text "RR ") refl))
    then (λ x r. text_wider 14 14 2 longest _ (omega arith) (omega arith) (text_joined 5 5 9 9 _ _ (text-labelled (text "RC ") 2 (get recipe r) refl) (text-labelled (space ∷ []) 8 _ refl)))
    then (λ x. numbered_answers 5 5 8 _ raw (omega arith) (omega arith) (text-word (text "RT R ") refl))
    then (λ x. numbered_answers 7 7 8 _ (value x.place) (omega arith) (omega arith) (parameter-text (text "PV ") x.place refl))
    then (λ x. numbered_answers 7 7 1 _ (level x.place) (omega arith) (omega arith) (parameter-text (text "XV ") x.place refl))
    then ok_answers then ok_answers then ok_answers then ok_answers then ok_answers then ok_answers then ok_answers then ok_answers
    then (λ x r. text_wider 5 5 2 longest _ (omega arith) (omega arith) (text-alarms (get alarms r)))
    then ok_answers then end

row_answers : (c : ℕ) (ks : List Command) (x : Arguments) → Rows ks → Answers (shows ((row_of c ks).reply x))
unfolding row_of
row_answers c [] x end = ok_answers x
row_answers c (k ∷ ks) x (a then h) = by (eqb c k.code) (row_answers c ks x h)
  where
    by : (b : Bool) → Answers (shows ((row_of c ks).reply x)) → Answers (shows ((pick b k (row_of c ks)).reply x))
    by true q = a x
    by false q = q

-- ---- what is served is answered
refusal_answers : (n : ℕ) → Answers (no n)
unfolding all_between
refusal_answers n r = text_wider _ _ _ _ _ (omega arith) (omega arith) (text-labelled (text "NO") 2 n refl)

by_verdict : (v : Verdict) (c : ℕ) (x : Arguments) (r : Record) → Answers (served_by v (asked c x) r).0
by_verdict (NO n) c x r = refusal_answers n
by_verdict accepted c x r = row_answers c commands x rows

pub served_answers : (q : Asked) (r : Record) → Answers (served_of q r).0
unfolding served_of
served_answers (refused n) r = refusal_answers n
served_answers (asked c x) r = by_verdict (guarded (guards_of (get access r) (asked c x)) r) c x r

-- a reply's text is legal in a frame: "4 to 60 bytes, each 0x20..0x7E"
pub text_legal : (a : Answered) (r : Record) → Answers a → Text 4 (2 + longest) (text_for a r)
unfolding text_for
text_legal a r h = text_joined 2 2 2 longest (digits 2 r.address) (answer_text a r) (text-digits 2 r.address) (h r)

pub kept_legal : (a : ℕ) (x : Option Kept) → Text 4 (2 + longest) (kept_text a x)
unfolding kept_text all_between
kept_legal a None =
    text_wider _ _ _ _ _ (omega arith) (omega arith) (text_joined 2 2 4 4 (digits 2 a) _ (text-digits 2 a) (text-labelled (text "NO") 2 3 refl))
kept_legal a (Some k) =
    text_wider _ _ _ _ _ (omega arith) (omega arith)
    (text_joined 2 2 17 17 (digits 2 a) _ (text-digits 2 a)
    (text_joined 13 13 4 4 (text "RT R " ++ digits 8 k.raw) _ (text-labelled (text "RT R ") 8 k.raw refl) (text-labelled (space ∷ []) 3 k.number refl)))
