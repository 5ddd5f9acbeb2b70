-- What is proved of every call, for any record, kind of link, request bytes and reply buffer. Assumes nothing.
use Prim.Native.Nat.{ℕ, ◌+◌, ◌*◌, ◌≤◌, ◌<◌}
use mathlib.Core.Bool.{Bool, true, false}
use mathlib.Core.Path.{◌≡◌, refl, sym, ap, subst, ◌∙◌}
use mathlib.Core.List.{List, [], ◌∷◌, ◌++◌, map}
use mathlib.Core.Logic.{◌⊎◌, inl, inr, ⊎_elim}
use native.Mathlib.Omega.{arith}
use lib.Dec.{eqb, leb}
use lib.ListN.{length, take, drop, get_or}
use borrow.Author.Tests.{leb-true}
use Rattle.base.specs.Text.{text}
use Rattle.state.specs.declared.Record.{Record}
use Rattle.std.specs.Prelude.{Option, Some, None}
use Rattle.base.specs.Test.{pick}
use Rattle.state.specs.Parameter.{parameter_count, place_of}
use Rattle.state.specs.Alarm.{lasting}
use Rattle.state.specs.Field.{Field, address, phase, changed, reset, recipe, preset, raw, number, alarms, value, level, get, put, on, flag_number}
use Rattle.state.specs.Valid.{valid}
use Rattle.state.specs.Event.{set, next_number, alarms_reset, flag_after, replaced}
use Rattle.state.proofs.Fields.{pick_same, put-value}
use Rattle.state.proofs.Whole.{replaced-same, replaced_other}
use Rattle.frame.specs.declared.Kind.{Kind}
use Rattle.frame.specs.declared.Kind.TheVariants.{Minicomputer, Terminal}
use Rattle.frame.specs.Frame.{all_text, names_unit, address_in, frame_of, text_in, within_limits, marks_right, check_right}
use Rattle.frame.specs.Numbers.{accepted}
use Rattle.frame.specs.Answer.{read_of}
use Rattle.base.specs.Lists.{over}
use Rattle.frame.proofs.Laws.{frame-length, framed_built}
use Rattle.frame.proofs.RoundTrip.{read_built}
use Rattle.text.specs.Word.{space, digits, value_of}
use Rattle.text.proofs.Printable.{Text}
use Rattle.command.specs.Status.{Bit, characters, weight_in, status_characters, alarm_characters, Code, status_codes, codes_on}
use Rattle.command.specs.Commands.{PV, XV, PC, XC, NR, SB, AR, code_in, Arguments, place_number, place_for, applied, commands, row_of, factor_place, Change, becomes, ◌≔◌, next_batch, reset_alarms, new_value}
use Rattle.command.specs.Refusals.{refusals, row_number, applies, of, arguments_for}
use Rattle.command.specs.Answer.{Verdict, NO, behind_code, arguments_in, verdict, record_for, reply_text, record_after}
use Rattle.command.specs.Answer as tables
use Rattle.command.specs.Request.{asked_in}
use Rattle.base.proofs.Tests.{by_test}
use Rattle.command.proofs.Tables.{FirstAt, no_row, first_goes_out, by_first, none-applies, accepted-if-none, assigned, given, number_after, FitsRecord, Fitting, applied-valid, put_reads, applied-reads}
use Rattle.command.proofs.Fits.{Sound, SoundAsked, asked_sound, accepted-fits}
use Rattle.command.proofs.Agree.{accepted-asked}
use Rattle.reply.proofs.Laws.{longest, text_legal, served_answers}
use Rattle.controller.specs.Call.{OutcomeOf, silent, answered, unless_silent, call_of}
use Rattle.controller.proofs.Steps.{text_by_steps}
use Rattle.controller.proofs.ReadBack.{parameter_shown, composed, AnswersAt, composition-same, status_read, codes_read, number_read, recipe_read, composition_read, raw_read, alarms_read_lem, value_read, level_read, held_there, held_elsewhere}

-- ---- every input gets a reply or exactly one named silence, whatever is held
module _ {S : Type 0} where
  -- a silence: its number, nothing reported, and nothing changed; r is what was held
  pub record SilentOutcome (c : OutcomeOf S) (r : S) (o : List ℕ) : Type 0 where
    pub low : 1 ≤ c.silence
    pub high : c.silence ≤ 8
    pub nothing : c.reported ≡ 0
    pub same_record : c.after ≡ r
    pub same-buffer : c.buffer ≡ o

  -- a reply: a frame of the same kind over the start of the buffer; x is its text, s what is held then
  pub record ReplyOutcome (c : OutcomeOf S) (good : Bool) (k : Kind) (x : List ℕ) (s : S) (o : List ℕ) : Type 0 where
    pub heard : c.silence ≡ 0
    pub size : c.reported ≡ length (frame_of k x)
    pub low : 7 ≤ c.reported
    pub high : c.reported ≤ 64
    pub next_record : c.after ≡ s
    pub frame : c.buffer ≡ over (frame_of k x) o
    pub valid_record : good ≡ true
    pub room : 64 ≤ length o

frame_sizes : (k : Kind) (t : List ℕ) → Text 4 (2 + longest) t → (7 ≤ length (frame_of k t)) × (length (frame_of k t) ≤ 64)
frame_sizes Minicomputer t f = omega (arith, frame-length Minicomputer t)
frame_sizes Terminal t f = omega (arith, frame-length Terminal t)

pub every_outcome : {S : Type 0} (k : Kind) (good : Bool) (a : ℕ) (r s : S) (q o x : List ℕ) → Text 4 (2 + longest) x → (c : OutcomeOf S)
    → c ≡ unless_silent (λ n. silent n r o) k good a q (length o) (answered k x s o) → SilentOutcome c r o ⊎ ReplyOutcome c good k x s o
every_outcome {S} k good a r s q o x legal c is =
    let t : List ℕ = text_in k q in
    by_test good (λ v. by_test (leb 64 (length o)) (λ w. by_test (within_limits k (length q)) (λ l. by_test (marks_right k q)
    (λ m. by_test (check_right k q) (λ h. by_test (all_text t) (λ b. by_test (names_unit t) (λ n. by_test (eqb (address_in t) a)
    (λ u. inr (replied_so v (leb-true 64 (length o) w) (is ∙ simp (v, w, l, m, h, b, n, u))))
    (λ u. inl (silenced 8 (omega arith) (omega arith) (is ∙ simp (v, w, l, m, h, b, n, u)))))
    (λ n. inl (silenced 7 (omega arith) (omega arith) (is ∙ simp (v, w, l, m, h, b, n)))))
    (λ b. inl (silenced 6 (omega arith) (omega arith) (is ∙ simp (v, w, l, m, h, b)))))
    (λ h. inl (silenced 5 (omega arith) (omega arith) (is ∙ simp (v, w, l, m, h)))))
    (λ m. inl (silenced 4 (omega arith) (omega arith) (is ∙ simp (v, w, l, m)))))
    (λ l. inl (silenced 3 (omega arith) (omega arith) (is ∙ simp (v, w, l)))))
    (λ w. inl (silenced 2 (omega arith) (omega arith) (is ∙ simp (v, w)))))
    (λ v. inl (silenced 1 (omega arith) (omega arith) (is ∙ simp v)))
  where
    silenced : (n : ℕ) → 1 ≤ n → n ≤ 8 → c ≡ silent n r o → SilentOutcome c r o
    silenced n l h e =
        let i : c.silence ≡ n = ap (λ (y : OutcomeOf S). y.silence) e in
        record {
          low = omega arith;
          high = omega arith;
          nothing = ap (λ (y : OutcomeOf S). y.reported) e;
          same_record = ap (λ (y : OutcomeOf S). y.after) e;
          same-buffer = ap (λ (y : OutcomeOf S). y.buffer) e;
        }

    replied_so : good ≡ true → 64 ≤ length o → c ≡ answered k x s o → ReplyOutcome c good k x s o
    replied_so v w e =
        let i : c.reported ≡ length (frame_of k x) = ap (λ (y : OutcomeOf S). y.reported) e in
        let l = frame_sizes k x legal in
        record {
          heard = ap (λ (y : OutcomeOf S). y.silence) e;
          size = i;
          low = omega arith;
          high = omega arith;
          next_record = ap (λ (y : OutcomeOf S). y.after) e;
          frame = ap (λ (y : OutcomeOf S). y.buffer) e;
          valid_record = v;
          room = w;
        }

-- ---- document 01's call
abbrev pub Silenced : Kind → Record → List ℕ → List ℕ → Type 0
Silenced k r q o = SilentOutcome (call_of k r q o) r o

abbrev pub Answered : Kind → Record → List ℕ → List ℕ → Type 0
Answered k r q o = ReplyOutcome (call_of k r q o) (valid r) k (reply_text (text_in k q) r) (record_after (text_in k q) r) o

-- a reply's text is legal, and its frame fits the buffer
pub reply_legal : (t : List ℕ) (r : Record) → Text 4 (2 + longest) (reply_text t r)
reply_legal t r = subst (Text 4 (2 + longest)) (text_by_steps t r) (text_legal _ r (served_answers (asked_in t) r))

pub every_input : (k : Kind) (r : Record) (q o : List ℕ) → Silenced k r q o ⊎ Answered k r q o
unfolding call_of
every_input k r q o =
    every_outcome k (valid r) (get address r) r (record_after (text_in k q) r) q o (reply_text (text_in k q) r) (reply_legal (text_in k q) r) (call_of k r q o) refl

-- a refusal returns the record as it was
pub refusal_keeps : (t : List ℕ) (r : Record) (n : ℕ) → verdict t r ≡ NO n → record_after t r ≡ r
unfolding record_after
refusal_keeps t r n h = ap (λ (v : Verdict). record_for v t r) h

-- what holds of the record before a call, and after it if the request is accepted, holds after it
pub after_call : (k : Kind) (r : Record) (q o : List ℕ) (P : Record → Type 0) → P r
    → (Answered k r q o → verdict (text_in k q) r ≡ tables.accepted → P (call_of k r q o).after) → P (call_of k r q o).after
after_call k r q o P before accepted_so =
    ⊎_elim (λ (s : Silenced k r q o). subst P (sym s.same_record) before) (λ (a : Answered k r q o). go a (verdict (text_in k q) r) refl) (every_input k r q o)
  where
    go : Answered k r q o → (v : Verdict) → verdict (text_in k q) r ≡ v → P (call_of k r q o).after
    go a (NO n) e = subst P (sym (a.next_record ∙ refusal_keeps (text_in k q) r n e)) before
    go a tables.accepted e = accepted_so a e

-- a valid record stays valid
pub call_keeps_valid : (k : Kind) (r : Record) (q o : List ℕ) → valid r ≡ true → valid (call_of k r q o).after ≡ true
unfolding record_after
call_keeps_valid k r q o h =
    after_call k r q o (λ s. valid s ≡ true) h (λ a e.
    let t : List ℕ = text_in k q in
    ap valid (a.next_record ∙ ap (λ (v : Verdict). record_for v t r) e) ∙ applied-valid r h ((row_of (code_in t) commands).effect (arguments_in t)) (accepted-fits t r e))

-- ---- NOnn goes out if and only if row nn's own condition holds and no earlier row's does; accepted if and only if none does
pub no_by_row : (t : List ℕ) (r : Record) (n : ℕ) → verdict t r ≡ NO n → (i : ℕ) × FirstAt refusals (code_in t) (behind_code t) r i × (row_number (get_or refusals i no_row) ≡ n)
unfolding verdict
no_by_row t r n h = by_first (code_in t) (behind_code t) r refusals n h

pub row_goes_out : (t : List ℕ) (r : Record) (i : ℕ) → FirstAt refusals (code_in t) (behind_code t) r i → verdict t r ≡ NO (row_number (get_or refusals i no_row))
unfolding verdict
row_goes_out t r i f = first_goes_out (code_in t) (behind_code t) r refusals i f

pub accepted_by_none : (t : List ℕ) (r : Record) → verdict t r ≡ tables.accepted → (j : ℕ) → j < length refusals → applies (get_or refusals j no_row) (code_in t) (behind_code t) r ≡ false
unfolding verdict
accepted_by_none t r h j l = none-applies (code_in t) (behind_code t) r refusals h j l

pub none_accepts : (t : List ℕ) (r : Record) → ((j : ℕ) → j < length refusals → applies (get_or refusals j no_row) (code_in t) (behind_code t) r ≡ false) → verdict t r ≡ tables.accepted
unfolding verdict
none_accepts t r h = accepted-if-none (code_in t) (behind_code t) r refusals h

-- ---- an accepted request changes what its row names and nothing else, whatever the field
pub changes_exactly : (t : List ℕ) (r : Record) → valid r ≡ true → verdict t r ≡ tables.accepted → (g : Field)
    → get g (record_after t r) ≡ number_after g ((row_of (code_in t) commands).effect (arguments_in t)) r
unfolding record_after
changes_exactly t r v h g =
    ap (λ (x : Verdict). get g (record_for x t r)) h ∙ applied-reads r v ((row_of (code_in t) commands).effect (arguments_in t)) (accepted-fits t r h) g

-- ---- a frame that a call replies with is read back by the host side and gives the reply's text
pub is_answered : (k : Kind) (r : Record) (q o : List ℕ) → (call_of k r q o).silence ≡ 0 → Answered k r q o
is_answered k r q o h = ⊎_elim (λ (s : Silenced k r q o). let l = s.low in absurd (omega arith)) (λ (a : Answered k r q o). a) (every_input k r q o)

-- a call that reports a reply's length is answered
pub is_reported : (k : Kind) (r : Record) (q o : List ℕ) → 0 < (call_of k r q o).reported → Answered k r q o
is_reported k r q o h = ⊎_elim (λ (s : Silenced k r q o). let n = s.nothing in absurd (omega arith)) (λ (a : Answered k r q o). a) (every_input k r q o)

pub host_reads : (k : Kind) (r : Record) (q o o' : List ℕ) → (call_of k r q o).silence ≡ 0 → 64 ≤ length o'
    → read_of k (take (call_of k r q o).reported (call_of k r q o).buffer) o' ≡ (accepted (length (reply_text (text_in k q) r)), over (reply_text (text_in k q) r) o')
host_reads k r q o o' h l =
    let a = is_answered k r q o h in
    let t : List ℕ = reply_text (text_in k q) r in
    let f = reply_legal (text_in k q) r in
    let high : length t ≤ 60 = let x = f.high in omega arith in
    read_built k t o o' (call_of k r q o).buffer (call_of k r q o).reported l
    (framed_built k t o (call_of k r q o).buffer (call_of k r q o).reported record {
      room = a.room;
      low = f.low;
      high = high;
      text = f.bytes;
      size = sym a.size;
      left = sym a.frame;
    })

-- ---- EQ's characters and RS's codes by the fields' numbers
unfoldable pub weight_by : (Field → ℕ) → List Bit → ℕ
weight_by v [] = 0
weight_by v (b ∷ bs) = b.weight * flag_number (b.if.holds (v b.if.field)) + weight_by v bs

abbrev pub status_by : (Field → ℕ) → List (List Bit) → List ℕ
status_by v [] = []
status_by v (bs ∷ bss) = (0x30 + weight_by v bs) ∷ status_by v bss

unfoldable pub codes_by : (Field → ℕ) → List Code → List ℕ
codes_by v [] = []
codes_by v (c ∷ cs) = pick (c.if.holds (v c.if.field)) (c.letters ++ (space ∷ [])) [] ++ codes_by v cs

-- a record whose fields hold these numbers shows so
module _ (s : Record) (v : Field → ℕ) (h : (f : Field) → get f s ≡ v f) where
  weight_by_lem : (bs : List Bit) → weight_in s bs ≡ weight_by v bs
  unfolding weight_in weight_by
  weight_by_lem [] = refl
  weight_by_lem (b ∷ bs) =
      ap (λ (n : ℕ). b.weight * flag_number (b.if.holds n) + weight_in s bs) (h b.if.field)
      ∙ ap (λ (n : ℕ). b.weight * flag_number (b.if.holds (v b.if.field)) + n) (weight_by_lem bs)

  status_by_lem : status_characters s ≡ status_by v characters
  unfolding status_characters
  status_by_lem = go characters
    where
      go : (bss : List (List Bit)) → map (λ (bs : List Bit). 0x30 + weight_in s bs) bss ≡ status_by v bss
      go [] = refl
      go (bs ∷ bss) = simp (weight_by_lem bs, go bss)

  codes_by_lem : (cs : List Code) → codes_on cs s ≡ codes_by v cs
  unfolding codes_on codes_by
  codes_by_lem [] = refl
  codes_by_lem (c ∷ cs) =
      ap (λ (n : ℕ). pick (c.if.holds n) (c.letters ++ (space ∷ [])) [] ++ codes_on cs s) (h c.if.field)
      ∙ ap (λ (y : List ℕ). pick (c.if.holds (v c.if.field)) (c.letters ++ (space ∷ [])) [] ++ y) (codes_by_lem cs)

-- EQ and RS look at no value
status_unvalued : (i n : ℕ) (s : Record) → status_characters (put (value i) n s) ≡ status_characters s
unfolding status_characters weight_in
status_unvalued i n s = ap status_characters (sym (put-value i n s))

codes_unvalued : (i n : ℕ) (s : Record) → codes_on status_codes (put (value i) n s) ≡ codes_on status_codes s
unfolding codes_on
codes_unvalued i n s = ap (codes_on status_codes) (sym (put-value i n s))

-- no change names the address
address_stays : (cs : List Change) (r : Record) → Fitting cs → number_after address cs r ≡ get address r
unfolding number_after
address_stays [] r f = refl
address_stays (c ∷ cs) r f = unnamed c f.0 (λ g. number_after g cs r) ∙ address_stays cs r f.1
  where
    unnamed : (c : Change) → FitsRecord c → (w : Field → ℕ) → given c w address ≡ w address
    unnamed (becomes g n) h w = let l = h.1 in held_elsewhere g address n _ (λ z. omega arith)
    unnamed next_batch h w = refl
    unnamed reset_alarms h w = refl
    unnamed (new_value i n) h w = held_elsewhere (value i) address n _ (λ z. omega arith)

-- ---- read-back over two calls: the first an accepted write, the second of either kind with any buffer of 64 bytes or more
module _ (k k' : Kind) (r : Record) (q o o' : List ℕ) (heard : (call_of k r q o).silence ≡ 0) (ok : verdict (text_in k q) r ≡ tables.accepted)
    (room : 64 ≤ length o') where
  abbrev written : List ℕ
  written = text_in k q

  abbrev next : Record
  next = (call_of k r q o).after

  abbrev framed : List ℕ → List ℕ
  framed body = frame_of k' (digits 2 (get address r) ++ body)

  -- asked so, the second call shows this, with its bytes, and changes nothing
  abbrev pub Shows : List ℕ → List ℕ → Type 0
  Shows question shown =
      call_of k' next (framed question) o' ≡ record { silence = 0; reported = length (framed shown); after = next; buffer = over (framed shown) o' }

  -- the records before and after the write
  valid_before : valid r ≡ true
  valid_before = (is_answered k r q o heard).valid_record

  valid_next : valid next ≡ true
  valid_next = call_keeps_valid k r q o valid_before

  -- the parameter, the number and the changes of the write
  abbrev parameter : ℕ
  parameter = value_of (take 3 (drop 1 (behind_code written)))

  abbrev x : Arguments
  x = arguments_in written

  abbrev effect : List Change
  effect = (row_of (code_in written) commands).effect x

  -- what the write left, field by field
  left_so : (g : Field) → get g next ≡ number_after g effect r
  left_so g = ap (get g) (is_answered k r q o heard).next_record ∙ changes_exactly written r valid_before ok g

  left : (cs : List Change) → effect ≡ cs → (g : Field) → get g next ≡ number_after g cs r
  left cs e g = left_so g ∙ ap (λ (y : List Change). number_after g y r) e

  -- and as a whole
  next_so : (cs : List Change) → effect ≡ cs → next ≡ applied cs r
  unfolding record_after
  next_so cs e = (is_answered k r q o heard).next_record ∙ (ap (λ (v : Verdict). record_for v written r) ok ∙ ap (λ (y : List Change). applied y r) e)

  -- its code stands in the table and its arguments fit
  sound : Sound (code_in written) x
  sound = subst SoundAsked (accepted-asked written r ok) (asked_sound written)

  address_left : get address next ≡ get address r
  address_left = left_so address ∙ address_stays effect r (accepted-fits written r ok)

  -- what a read shows; no write changes the address
  shows_so : (question was shown : List ℕ) → AnswersAt k' next o' (get address next) question was → was ≡ shown → Shows question shown
  shows_so question was shown a w =
      let address_so : Shows question was = subst (λ (n : ℕ). AnswersAt k' next o' n question was) address_left a in
      subst (λ (y : List ℕ). Shows question y) w address_so

  -- ---- EQ, RS and EA after any write: the signs of the fields as it left them
  pub status_after : Shows (text "EQ") (status_by (λ g. number_after g effect r) characters)
  status_after = shows_so _ _ _ (status_read k' next o' valid_next room) (status_by_lem next (λ g. number_after g effect r) left_so)

  pub codes_after : Shows (text "RS") (text "RS " ++ codes_by (λ g. number_after g effect r) status_codes)
  codes_after =
      shows_so _ _ _ (codes_read k' next o' valid_next room)
      (ap (λ (y : List ℕ). text "RS " ++ y) (codes_by_lem next (λ g. number_after g effect r) left_so status_codes))

  pub alarms_after : Shows (text "EA") (alarm_characters (number_after alarms effect r))
  alarms_after = shows_so _ _ _ (alarms_read_lem k' next o' valid_next room) (ap alarm_characters (left_so alarms))

  -- ---- PC and XC name a parameter
  named_so : (d : ℕ) → code_in written ≡ d → (arguments_for d (behind_code written)).place ≡ place_for parameter → of (PV ∷ XV ∷ PC ∷ XC ∷ []) d ≡ true
      → place_of parameter ≡ Some x.place
  named_so d c e o = go (place_of parameter) refl
    where
      here : x.place ≡ place_for parameter
      here = ap (λ (y : ℕ). (arguments_for y (behind_code written)).place) c ∙ e

      go : (p : Option ℕ) → place_of parameter ≡ p → p ≡ Some x.place
      go (Some i) h = ap Some (sym (here ∙ ap place_number h))
      go None h =
          let z : x.place ≡ parameter_count = here ∙ ap place_number h in
          let l = sound.placed (ap (of (PV ∷ XV ∷ PC ∷ XC ∷ [])) c ∙ o) in
          absurd (omega arith)

  -- PC
  module _ (c : code_in written ≡ PC) where
    after_value : (g : Field) → get g next ≡ number_after g (new_value x.place x.number ∷ []) r
    unfolding row_of
    after_value = left (new_value x.place x.number ∷ []) (ap (λ (d : ℕ). (row_of d commands).effect x) c)

    new_value_lem : get (value x.place) next ≡ x.number
    unfolding number_after
    new_value_lem = after_value (value x.place) ∙ held_there (value x.place) x.number _

    pub value_after_value : Shows (text "PV " ++ digits 3 parameter) (parameter_shown (text "PV ") parameter 8 x.number)
    unfolding row_of
    value_after_value =
        shows_so _ _ _ (value_read k' next o' valid_next room parameter x.place (named_so PC c refl refl))
        (ap (λ (n : ℕ). parameter_shown (text "PV ") parameter 8 n) new_value_lem)

    pub composition_after_value : x.place ≡ factor_place (get recipe r) → Shows (text "RC") (composed (get recipe r) x.number)
    unfolding number_after
    composition_after_value e =
        let same : get recipe next ≡ get recipe r =
        after_value recipe ∙ held_elsewhere (value x.place) recipe x.number _ (λ z. omega arith) in
        let factor : get (value (factor_place (get recipe next))) next ≡ x.number =
        ap (λ (n : ℕ). get (value (factor_place n)) next) same ∙ (ap (λ (i : ℕ). get (value i) next) (sym e) ∙ new_value_lem) in
        shows_so _ _ _ (composition_read k' next o' valid_next room) (composition-same _ _ _ _ same factor)

    -- 02, L2: the value, and the flag "exactly if the value differs from the one held"; nothing else of the record is changed
    pub record_after-value : next ≡ replaced (value x.place) x.number changed r
    unfolding applied row_of
    record_after-value = next_so (new_value x.place x.number ∷ []) (ap (λ (d : ℕ). (row_of d commands).effect x) c)

    -- the value held: the record stays as it was, and so do EQ and RS
    module _ (same : get (value x.place) r ≡ x.number) where
      pub record_after-same : next ≡ r
      record_after-same =
          let l = sound.placed (ap (of (PV ∷ XV ∷ PC ∷ XC ∷ [])) c) in
          record_after-value ∙ replaced-same r (value x.place) changed x.number valid_before (omega arith) (omega arith) same

      pub status_after_same : Shows (text "EQ") (status_characters r)
      status_after_same = shows_so _ _ _ (status_read k' next o' valid_next room) (ap status_characters record_after-same)

      pub codes_after_same : Shows (text "RS") (text "RS " ++ codes_on status_codes r)
      codes_after_same = shows_so _ _ _ (codes_read k' next o' valid_next room) (ap (λ (s : Record). text "RS " ++ codes_on status_codes s) record_after-same)

    -- another: the value and the flag are new, and EQ and RS show the record as it was with the flag on
    module _ (other : get (value x.place) r ≡ x.number → ⊥) where
      pub record_after_other : next ≡ put (value x.place) x.number (put changed on r)
      record_after_other = record_after-value ∙ replaced_other r (value x.place) changed x.number other

      flagged : (g : Field) → get g (put changed on r) ≡ assigned changed on (λ f. get f r) g
      flagged = put_reads r valid_before (λ f. get f r) (λ g. refl) changed on on (omega arith) refl refl

      pub status_after_other : Shows (text "EQ") (status_by (assigned changed on (λ g. get g r)) characters)
      status_after_other =
          shows_so _ _ _ (status_read k' next o' valid_next room)
          (ap status_characters record_after_other ∙ (status_unvalued x.place x.number (put changed on r) ∙ status_by_lem (put changed on r) (assigned changed on (λ g. get g r)) flagged))

      pub codes_after_other : Shows (text "RS") (text "RS " ++ codes_by (assigned changed on (λ g. get g r)) status_codes)
      codes_after_other =
          shows_so _ _ _ (codes_read k' next o' valid_next room)
          (ap (λ (y : List ℕ). text "RS " ++ y)
          (ap (codes_on status_codes) record_after_other ∙ (codes_unvalued x.place x.number (put changed on r) ∙ codes_by_lem (put changed on r) (assigned changed on (λ g. get g r)) flagged status_codes)))

  -- XC
  module _ (c : code_in written ≡ XC) where
    pub level_after_level : Shows (text "XV " ++ digits 3 parameter) (parameter_shown (text "XV ") parameter 1 x.number)
    unfolding row_of number_after
    level_after_level =
        shows_so _ _ _ (level_read k' next o' valid_next room parameter x.place (named_so XC c refl refl))
        (ap (λ (n : ℕ). parameter_shown (text "XV ") parameter 1 n)
        (left ((level x.place ≔ x.number) ∷ []) (ap (λ (d : ℕ). (row_of d commands).effect x) c) (level x.place) ∙ held_there (level x.place) x.number _))

  -- NR
  module _ (c : code_in written ≡ NR) where
    after_recipe : (g : Field) → get g next ≡ number_after g ((recipe ≔ x.number) ∷ []) r
    unfolding row_of
    after_recipe = left ((recipe ≔ x.number) ∷ []) (ap (λ (d : ℕ). (row_of d commands).effect x) c)

    new_recipe : get recipe next ≡ x.number
    unfolding number_after
    new_recipe = after_recipe recipe

    pub recipe_after_recipe : Shows (text "RR") (text "RR " ++ digits 2 x.number)
    recipe_after_recipe = shows_so _ _ _ (recipe_read k' next o' valid_next room) (ap (λ (n : ℕ). text "RR " ++ digits 2 n) new_recipe)

    pub composition_after_recipe : Shows (text "RC") (composed x.number (get (value (factor_place x.number)) r))
    unfolding number_after
    composition_after_recipe =
        let f : Field = value (factor_place x.number) in
        let factor : get (value (factor_place (get recipe next))) next ≡ get f r =
        ap (λ (n : ℕ). get (value (factor_place n)) next) new_recipe ∙ (after_recipe f ∙ held_elsewhere recipe f x.number _ (λ z. omega arith)) in
        shows_so _ _ _ (composition_read k' next o' valid_next room) (composition-same _ _ _ _ new_recipe factor)

  -- SB
  module _ (c : code_in written ≡ SB) where
    after_batch : (g : Field) → get g next ≡ number_after g ((phase ≔ set) ∷ (preset ≔ x.number) ∷ (raw ≔ 0) ∷ (reset ≔ on) ∷ next_batch ∷ []) r
    unfolding row_of
    after_batch = left ((phase ≔ set) ∷ (preset ≔ x.number) ∷ (raw ≔ 0) ∷ (reset ≔ on) ∷ next_batch ∷ []) (ap (λ (d : ℕ). (row_of d commands).effect x) c)

    -- 9999 goes to 1
    pub number_after_batch : Shows (text "TN") (text "TN " ++ digits 4 (next_number (get number r)))
    unfolding number_after
    number_after_batch = shows_so _ _ _ (number_read k' next o' valid_next room) (ap (λ (n : ℕ). text "TN " ++ digits 4 n) (after_batch number))

    pub raw_after_batch : Shows (text "RT R") (text "RT R " ++ digits 8 0)
    unfolding number_after
    raw_after_batch = shows_so _ _ _ (raw_read k' next o' valid_next room) (ap (λ (n : ℕ). text "RT R " ++ digits 8 n) (after_batch raw))

  -- AR
  module _ (c : code_in written ≡ AR) where
    pub alarms_after_reset : Shows (text "EA") (alarm_characters (lasting (get alarms r)))
    unfolding row_of number_after
    alarms_after_reset =
        subst (λ (cs : List Change). Shows (text "EA") (alarm_characters (number_after alarms cs r))) (ap (λ (d : ℕ). (row_of d commands).effect x) c) alarms_after

    -- and nothing else of the record is changed
    pub record_after-reset : next ≡ alarms_reset r
    unfolding applied row_of
    record_after-reset = next_so (reset_alarms ∷ []) (ap (λ (d : ℕ). (row_of d commands).effect x) c)

-- ---- no call changes the address
pub address_kept : (k : Kind) (r : Record) (q o : List ℕ) → get address (call_of k r q o).after ≡ get address r
address_kept k r q o =
    after_call k r q o (λ s. get address s ≡ get address r) refl (λ a e. address_left k k r q o o a.heard e a.room)

-- ---- alarms that last are left by AR, and with them the record, whatever it replies
pub reset_keeps : (k : Kind) (r : Record) (q o : List ℕ) → code_in (text_in k q) ≡ AR → lasting (get alarms r) ≡ get alarms r → (call_of k r q o).after ≡ r
unfolding put
reset_keeps k r q o c l =
    after_call k r q o (λ s. s ≡ r) refl (λ a e. record_after-reset k k r q o o a.heard e a.room c ∙ ap (λ (n : ℕ). put alarms n r) l)

-- ---- the changed flag is not switched off by PC, whatever it replies
pub flag_stays : (k : Kind) (r : Record) (q o : List ℕ) → code_in (text_in k q) ≡ PC → get changed r ≡ on → get changed (call_of k r q o).after ≡ on
unfolding number_after
flag_stays k r q o c lit =
    after_call k r q o (λ s. get changed s ≡ on) lit (λ a e.
    let x : Arguments = arguments_in (text_in k q) in
    after_value k k r q o o a.heard e a.room c changed
    ∙ (held_elsewhere (value x.place) changed x.number _ (λ z. omega arith)
    ∙ (ap (flag_after (get (value x.place) r) x.number) lit ∙ pick_same (eqb (get (value x.place) r) x.number) on)))
