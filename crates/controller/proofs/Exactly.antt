-- When a call is silent and with which silence, and when it says NO and with which number, each as "if and only if", for any record,
-- kind of link, request bytes and reply buffer: first of whatever is held and whatever rows refuse, then of document 01's call. From the
-- bytes of a reply back to its row: a frame determines its text, no accepted reply begins with "N", and two digits determine a number
-- below 100. Assumes nothing.
use Prim.Native.Nat.{ℕ, zero, suc, ◌+◌, ◌/◌, ◌%◌, ◌<◌}
use mathlib.Core.Bool.{Bool, true, false, not, ◌&&◌}
use mathlib.Core.Path.{◌≡◌, refl, sym, ap, subst, ◌∙◌}
use mathlib.Core.List.{List, [], ◌∷◌, ◌++◌, map}
use mathlib.Core.Logic.{◌↔◌}
use native.Mathlib.Omega.{arith}
use lib.Dec.{eqb, leb, ltb}
use lib.ListN.{length, drop, get_or, length-map, get_or-map}
use lib.Seq.{drop_at}
use borrow.Author.Tests.{ltb-true, ne_eqb}
use Rattle.base.specs.Test.{unless, all_between, all_distinct}
use Rattle.base.proofs.FirstFailing.{FirstFailing, NoneFails, failing, not_both, failing_exactly, none_exactly}
use Rattle.base.proofs.Tests.{by_test, and_left, and_right, distinct_place}
use Rattle.base.specs.Text.{text}
use Rattle.state.specs.declared.Record.{Record}
use Rattle.state.specs.Alarm.{character_values}
use Rattle.state.specs.Field.{address, alarms, get}
use Rattle.state.specs.Valid.{valid}
use Rattle.frame.specs.declared.Kind.{Kind}
use Rattle.frame.specs.Frame.{all_text, names_unit, address_in, frame_of, text_in, within_limits, marks_right, check_right}
use Rattle.frame.proofs.RoundTrip.{frame_located}
use Rattle.text.specs.Word.{digits, value_of}
use Rattle.command.specs.Status.{first, weight_in, status_characters, alarm_characters}
use Rattle.command.specs.Commands.{Command, Arguments, code_in, printed, commands, row_of}
use Rattle.command.specs.Refusals.{Row, refusals, row_number, applies}
use Rattle.command.specs.Answer.{Verdict, NO, accepted, behind_code, arguments_in, first_of, verdict, refusal_text, reply_for, reply_text, record_after}
use Rattle.text.proofs.Printable.{Text, text_wider, text_joined, text-digits, text-labelled}
use Rattle.text.proofs.Words.{digits-length, value-digits}
use Rattle.command.proofs.Tables.{FirstAt, no_row, first_goes_out, by_first, none-applies}
use Rattle.command.proofs.Fits.{two_digits}
use Rattle.reply.proofs.Laws.{weights_high, longest}
use Rattle.controller.specs.Call.{OutcomeOf, reply_in, silent, answered, unless_silent, call_of}
use Rattle.controller.proofs.Theorems.{reply_legal, is_answered, refusal_keeps, row_goes_out}
use Rattle.controller.proofs.Buffers.{frame-shown}

-- ---- silence n if and only if test n is the first that fails, whatever is held

-- the tests of S1 to S8, in their order, of a unit with address a; `good` if what it holds is valid; so much reply room is lent
abbrev pub tests_of : Kind → Bool → ℕ → List ℕ → ℕ → List Bool
tests_of k good a q room =
    good ∷ leb 64 room ∷ within_limits k (length q) ∷ marks_right k q ∷ check_right k q ∷ all_text (text_in k q) ∷ names_unit (text_in k q)
    ∷ eqb (address_in (text_in k q)) a ∷ []

-- the number of the silence is the number of that test
pub outcome_failing : {S : Type 0} (k : Kind) (good : Bool) (a : ℕ) (s s' : S) (q o x : List ℕ) (c : OutcomeOf S)
    → c ≡ unless_silent (λ n. silent n s o) k good a q (length o) (answered k x s' o) → c.silence ≡ failing 1 (tests_of k good a q (length o))
outcome_failing {S} k good a s s' q o x c is = ap (λ (d : OutcomeOf S). d.silence) is ∙ simp silence-unless
  where
    silence-unless : (b : Bool) (x y : OutcomeOf S) → (unless b x y).silence ≡ unless b x.silence y.silence
    silence-unless true x y = refl
    silence-unless false x y = refl

module _ (bs : List Bool) (n : ℕ) (is : n ≡ failing 1 bs) where
  pub number_exactly : (i : ℕ) → n ≡ i + 1 ↔ FirstFailing bs i
  number_exactly i = subst (λ (m : ℕ). m ≡ i + 1 ↔ FirstFailing bs i) (sym is) (failing_exactly bs i)

  pub zero_exactly : n ≡ 0 ↔ NoneFails bs
  zero_exactly = subst (λ (m : ℕ). m ≡ 0 ↔ NoneFails bs) (sym is) (none_exactly bs)

-- of document 01's call
abbrev pub tests : Kind → Record → List ℕ → List ℕ → List Bool
tests k r q o = tests_of k (valid r) (get address r) q (length o)

module _ (k : Kind) (r : Record) (q o : List ℕ) where
  pub silence_failing : (call_of k r q o).silence ≡ failing 1 (tests k r q o)
  unfolding call_of
  silence_failing = outcome_failing k (valid r) (get address r) r (record_after (text_in k q) r) q o (reply_text (text_in k q) r) (call_of k r q o) refl

  pub silence_exactly : (i : ℕ) → (call_of k r q o).silence ≡ i + 1 ↔ FirstFailing (tests k r q o) i
  silence_exactly = number_exactly (tests k r q o) (call_of k r q o).silence silence_failing

  pub heard_exactly : (call_of k r q o).silence ≡ 0 ↔ ((j : ℕ) → get_or (tests k r q o) j true ≡ true)
  heard_exactly = zero_exactly (tests k r q o) (call_of k r q o).silence silence_failing

  -- a valid record never meets S1
  pub never_first : valid r ≡ true → (call_of k r q o).silence ≡ 1 → ⊥
  never_first v e = not_both (valid r) v ((silence_exactly 0).0 e).fails

-- ---- no accepted reply begins with "N"

-- EQ's first character is 0x3f at most, and so is EA's
status_begins : (r : Record) → eqb (0x30 + weight_in r first) 0x4e ≡ false
status_begins r = ne_eqb (0x30 + weight_in r first) 0x4e (λ e. omega (arith, weights_high r first))

alarms_begin : (n : ℕ) → eqb (0x30 + n / 32768 % 16) 0x4e ≡ false
alarms_begin n = ne_eqb (0x30 + n / 32768 % 16) 0x4e (λ e. omega arith)

-- a text does not begin with "N"
abbrev pub not_n : List ℕ → Bool
not_n t = not (eqb (get_or t 0 0) 0x4e)

-- nor does the reply of any row
abbrev all_not_n : List Command → Arguments → Record → Bool
all_not_n [] x r = true
all_not_n (c ∷ cs) x r = not_n (printed (c.reply x) r) && all_not_n cs x r

commands-not-N : (x : Arguments) (r : Record) → all_not_n commands x r ≡ true
unfolding status_characters alarm_characters character_values
commands-not-N x r = simp (status_begins r, alarms_begin (get alarms r))

row_not-N : (code : ℕ) (cs : List Command) (x : Arguments) (r : Record) → all_not_n cs x r ≡ true → not_n (printed ((row_of code cs).reply x) r) ≡ true
unfolding row_of
row_not-N code [] x r h = refl
row_not-N code (c ∷ cs) x r h =
    by_test (eqb code c.code) (λ e. simp e (and_left (not_n (printed (c.reply x) r)) (all_not_n cs x r) h))
    (λ e. simp e (row_not-N code cs x r (and_right (not_n (printed (c.reply x) r)) (all_not_n cs x r) h)))

-- ---- the rows of a table

-- every row's number has two digits
number_below : (rows : List Row) (i : ℕ) → two_digits rows ≡ true → row_number (get_or rows i no_row) < 100
number_below [] i h = omega arith
number_below (row ∷ rows) zero h = ltb-true (row_number row) 100 (and_left (ltb (row_number row) 100) (two_digits rows) h)
number_below (row ∷ rows) (suc i) h = number_below rows i (and_right (ltb (row_number row) 100) (two_digits rows) h)

-- no two rows have the same number
pub one_row_of : (rows : List Row) → all_distinct (map row_number rows) ≡ true → (i j : ℕ) → i < length rows → j < length rows
    → row_number (get_or rows i no_row) ≡ row_number (get_or rows j no_row) → i ≡ j
one_row_of rows h i j l m e =
    distinct_place (row_number no_row) (map row_number rows) h i j (omega (arith, length-map rows row_number)) (omega (arith, length-map rows row_number))
    (get_or-map row_number rows i no_row ∙ (e ∙ sym (get_or-map row_number rows j no_row)))

pub one_row : (i j : ℕ) → i < length refusals → j < length refusals → row_number (get_or refusals i no_row) ≡ row_number (get_or refusals j no_row) → i ≡ j
unfolding all_distinct
one_row = one_row_of refusals refl

-- row n's own condition holds and no earlier row's does
abbrev pub FirstOf : List Row → List ℕ → Record → ℕ → Type 0
FirstOf rows t r n = (i : ℕ) × FirstAt rows (code_in t) (behind_code t) r i × (row_number (get_or rows i no_row) ≡ n)

-- no row's condition holds
abbrev pub NoneOf : List Row → List ℕ → Record → Type 0
NoneOf rows t r = (j : ℕ) → j < length rows → applies (get_or rows j no_row) (code_in t) (behind_code t) r ≡ false

-- ---- the bytes of a reply tell the verdict

-- the frame of the address digits, "NO" and two digits
abbrev pub no_frame_of : Kind → ℕ → ℕ → List ℕ
no_frame_of k a n = frame_of k (digits 2 a ++ refusal_text n)

no_legal : (a n : ℕ) → Text 4 (2 + longest) (digits 2 a ++ refusal_text n)
unfolding all_between
no_legal a n =
    text_wider _ _ _ _ _ (omega arith) (omega arith) (text_joined _ _ _ _ (digits 2 a) _ (text-digits 2 a) (text-labelled (text "NO") 2 n refl))

-- a frame determines its text
pub frame_same : (k : Kind) (s t : List ℕ) → Text 4 (2 + longest) s → Text 4 (2 + longest) t → frame_of k s ≡ frame_of k t → s ≡ t
frame_same k s t f g e = sym (read s f) ∙ (ap (text_in k) e ∙ read t g)
  where
    read : (x : List ℕ) → Text 4 (2 + longest) x → text_in k (frame_of k x) ≡ x
    read x h = (frame_located k x h.low (omega (arith, h.high)) h.bytes).1

-- what the bytes of a reply to a text tell of the rows
pub record Tells (rows : List Row) (t : List ℕ) (r : Record) (k : Kind) (a : ℕ) (bytes : List ℕ) : Type 0 where
  pub verdict : (n : ℕ) → n < 100 → bytes ≡ no_frame_of k a n ↔ first_of rows (code_in t) (behind_code t) r ≡ NO n
  -- NO n goes out if and only if row n's own condition holds and no earlier row's does
  pub row : (n : ℕ) → n < 100 → bytes ≡ no_frame_of k a n ↔ FirstOf rows t r n
  -- what goes out is no NO if and only if no row applies
  pub none : NoneOf rows t r ↔ ((n : ℕ) → n < 100 → bytes ≡ no_frame_of k a n → ⊥)

-- a request with text t that is answered by the first of some rows: a reply that is no NO does not begin with "N"
module _ (rows : List Row) (two : two_digits rows ≡ true) (t : List ℕ) (r : Record) (reply : Verdict → List ℕ)
    (refuses : (n : ℕ) → reply (NO n) ≡ refusal_text n) (other : not_n (reply accepted) ≡ true) where
  abbrev decided : Verdict
  decided = first_of rows (code_in t) (behind_code t) r

  decided_below : (n : ℕ) → decided ≡ NO n → n < 100
  decided_below n e = let (i, f, m) = by_first (code_in t) (behind_code t) r rows n e in omega (arith, number_below rows i two)

  -- the reply determines the verdict
  reply-verdict : (n : ℕ) → n < 100 → reply decided ≡ refusal_text n → decided ≡ NO n
  reply-verdict n l = go decided refl
    where
      go : (v : Verdict) → decided ≡ v → reply v ≡ refusal_text n → decided ≡ NO n
      go (NO m) e p =
          let same : value_of (digits 2 m) ≡ value_of (digits 2 n) = ap (λ (x : List ℕ). value_of (drop 2 x)) (sym (refuses m) ∙ p) in
          e ∙ ap NO (sym (value-digits 2 m (decided_below m e)) ∙ (same ∙ value-digits 2 n l))
      go accepted e p = not_both (not_n (reply accepted)) other (ap not_n p)

  module _ (k : Kind) (a : ℕ) (legal : Text 4 (2 + longest) (digits 2 a ++ reply decided)) (bytes : List ℕ) (sent : bytes ≡ frame_of k (digits 2 a ++ reply decided)) where
    verdict-told : (n : ℕ) → n < 100 → bytes ≡ no_frame_of k a n ↔ decided ≡ NO n
    verdict-told n l =
        let behind : (x : List ℕ) → drop 2 (digits 2 a ++ x) ≡ x = λ x. drop_at (digits 2 a) x 2 (digits-length 2 a) in (
          λ e.
              let same : digits 2 a ++ reply decided ≡ digits 2 a ++ refusal_text n = frame_same k _ _ legal (no_legal a n) (sym sent ∙ e) in
              reply-verdict n l (sym (behind _) ∙ (ap (drop 2) same ∙ behind _)),
          λ v. sent ∙ (ap (λ (x : Verdict). frame_of k (digits 2 a ++ reply x)) v ∙ ap (λ (x : List ℕ). frame_of k (digits 2 a ++ x)) (refuses n)),
        )

    row_told : (n : ℕ) → n < 100 → bytes ≡ no_frame_of k a n ↔ FirstOf rows t r n
    row_told n l = (
      λ e. by_first (code_in t) (behind_code t) r rows n ((verdict-told n l).0 e),
      λ (i, f, e). (verdict-told n l).1 (first_goes_out (code_in t) (behind_code t) r rows i f ∙ ap NO e),
    )

    none_told : NoneOf rows t r ↔ ((n : ℕ) → n < 100 → bytes ≡ no_frame_of k a n → ⊥)
    none_told = (
      λ none n l e. let (i, f, m) = (row_told n l).0 e in not_both (applies (get_or rows i no_row) (code_in t) (behind_code t) r) f.holds (none i f.listed),
      λ others. go others decided refl,
    )
      where
        go : ((n : ℕ) → n < 100 → bytes ≡ no_frame_of k a n → ⊥) → (v : Verdict) → decided ≡ v → NoneOf rows t r
        go others (NO n) e = let l = decided_below n e in absurd (others n l ((verdict-told n l).1 e))
        go others accepted e = none-applies (code_in t) (behind_code t) r rows e

    pub tells : Tells rows t r k a bytes
    tells = record { verdict = verdict-told; row = row_told; none = none_told }

-- ---- of document 01's call: NO n goes out if and only if row n's own condition holds and no earlier row's does
abbrev pub no_frame : Kind → Record → ℕ → List ℕ
no_frame k r n = no_frame_of k (get address r) n

-- what the call put at the start of the buffer
abbrev pub sent : Kind → Record → List ℕ → List ℕ → List ℕ
sent k r q o = reply_in (call_of k r q o)

abbrev pub RowFirst : List ℕ → Record → ℕ → Type 0
RowFirst t r n = FirstOf refusals t r n

-- the reply of an accepted request does not begin with "N"
pub accepted-not-N : (t : List ℕ) (r : Record) → not_n (reply_for accepted t r) ≡ true
accepted-not-N t r = row_not-N (code_in t) commands (arguments_in t) r (commands-not-N (arguments_in t) r)

module _ (k : Kind) (r : Record) (q o : List ℕ) (heard : (call_of k r q o).silence ≡ 0) where
  pub sent_frame : sent k r q o ≡ frame_of k (reply_text (text_in k q) r)
  sent_frame = frame-shown (is_answered k r q o heard)

  sent_tells : Tells refusals (text_in k q) r k (get address r) (sent k r q o)
  unfolding verdict reply_text
  sent_tells =
      tells refusals refl (text_in k q) r (λ v. reply_for v (text_in k q) r) (λ n. refl) (accepted-not-N (text_in k q) r) k (get address r) (reply_legal (text_in k q) r)
      (sent k r q o) sent_frame

  pub no_exactly : (n : ℕ) → n < 100 → sent k r q o ≡ no_frame k r n ↔ RowFirst (text_in k q) r n
  no_exactly = sent_tells.row

  -- and then the record stays as it was
  pub no_keeps : (n : ℕ) → RowFirst (text_in k q) r n → (call_of k r q o).after ≡ r
  no_keeps n (i, f, e) = (is_answered k r q o heard).next_record ∙ refusal_keeps (text_in k q) r (row_number (get_or refusals i no_row)) (row_goes_out (text_in k q) r i f)

  pub no_sent_keeps : (n : ℕ) → n < 100 → sent k r q o ≡ no_frame k r n → (call_of k r q o).after ≡ r
  no_sent_keeps n l e = no_keeps n ((no_exactly n l).0 e)

  -- no row applies if and only if what goes out is no NO
  pub accepted_exactly : NoneOf refusals (text_in k q) r ↔ ((n : ℕ) → n < 100 → sent k r q o ≡ no_frame k r n → ⊥)
  accepted_exactly = sent_tells.none
