-- What the statement of demand 3 allows and what it excludes, on small recordings that a statement without one of its clauses judges
-- otherwise. Where a record fits, it is named and the calls are computed; where none fits, the laws of every call tell it. Assumes nothing.
use Prim.Native.Nat.{ℕ, zero, suc, ◌≤◌, ◌<◌}
use mathlib.Core.Bool.{Bool, true, false, ◌||◌}
use mathlib.Core.Path.{◌≡◌, refl, sym, ap, subst, ◌∙◌}
use mathlib.Core.List.{List, [], ◌∷◌, ◌++◌}
use native.Mathlib.Omega.{arith}
use lib.Dec.{ltb}
use lib.ListN.{length, take, drop, get_or, replicate}
use Rattle.base.specs.Text.{text}
use Rattle.base.specs.Test.{all_between}
use Rattle.base.specs.Lists.{over}
use Rattle.state.specs.declared.Record.{Record}
use Rattle.state.specs.Parameter.{place_in, place_of, range_at}
use Rattle.state.specs.Field.{address, access, recipe, level, get, put}
use Rattle.state.specs.Valid.{all_in, valid}
use Rattle.frame.specs.declared.Kind.TheVariants.{Minicomputer}
use Rattle.frame.specs.Frame.{names_unit, address_in, xor_from, frame_of, text_in, within_limits, marks_right, check_right}
use Rattle.base.proofs.Lists.{over-take}
use Rattle.text.specs.Word.{digits, value_from, equal}
use Rattle.command.specs.Status.{weight_in, status_characters}
use Rattle.command.specs.Commands.{code_in, digits_between, formed, applied, row_of, batch_asked}
use Rattle.command.specs.Answer.{Verdict, NO, arguments_in, first_of, verdict, reply_for, reply_text, record_after}
use Rattle.command.specs.Answer as answer
use Rattle.command.specs.Bench.{bench}
use Rattle.controller.specs.Call.{Outcome, call_of}
use Rattle.controller.specs.Worked.{check, framed}
use Rattle.banked.specs.Banked.{asks_heard}
use Rattle.controller.proofs.ReadBack.{AnswersAt, status_read}
use Rattle.controller.proofs.Theorems.{Answered, is_reported, accepted_by_none, recipe_after_recipe}
use Rattle.recording.specs.Form.{Exchange, Recording, J, exchanges_in, recording_of}
use Rattle.recording.specs.Replay.{Answer, fits, refuted, not_judged, AllAgree, before_asked, Right}
use Rattle.recording.specs.Alone.{AgreesIn, Agrees, next, Start, Fits}
use Rattle.recording.specs.Statement as statement
use Rattle.recording.specs.Statement.{Judgement, refused, judged, RightOf, Demand3}
use Rattle.recording.proofs.Unseen.{right_beside}
use Rattle.recording.proofs.Consequences.{prefix, one_answer, one_judgement, one_buffer-alone}

infix 70 ◌gets◌
abbrev pub ◌gets◌ : List ℕ → List ℕ → Exchange
q gets a = record { request = q; reply = a }

-- asked q at address a, the reply was b
abbrev pub asks : ℕ → List ℕ → List ℕ → Exchange
asks a q b = frame_of Minicomputer (digits 2 a ++ q) gets frame_of Minicomputer (digits 2 a ++ b)

-- a byte of what is shown, behind the first byte and the address digits
pub shown_at : (a i : ℕ) (s : List ℕ) → 0 < get_or s i 0 → get_or (frame_of Minicomputer (digits 2 a ++ s)) (suc (suc (suc i))) 0 ≡ get_or s i 0
unfolding frame_of digits
shown_at a i s h = go _ s i h
  where
    go : (rest s : List ℕ) (i : ℕ) → 0 < get_or s i 0 → get_or (s ++ rest) i 0 ≡ get_or s i 0
    go rest [] i h = absurd (omega arith)
    go rest (b ∷ s) zero h = refl
    go rest (b ∷ s) (suc i) h = go rest s i h

-- ---- recordings that some record fits

-- all of the exchanges agree with a buffer of zeros
abbrev AllIn : Record → List Exchange → Type 0
AllIn r es = AllAgree next (λ s e. AgreesIn s e (replicate 64 0)) r es

-- what agrees with one buffer agrees with any
any_buffer : (r : Record) (es : List Exchange) → AllIn r es → AllAgree next Agrees r es
any_buffer r [] h = tt
any_buffer r (e ∷ es) h = (one_buffer-alone r e (replicate 64 0) refl h.0, any_buffer (next r e) es h.1)

fit_by : (r : Record) (es : List Exchange) → valid r ≡ true → AllIn r es → Fits (get address r) (get access r) es
fit_by r es v h = (r, record { valid_record = v; same_address = refl; same-access = refl }, any_buffer r es h)

-- a recipe that is set is shown afterwards, and another before
abbrev pub recipe_kept : List Exchange
recipe_kept = (framed "01RR" gets framed "01RR 03") ∷ (framed "01NR 04" gets framed "01OK") ∷ (framed "01RR" gets framed "01RR 04") ∷ []

-- two exchanges, the second of which shows another recipe than the one just set
abbrev pub recipe_lost : List Exchange
recipe_lost = (framed "01NR 03" gets framed "01OK") ∷ (framed "01RR" gets framed "01RR 04") ∷ []

-- a frame of no bytes and one to another address that met silence
abbrev pub silences : List Exchange
silences = ([] gets []) ∷ (framed "02EQ" gets []) ∷ []

-- a level that is set to 3
abbrev pub level-raised : List Exchange
level-raised = (framed "01XC 011 3" gets framed "01OK") ∷ []

pub some_fit : Fits 1 2 recipe_kept × Fits 1 2 (take 1 recipe_lost) × Fits 1 2 (drop 1 recipe_lost) × Fits 1 2 silences × Fits 1 3 level-raised
unfolding check bench call_of valid all_in range_at place_of place_in within_limits marks_right check_right xor_from text_in all_between names_unit address_in frame_of over reply_text record_after verdict first_of code_in formed digits_between value_from row_of digits applied put
some_fit = (
  fit_by bench recipe_kept refl ((refl, refl), ((refl, refl), ((refl, refl), tt))),
  fit_by bench (take 1 recipe_lost) refl ((refl, refl), tt),
  fit_by (put recipe 4 bench) (drop 1 recipe_lost) refl ((refl, refl), tt),
  fit_by bench silences refl ((refl, refl), ((refl, refl), tt)),
  fit_by (put access 3 bench) level-raised refl ((refl, refl), tt),
)

-- ---- what an answered call tells of the recorded reply

-- the frame that goes out is the one that was recorded
pub heard-frame : (r : Record) (e : Exchange) (o f : List ℕ) (s : Record)
    → call_of Minicomputer r e.request o ≡ record { silence = 0; reported = length f; after = s; buffer = over f o } → AgreesIn r e o → f ≡ e.reply
heard-frame r e o f s c h = sym (over-take f o (length f) refl) ∙ (sym (ap (λ (x : Outcome). take x.reported x.buffer) c) ∙ h.1)

-- EQ at the record's address
pub status_at : (r : Record) (a : ℕ) (o : List ℕ) → valid r ≡ true → get address r ≡ a → 64 ≤ length o
    → AnswersAt Minicomputer r o a (text "EQ") (status_characters r)
status_at r a o v i l = subst (λ (n : ℕ). AnswersAt Minicomputer r o n (text "EQ") (status_characters r)) i (status_read Minicomputer r o v l)

status-heard : (r : Record) (a : List ℕ) → valid r ≡ true → get address r ≡ 1 → Agrees r (framed "01EQ" gets a)
    → frame_of Minicomputer (digits 2 1 ++ status_characters r) ≡ a
unfolding frame_of xor_from digits check
status-heard r a v i h = let o : List ℕ = replicate 64 0 in heard-frame r (framed "01EQ" gets a) o _ r (status_at r 1 o v i (omega arith)) (h o refl)

-- ---- recordings that no record fits

-- a sound request to the address that met silence
abbrev pub unanswered : Exchange
unanswered = framed "01EQ" gets []

pub silence-refuted : (c : ℕ) → Fits 1 c (unanswered ∷ []) → ⊥
unfolding frame_of
silence-refuted c h =
    let (r, s, a) = h in
    let e : frame_of Minicomputer (digits 2 1 ++ status_characters r) ≡ [] = status-heard r [] s.valid_record s.same_address a.0 in
    let z = ap length e in
    omega arith

-- a reply of the right length whose fifth status character is not 0
pub bytes-refuted : (c : ℕ) → Fits 1 c ((framed "01EQ" gets framed "01000010") ∷ []) → ⊥
unfolding frame_of weight_in status_characters digits
bytes-refuted c h =
    let (r, s, a) = h in
    let z = ap (λ (f : List ℕ). get_or f 7 0) (status-heard r (framed "01000010") s.valid_record s.same_address a.0) in
    omega arith

-- a frame of no bytes that was answered
pub answer-refuted : (a c x : ℕ) (xs : List ℕ) → Fits a c (([] gets (x ∷ xs)) ∷ []) → ⊥
unfolding call_of within_limits
answer-refuted a c x xs h =
    let (r, s, g) = h in
    let z : 0 ≡ length (x ∷ xs) = simp s.valid_record at (g.0 (replicate 64 0) refl).0 in
    omega arith

-- a call that reports the length of OK is answered, and with OK: NO is of 10 bytes
module _ (r : Record) (q o : List ℕ) (h : (call_of Minicomputer r q o).reported ≡ 8) where
  pub answered : Answered Minicomputer r q o
  answered = is_reported Minicomputer r q o (omega arith)

  pub accepted_so : verdict (text_in Minicomputer q) r ≡ answer.accepted
  unfolding reply_text frame_of digits
  accepted_so = go (verdict (text_in Minicomputer q) r) refl (sym answered.size ∙ h)
    where
      go : (x : Verdict) → verdict (text_in Minicomputer q) r ≡ x
          → length (frame_of Minicomputer (digits 2 (get address r) ++ reply_for x (text_in Minicomputer q) r)) ≡ 8
          → verdict (text_in Minicomputer q) r ≡ answer.accepted
      go (NO n) e z = absurd (omega arith)
      go answer.accepted e z = e

-- one of two tests holds
second_holds : (b : Bool) → (b || true) ≡ false → ⊥
second_holds true e = let z : ◌≡◌ {A = ℕ} 0 1 = cc in omega arith
second_holds false e = let z : ◌≡◌ {A = ℕ} 0 1 = cc in omega arith

-- a level above the access that was set
pub level-refuted : Fits 1 2 level-raised → ⊥
unfolding text_in code_in row_of value_from
level-refuted h =
    let (r, s, g) = h in
    let q : List ℕ = framed "01XC 011 3" in
    let ok = accepted_so r q (replicate 64 0) (g.0 (replicate 64 0) refl).0 in
    let t : List ℕ = text_in Minicomputer q in
    second_holds (ltb 2 (get (level (arguments_in t).place) r)) (simp s.same-access at (accepted_by_none t r ok 7 (omega arith)))

-- each of two exchanges fits alone, as above, but not the one after the other
pub lost_refuted : (c : ℕ) → Fits 1 c recipe_lost → ⊥
unfolding text_in code_in row_of value_from frame_of xor_from digits check
lost_refuted c h =
    let (r, s, g) = h in
    let q : List ℕ = framed "01NR 03" in
    let o : List ℕ = replicate 64 0 in
    let told = (g.0 o refl).0 in
    let after : Record = next r (q gets framed "01OK") in
    let shown = recipe_after_recipe Minicomputer Minicomputer r q o o (answered r q o told).heard (accepted_so r q o told) (omega arith) refl in
    let answers : AnswersAt Minicomputer after o 1 (text "RR") (text "RR " ++ digits 2 3) =
    subst (λ (n : ℕ). AnswersAt Minicomputer after o n (text "RR") (text "RR " ++ digits 2 3)) s.same_address shown in
    let z = ap (λ (f : List ℕ). get_or f 7 0) (heard-frame after (framed "01RR" gets framed "01RR 04") o _ after answers (g.1.0 o refl)) in
    omega arith

-- ---- the one right answer
module _ (a c : ℕ) (es : List Exchange) (x : Answer) where
  abbrev pub Only : Type 0
  Only = Right (statement.asks a) (statement.Fits a c) es x × ((y : Answer) → Right (statement.asks a) (statement.Fits a c) es y → y ≡ x)

  pub only : Right (statement.asks a) (Fits a c) es x → Only
  only h =
      let g = right_beside a c es x h in
      (g, λ y i. one_answer (statement.next statement.called) (statement.Agrees statement.called) (statement.Start a c) (statement.asks a) es y x i g)

pub kept_answer : Only 1 2 recipe_kept (fits 3)
unfolding before_asked asks_heard batch_asked check text_in code_in frame_of within_limits marks_right check_right xor_from all_between names_unit address_in
kept_answer = only 1 2 recipe_kept (fits 3) (refl, refl, some_fit.0)

pub lost_answer : Only 1 2 recipe_lost (refuted 2 2)
unfolding before_asked asks_heard batch_asked check text_in code_in frame_of within_limits marks_right check_right xor_from all_between names_unit address_in
lost_answer = only 1 2 recipe_lost (refuted 2 2) (refl, omega arith, omega arith, some_fit.1, lost_refuted 2)

nothing-fits : Fits 1 2 []
nothing-fits = prefix next Agrees (Start 1 2) recipe_kept some_fit.0 0

-- what comes after the first that does not agree changes nothing
pub unanswered-answer : Only 1 2 (unanswered ∷ unanswered ∷ []) (refuted 1 2)
unfolding before_asked asks_heard batch_asked check text_in code_in frame_of within_limits marks_right check_right xor_from all_between names_unit address_in
unanswered-answer = only 1 2 (unanswered ∷ unanswered ∷ []) (refuted 1 2) (refl, omega arith, omega arith, nothing-fits, silence-refuted 2)

-- ---- 02, L7: a kept batch that is asked for

-- in a good frame, and with a wrong check, which meets silence
abbrev pub batch_asked_lem : Exchange
batch_asked_lem = framed "01RT R 001" gets framed "01RT R 00000500 001"

abbrev pub batch_unheard : Exchange
batch_unheard = (0x02 ∷ (text "01RT R 001" ++ (0x03 ∷ 0x00 ∷ 0x7f ∷ []))) gets []

-- "not judged at I", whatever was replied and whatever comes behind it
pub asked-answer : Only 1 2 (batch_asked_lem ∷ unanswered ∷ []) (not_judged 1 2)
unfolding before_asked asks_heard batch_asked check text_in code_in frame_of within_limits marks_right check_right xor_from all_between names_unit address_in equal digits_between
asked-answer = only 1 2 (batch_asked_lem ∷ unanswered ∷ []) (not_judged 1 2) (refl, refl, omega arith, nothing-fits)

-- "unless the exchanges before it, taken alone, are refuted .. (N counting all)"
pub asked_behind_answer : Only 1 2 (unanswered ∷ batch_asked_lem ∷ []) (refuted 1 2)
unfolding before_asked asks_heard batch_asked check text_in code_in frame_of within_limits marks_right check_right xor_from all_between names_unit address_in equal digits_between
asked_behind_answer = only 1 2 (unanswered ∷ batch_asked_lem ∷ []) (refuted 1 2) (refl, omega arith, omega arith, nothing-fits, silence-refuted 2)

-- one that is silent is judged
unheard_fits : Fits 1 2 (batch_unheard ∷ [])
unfolding check bench call_of valid all_in range_at place_of place_in within_limits marks_right check_right xor_from text_in all_between
unheard_fits = fit_by bench (batch_unheard ∷ []) refl ((refl, refl), tt)

pub unheard_answer : Only 1 2 (batch_unheard ∷ []) (fits 1)
unfolding before_asked asks_heard batch_asked check text_in code_in frame_of within_limits marks_right check_right xor_from all_between names_unit address_in equal digits_between
unheard_answer = only 1 2 (batch_unheard ∷ []) (fits 1) (refl, refl, unheard_fits)

-- of a recording's bytes
abbrev pub OnlyOf : List ℕ → Judgement → Type 0
OnlyOf bs j = Demand3 bs j × ((i : Judgement) → Demand3 bs i → i ≡ j)

only_of : (bs : List ℕ) (j : Judgement) → Demand3 bs j → OnlyOf bs j
only_of bs j h = (h, λ i g. one_judgement bs i j g h)

-- no exchange at all
abbrev pub empty_recording : List ℕ
empty_recording = 0x01 ∷ 0x00 ∷ 0x05 ∷ 0x01 ∷ 0x02 ∷ []

pub empty_judged : OnlyOf empty_recording (judged (fits 0))
unfolding recording_of exchanges_in before_asked
empty_judged = only_of empty_recording (judged (fits 0)) (right_beside 1 2 [] (fits 0) (refl, refl, nothing-fits))

-- EQ that met silence, at address 1 and access 2
abbrev pub silence_recording : List ℕ
silence_recording = 0x01 ∷ 0x00 ∷ 0x0f ∷ 0x01 ∷ 0x02 ∷ 0x08 ∷ (framed "01EQ" ++ (0x00 ∷ []))

pub silence-judged : OnlyOf silence_recording (judged (refuted 1 1))
unfolding recording_of exchanges_in check before_asked asks_heard batch_asked text_in code_in frame_of within_limits marks_right check_right xor_from all_between names_unit address_in
silence-judged = only_of silence_recording (judged (refuted 1 1)) (right_beside 1 2 (unanswered ∷ []) (refuted 1 1) (refl, omega arith, omega arith, nothing-fits, silence-refuted 2))

-- what is not well-formed is refused with its number
pub refusal-judged : (bs : List ℕ) (n : ℕ) → recording_of bs ≡ J n → OnlyOf bs (refused n)
refusal-judged bs n e = only_of bs (refused n) (subst (λ (x : Recording). RightOf x (refused n)) (sym e) refl)
