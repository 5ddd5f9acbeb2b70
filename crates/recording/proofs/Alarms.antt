-- Document 02, L1, on the judge, proved of the statement of demand 3: an alarm in EQ after an accepted AR is a lasting one and no further AR
-- takes it off; after an alarm in EQ and an accepted AR any of the lasting may be on, or none; and what an answer to SA tells of the alarms.
-- AR leaves a record whose alarms last as it was. Where a record fits, it is the bench record with another address, access and alarms, and
-- the laws of every call tell its replies. Assumes nothing.
use Prim.Native.Nat.{ℕ, ◌+◌, ◌≤◌, ◌<◌}
use mathlib.Core.Bool.{Bool, true, false, not}
use mathlib.Core.Path.{◌≡◌, refl, sym, ap, subst, ◌∙◌}
use mathlib.Core.List.{List, [], ◌∷◌, ◌++◌, map}
use native.Mathlib.Omega.{arith}
use lib.Dec.{eqb}
use lib.ListN.{length, take, drop, get_or, replicate}
use borrow.Author.Tests.{eqb-true, eqb-false, eq-eqb, not-true, not-false}
use Rattle.base.specs.Text.{text}
use Rattle.base.specs.Test.{pick, member}
use Rattle.base.proofs.Tests.{by_test, between_yes}
use Rattle.base.proofs.Lists.{over-take}
use Rattle.state.specs.declared.Record.{Record}
use Rattle.state.specs.Parameter.{place_in, place_of, range_at}
use Rattle.state.specs.Alarm.{weight_of, no_alarm, all_alarms, lasting}
use Rattle.state.specs.Field.{address, access, phase, keypad, alarms, field_range, get, put, flag_number, on, off}
use Rattle.state.specs.Valid.{within, all_in, valid}
use Rattle.state.specs.Event.{set, stopped, alarms_reset}
use Rattle.state.proofs.Alarms.{lasting_again, lasting_limit, overrun_lasts, user_alarm_resets}
use Rattle.state.proofs.Kept.{put_kept}
use Rattle.frame.specs.declared.Kind.TheVariants.{Minicomputer}
use Rattle.frame.specs.Frame.{frame_of, text_in}
use Rattle.text.specs.Word.{digits}
use Rattle.command.specs.Status.{third as third_bits, weight_in, status_characters, alarm_characters}
use Rattle.command.specs.Commands.{EQ, AR, EA, code_in}
use Rattle.command.specs.Refusals.{refusals}
use Rattle.command.specs.Answer.{behind_code}
use Rattle.command.specs.Bench.{bench}
use Rattle.command.proofs.Tables.{FirstAt}
use Rattle.controller.specs.Call.{Outcome}
use Rattle.controller.proofs.ReadBack.{LeavesAt, AnswersAt, alarms_read_lem, reset_served}
use Rattle.controller.proofs.Theorems.{is_reported, call_keeps_valid, accepted_by_none, record_after-reset, reset_keeps}
use Rattle.controller.proofs.Exactly.{one_row, no_exactly}
use Rattle.recording.specs.Form.{Exchange}
use Rattle.recording.specs.Replay.{refuted, AllAgree, before_asked, NoneAsked}
use Rattle.recording.specs.Alone.{Agrees, next, Start}
use Rattle.recording.specs.Alone as alone
use Rattle.recording.specs.Statement as statement
use Rattle.recording.specs.Statement.{Fits}
use Rattle.recording.proofs.Asked.{quiet_more, quiet_none}
use Rattle.recording.proofs.Unseen.{not-asked, fits-alone, fits-beside}
use Rattle.recording.proofs.Bites.{◌gets◌, asks, shown_at, heard-frame, status_at, answered, accepted_so, Only, only}

-- ---- an alarm in EQ after an accepted AR is a lasting one and no further AR takes it off

-- further ARs, and what was replied to them
abbrev pub resets : ℕ → List (List ℕ) → List Exchange
resets a replies = map (λ (b : List ℕ). frame_of Minicomputer (digits 2 a ++ text "AR") gets b) replies

-- an accepted AR, an EQ, further ARs, whatever was replied to them, and one exchange more
abbrev pub behind_reset : ℕ → List ℕ → List (List ℕ) → Exchange → List Exchange
behind_reset a s replies e = asks a (text "AR") (text "OK") ∷ asks a (text "EQ") s ∷ (resets a replies ++ (e ∷ []))

-- a record whose alarms last is the same after ARs
after_resets : (r : Record) (a : ℕ) (replies : List (List ℕ)) (e : Exchange) → lasting (get alarms r) ≡ get alarms r
    → AllAgree next Agrees r (resets a replies ++ (e ∷ [])) → Agrees r e
unfolding text_in frame_of code_in digits
after_resets r a [] e l h = h.0
after_resets r a (b ∷ replies) e l h =
    let q : List ℕ = frame_of Minicomputer (digits 2 a ++ text "AR") in
    let same : next r (q gets b) ≡ r = reset_keeps Minicomputer r q (replicate 64 0) refl l in
    after_resets r a replies e l (subst (λ (x : Record). AllAgree next Agrees x (resets a replies ++ (e ∷ []))) same h.1)

-- EA at the record's address
alarms_at : (r : Record) (a : ℕ) (o : List ℕ) → valid r ≡ true → get address r ≡ a → 64 ≤ length o
    → AnswersAt Minicomputer r o a (text "EA") (alarm_characters (get alarms r))
alarms_at r a o v i l = subst (λ (n : ℕ). AnswersAt Minicomputer r o n (text "EA") (alarm_characters (get alarms r))) i (alarms_read_lem Minicomputer r o v l)

-- the record after the accepted AR: its alarms last, and it agrees with the EQ and with the last exchange
record Left (a : ℕ) (s : List ℕ) (e : Exchange) : Type 0 where
  after : Record
  valid_record : valid after ≡ true
  same_address : get address after ≡ a
  lasts : lasting (get alarms after) ≡ get alarms after
  status_agrees : Agrees after (asks a (text "EQ") s)
  agrees : Agrees after e

left : (a c : ℕ) (s : List ℕ) (replies : List (List ℕ)) (e : Exchange) → alone.Fits a c (behind_reset a s replies e) → Left a s e
unfolding text_in frame_of code_in digits put
left a c s replies e h =
    let (r, start, g) = h in
    let o : List ℕ = replicate 64 0 in
    let q : List ℕ = frame_of Minicomputer (digits 2 a ++ text "AR") in
    let told = (g.0 o refl).0 in
    let after : Record = next r (asks a (text "AR") (text "OK")) in
    let reset : after ≡ alarms_reset r =
    record_after-reset Minicomputer Minicomputer r q o o (answered r q o told).heard (accepted_so r q o told) (omega arith) refl in
    let valid_so : valid after ≡ true = call_keeps_valid Minicomputer r q o start.valid_record in
    let address_so : get address after ≡ a = ap (get address) reset ∙ start.same_address in
    let last : lasting (get alarms after) ≡ get alarms after =
    subst (λ (x : Record). lasting (get alarms x) ≡ get alarms x) (sym reset) (lasting_again (get alarms r)) in
    let same : next after (asks a (text "EQ") s) ≡ after = ap (λ (x : Outcome). x.after) (status_at after a o valid_so address_so (omega arith)) in
    record {
      after = after;
      valid_record = valid_so;
      same_address = address_so;
      lasts = last;
      status_agrees = g.1.0;
      agrees = after_resets after a replies e last (subst (λ (x : Record). AllAgree next Agrees x (resets a replies ++ (e ∷ []))) same g.1.1);
    }

-- EQ's third character
third-shown : (a x : ℕ) (s : List ℕ) → get_or s 2 0 ≡ x → 0 < x → get_or (frame_of Minicomputer (digits 2 a ++ s)) 5 0 ≡ x
third-shown a x s e h = shown_at a 2 s (omega arith) ∙ e

-- none of these exchanges asks for a kept batch, if the last one does not
resets_quiet : (a : ℕ) (replies : List (List ℕ)) (e : Exchange) → statement.asks a e ≡ false → NoneAsked (statement.asks a) (resets a replies ++ (e ∷ []))
unfolding text_in frame_of code_in digits
resets_quiet a [] e n = quiet_more (statement.asks a) e [] n (quiet_none (statement.asks a))
resets_quiet a (b ∷ replies) e n =
    quiet_more (statement.asks a) (frame_of Minicomputer (digits 2 a ++ text "AR") gets b) _ (not-asked a AR (frame_of Minicomputer (digits 2 a ++ text "AR") gets b) refl refl)
    (resets_quiet a replies e n)

behind_quiet : (a : ℕ) (s : List ℕ) (replies : List (List ℕ)) (e : Exchange) → statement.asks a e ≡ false → NoneAsked (statement.asks a) (behind_reset a s replies e)
unfolding text_in frame_of code_in digits
behind_quiet a s replies e n =
    quiet_more (statement.asks a) (asks a (text "AR") (text "OK")) _ (not-asked a AR (asks a (text "AR") (text "OK")) refl refl)
    (quiet_more (statement.asks a) (asks a (text "EQ") s) _ (not-asked a EQ (asks a (text "EQ") s) refl refl) (resets_quiet a replies e n))

stays_alone : (a c : ℕ) (s t : List ℕ) (replies : List (List ℕ)) → get_or s 2 0 ≡ 0x31 → get_or t 2 0 ≡ 0x30
    → alone.Fits a c (behind_reset a s replies (asks a (text "EQ") t)) → ⊥
stays_alone a c s t replies p q h =
    let o : List ℕ = replicate 64 0 in
    let l = left a c s replies (asks a (text "EQ") t) h in
    let same : frame_of Minicomputer (digits 2 a ++ s) ≡ frame_of Minicomputer (digits 2 a ++ t) = sym (l.status_agrees o refl).1 ∙ (l.agrees o refl).1 in
    let z : ◌≡◌ {A = ℕ} 0x31 0x30 =
    sym (third-shown a 0x31 s p (omega arith)) ∙ (ap (λ (f : List ℕ). get_or f 5 0) same ∙ third-shown a 0x30 t q (omega arith)) in
    omega arith

-- no further AR takes it off, whatever was replied
pub lasting_stays : (a c : ℕ) (s t : List ℕ) (replies : List (List ℕ)) → get_or s 2 0 ≡ 0x31 → get_or t 2 0 ≡ 0x30
    → Fits a c (behind_reset a s replies (asks a (text "EQ") t)) → ⊥
unfolding text_in frame_of code_in digits
lasting_stays a c s t replies p q h =
    stays_alone a c s t replies p q
    (fits-alone a c (behind_reset a s replies (asks a (text "EQ") t)) (behind_quiet a s replies (asks a (text "EQ") t) (not-asked a EQ (asks a (text "EQ") t) refl refl)) h)

shown-alone : (a c : ℕ) (s b : List ℕ) (replies : List (List ℕ)) → get_or s 2 0 ≡ 0x31
    → alone.Fits a c (behind_reset a s replies (frame_of Minicomputer (digits 2 a ++ text "EA") gets b))
    → (m : ℕ) × (m ≡ no_alarm → ⊥) × (lasting m ≡ m) × (b ≡ frame_of Minicomputer (digits 2 a ++ alarm_characters m))
unfolding frame_of digits status_characters weight_in
shown-alone a c s b replies p h =
    let o : List ℕ = replicate 64 0 in
    let e : Exchange = frame_of Minicomputer (digits 2 a ++ text "EA") gets b in
    let l = left a c s replies e h in
    let r : Record = l.after in
    let status-is = heard-frame r (asks a (text "EQ") s) o _ r (status_at r a o l.valid_record l.same_address (omega arith)) (l.status_agrees o refl) in
    let alarms_are = heard-frame r e o _ r (alarms_at r a o l.valid_record l.same_address (omega arith)) (l.agrees o refl) in (
      get alarms r,
      λ z.
          let shown : 0x30 + weight_in r third_bits ≡ 0x31 = ap (λ (f : List ℕ). get_or f 5 0) status-is ∙ third-shown a 0x31 s p (omega arith) in
          let none : weight_in r third_bits ≡ 0 = simp (eq-eqb (get alarms r) no_alarm z) in
          omega arith,
      l.lasts,
      sym alarms_are,
    )

-- and EA then shows lasting alarms, one at least
pub lasting-shown : (a c : ℕ) (s b : List ℕ) (replies : List (List ℕ)) → get_or s 2 0 ≡ 0x31
    → Fits a c (behind_reset a s replies (frame_of Minicomputer (digits 2 a ++ text "EA") gets b))
    → (m : ℕ) × (m ≡ no_alarm → ⊥) × (lasting m ≡ m) × (b ≡ frame_of Minicomputer (digits 2 a ++ alarm_characters m))
unfolding text_in frame_of code_in digits
lasting-shown a c s b replies p h =
    let e : Exchange = frame_of Minicomputer (digits 2 a ++ text "EA") gets b in
    shown-alone a c s b replies p (fits-alone a c (behind_reset a s replies e) (behind_quiet a s replies e (not-asked a EA e refl refl)) h)

-- ---- the bench record with another address, access and alarms
bench_with : ℕ → ℕ → ℕ → Record
bench_with a c n = put alarms n (put access c (put address a bench))

-- Idle and no flag on: all but A3 is 0
abbrev pub status_with : ℕ → List ℕ
status_with n = pick (eqb n no_alarm) (text "000000") (text "001000")

status_with_lem : (a c n : ℕ) → status_characters (bench_with a c n) ≡ status_with n
unfolding bench_with bench put status_characters weight_in
status_with_lem a c n = by_test (eqb n no_alarm) (λ e. simp e) (λ e. simp e)

bench-valid : valid bench ≡ true
unfolding bench valid all_in range_at place_of place_in
bench-valid = refl

-- a call that shows b and leaves s agrees with the exchange, and s is handed on
then : (r s : Record) (a : ℕ) (q b : List ℕ) (es : List Exchange) → ((o : List ℕ) → length o ≡ 64 → LeavesAt Minicomputer r o a q b s)
    → AllAgree next Agrees s es → AllAgree next Agrees r (asks a q b ∷ es)
then r s a q b es h g =
    let f : List ℕ = frame_of Minicomputer (digits 2 a ++ b) in
    let agrees : Agrees r (asks a q b) =
    λ o l. (
      ap (λ (x : Outcome). x.reported) (h o l),
      ap (λ (x : Outcome). take x.reported x.buffer) (h o l) ∙ over-take f o (length f) refl,
    ) in
    let handed : next r (asks a q b) ≡ s = ap (λ (x : Outcome). x.after) (h (replicate 64 0) refl) in
    (agrees, subst (λ (x : Record). AllAgree next Agrees x es) (sym handed) g)

-- an alarm in EQ, an accepted AR, and then the alarms m in EQ and EA
abbrev pub alarms_reset_lem : ℕ → ℕ → List Exchange
alarms_reset_lem a m =
    asks a (text "EQ") (text "001000") ∷ asks a (text "AR") (text "OK") ∷ asks a (text "EQ") (status_with m) ∷ asks a (text "EA") (alarm_characters m) ∷ []

-- an accepted AR, an alarm in EQ, an accepted AR, and no alarm in EQ
abbrev pub alarm_lost : ℕ → List Exchange
alarm_lost a = behind_reset a (text "001000") (frame_of Minicomputer (digits 2 a ++ text "OK") ∷ []) (asks a (text "EQ") (text "000000"))

module _ (a c : ℕ) (i : within (field_range address) a ≡ true) (j : within (field_range access) c ≡ true) where
  valid_with : (n : ℕ) → n ≤ all_alarms → valid (bench_with a c n) ≡ true
  unfolding bench_with
  valid_with n h = put_kept _ (put_kept _ (put_kept bench bench-valid address a i) access c j) alarms n (between_yes no_alarm all_alarms n (omega arith) h)

  start_with : (n : ℕ) → n ≤ all_alarms → Start a c (bench_with a c n)
  unfolding bench_with put
  start_with n h = record { valid_record = valid_with n h; same_address = refl; same-access = refl }

  module _ (n : ℕ) (h : n ≤ all_alarms) (o : List ℕ) (l : length o ≡ 64) where
    shows-status : AnswersAt Minicomputer (bench_with a c n) o a (text "EQ") (status_with n)
    unfolding bench_with put
    shows-status =
        subst (λ (x : List ℕ). AnswersAt Minicomputer (bench_with a c n) o a (text "EQ") x) (status_with_lem a c n)
        (status_at (bench_with a c n) a o (valid_with n h) refl (omega arith))

    shows-alarms : AnswersAt Minicomputer (bench_with a c n) o a (text "EA") (alarm_characters n)
    unfolding bench_with put
    shows-alarms = alarms_at (bench_with a c n) a o (valid_with n h) refl (omega arith)

    leaves-lasting : LeavesAt Minicomputer (bench_with a c n) o a (text "AR") (text "OK") (bench_with a c (lasting n))
    unfolding bench_with put bench
    leaves-lasting = reset_served Minicomputer (bench_with a c n) o (valid_with n h) (omega arith) refl

  -- ---- after an alarm in EQ with nothing more known of the alarms, then an accepted AR, any of the lasting may be on, or none

  -- by alarms w of which m last
  reset-leaves : (w m : ℕ) → w ≤ all_alarms → status_with w ≡ text "001000" → lasting w ≡ m → alone.Fits a c (alarms_reset_lem a m)
  reset-leaves w m h s l =
      let r : Record = bench_with a c w in
      let r' : Record = bench_with a c m in
      let k : m ≤ all_alarms = omega (arith, lasting_limit w, l) in
      let es : List Exchange = alarms_reset_lem a m in (
        r,
        start_with w h,
        then r r a (text "EQ") (text "001000") (drop 1 es)
            (λ o q. subst (λ (x : List ℕ). AnswersAt Minicomputer r o a (text "EQ") x) s (shows-status w h o q))
            (then r r' a (text "AR") (text "OK") (drop 2 es)
            (λ o q. subst (λ (n : ℕ). LeavesAt Minicomputer r o a (text "AR") (text "OK") (bench_with a c n)) l (leaves-lasting w h o q))
            (then r' r' a (text "EQ") (status_with m) (drop 3 es) (shows-status m k)
            (then r' r' a (text "EA") (alarm_characters m) [] (shows-alarms m k) tt))),
      )

  -- none is left of user alarm 4
  leaves-alone : (m : ℕ) → lasting m ≡ m → alone.Fits a c (alarms_reset_lem a m)
  leaves-alone m e =
      by_test (eqb m no_alarm) (λ z. reset-leaves (weight_of 16) m (omega arith) refl (user_alarm_resets ∙ sym (eqb-true m no_alarm z)))
      (λ z. reset-leaves m m (omega (arith, lasting_limit m, e)) (ap (λ (b : Bool). pick b (text "000000") (text "001000")) z) e)

  reset_quiet : (m : ℕ) → NoneAsked (statement.asks a) (alarms_reset_lem a m)
  unfolding text_in frame_of code_in digits
  reset_quiet m =
      quiet_more (statement.asks a) (asks a (text "EQ") (text "001000")) _ (not-asked a EQ (asks a (text "EQ") (text "001000")) refl refl)
      (quiet_more (statement.asks a) (asks a (text "AR") (text "OK")) _ (not-asked a AR (asks a (text "AR") (text "OK")) refl refl)
      (quiet_more (statement.asks a) (asks a (text "EQ") (status_with m)) _ (not-asked a EQ (asks a (text "EQ") (status_with m)) refl refl)
      (quiet_more (statement.asks a) (asks a (text "EA") (alarm_characters m)) _ (not-asked a EA (asks a (text "EA") (alarm_characters m)) refl refl) (quiet_none (statement.asks a)))))

  pub reset-leaves_any : (m : ℕ) → lasting m ≡ m → Fits a c (alarms_reset_lem a m)
  reset-leaves_any m e = fits-beside a c (alarms_reset_lem a m) (reset_quiet m) (leaves-alone m e)

  -- ---- an alarm that a further AR took off is refuted where EQ does not show it, and not before

  -- the last alarm may have been on
  lost_before : alone.Fits a c (take 3 (alarm_lost a))
  lost_before =
      let n : ℕ = weight_of 19 in
      let h : n ≤ all_alarms = omega arith in
      let r : Record = bench_with a c n in
      let es : List Exchange = take 3 (alarm_lost a) in
      let stays : (o : List ℕ) → length o ≡ 64 → LeavesAt Minicomputer r o a (text "AR") (text "OK") r =
      λ o q. subst (λ (m : ℕ). LeavesAt Minicomputer r o a (text "AR") (text "OK") (bench_with a c m)) overrun_lasts (leaves-lasting n h o q) in (
        r,
        start_with n h,
        then r r a (text "AR") (text "OK") (drop 1 es) stays
            (then r r a (text "EQ") (text "001000") (drop 2 es) (shows-status n h)
            (then r r a (text "AR") (text "OK") [] stays tt)),
      )

  lost_long : 4 ≤ length (before_asked (statement.asks a) (alarm_lost a))
  unfolding text_in frame_of code_in digits
  lost_long =
      omega (arith, ap length (behind_quiet a (text "001000") (frame_of Minicomputer (digits 2 a ++ text "OK") ∷ []) (asks a (text "EQ") (text "000000")) (not-asked a EQ (asks a (text "EQ") (text "000000")) refl refl)))

  pub lost_alarm_answer : Only a c (alarm_lost a) (refuted 4 4)
  lost_alarm_answer =
      only a c (alarm_lost a) (refuted 4 4)
      (refl, omega arith, omega (arith, lost_long), lost_before, stays_alone a c (text "001000") (text "000000") (frame_of Minicomputer (digits 2 a ++ text "OK") ∷ []) refl refl)

-- ---- what an answer to SA tells
module _ (r : Record) where
  abbrev starting : List ℕ
  starting = frame_of Minicomputer (digits 2 (get address r) ++ text "SA")

  pub start_proves_none : Agrees r (asks (get address r) (text "SA") (text "OK")) → get alarms r ≡ no_alarm
  unfolding text_in frame_of code_in digits
  start_proves_none h =
      let o : List ℕ = replicate 64 0 in
      let none : not (eqb (get alarms r) no_alarm) ≡ false =
      accepted_by_none (text_in Minicomputer starting) r (accepted_so r starting o (h o refl).0) 9 (omega arith) in
      eqb-true (get alarms r) no_alarm (not-false (eqb (get alarms r) no_alarm) none)

  pub alarm_refusal_proves : Agrees r (asks (get address r) (text "SA") (text "NO09"))
      → (get alarms r ≡ no_alarm → ⊥) × (get keypad r ≡ off) × (member (get phase r) (set ∷ stopped ∷ []) ≡ true)
  unfolding text_in frame_of code_in digits
  alarm_refusal_proves h =
      let o : List ℕ = replicate 64 0 in
      let t : List ℕ = text_in Minicomputer starting in
      let told = (h o refl).0 in
      let heard = (is_reported Minicomputer r starting o (omega arith)).heard in
      let (i, f, e) = (no_exactly Minicomputer r starting o heard 9 (omega arith)).0 (h o refl).1 in
      let row : FirstAt refusals (code_in t) (behind_code t) r 9 = subst (FirstAt refusals (code_in t) (behind_code t) r) (one_row i 9 f.listed (omega arith) e) f in
      let alarm : not (eqb (get alarms r) no_alarm) ≡ true = row.holds in (
        eqb-false (get alarms r) no_alarm (not-true (eqb (get alarms r) no_alarm) alarm),
        flag_off r.keypad (row.none_before 6 (omega arith)),
        not-false (member (get phase r) (set ∷ stopped ∷ [])) (row.none_before 8 (omega arith)),
      )
    where
      flag_off : (b : Bool) → eqb (flag_number b) on ≡ false → flag_number b ≡ off
      flag_off true e = let z : ◌≡◌ {A = ℕ} 0 1 = cc in absurd (omega arith)
      flag_off false e = refl
