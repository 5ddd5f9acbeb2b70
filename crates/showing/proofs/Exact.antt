-- What a reply shows is exact: a record is possible after a shown reply exactly if it was possible before and gives that reply; a refusal
-- is read exactly where one was printed, and no shown reply is one. One law per kind of reply. Assumes nothing.
use Rattle.std.specs.Prelude.{Some, None}
use Prim.Native.Nat.{ℕ, ◌+◌, ◌^◌, ◌≤◌, ◌<◌}
use mathlib.Core.Path.{◌≡◌, refl, sym}
use mathlib.Core.List.{List, [], ◌∷◌, ◌++◌}
use native.Mathlib.Omega.{arith}
use lib.ListN.{length, length-append}
use Rattle.base.proofs.Tests.{◌also◌}
use Rattle.base.specs.Text.{text}
use Rattle.state.specs.declared.Record.{Record}
use Rattle.state.specs.Parameter.{code_at}
use Rattle.state.specs.Alarm.{character_values}
use Rattle.state.specs.Field.{access, alarms, get, position, field_range, Held}
use Rattle.state.proofs.Parameters.{value_small}
use Rattle.text.specs.Word.{space, digits, equal}
use Rattle.command.specs.Status.{status_characters, alarm_characters}
use Rattle.command.specs.Commands.{Arguments, Reply, acknowledged, status, codes, numbered, composition, system_alarms, printed, commands, row_of}
use Rattle.text.proofs.Words.{digits-length}
use Rattle.command.proofs.Fits.{codes as code_list, All, by_member, Sound}
use Rattle.knowledge.specs.declared.Knowledge.{Knowledge}
use Rattle.knowledge.proofs.Possible.{Possible, Kept}
use Rattle.showing.specs.Heard.{refusal_in}
use Rattle.showing.specs.Shown.{shown}
use Rattle.showing.proofs.Reading.{behind_told, behind_left, behind_none, behind_length}
use Rattle.showing.proofs.Fields.{Shows, word_shown_lem, numbered-shown}
use Rattle.showing.proofs.Status.{status_shown_lem}
use Rattle.showing.proofs.Codes.{list_shown_lem}
use Rattle.showing.proofs.Alarms.{alarms-shown}
use Rattle.showing.proofs.Composition.{composition_shown_lem}

-- ---- replies that can be read back: a field's range fits the digits, and no number behind its label is as short as a refusal
abbrev pub Readable : Reply → Type 0
Readable acknowledged = Unit
Readable status = Unit
Readable codes = Unit
Readable (numbered w n f) = Held f × (position access < position f) × ((field_range f).high < 10 ^ n) × (n ≤ 8) × (5 ≤ length w + n)
Readable composition = Unit
Readable system_alarms = Unit

-- ---- refusals
pub refusal-told : (b : List ℕ) (n : ℕ) → refusal_in b ≡ Some n → (b ≡ text "NO" ++ digits 2 n) × (n < 100)
refusal-told b n e = behind_told (text "NO") 2 b n e

pub refusal_left : (n : ℕ) → n < 100 → refusal_in (text "NO" ++ digits 2 n) ≡ Some n
refusal_left n h = behind_left (text "NO") 2 n (omega arith) h

pub shows_no_refusal : (s : Reply) (r : Record) → Readable s → refusal_in (printed s r) ≡ None
unfolding status_characters alarm_characters character_values equal
shows_no_refusal acknowledged r h = behind_none (text "NO") 2 (text "OK") refl
shows_no_refusal status r h = sym (behind_length (text "NO") (status_characters r) 2 (λ e. omega arith))
shows_no_refusal codes r h = behind_none (text "NO") 2 (printed codes r) refl
shows_no_refusal (numbered w n f) r h =
    sym (behind_length (text "NO") (w ++ digits n (get f r)) 2 (λ e. omega (arith, h.4, length-append w (digits n (get f r)), digits-length n (get f r))))
shows_no_refusal composition r h = behind_none (text "NO") 2 (printed composition r) refl
shows_no_refusal system_alarms r h = sym (behind_length (text "NO") (alarm_characters (get alarms r)) 2 (λ e. omega arith))

-- ---- every reply
reply-shown : {a c : ℕ} (s : Reply) (b : List ℕ) (k : Knowledge) → Kept a c k → Readable s → Shows a c k (shown s b k) (λ r. printed s r ≡ b)
unfolding shown
reply-shown acknowledged b k kept h = word_shown_lem (text "OK") b k kept
reply-shown status b k kept h = status_shown_lem b k kept
reply-shown codes b k kept h = list_shown_lem b k kept
reply-shown (numbered w n f) b k kept h = numbered-shown k w n f b kept h.0 h.1 h.2 h.3
reply-shown composition b k kept h = composition_shown_lem b k kept
reply-shown system_alarms b k kept h = alarms-shown b k kept

pub shown_kept : {a c : ℕ} (s : Reply) (b : List ℕ) (k : Knowledge) → Kept a c k → Readable s → Kept a c (shown s b k)
shown_kept s b k kept h = (reply-shown s b k kept h).kept

pub shown-told : {a c : ℕ} (s : Reply) (b : List ℕ) (k : Knowledge) (r : Record) → Kept a c k → Readable s → Possible (shown s b k) r
    → Possible k r × (printed s r ≡ b)
shown-told s b k r kept h p = (reply-shown s b k kept h).told r p

pub shown_left : {a c : ℕ} (s : Reply) (b : List ℕ) (k : Knowledge) (r : Record) → Kept a c k → Readable s → Possible k r → printed s r ≡ b
    → Possible (shown s b k) r
shown_left s b k r kept h p e = (reply-shown s b k kept h).left r p e

-- ---- the table's replies can be read back
pub reply_readable : (c : ℕ) (x : Arguments) → Sound c x → Readable ((row_of c commands).reply x)
unfolding row_of
reply_readable c x sound = by_member (λ d. Sound d x → Readable ((row_of d commands).reply x)) code_list each c sound.known sound
  where
    each : All (λ d. Sound d x → Readable ((row_of d commands).reply x)) code_list
    each =
        -- EQ, RS
        (λ s. tt) also (λ s. tt) also
        -- TN, RR
        (λ s. (omega arith, omega arith, omega arith, omega arith, omega arith)) also (λ s. (omega arith, omega arith, omega arith, omega arith, omega arith)) also
        -- RC, RT
        (λ s. tt) also (λ s. (omega arith, omega arith, omega arith, omega arith, omega arith)) also
        -- PV
        (λ s. let l = s.placed refl in (omega arith, omega arith, value_small x.place l, omega arith, omega arith)) also
        -- XV
        (λ s.
        let l = s.placed refl in
        (omega arith, omega arith, omega arith, omega arith, omega (arith, length-append (digits 3 (code_at x.place)) (space ∷ [])))) also
        -- PC, XC, NR, SB, SA, SP, ET, RE
        (λ s. tt) also (λ s. tt) also (λ s. tt) also (λ s. tt) also (λ s. tt) also (λ s. tt) also (λ s. tt) also (λ s. tt) also
        -- EA, AR
        (λ s. tt) also (λ s. tt) also tt
