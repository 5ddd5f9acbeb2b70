-- Document 02, L2, on the judge, proved of the statement of demand 3: "a flag known to be on stays on". Assumes nothing.
use Prim.Native.Nat.{ℕ, ◌+◌, ◌*◌, ◌≤◌, ◌<◌}
use mathlib.Core.Bool.{Bool, true, false}
use mathlib.Core.Path.{◌≡◌, refl, ap, subst, ◌∙◌}
use mathlib.Core.List.{List, [], ◌∷◌}
use native.Mathlib.Omega.{arith}
use lib.ListN.{get_or, replicate}
use Rattle.base.specs.Text.{text}
use Rattle.state.specs.declared.Record.{Record}
use Rattle.state.specs.Field.{address, changed, get, flag_number, flag_of, on}
use Rattle.state.specs.Valid.{valid}
use Rattle.frame.specs.declared.Kind.TheVariants.{Minicomputer}
use Rattle.frame.specs.Frame.{frame_of, text_in}
use Rattle.text.specs.Word.{digits}
use Rattle.command.specs.Status.{fourth, weight_in, status_characters}
use Rattle.command.specs.Commands.{EQ, PC, code_in}
use Rattle.controller.specs.Call.{Outcome}
use Rattle.controller.proofs.Theorems.{call_keeps_valid, address_kept, flag_stays}
use Rattle.recording.specs.Form.{Exchange}
use Rattle.recording.specs.Alone.{Agrees, next}
use Rattle.recording.specs.Alone as alone
use Rattle.recording.specs.Replay.{NoneAsked}
use Rattle.recording.specs.Statement as statement
use Rattle.recording.specs.Statement.{Fits}
use Rattle.recording.proofs.Asked.{quiet_more, quiet_none}
use Rattle.recording.proofs.Unseen.{not-asked, fits-alone}
use Rattle.recording.proofs.Bites.{◌gets◌, asks, shown_at, heard-frame, status_at}

-- EQ's fourth character
fourth-shown : (r : Record) (a : ℕ) (s : List ℕ) → valid r ≡ true → get address r ≡ a → 0 < get_or s 3 0 → Agrees r (asks a (text "EQ") s) → 0x30 + weight_in r fourth ≡ get_or s 3 0
unfolding frame_of digits status_characters
fourth-shown r a s v i h g =
    let o : List ℕ = replicate 64 0 in
    ap (λ (f : List ℕ). get_or f 6 0) (heard-frame r (asks a (text "EQ") s) o _ r (status_at r a o v i (omega arith)) (g o refl)) ∙ shown_at a 3 s h

-- its 8 is the flag
fourth-lit : (b c : Bool) (w : ℕ) → w ≡ 8 * flag_number (flag_of (flag_number b)) + (1 * flag_number (flag_of (flag_number c)) + 0)
    → (8 ≤ w → flag_number b ≡ on) × (flag_number b ≡ on → 8 ≤ w)
fourth-lit true c w e = (λ h. refl, λ h. omega arith)
fourth-lit false true w e = (λ h. absurd (omega arith), λ h. absurd (omega arith))
fourth-lit false false w e = (λ h. absurd (omega arith), λ h. absurd (omega arith))

-- EQ, an exchange, and EQ again
abbrev pub around : ℕ → List ℕ → Exchange → List ℕ → List Exchange
around a s e t = asks a (text "EQ") s ∷ e ∷ asks a (text "EQ") t ∷ []

stays_alone : (a c : ℕ) (s t q b : List ℕ) → code_in (text_in Minicomputer q) ≡ PC → 0x38 ≤ get_or s 3 0 → 0 < get_or t 3 0 → get_or t 3 0 < 0x38
    → alone.Fits a c (around a s (q gets b) t) → ⊥
unfolding weight_in
stays_alone a c s t q b code lit shown unlit h =
    let (r, start, g) = h in
    let o : List ℕ = replicate 64 0 in
    let before : 0x30 + weight_in r fourth ≡ get_or s 3 0 = fourth-shown r a s start.valid_record start.same_address (omega arith) g.0 in
    let same : next r (asks a (text "EQ") s) ≡ r = ap (λ (x : Outcome). x.after) (status_at r a o start.valid_record start.same_address (omega arith)) in
    let after : Record = next r (q gets b) in
    let last : Agrees after (asks a (text "EQ") t) = subst (λ (x : Record). Agrees (next x (q gets b)) (asks a (text "EQ") t)) same g.1.1.0 in
    let now : 0x30 + weight_in after fourth ≡ get_or t 3 0 =
    fourth-shown after a t (call_keeps_valid Minicomputer r q o start.valid_record) (address_kept Minicomputer r q o ∙ start.same_address) shown last in
    let on_after : get changed after ≡ on = flag_stays Minicomputer r q o code ((fourth-lit r.changed r.powerfail (weight_in r fourth) refl).0 (omega arith)) in
    let l : 8 ≤ weight_in after fourth = (fourth-lit after.changed after.powerfail (weight_in after fourth) refl).1 on_after in
    omega arith

-- none of them asks for a kept batch
around_quiet : (a : ℕ) (s t q b : List ℕ) → code_in (text_in Minicomputer q) ≡ PC → NoneAsked (statement.asks a) (around a s (q gets b) t)
unfolding text_in frame_of code_in digits
around_quiet a s t q b code =
    quiet_more (statement.asks a) _ _ (not-asked a EQ (asks a (text "EQ") s) refl refl)
    (quiet_more (statement.asks a) _ _ (not-asked a PC (q gets b) code refl)
    (quiet_more (statement.asks a) _ _ (not-asked a EQ (asks a (text "EQ") t) refl refl) (quiet_none (statement.asks a))))

-- whatever a PC asks for and is replied, no EQ after it shows the flag off
pub lit_stays : (a c : ℕ) (s t q b : List ℕ) → code_in (text_in Minicomputer q) ≡ PC → 0x38 ≤ get_or s 3 0 → 0 < get_or t 3 0 → get_or t 3 0 < 0x38
    → Fits a c (around a s (q gets b) t) → ⊥
lit_stays a c s t q b code lit shown unlit h =
    stays_alone a c s t q b code lit shown unlit (fits-alone a c (around a s (q gets b) t) (around_quiet a s t q b code) h)
