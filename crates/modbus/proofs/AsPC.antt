-- "is judged and takes effect as PC does": a write on Modbus beside the request PC on the Smith link, whole calls of both. Assumes nothing.
use Prim.Native.Nat.{ℕ, zero, suc, ◌+◌, ◌^◌, ◌≤◌, ◌<◌}
use mathlib.Core.Bool.{true}
use mathlib.Core.Path.{◌≡◌, refl, sym, ap, subst, ◌∙◌}
use mathlib.Core.List.{List, [], ◌∷◌, ◌++◌}
use native.Mathlib.Omega.{arith}
use mathlib.Core.Logic.{◌↔◌, ◌⊎◌, inl, inr, ⊎_elim}
use lib.ListN.{length, drop, get_or}
use lib.Seq.{drop_at, length-take-le}
use Rattle.base.specs.Test.{all_between, all_distinct}
use Rattle.base.specs.Text.{text}
use Rattle.base.proofs.FirstFailing.{not_both}
use Rattle.base.proofs.Lists.{over-take}
use Rattle.base.proofs.Tests.{distinct_place}
use Rattle.state.specs.declared.Record.{Record}
use Rattle.state.specs.Parameter.{parameter_count, code_at, range_at}
use Rattle.state.specs.Field.{address, get}
use Rattle.state.specs.Valid.{within, valid}
use Rattle.state.proofs.Validity.{valid_tell}
use Rattle.state.proofs.Parameters.{place_has_code}
use Rattle.frame.specs.declared.Kind.{Kind}
use Rattle.frame.specs.Frame.{all_text, frame_of}
use Rattle.text.specs.Word.{space, digits}
use Rattle.text.proofs.Printable.{Text, text_joined, text-digits, text_wider, text-word, text-labelled_two}
use Rattle.text.proofs.Words.{digits-length}
use Rattle.command.specs.Commands.{PC, a_place}
use Rattle.command.specs.Answer.{reply_text, record_after}
use Rattle.command.specs.Request.{Asked, asked_in, asked_with, served_of, Answered}
use Rattle.command.proofs.Agree.{record_by_steps}
use Rattle.reply.specs.Reply.{text_for}
use Rattle.reply.proofs.Laws.{longest}
use Rattle.controller.specs.Call.{reply_in, answered, call_of}
use Rattle.controller.proofs.Steps.{text_by_steps}
use Rattle.controller.proofs.Exactly.{frame_same}
use Rattle.controller.proofs.ReadBack.{named, numbered, called, value_argued}
use Rattle.crc.specs.Crc.{sealed, body_in}
use Rattle.crc.proofs.Sealed.{sealed-body}
use Rattle.modbus.specs.Request.{writes, asked_of}
use Rattle.modbus.specs.Reply.{echoed, refusal, write_body}
use Rattle.modbus.specs.Call.{replied, as_pc, written_of, answered_as, served_by, modbus_of}
use Rattle.modbus.specs.Frames.{write_request, change_text, twins}
use Rattle.modbus.proofs.Fits.{Fits, Writes, asked-fits}
use Rattle.modbus.proofs.ByPC.{PC_cases, nine_digits}
use Rattle.modbus.proofs.Requests.{write_heard}

-- both calls are of one row, and leave the same record
pub record Twins (k : Kind) (r : Record) (i v : ℕ) (q o p : List ℕ) : Type 0 where
  pub row : ℕ
  pub listed : row < length (twins q)
  pub after : Record
  pub smith : call_of k r (frame_of k (change_text (get address r) i v)) p ≡ answered k (digits 2 (get address r) ++ (get_or (twins q) row ([], [])).0) after p
  pub modbus : modbus_of r q o ≡ replied (get_or (twins q) row ([], [])).1 after o

-- q is any frame that is heard as a write of v at place i
module _ (r : Record) (i v : ℕ) (q o : List ℕ) (h : valid r ≡ true) (e : asked_of (valid r) (get address r) q (length o) ≡ writes i v) where
  place-listed : i < parameter_count
  place-listed = let f : Writes (valid r) q (length o) i = subst (Fits (valid r) q (length o)) e (asked-fits (valid r) q (length o) (get address r)) in f.listed

  written : modbus_of r q o ≡ replied (write_body (as_pc i v r).0 q) (as_pc i v r).1 o
  unfolding modbus_of served_by written_of
  written = ap (λ y. answered_as y r q o) e

  -- ---- PC on the Smith link, where a value has 8 digits at most
  module _ (k : Kind) (p : List ℕ) (room : 64 ≤ length p) (small : v < 10 ^ 8) where
    abbrev words : List ℕ
    words = text "PC " ++ (digits 3 (code_at i) ++ (space ∷ digits 8 v))

    legal : Text 4 60 (change_text (get address r) i v)
    unfolding all_between
    legal =
        text_joined 2 2 2 58 (digits 2 r.address) words (text-digits 2 r.address)
        (text_wider _ _ 2 58 _ (omega arith) (omega arith) (text-labelled_two (text "PC ") 3 (code_at i) 8 v refl))

    same : asked_in (change_text (get address r) i v) ≡ asked_with PC (a_place i v)
    same = value_argued (get address r) (code_at i) i (place_has_code i place-listed) v small

    smith_called : call_of k r (frame_of k (change_text (get address r) i v)) p ≡ answered k (text_for (as_pc i v r).0 r) (as_pc i v r).1 p
    smith_called =
        let t : List ℕ = change_text r.address i v in
        let served : served_of (asked_in t) r ≡ as_pc i v r = ap (λ (x : Asked). served_of x r) same in
        let reply_is : reply_text t r ≡ text_for (as_pc i v r).0 r = sym (text_by_steps t r) ∙ ap (λ (x : Answered × Record). text_for x.0 r) served in
        let record_is : record_after t r ≡ (as_pc i v r).1 = sym (record_by_steps t r) ∙ ap (λ (x : Answered × Record). x.1) served in
        called k r p h room t legal (named r.address 0x50 0x43 _ refl refl) (numbered r.address 0x50 0x43 _ (valid_tell r h).scalars.address_high)
        ∙ simp (reply_is, record_is)

    -- what each reply and record are by
    abbrev Both : Answered × Record → Type 0
    Both x =
        call_of k r (frame_of k (change_text (get address r) i v)) p ≡ answered k (text_for x.0 r) x.1 p
        → modbus_of r q o ≡ replied (write_body x.0 q) x.1 o → Twins k r i v q o p

    pub as_PC : Twins k r i v q o p
    unfolding text_for digits
    as_PC =
        PC_cases i v r place-listed Both
        (λ w s m. record { row = 1; listed = omega arith; after = r; smith = s; modbus = m })
        (λ w s m. record { row = 2; listed = omega arith; after = r; smith = s; modbus = m })
        (λ w s m. record { row = 3; listed = omega arith; after = r; smith = s; modbus = m })
        (λ w s m. record { row = 4; listed = omega arith; after = r; smith = s; modbus = m })
        (λ w s m. record { row = 0; listed = omega arith; after = _; smith = s; modbus = m })
        smith_called written

  -- a longer value is in no range: exception 03
  pub nine_digits-refused : 10 ^ 8 ≤ v → modbus_of r q o ≡ replied (refusal 3 q) r o
  nine_digits-refused l =
      written
      ∙ PC_cases i v r place-listed (λ (x : Answered × Record). replied (write_body x.0 q) x.1 o ≡ replied (refusal 3 q) r o)
      (λ w. refl) (λ w. absurd (outside w)) (λ w. absurd (outside w)) (λ w. absurd (outside w)) (λ w. absurd (outside w))
    where
      outside : within (range_at i) v ≡ true → ⊥
      outside w = not_both (within (range_at i) v) w (nine_digits i v place-listed l)

-- ---- for every place and every value that PC can say, by the frame that a master sends; and for every longer one
module _ (r : Record) (i v : ℕ) (o : List ℕ) (h : valid r ≡ true) (listed : i < parameter_count) (room : 256 ≤ length o) where
  pub every_change : (k : Kind) (p : List ℕ) → 64 ≤ length p → v < 10 ^ 8 → Twins k r i v (write_request (get address r) i v) o p
  every_change k p = as_PC r i v (write_request (get address r) i v) o h (write_heard r o h room i v listed) k p

  pub longer_refused : 10 ^ 8 ≤ v → modbus_of r (write_request (get address r) i v) o ≡ replied (refusal 3 (write_request (get address r) i v)) r o
  longer_refused = nine_digits-refused r i v (write_request (get address r) i v) o h (write_heard r o h room i v listed)

-- ---- "exactly": each reply on one link tells that on the other
module _ (q : List ℕ) where
  abbrev said : ℕ → List ℕ
  said n = (get_or (twins q) n ([], [])).0

  abbrev body : ℕ → List ℕ
  body n = (get_or (twins q) n ([], [])).1

  by_row : (P : ℕ → Type 0) → P 0 → P 1 → P 2 → P 3 → P 4 → (n : ℕ) → n < length (twins q) → P n
  by_row P a b c d e zero h = a
  by_row P a b c d e (suc zero) h = b
  by_row P a b c d e (suc (suc zero)) h = c
  by_row P a b c d e (suc (suc (suc zero))) h = d
  by_row P a b c d e (suc (suc (suc (suc zero)))) h = e
  by_row P a b c d e (suc (suc (suc (suc (suc n))))) h = absurd (omega arith)

  -- the fourth character tells the rows of the Smith link apart
  said_once : (n m : ℕ) → n < length (twins q) → m < length (twins q) → said n ≡ said m → n ≡ m
  unfolding all_distinct
  said_once n m h l e = distinct_place 0 fourths refl n m h l (sym (fourth n h) ∙ (ap (λ (x : List ℕ). get_or x 3 0) e ∙ fourth m l))
    where
      fourths : List ℕ
      fourths = 0 ∷ 0x36 ∷ 0x32 ∷ 0x37 ∷ 0x35 ∷ []

      fourth : (j : ℕ) → j < length (twins q) → get_or (said j) 3 0 ≡ get_or fourths j 0
      fourth = by_row (λ j. get_or (said j) 3 0 ≡ get_or fourths j 0) refl refl refl refl refl

  -- length and third byte tell the bodies apart, but for the three that are 04
  module _ (nine : 9 ≤ length q) where
    written_once : (n : ℕ) → n < length (twins q) → body n ≡ echoed q → n ≡ 0
    written_once =
        by_row (λ n. body n ≡ echoed q → n ≡ 0) (λ e. refl) (λ e. absurd (other 3 e)) (λ e. absurd (other 4 e)) (λ e. absurd (other 4 e)) (λ e. absurd (other 4 e))
      where
        other : (c : ℕ) → refusal c q ≡ echoed q → ⊥
        other c e = let l = ap length e in let six = length-take-le 6 q (omega arith) in omega arith

    value_once : (n : ℕ) → n < length (twins q) → body n ≡ refusal 3 q → n ≡ 1
    value_once =
        by_row (λ n. body n ≡ refusal 3 q → n ≡ 1) (λ e. absurd (let l = ap length e in let six = length-take-le 6 q (omega arith) in omega arith)) (λ e. refl)
        (λ e. absurd (other e)) (λ e. absurd (other e)) (λ e. absurd (other e))
      where
        other : refusal 4 q ≡ refusal 3 q → ⊥
        other e = let c : ◌≡◌ {A = ℕ} 4 3 = ap (λ (x : List ℕ). get_or x 2 0) e in omega arith

    failure_among : (n : ℕ) → n < length (twins q) → body n ≡ refusal 4 q → (n ≡ 2) ⊎ ((n ≡ 3) ⊎ (n ≡ 4))
    failure_among =
        by_row (λ n. body n ≡ refusal 4 q → (n ≡ 2) ⊎ ((n ≡ 3) ⊎ (n ≡ 4)))
        (λ e. absurd (let l = ap length e in let six = length-take-le 6 q (omega arith) in omega arith))
        (λ e. absurd (let c : ◌≡◌ {A = ℕ} 3 4 = ap (λ (x : List ℕ). get_or x 2 0) e in omega arith)) (λ e. inl refl) (λ e. inr (inl refl)) (λ e. inr (inr refl))

sealed-same : (b c : List ℕ) → sealed b ≡ sealed c → b ≡ c
sealed-same b c e = sym (sealed-body b) ∙ (ap body_in e ∙ sealed-body c)

module _ (k : Kind) (r : Record) (i v : ℕ) (q o p : List ℕ) (t : Twins k r i v q o p) (nine : 9 ≤ length q) where
  -- the reply on either link
  abbrev pub on_smith : List ℕ
  on_smith = reply_in (call_of k r (frame_of k (change_text (get address r) i v)) p)

  abbrev pub on_modbus : List ℕ
  on_modbus = reply_in (modbus_of r q o)

  -- the Smith link's frame of a reply
  abbrev pub says : List ℕ → List ℕ
  says x = frame_of k (digits 2 (get address r) ++ x)

  smith_is : on_smith ≡ says (said q t.row)
  smith_is = ap reply_in t.smith ∙ over-take (says (said q t.row)) p _ refl

  modbus_is : on_modbus ≡ sealed (body q t.row)
  modbus_is = ap reply_in t.modbus ∙ over-take (sealed (body q t.row)) o _ refl

  legal_says : (n : ℕ) → n < length (twins q) → Text 4 (2 + longest) (digits 2 (get address r) ++ said q n)
  unfolding all_between
  legal_says =
      by_row q (λ n. Text 4 (2 + longest) (digits 2 (get address r) ++ said q n)) (legal (text "OK") refl (omega arith) (omega arith)) (legal (text "NO06") refl (omega arith) (omega arith)) (legal (text "NO02") refl (omega arith) (omega arith))
      (legal (text "NO07") refl (omega arith) (omega arith)) (legal (text "NO05") refl (omega arith) (omega arith))
    where
      legal : (x : List ℕ) → all_text x ≡ true → 2 ≤ length x → length x ≤ 4 → Text 4 (2 + longest) (digits 2 (get address r) ++ x)
      legal x e l h =
          text_wider _ _ 4 (2 + longest) _ (omega arith) (omega arith)
          (text_joined 2 2 2 4 (digits 2 (get address r)) x (text-digits 2 (get address r)) (text_wider _ _ 2 4 x l h (text-word x e)))

  -- the row, by what is heard on either link
  row_by_smith : (n : ℕ) → n < length (twins q) → on_smith ≡ says (said q n) → t.row ≡ n
  row_by_smith n l e =
      let same : digits 2 (get address r) ++ said q t.row ≡ digits 2 (get address r) ++ said q n =
      frame_same k _ _ (legal_says t.row t.listed) (legal_says n l) (sym smith_is ∙ e) in
      let behind : (x : List ℕ) → drop 2 (digits 2 (get address r) ++ x) ≡ x = λ x. drop_at (digits 2 (get address r)) x 2 (digits-length 2 (get address r)) in
      said_once q t.row n t.listed l (sym (behind _) ∙ (ap (drop 2) same ∙ behind _))

  on_smith_lem : (n : ℕ) → t.row ≡ n → on_smith ≡ says (said q n)
  on_smith_lem n e = smith_is ∙ ap (λ (m : ℕ). says (said q m)) e

  on_modbus_lem : (n : ℕ) → n < length (twins q) → on_smith ≡ says (said q n) → on_modbus ≡ sealed (body q n)
  on_modbus_lem n l e = modbus_is ∙ ap (λ (m : ℕ). sealed (body q m)) (row_by_smith n l e)

  pub written_exactly : on_modbus ≡ sealed (echoed q) ↔ on_smith ≡ says (text "OK")
  written_exactly =
      (λ e. on_smith_lem 0 (written_once q nine t.row t.listed (sealed-same _ _ (sym modbus_is ∙ e))), λ e. on_modbus_lem 0 (omega arith) e)

  pub value_exactly : on_modbus ≡ sealed (refusal 3 q) ↔ on_smith ≡ says (text "NO06")
  value_exactly =
      (λ e. on_smith_lem 1 (value_once q nine t.row t.listed (sealed-same _ _ (sym modbus_is ∙ e))), λ e. on_modbus_lem 1 (omega arith) e)

  pub failure_exactly : on_modbus ≡ sealed (refusal 4 q) ↔ ((on_smith ≡ says (text "NO02")) ⊎ ((on_smith ≡ says (text "NO07")) ⊎ (on_smith ≡ says (text "NO05"))))
  failure_exactly = (
    λ e.
        ⊎_elim (λ (x : t.row ≡ 2). inl (on_smith_lem 2 x))
        (λ (y : (t.row ≡ 3) ⊎ (t.row ≡ 4)). ⊎_elim (λ (x : t.row ≡ 3). inr (inl (on_smith_lem 3 x))) (λ (x : t.row ≡ 4). inr (inr (on_smith_lem 4 x))) y)
        (failure_among q nine t.row t.listed (sealed-same _ _ (sym modbus_is ∙ e))),
    λ e.
        ⊎_elim (λ (x : on_smith ≡ says (text "NO02")). on_modbus_lem 2 (omega arith) x)
        (λ (y : (on_smith ≡ says (text "NO07")) ⊎ (on_smith ≡ says (text "NO05"))).
        ⊎_elim (λ (x : on_smith ≡ says (text "NO07")). on_modbus_lem 3 (omega arith) x) (λ (x : on_smith ≡ says (text "NO05")). on_modbus_lem 4 (omega arith) x) y) e,
  )
