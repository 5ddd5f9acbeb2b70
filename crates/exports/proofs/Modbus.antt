-- The functions for Modbus: one law for each return, and what a caller can rely on, for any bytes and lengths. Assumes nothing.
use Prim.Native.Nat.{ℕ, ◌+◌, ◌^◌, ◌≤◌, ◌<◌}
use mathlib.Core.Bool.{true}
use mathlib.Core.Path.{◌≡◌, refl, sym, ap, subst, ◌∙◌}
use mathlib.Core.List.{List}
use mathlib.Core.Logic.{◌⊎◌, inl, inr, ⊎_elim}
use native.Mathlib.Omega.{arith}
use lib.ListN.{take, drop}
use Rattle.base.proofs.FirstFailing.{not_both}
use Rattle.base.proofs.Tests.{and_right}
use Rattle.state.specs.declared.Record.{Record}
use Rattle.state.specs.Valid as state
use Rattle.bank.specs.Bank as bank
use Rattle.std.specs.Prelude.{Result, Ok, Err}
use Rattle.std.specs.Result.{IsOk}
use Rattle.stored.specs.declared.WriteRefusal.{WriteRefusal}
use Rattle.stored.specs.Form as stored
use Rattle.stored.specs.Form.{done, written_as, stored_form, write_of}
use Rattle.stored.proofs.RoundTrip.{form_read}
use Rattle.controller.specs.Call.{OutcomeOf, Outcome}
use Rattle.controller.proofs.Theorems.{SilentOutcome}
use Rattle.banked.specs.declared.Banked.{Banked}
use Rattle.banked.specs.Banked.{valid}
use Rattle.crc.specs.Crc.{crc_right}
use Rattle.modbus.specs.declared.Silence.{Silence}
use Rattle.modbus.specs.Call.{modbus_of, banked_modbus_of}
use Rattle.modbus.specs.Numbers.{silence_number, outcome_as}
use Rattle.modbus.proofs.Fits.{silence_low}
use Rattle.modbus.proofs.Theorems.{ReplyOutcome, every_input, silence_exactly, keeps_valid, good_bank}
use Rattle.exports.specs.Bytes.{Opened, open_of, open_banked}
use Rattle.exports.specs.Modbus.{modbus_silence, modbus_refusal, modbus_left, modbus_bytes, banked_modbus_left, banked_modbus_bytes}
use Rattle.exports.proofs.Steps.{quiet_left, heard_left, open_tells, opens, refuses, left_refused, left_opened, opened-valid, replaced_ok}
use Rattle.exports.proofs.InPlace.{Within, called_cases}
use Rattle.exports.proofs.Theorems.{StoredAnswer, record_number}
use Rattle.exports.proofs.Banks.{tells, held-valid}
use Rattle.exports.proofs.BankTheorems.{BankedAnswer, banked_high, banked_below, banked_number}

-- ---- every input gets a reply or a silence
abbrev Silenced : Record → List ℕ → List ℕ → Type 0
Silenced r q o = SilentOutcome (modbus_of r q o) r o

abbrev Answered : Record → List ℕ → List ℕ → Type 0
Answered r q o = ReplyOutcome (modbus_of r q o) (state.valid r) o

every : (r : Record) (q o : List ℕ) → Silenced r q o ⊎ Answered r q o
unfolding modbus_of
every r q o = every_input (state.valid r) r q o

-- ---- one call on a record
module _ (r : Record) (q o : List ℕ) (a : Result ℕ Silence) (t : Record) (b : List ℕ) (e : outcome_as a t b ≡ modbus_of r q o) where
  pub modbus_silent : (s : List ℕ) (w : Silence) (x : ℕ) → a ≡ Err w → x ≡ modbus_silence (silence_number w) → (x, (s, b)) ≡ modbus_left (modbus_of r q o) s o
  unfolding modbus_left
  modbus_silent s w x h i =
      let c : (modbus_of r q o).silence ≡ silence_number w = ap (λ (y : Outcome). y.silence) (sym e) ∙ ap (λ (y : Result ℕ Silence). (outcome_as y t b).silence) h in
      quiet_left modbus_silence (modbus_of r q o) s o b (silence_number w) x (ap (λ (y : Outcome). y.buffer) e) c (silence_low w)
      (λ l. ⊎_elim (λ (y : Silenced r q o). y.same-buffer) (λ (y : Answered r q o). absurd (omega (arith, y.heard))) (every r q o)) i

  module _ (m : ℕ) (h : a ≡ Ok m) where
    heard : outcome_as (Ok m) t b ≡ modbus_of r q o
    heard = ap (λ (y : Result ℕ Silence). outcome_as y t b) (sym h) ∙ e

    pub modbus_fits : m < 2 ^ 32
    modbus_fits =
        let c : m ≡ (modbus_of r q o).reported = ap (λ (y : Outcome). y.reported) heard in
        ⊎_elim (λ (x : Silenced r q o). omega (arith, x.nothing)) (λ (x : Answered r q o). omega (arith, x.high)) (every r q o)

    module _ (s d : List ℕ) (w : Result (Unit {0}) WriteRefusal) (f : open_of s ≡ (0, r)) (i : (written_as w, d) ≡ write_of t s) where
      pub modbus_ok : IsOk w
      modbus_ok = replaced_ok s r f t d w (ap (λ (y : Outcome). state.valid y.after) heard ∙ keeps_valid r q o (opened-valid s r f)) i

      pub modbus_reply : (m, (d, b)) ≡ modbus_left (modbus_of r q o) s o
      unfolding modbus_left
      modbus_reply = heard_left modbus_silence (modbus_of r q o) s o d b r t m w heard f (keeps_valid r q o (opened-valid s r f)) i

pub ruleset modbus_calling = (modbus_silent, modbus_fits, modbus_ok, modbus_reply)

-- ---- `khuyapesh_modbus`
module _ (s q o : List ℕ) (a : Result Record ℕ) (e : Opened a (open_of s)) where
  pub modbus_room : (x : ℕ) → a ≡ Err x → 1000 + x < 2 ^ 32
  modbus_room x z =
      let (n, h) = refuses (open_of s) a e x z in
      ⊎_elim (λ (w : (open_of s).0 ≡ 0). omega arith) (λ (w : StoredAnswer (open_of s).0). omega (arith, banked_below (open_of s).0 (inl w))) (record_number s)

  pub modbus_refused : (x : ℕ) → a ≡ Err x → (modbus_refusal x, (s, o)) ≡ modbus_bytes s q o
  unfolding modbus_bytes
  modbus_refused x z = left_refused (open_of s) a e (λ n. (modbus_refusal n, (s, o))) (λ t. modbus_left (modbus_of t q o) s o) x z

  pub modbus_answered : (r : Record) (y : ℕ × (List ℕ × List ℕ)) → a ≡ Ok r → y ≡ modbus_left (modbus_of r q o) s o → y ≡ modbus_bytes s q o
  unfolding modbus_bytes
  modbus_answered r y z f = f ∙ left_opened (open_of s) a e (λ n. (modbus_refusal n, (s, o))) (λ t. modbus_left (modbus_of t q o) s o) r z

pub ruleset modbus_serving = (modbus_room, modbus_refused, modbus_answered, opens)

-- ---- `khuyapesh_banked_modbus`

-- a bank that was opened is never seen
bank_unseen : (h : Banked) (s b q o : List ℕ) → open_banked s b ≡ (0, h) → banked_modbus_left (banked_modbus_of h q o) s o ≡ modbus_left (modbus_of h.state q o) s o
unfolding banked_modbus_left modbus_left valid
bank_unseen h s b q o e =
    ap (λ (c : OutcomeOf Banked). banked_modbus_left c s o)
    (good_bank h q o (and_right (state.valid h.state) (bank.valid h.bank) (held-valid s b h e)))

module _ (s b q o : List ℕ) (x : Result Banked ℕ) (e : Opened x (open_banked s b)) where
  pub banked_modbus_room : (m : ℕ) → x ≡ Err m → 1000 + m < 2 ^ 32
  banked_modbus_room m z =
      let (n, h) = refuses (open_banked s b) x e m z in
      ⊎_elim (λ (w : (open_banked s b).0 ≡ 0). omega arith) (λ (w : BankedAnswer (open_banked s b).0). omega (arith, banked_below (open_banked s b).0 w)) (banked_number s b)

  pub banked_modbus_refused : (m : ℕ) → x ≡ Err m → (modbus_refusal m, (s, o)) ≡ banked_modbus_bytes s b q o
  unfolding banked_modbus_bytes
  banked_modbus_refused m z =
      left_refused (open_banked s b) x e (λ n. (modbus_refusal n, (s, o))) (λ y. banked_modbus_left (banked_modbus_of y q o) s o) m z

  module _ (h : Banked) (z : x ≡ Ok h) where
    both : open_banked s b ≡ (0, h)
    both = opens (open_banked s b) x e h z

    pub banked_modbus_opened : open_of s ≡ (0, h.state)
    banked_modbus_opened = (tells s b h both).0

    pub banked_modbus_answered : (y : ℕ × (List ℕ × List ℕ)) → y ≡ modbus_left (modbus_of h.state q o) s o → y ≡ banked_modbus_bytes s b q o
    unfolding banked_modbus_bytes
    banked_modbus_answered y f =
        f ∙ (sym (bank_unseen h s b q o both)
        ∙ left_opened (open_banked s b) x e (λ n. (modbus_refusal n, (s, o))) (λ z. banked_modbus_left (banked_modbus_of z q o) s o) h z)

pub ruleset banked_modbus_serving = (banked_modbus_room, banked_modbus_refused, banked_modbus_opened, banked_modbus_answered)

-- ---- what a caller of `khuyapesh_modbus` can rely on

-- K1 to K4 or K6, by the numbers that are answered for them here
abbrev pub RecordRefusal : ℕ → Type 0
RecordRefusal n = Within 1201 1204 n ⊎ (n ≡ 1206)

record_refusal : (n : ℕ) → StoredAnswer n → RecordRefusal (modbus_refusal n)
record_refusal n (inl w) = inl (omega arith)
record_refusal n (inr e) = inr (omega arith)

module _ (s q o : List ℕ) where
  never_silent : (r : Record) → open_of s ≡ (0, r) → (modbus_of r q o).silence ≡ 1 → ⊥
  unfolding modbus_of
  never_silent r e y = not_both (state.valid r) (opened-valid s r e) ((silence_exactly (state.valid r) r q o 0).0 y).fails

  modbus_cases : (P : ℕ × (List ℕ × List ℕ) → Type 0) → ((n : ℕ) → StoredAnswer n → P (modbus_refusal n, (s, o))) → ((n : ℕ) → Within 2 8 n → P (modbus_silence n, (s, o)))
      → ((r : Record) → open_of s ≡ (0, r) → Answered r q o → P ((modbus_of r q o).reported, (stored_form (modbus_of r q o).after, (modbus_of r q o).buffer)))
      → P (modbus_bytes s q o)
  unfolding modbus_bytes modbus_left
  modbus_cases =
      called_cases (open_of s) StoredAnswer (record_number s) modbus_silence modbus_refusal (s, o) (λ r. modbus_of r q o)
      (λ r. (stored_form (modbus_of r q o).after, (modbus_of r q o).buffer)) o (λ r. Answered r q o) (λ r. every r q o) (λ r x. x.heard) never_silent

  -- "the reply's length", 5 to 255; "or K1 to K4 or K6 .., then M2 to M8", so that a length is no refusal's number
  pub modbus_numbers : Within 5 255 (modbus_bytes s q o).0 ⊎ (Within 902 908 (modbus_bytes s q o).0 ⊎ RecordRefusal (modbus_bytes s q o).0)
  modbus_numbers =
      modbus_cases (λ (p : ℕ × (List ℕ × List ℕ)). Within 5 255 p.0 ⊎ (Within 902 908 p.0 ⊎ RecordRefusal p.0))
      (λ n w. inr (inr (record_refusal n w))) (λ n w. inr (inl (omega arith)))
      (λ r e x. inl (x.low, x.high))

  -- "A silence or refusal leaves every lent byte as it was"
  pub modbus_keeps : 900 ≤ (modbus_bytes s q o).0 → (modbus_bytes s q o).1 ≡ (s, o)
  modbus_keeps =
      modbus_cases (λ (p : ℕ × (List ℕ × List ℕ)). 900 ≤ p.0 → p.1 ≡ (s, o)) (λ n w h. refl) (λ n w h. refl) (λ r e x h. absurd (let l = x.high in omega arith))

  -- "the reply, CRC included, at the start of the reply buffer, the rest of which stays"; "the record after it in place of the stored record"
  pub record Stored (p : ℕ × (List ℕ × List ℕ)) : Type 0 where
    pub check : crc_right (take p.0 p.1.1) ≡ true
    pub rest : drop p.0 p.1.1 ≡ drop p.0 o
    pub after : stored.read_of p.1.0 ≡ (done, (modbus_of (stored.read_of s).1 q o).after)

  pub modbus_stores : (modbus_bytes s q o).0 < 900 → Stored (modbus_bytes s q o)
  modbus_stores =
      modbus_cases (λ (p : ℕ × (List ℕ × List ℕ)). p.0 < 900 → Stored p) (λ n w h. absurd (omega arith)) (λ n w h. absurd (omega arith))
      (λ r e x h. record {
        check = x.check;
        rest = x.rest;
        after =
            form_read (modbus_of r q o).after (keeps_valid r q o (opened-valid s r e))
            ∙ ap (λ (y : stored.Outcome × Record). (done, (modbus_of y.1 q o).after)) (sym (open_tells s r e).0);
      })

-- ---- and of `khuyapesh_banked_modbus`: beside a bank that is refused all stays, and beside any other it is `khuyapesh_modbus`
module _ (s b q o : List ℕ) where
  pub banked_refused : (n : ℕ) → (open_banked s b).0 ≡ n → (n ≡ 0 → ⊥) → banked_modbus_bytes s b q o ≡ (modbus_refusal n, (s, o))
  unfolding banked_modbus_bytes
  banked_refused n e h =
      sym (left_refused {S = Banked} (open_banked s b) (Err n) (e, h) (λ m. (modbus_refusal m, (s, o))) (λ y. banked_modbus_left (banked_modbus_of y q o) s o) n refl)

  pub banked_beside : (open_banked s b).0 ≡ 0 → banked_modbus_bytes s b q o ≡ modbus_bytes s q o
  unfolding banked_modbus_bytes modbus_bytes
  banked_beside e =
      let h : Banked = (open_banked s b).1 in
      let both : open_banked s b ≡ (0, h) = ap (λ (m : ℕ). (m, h)) e in
      sym (left_opened (open_banked s b) (Ok h) both (λ m. (modbus_refusal m, (s, o))) (λ y. banked_modbus_left (banked_modbus_of y q o) s o) h refl)
      ∙ (bank_unseen h s b q o both
      ∙ left_opened (open_of s) (Ok h.state) (tells s b h both).0 (λ m. (modbus_refusal m, (s, o))) (λ t. modbus_left (modbus_of t q o) s o) h.state refl)

  -- so its numbers are those, and 1207 for the bank; and a silence or refusal leaves every lent byte here too
  pub banked_modbus_answers : (Within 5 255 (banked_modbus_bytes s b q o).0 ⊎ (Within 902 908 (banked_modbus_bytes s b q o).0 ⊎ (RecordRefusal (banked_modbus_bytes s b q o).0 ⊎ ((banked_modbus_bytes s b q o).0 ≡ 1207))))
      × (900 ≤ (banked_modbus_bytes s b q o).0 → (banked_modbus_bytes s b q o).1 ≡ (s, o))
  banked_modbus_answers =
      ⊎_elim
      (λ (e : (open_banked s b).0 ≡ 0). subst Answers (sym (banked_beside e)) (
        ⊎_elim (λ (x : Within 5 255 (modbus_bytes s q o).0). inl x)
            (λ (x : Within 902 908 (modbus_bytes s q o).0 ⊎ RecordRefusal (modbus_bytes s q o).0).
            ⊎_elim (λ (y : Within 902 908 (modbus_bytes s q o).0). inr (inl y)) (λ (y : RecordRefusal (modbus_bytes s q o).0). inr (inr (inl y))) x) (modbus_numbers s q o),
        modbus_keeps s q o,
      ))
      (λ (w : BankedAnswer (open_banked s b).0).
      subst Answers (sym (banked_refused (open_banked s b).0 refl (λ z. omega (arith, banked_high (open_banked s b).0 w)))) (refusal-told (open_banked s b).0 w, λ h. refl))
      (banked_number s b)
    where
      Answers : ℕ × (List ℕ × List ℕ) → Type 0
      Answers p = (Within 5 255 p.0 ⊎ (Within 902 908 p.0 ⊎ (RecordRefusal p.0 ⊎ (p.0 ≡ 1207)))) × (900 ≤ p.0 → p.1 ≡ (s, o))

      refusal-told : (n : ℕ) → BankedAnswer n → Within 5 255 (modbus_refusal n) ⊎ (Within 902 908 (modbus_refusal n) ⊎ (RecordRefusal (modbus_refusal n) ⊎ (modbus_refusal n ≡ 1207)))
      refusal-told n (inl w) = inr (inr (inl (record_refusal n w)))
      refusal-told n (inr e) = inr (inr (inr (omega arith)))
