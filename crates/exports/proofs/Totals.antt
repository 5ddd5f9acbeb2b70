-- The entries of request L8: one law for each return, and which numbers are answered. Assumes nothing.
use Prim.Native.Nat.{ℕ, ◌^◌, ◌≤◌, ◌<◌}
use mathlib.Core.Bool.{Bool, true, false, not}
use mathlib.Core.Path.{◌≡◌, refl, sym, ap, subst, ◌∙◌}
use mathlib.Core.List.{List}
use mathlib.Core.Logic.{◌⊎◌, inl, inr, ◌↔◌}
use native.Mathlib.Omega.{arith}
use lib.Dec.{eqb, leb}
use lib.ListN.{length}
use borrow.Author.Tests.{eqb-false, lt-leb, le-leb, not-true, not-false}
use Rattle.base.specs.Test.{unless}
use Rattle.base.specs.Lists.{over}
use Rattle.base.proofs.Tests.{by_test}
use Rattle.base.proofs.FirstFailing.{not_both}
use Rattle.text.specs.Written.{written_first}
use Rattle.std.specs.Prelude.{Option, Some, None, Result, Ok, Err, is_some}
use Rattle.std.specs.Option.{unwrap_or}
use Rattle.storedbank.specs.declared.Refused.{Refused}
use Rattle.storedbank.specs.StoredBank as storedbank
use Rattle.totalling.specs.Totals.{room_for, totals_of, laid_in}
use Rattle.totalling.proofs.Theorems.{refused_most}
use Rattle.sheet.specs.Sheet.{units_text, line_room, room}
use Rattle.sheet.proofs.Laws.{units_high}
use Rattle.sheet.proofs.ReadBack.{units-length}
use Rattle.week.specs.Week.{week_of, answer_as, week_text, write_of}
use Rattle.exports.specs.Bytes.{bank_answer}
use Rattle.exports.specs.Totals.{totals_answer, unless_short, handed_out, totals_numbers, bank_totals_numbers, units_bytes, text_bytes}
use Rattle.exports.proofs.InPlace.{Within}

-- ---- sums and numbers that are handed out, or not where there is no room
module _ (ss cs so co s c : List ℕ) (b : Bool) (e : (b, (s, c)) ≡ laid_in ss cs so co) where
  by_room : (r : Bool) → room_for so co ≡ r → ◌≡◌ {A = Bool × (List ℕ × List ℕ)} (b, (s, c)) (unless r (false, (so, co)) (true, (over ss so, over cs co)))
  unfolding laid_in
  by_room r h = e ∙ simp h

  -- what `lay` says is whether there is room
  laid-room : b ≡ room_for so co
  laid-room = by_test (room_for so co) (λ h. ap (λ (p : Bool × (List ℕ × List ℕ)). p.0) (by_room true h) ∙ sym h) (λ h. ap (λ (p : Bool × (List ℕ × List ℕ)). p.0) (by_room false h) ∙ sym h)

  pub none_handed : (n : ℕ) → not b ≡ true → (401, (s, c)) ≡ handed_out n ss cs so co
  none_handed n h =
      let k : room_for so co ≡ false = sym laid-room ∙ not-true b h in
      ap (λ (p : Bool × (List ℕ × List ℕ)). (401, p.1)) (by_room false k) ∙ sym (simp k)

  pub all_handed : (n : ℕ) → not b ≡ false → (n, (s, c)) ≡ handed_out n ss cs so co
  all_handed n h =
      let k : room_for so co ≡ true = sym laid-room ∙ not-false b h in
      ap (λ (p : Bool × (List ℕ × List ℕ)). (n, p.1)) e ∙ sym (simp k)

pub ruleset handing = (none_handed, all_handed)

-- `khuyapesh_units`
module _ (s : ℕ) (x : Option ℕ) (o o₁ : List ℕ) (e : (unwrap_or x 0, o₁) ≡ written_first line_room (units_text s) o) (room : is_some x ≡ leb line_room (length o)) where
  units_by : (b : Bool) → leb line_room (length o) ≡ b → ◌≡◌ {A = ℕ × List ℕ} (unwrap_or x 0, o₁) (unless b (0, o) (length (units_text s), over (units_text s) o))
  unfolding written_first
  units_by b h = e ∙ simp h

  pub units_short : x ≡ None → (401, o₁) ≡ units_bytes s o
  unfolding units_bytes
  units_short z =
      let h : leb line_room (length o) ≡ false = sym room ∙ ap is_some z in
      ap (λ (p : ℕ × List ℕ). (401, p.1)) (units_by false h) ∙ sym (simp h)

  module _ (n : ℕ) (z : x ≡ Some n) where
    there : leb line_room (length o) ≡ true
    there = sym room ∙ ap is_some z

    same : ◌≡◌ {A = ℕ} n (unwrap_or x 0)
    same = sym (ap (λ (y : Option ℕ). unwrap_or y 0) z)

    pub units_written : (n, o₁) ≡ units_bytes s o
    unfolding units_bytes
    units_written = ap (λ (m : ℕ). (m, o₁)) same ∙ (e ∙ sym (simp there))

    -- a sum is short
    pub units_fit : n < 2 ^ 32
    units_fit = omega (arith, same, ap (λ (p : ℕ × List ℕ). p.0) (units_by true there), units_high s)

pub ruleset units_writing = (units_short, units_written, units_fit)

-- `khuyapesh_totals_text`
pub text_short : (bs o : List ℕ) → length o < room → (401, (0, o)) ≡ text_bytes bs o
unfolding text_bytes
text_short bs o h = simp (lt-leb _ _ h)

module _ (bs o o₁ : List ℕ) (a : Result (Unit {0}) Refused) (x : Option ℕ) (e : (answer_as a, (unwrap_or x 0, o₁)) ≡ write_of bs o) (roomy : room ≤ length o) (m : ℕ) (z : x ≡ Some m) where
  text_there : (b : Result (Unit {0}) Refused) → a ≡ b → (bank_answer (answer_as b), (m, o₁)) ≡ text_bytes bs o
  unfolding text_bytes write_of
  text_there b f =
      ap (λ (y : Result (Unit {0}) Refused). (bank_answer (answer_as y), (m, o₁))) (sym f)
      ∙ (ap (λ (y : Option ℕ). (bank_answer (answer_as a), (unwrap_or y 0, o₁))) (sym z)
      ∙ (ap (λ (p : storedbank.Outcome × (ℕ × List ℕ)). (bank_answer p.0, p.1)) e ∙ sym (simp (le-leb _ _ roomy))))

  pub text_whole : (u : Unit {0}) → a ≡ Ok u → (0, (m, o₁)) ≡ text_bytes bs o
  text_whole u f = text_there (Ok u) f

  pub text_refused : (u : Refused) → a ≡ Err u → (207, (m, o₁)) ≡ text_bytes bs o
  text_refused u f = text_there (Err u) f

pub ruleset text_writing = (text_short, text_whole, text_refused)

-- ---- H1 comes exactly where there is no room, and then all is as it was; else one of some numbers is answered
pub record Roomed {A : Type 0} (room : Bool) (kept : A) (Number : ℕ → Type 0) (x : ℕ × A) : Type 0 where
  pub short_exactly : x.0 ≡ 401 ↔ room ≡ false
  pub short_keeps : room ≡ false → x ≡ (401, kept)
  pub others : room ≡ true → Number x.0

roomed : {A : Type 0} (room : Bool) (kept : A) (Number : ℕ → Type 0) (done : ℕ × A) → (Number 401 → ⊥) → (room ≡ true → Number done.0) → Roomed room kept Number (unless_short room kept done)
roomed true kept Number done not_IsShort number =
    record {
      short_exactly = (λ e. absurd (not_IsShort (subst Number e (number refl))), λ e. not_both true refl e);
      short_keeps = λ e. not_both true refl e;
      others = number;
    }
roomed false kept Number done not_IsShort number =
    record { short_exactly = (λ e. refl, λ e. refl); short_keeps = λ e. refl; others = λ e. not_both false e refl }

-- "KHUYAPESH_DONE .. or W1 to W3", "KHUYAPESH_DONE .. or K7", "its length, 6 to 21"
abbrev pub TotalsNumber : ℕ → Type 0
TotalsNumber n = (n ≡ 0) ⊎ Within 801 803 n

abbrev pub BankNumber : ℕ → Type 0
BankNumber n = (n ≡ 0) ⊎ (n ≡ 207)

totals_high : (n : ℕ) → n ≤ 3 → TotalsNumber (totals_answer n)
totals_high n h = by_test (eqb n 0) (λ e. simp e (inl refl)) (λ e. simp e (inr (omega (arith, eqb-false n 0 e), omega arith)))

bank_high : (bs : List ℕ) → BankNumber (bank_answer (week_of bs).0)
unfolding week_of storedbank.read_of
bank_high bs = by_test (storedbank.well_formed bs) (λ e. simp e (inl refl)) (λ e. simp e (inr refl))

not_totals : TotalsNumber 401 → ⊥
not_totals (inl e) = omega arith
not_totals (inr w) = omega (arith, w.0)

not_bank : BankNumber 401 → ⊥
not_bank (inl e) = omega arith
not_bank (inr e) = omega arith

pub totals_roomed : (vs fs rs so co : List ℕ) → Roomed (room_for so co) (so, co) TotalsNumber (totals_numbers vs fs rs so co)
unfolding totals_numbers
totals_roomed vs fs rs so co =
    roomed (room_for so co) (so, co) TotalsNumber (totals_answer (totals_of vs fs rs).refused, (laid_in (totals_of vs fs rs).sums (totals_of vs fs rs).counts so co).1)
    not_totals (λ e. totals_high (totals_of vs fs rs).refused (refused_most vs fs rs))

pub bank_roomed : (bs so co : List ℕ) → Roomed (room_for so co) (so, co) BankNumber (bank_totals_numbers bs so co)
unfolding bank_totals_numbers
bank_roomed bs so co =
    roomed (room_for so co) (so, co) BankNumber (bank_answer (week_of bs).0, (laid_in (week_of bs).1.sums (week_of bs).1.counts so co).1) not_bank (λ e. bank_high bs)

pub units_roomed : (s : ℕ) (o : List ℕ) → s < 2 ^ 64 → Roomed (leb line_room (length o)) o (Within 6 21) (units_bytes s o)
unfolding units_bytes written_first
units_roomed s o h =
    roomed (leb line_room (length o)) o (Within 6 21) (written_first line_room (units_text s) o) (λ w. omega (arith, w.1)) (λ e. simp e (units-length s h))

pub text_roomed : (bs o : List ℕ) → Roomed (leb room (length o)) (0, o) BankNumber (text_bytes bs o)
unfolding text_bytes
text_roomed bs o = roomed (leb room (length o)) (0, o) BankNumber (bank_answer (week_of bs).0, written_first room (week_text bs) o) not_bank (λ e. bank_high bs)
