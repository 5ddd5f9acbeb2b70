-- What fills the three lists of a bank's batches, and what is printed: one law for each return. Assumes nothing.
use Prim.Native.Nat.{ℕ, ◌+◌, ◌≤◌, ◌<◌, min}
use mathlib.Core.Bool.{false≢true}
use mathlib.Core.Path.{◌≡◌, refl, sym, ap, ◌∙◌}
use mathlib.Core.List.{List, [], ◌∷◌, ◌++◌, map, map-append}
use mathlib.Core.Logic.{⊎_elim}
use native.Mathlib.Numerals.{add-one}
use native.Mathlib.Omega.{arith}
use lib.ListN.{length, get_or, set, take, length-set, replicate}
use lib.Seq.{take-suc, take_all, take-suc-set}
use Rattle.std.specs.Option.{unwrap_or}
use Rattle.std.specs.Prelude.{Option, Some, Result, Ok, Err, IsOk, IsErr, is_ok}
use Rattle.base.proofs.Tests.{below_or_not}
use Rattle.text.specs.Word.{digits, width_in, decimal}
use Rattle.text.specs.Written.{written_at, written_first}
use Rattle.text.proofs.Writing.{room-written, first-laid, first-within, first_count}
use Rattle.bank.specs.declared.Batch.{Batch}
use Rattle.bank.specs.declared.Bank.{Bank}
use Rattle.bank.specs.Bank.{most, no_batch, valid, empty_bank}
use Rattle.storedbank.specs.declared.Refused.{Refused}
use Rattle.storedbank.specs.StoredBank as stored
use Rattle.storedbank.specs.StoredBank.{K, done, reading_as, read_of}
use Rattle.storedbank.proofs.RoundTrip.{read_valid}
use Rattle.totalling.specs.declared.Refusal.{Refusal}
use Rattle.totalling.specs.declared.Refusal.TheVariants as refusal
use Rattle.totalling.specs.Totals.{Outcome, outcome, zeros, entries, table, sum_over, all_in_range, totals_of, totals_as}
use Rattle.totalling.specs.declared.Totals.{Totals}
use Rattle.sheet.specs.Sheet.{room, sheet_text}
use Rattle.week.proofs.Theorems.{bank_added}
use Rattle.week.specs.Week.{raws_of, factors_of, recipes_of, batch_totals, bank_totals, week_of, week_as, answer_as, printed, week_text, write_of}

-- ---- beyond its room a bank keeps nothing
pub kept_all : (bs : List Batch) (n m : ℕ) → length bs ≡ most → m ≡ min n most → take m bs ≡ take n bs
kept_all bs n m e h =
    ⊎_elim (λ (l : n < most). ap (λ (k : ℕ). take k bs) (omega arith))
    (λ (l : most ≤ n). let q : m ≡ most = omega arith in ap (λ (k : ℕ). take k bs) q ∙ (take_all most bs (omega arith) ∙ sym (take_all n bs (omega arith))))
    (below_or_not n most)

-- ---- one batch more, whichever of its numbers the list is of
one_more : (f : Batch → ℕ) (bs : List Batch) (xs : List ℕ) (i : ℕ) → i < length bs → i < length xs → take i xs ≡ map f (take i bs)
    → take (i + 1) (set xs i (f (get_or bs i no_batch))) ≡ map f (take (i + 1) bs)
one_more f bs xs i h k e =
    rw (add-one)
    (take-suc-set xs i (f (get_or bs i no_batch)) k
    ∙ (ap (λ (l : List ℕ). l ++ (f (get_or bs i no_batch) ∷ [])) e
    ∙ (sym (map-append f (take i bs) (get_or bs i no_batch ∷ [])) ∙ ap (map f) (sym (take-suc bs i no_batch h)))))

-- the lists hold the numbers of the first i batches
pub record Filled (bs : List Batch) (vs fs rs : List ℕ) (i : ℕ) : Type 0 where
  pub few : length bs ≤ most
  pub raws-room : length vs ≡ most
  pub factors-room : length fs ≡ most
  pub recipes-room : length rs ≡ most
  pub raws_are : take i vs ≡ raws_of (take i bs)
  pub factors_are : take i fs ≡ factors_of (take i bs)
  pub recipes_are : take i rs ≡ recipes_of (take i bs)

pub filled_none : (bs : List Batch) → length bs ≤ most → Filled bs (replicate most 0) (replicate most 0) (replicate most 0) 0
filled_none bs h =
    record {
      few = h;
      raws-room = refl;
      factors-room = refl;
      recipes-room = refl;
      raws_are = refl;
      factors_are = refl;
      recipes_are = refl;
    }

module _ {bs : List Batch} {vs fs rs : List ℕ} {i : ℕ} (l : Filled bs vs fs rs i) where
  pub filled_more : i < length bs
      → Filled bs (set vs i (get_or bs i no_batch).raw) (set fs i (get_or bs i no_batch).factor) (set rs i (get_or bs i no_batch).recipe) (i + 1)
  filled_more h =
      let b : Batch = get_or bs i no_batch in
      record {
        few = l.few;
        raws-room = length-set vs i b.raw ∙ l.raws-room;
        factors-room = length-set fs i b.factor ∙ l.factors-room;
        recipes-room = length-set rs i b.recipe ∙ l.recipes-room;
        raws_are = one_more (λ (b : Batch). b.raw) bs vs i h (omega (arith, l.few, l.raws-room)) l.raws_are;
        factors_are = one_more (λ (b : Batch). b.factor) bs fs i h (omega (arith, l.few, l.factors-room)) l.factors_are;
        recipes_are = one_more (λ (b : Batch). b.recipe) bs rs i h (omega (arith, l.few, l.recipes-room)) l.recipes_are;
      }

  -- all are in, and are added up
  pub filled_all : (t : Outcome) (n : ℕ) → length bs ≤ i → n ≡ i → t ≡ totals_of (take n vs) (take n fs) (take n rs) → t ≡ batch_totals bs
  unfolding batch_totals
  filled_all t n h q w =
      let e : take i bs ≡ bs = take_all i bs h in
      let x : take n vs ≡ raws_of bs = ap (λ (j : ℕ). take j vs) q ∙ (l.raws_are ∙ ap raws_of e) in
      let y : take n fs ≡ factors_of bs = ap (λ (j : ℕ). take j fs) q ∙ (l.factors_are ∙ ap factors_of e) in
      let z : take n rs ≡ recipes_of bs = ap (λ (j : ℕ). take j rs) q ∙ (l.recipes_are ∙ ap recipes_of e) in
      w ∙ (ap (λ (a : List ℕ). totals_of a (take n fs) (take n rs)) x ∙ (ap (λ (a : List ℕ). totals_of (raws_of bs) a (take n rs)) y
      ∙ ap (totals_of (raws_of bs) (factors_of bs)) z))

-- ---- a stored bank
empty_totals : bank_totals empty_bank ≡ outcome 0 zeros zeros
unfolding batch_totals totals_of entries all_in_range table sum_over
empty_totals = refl

never_err : (t : Result Totals Refusal) → (totals_as t).refused ≡ 0 → IsOk t
never_err (Ok x) h = refl
never_err (Err refusal.UnequalLengths) h = absurd (omega arith)
never_err (Err refusal.TooMany) h = absurd (omega arith)
never_err (Err refusal.OutOfRange) h = absurd (omega arith)

module _ (s : List ℕ) (r : Result Bank Refused) (e : reading_as r ≡ read_of s) where
  beside_refusal : (why : Refused) → r ≡ Err why → (K 7, outcome 0 zeros zeros) ≡ week_of s
  unfolding week_of
  beside_refusal why w =
      ap (λ (o : Outcome). (K 7, o)) (sym empty_totals)
      ∙ ap (λ (p : stored.Outcome × Bank). (p.0, bank_totals p.1)) (sym (ap reading_as w) ∙ e)

  pub week_refused : (x : Result Totals Refused) (why : Refused) → r ≡ Err why → IsErr x → week_as x ≡ week_of s
  week_refused (Ok t) why w h = absurd (false≢true h)
  week_refused (Err because) why w h = beside_refusal why w

  module _ (k : Bank) (w : r ≡ Ok k) (t : Result Totals Refusal) (a : totals_as t ≡ bank_totals k) where
    is_read : (done, k) ≡ read_of s
    is_read = sym (ap reading_as w) ∙ e

    pub week_ok : IsOk t
    week_ok = never_err t (ap (λ (o : Outcome). o.refused) (a ∙ bank_added k (ap (λ (p : stored.Outcome × Bank). valid p.1) is_read ∙ read_valid s)))

    pub week_whole : (x : Totals) → t ≡ Ok x → (done, outcome 0 x.sums x.counts) ≡ week_of s
    unfolding week_of
    week_whole x q =
        ap (λ (o : Outcome). (done, o)) (sym (ap totals_as q) ∙ a) ∙ ap (λ (p : stored.Outcome × Bank). (p.0, bank_totals p.1)) is_read

-- ---- what is printed
abbrev pub refused_line : List ℕ
refused_line = 0x72 ∷ 0x65 ∷ 0x66 ∷ 0x75 ∷ 0x73 ∷ 0x65 ∷ 0x64 ∷ 0x20 ∷ 0x4b ∷ 0x37 ∷ 0x0a ∷ []

module _ (o o₁ : List ℕ) (a : Result Totals Refused) (n : ℕ) where
  pub lines_printed : {t : Totals} → a ≡ Ok t → (n, o₁) ≡ written_first room (sheet_text t.counts t.sums) o
      → (n, o₁) ≡ written_first room (printed (week_as a)) o
  unfolding printed
  lines_printed w h = h ∙ ap (λ (b : Result Totals Refused). written_first room (printed (week_as b)) o) (sym w)

  pub refused_printed : {why : Refused} → room ≤ length o → a ≡ Err why → (n, o₁) ≡ written_at 0 refused_line o
      → (n, o₁) ≡ written_first room (printed (week_as a)) o
  unfolding printed decimal width_in digits
  refused_printed r w h =
      first-laid room n refused_line o o₁ r (room-written 0 n refused_line o o₁ (omega arith) h)
      ∙ ap (λ (b : Result Totals Refused). written_first room (printed (week_as b)) o) (sym w)

same_answer : (a : Result Totals Refused) (b : Result (Unit {0}) Refused) → is_ok b ≡ is_ok a → answer_as b ≡ (week_as a).0
same_answer (Ok t) (Ok u) h = refl
same_answer (Ok t) (Err e) h = absurd (false≢true h)
same_answer (Err e) (Ok u) h = absurd (false≢true (sym h))
same_answer (Err e) (Err f) h = refl

pub week_printed : (bs o o₁ : List ℕ) (a : Result Totals Refused) (b : Result (Unit {0}) Refused) (n : ℕ) → is_ok b ≡ is_ok a → week_as a ≡ week_of bs
    → (n, o₁) ≡ written_first room (printed (week_as a)) o → (answer_as b, (n, o₁)) ≡ write_of bs o
unfolding write_of
week_printed bs o o₁ a b n v e h =
    ap (λ (x : stored.Outcome). (x, (n, o₁))) (same_answer a b v)
    ∙ (ap (λ (p : ℕ × List ℕ). ((week_as a).0, p)) h ∙ ap (λ (p : stored.Outcome × Outcome). (p.0, written_first room (printed p) o)) e)

-- what is printed lies within the buffer
module _ (bs o o₁ : List ℕ) (a : stored.Outcome) (w : Option ℕ) (n : ℕ) (q : w ≡ Some n) (e : (a, (unwrap_or w 0, o₁)) ≡ write_of bs o) where
  laid-first : (n, o₁) ≡ written_first room (week_text bs) o
  unfolding write_of
  laid-first = ap (λ (x : Option ℕ). (unwrap_or x 0, o₁)) (sym q) ∙ ap (λ (p : stored.Outcome × (ℕ × List ℕ)). p.1) e

  pub printed-within : n ≤ length o₁
  printed-within = first-within room n (week_text bs) o o₁ laid-first

  pub printed-count : n ≡ length (take n o₁)
  printed-count = first_count room n (week_text bs) o o₁ laid-first
