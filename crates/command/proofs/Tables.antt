-- What the two tables say of every request and record: a refusal goes out exactly by the first row that applies, and an accepted
-- request changes exactly the fields of its row. Assumes nothing.
use Prim.Native.Nat.{ℕ, zero, suc, ◌<◌}
use mathlib.Core.Bool.{Bool, true, false}
use mathlib.Core.Path.{◌≡◌, refl, ap, ap₂, ◌∙◌}
use mathlib.Core.List.{List, [], ◌∷◌}
use native.Mathlib.Nat.{not-suc-le-zero, le_of_suc-le-suc}
use native.Mathlib.Omega.{arith}
use lib.Dec.{eqb}
use lib.ListN.{length, get_or}
use borrow.Author.Tests.{eq-eqb, ne_eqb}
use Rattle.state.specs.declared.Record.{Record}
use Rattle.base.specs.Test.{pick}
use Rattle.state.specs.Alarm.{lasting}
use Rattle.state.specs.Parameter.{parameter_count, range_at}
use Rattle.state.specs.Field.{Field, access, changed, number, alarms, value, get, put, position, field_range, Held}
use Rattle.state.specs.Valid.{within, valid}
use Rattle.state.proofs.Fields.{at_field, get-put_other}
use Rattle.state.proofs.Kept.{get-put_own, put_kept, next_in, lasting_in, reset_kept, flag_in, replaced_kept}
use Rattle.state.specs.Event.{next_number, flag_after}
use Rattle.command.specs.Commands.{Change, becomes, next_batch, reset_alarms, new_value, after_change, applied}
use Rattle.command.specs.Refusals.{Row, by_text, applies, row_number}
use Rattle.command.specs.Answer.{NO, accepted, first_of}

-- ---- the first row that applies

-- stands for a row beyond the last
abbrev pub no_row : Row
no_row = by_text 0 (λ c xs. false)

-- row i applies, and no row before it
pub record FirstAt (rows : List Row) (c : ℕ) (xs : List ℕ) (r : Record) (i : ℕ) : Type 0 where
  pub listed : i < length rows
  pub holds : applies (get_or rows i no_row) c xs r ≡ true
  pub none_before : (j : ℕ) → j < i → applies (get_or rows j no_row) c xs r ≡ false

module _ (c : ℕ) (xs : List ℕ) (r : Record) where
  -- the first row's number goes out
  pub first_goes_out : (rows : List Row) (i : ℕ) → FirstAt rows c xs r i → first_of rows c xs r ≡ NO (row_number (get_or rows i no_row))
  unfolding first_of
  first_goes_out [] i f = absurd (not-suc-le-zero f.listed)
  first_goes_out (row ∷ rows) zero f = simp f.holds
  first_goes_out (row ∷ rows) (suc i) f =
      simp (f.none_before zero (omega arith))
      (first_goes_out rows i
      (record { listed = le_of_suc-le-suc f.listed; holds = f.holds; none_before = λ j l. f.none_before (suc j) (omega arith) }))

  -- no number goes out but by its row
  pub by_first : (rows : List Row) (n : ℕ) → first_of rows c xs r ≡ NO n → (i : ℕ) × FirstAt rows c xs r i × (row_number (get_or rows i no_row) ≡ n)
  unfolding first_of
  by_first [] n e = let z : ◌≡◌ {A = ℕ} 0 1 = cc in absurd (omega arith)
  by_first (row ∷ rows) n e = go (applies row c xs r) refl e (λ q. by_first rows n q)
    where
      go : (b : Bool) → applies row c xs r ≡ b → pick b (NO (row_number row)) (first_of rows c xs r) ≡ NO n
          → (first_of rows c xs r ≡ NO n → (i : ℕ) × FirstAt rows c xs r i × (row_number (get_or rows i no_row) ≡ n))
          → (i : ℕ) × FirstAt (row ∷ rows) c xs r i × (row_number (get_or (row ∷ rows) i no_row) ≡ n)
      go true h q rest = (0, record { listed = omega arith; holds = h; none_before = λ j l. absurd (omega arith) }, let z : row_number row ≡ n = cc in z)
      go false h q rest =
          let (i, f, m) = rest q in
          (suc i, record { listed = let l = f.listed in omega arith; holds = f.holds; none_before = before i f }, m)
        where
          before : (i : ℕ) → FirstAt rows c xs r i → (j : ℕ) → j < suc i → applies (get_or (row ∷ rows) j no_row) c xs r ≡ false
          before i f zero l = h
          before i f (suc j) l = f.none_before j (le_of_suc-le-suc l)

  -- accepted exactly if no row applies
  pub none-applies : (rows : List Row) → first_of rows c xs r ≡ accepted → (j : ℕ) → j < length rows → applies (get_or rows j no_row) c xs r ≡ false
  unfolding first_of
  none-applies [] e j l = absurd (not-suc-le-zero l)
  none-applies (row ∷ rows) e j l = go (applies row c xs r) refl e (λ q k m. none-applies rows q k m) j l
    where
      go : (b : Bool) → applies row c xs r ≡ b → pick b (NO (row_number row)) (first_of rows c xs r) ≡ accepted
          → (first_of rows c xs r ≡ accepted → (k : ℕ) → k < length rows → applies (get_or rows k no_row) c xs r ≡ false)
          → (i : ℕ) → i < length (row ∷ rows) → applies (get_or (row ∷ rows) i no_row) c xs r ≡ false
      go true h q rest i m = let z : ◌≡◌ {A = ℕ} 0 1 = cc in absurd (omega arith)
      go false h q rest zero m = h
      go false h q rest (suc i) m = rest q i (le_of_suc-le-suc m)

  pub accepted-if-none : (rows : List Row) → ((j : ℕ) → j < length rows → applies (get_or rows j no_row) c xs r ≡ false) → first_of rows c xs r ≡ accepted
  unfolding first_of
  accepted-if-none [] h = refl
  accepted-if-none (row ∷ rows) h = simp (h zero (omega arith)) (accepted-if-none rows (λ j l. h (suc j) (omega arith)))

-- ---- the fields that changes leave

-- what each field holds, with n in one of them
abbrev pub assigned : Field → ℕ → (Field → ℕ) → Field → ℕ
assigned f n w g = pick (eqb (position f) (position g)) n (w g)

-- what each field holds after a change, by what it held: another number only where the change names it
abbrev pub given : Change → (Field → ℕ) → Field → ℕ
given (becomes f n) w = assigned f n w
given next_batch w = assigned number (next_number (w number)) w
given reset_alarms w = assigned alarms (lasting (w alarms)) w
given (new_value i n) w = assigned (value i) n (assigned changed (flag_after (w (value i)) n (w changed)) w)

-- what a field holds after changes
unfoldable pub number_after : Field → List Change → Record → ℕ
number_after g [] r = get g r
number_after g (c ∷ cs) r = given c (λ f. number_after f cs r) g

-- a change names fields of the record, not the address or the access, and numbers within their ranges
abbrev pub FitsRecord : Change → Type 0
FitsRecord (becomes f n) = Held f × (position access < position f) × (within (field_range f) n ≡ true)
FitsRecord next_batch = Unit {0}
FitsRecord reset_alarms = Unit {0}
FitsRecord (new_value i n) = (i < parameter_count) × (within (range_at i) n ≡ true)

abbrev pub Fitting : List Change → Type 0
Fitting [] = Unit {0}
Fitting (c ∷ cs) = FitsRecord c × Fitting cs

-- ---- one change, of a valid record whose fields hold w
module _ (s : Record) (v : valid s ≡ true) where
  change-valid : (c : Change) → FitsRecord c → valid (after_change c s) ≡ true
  change-valid (becomes f n) h = put_kept s v f n h.2
  change-valid next_batch h = put_kept s v number (next_number (get number s)) (next_in s v)
  change-valid reset_alarms h = reset_kept s v
  change-valid (new_value i n) h = replaced_kept s v changed (omega arith) refl (value i) n h.1

  module _ (w : Field → ℕ) (before : (g : Field) → get g s ≡ w g) where
    -- a number put into a field shows there, and each other field holds what it held
    pub put_reads : (f : Field) (n m : ℕ) → Held f → within (field_range f) n ≡ true → n ≡ m → (g : Field) → get g (put f n s) ≡ assigned f m w g
    put_reads f n m h i e =
        at_field f (λ g. get g (put f n s) ≡ assigned f m w g)
        (simp (eq-eqb (position f) (position f) refl) (get-put_own s v f n h i ∙ e))
        (λ g other. simp (ne_eqb (position f) (position g) other) (get-put_other f g n s other ∙ before g))

change-reads : (s : Record) → valid s ≡ true → (w : Field → ℕ) → ((g : Field) → get g s ≡ w g)
    → (c : Change) → FitsRecord c → (g : Field) → get g (after_change c s) ≡ given c w g
change-reads s v w before (becomes f n) h g = put_reads s v w before f n n h.0 h.2 refl g
change-reads s v w before next_batch h g = put_reads s v w before number _ _ (omega arith) (next_in s v) (ap next_number (before number)) g
change-reads s v w before reset_alarms h g = put_reads s v w before alarms _ _ (omega arith) (lasting_in s v) (ap lasting (before alarms)) g
-- the flag, and then the value
change-reads s v w before (new_value i n) h g =
    let l = h.0 in
    let flag = flag_after (get (value i) s) n (get changed s) in
    let inside = flag_in s v changed (omega arith) refl (get (value i) s) n in
    put_reads (put changed flag s) (put_kept s v changed flag inside) _
    (put_reads s v w before changed flag _ (omega arith) inside (ap₂ (λ (m k : ℕ). flag_after m n k) (before (value i)) (before changed))) (value i) n n
    (omega arith) h.1 refl g

-- ---- changes
module _ (r : Record) (v : valid r ≡ true) where
  -- a valid record stays valid
  pub applied-valid : (cs : List Change) → Fitting cs → valid (applied cs r) ≡ true
  unfolding applied
  applied-valid [] f = v
  applied-valid (c ∷ cs) f = change-valid (applied cs r) (applied-valid cs f.1) c f.0

  -- every field holds what the changes say, and all others what they held
  pub applied-reads : (cs : List Change) → Fitting cs → (g : Field) → get g (applied cs r) ≡ number_after g cs r
  unfolding applied number_after
  applied-reads [] f g = refl
  applied-reads (c ∷ cs) f g = change-reads (applied cs r) (applied-valid cs f.1) (λ x. number_after x cs r) (applied-reads cs f.1) c f.0 g
