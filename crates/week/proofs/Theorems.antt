-- What is proved of the totals of a bank and of what is printed of them. Assumes nothing.
use Prim.Native.Nat.{ℕ, ◌≤◌}
use mathlib.Core.Bool.{Bool, true, false, ◌&&◌, false≢true}
use mathlib.Core.Path.{◌≡◌, refl, sym, ap, ◌∙◌}
use mathlib.Core.List.{List, [], ◌∷◌, ◌++◌, map}
use native.Mathlib.Omega.{arith}
use lib.Dec.{eqb, leb}
use lib.ListN.{length, length-map, length-take}
use borrow.Author.Tests.{le-leb, eq-eqb, leb-true}
use Rattle.base.specs.Text.{text}
use Rattle.base.proofs.Tests.{and_left, and_right, and_yes}
use Rattle.state.specs.declared.ParameterKind.TheVariants.{Factor}
use Rattle.state.specs.Parameter.{kind_range}
use Rattle.state.specs.Field.{number, recipe, raw, preset, field_range}
use Rattle.state.specs.Valid.{within}
use Rattle.text.specs.Word.{newline, digits, width_in, decimal}
use Rattle.bank.specs.declared.Batch.{Batch}
use Rattle.bank.specs.declared.Bank.{Bank}
use Rattle.bank.specs.Bank.{most, all_within, batch_valid, all_valid, batches_in, full_length, valid, empty_bank}
use Rattle.storedbank.specs.StoredBank as stored
use Rattle.storedbank.specs.StoredBank.{K, done, well_formed, read_of}
use Rattle.storedbank.proofs.RoundTrip.{read_valid}
use Rattle.totalling.specs.Totals as totalling
use Rattle.totalling.specs.Totals.{Entry, entry, entries, amount, sum_over, table, added, in_range, all_in_range, Outcome, outcome, zeros, added_up, totals_of}
use Rattle.totalling.proofs.Theorems.{sums-add_up, counts-add_up}
use Rattle.sheet.specs.Sheet.{recipe_text, lines_from, sheet_text}
use Rattle.week.specs.Week.{raws_of, factors_of, recipes_of, batch_totals, bank_totals, week_of, printed, week_text}

-- what is added up of a batch
abbrev pub entry_of : Batch → Entry
entry_of b = entry b.raw b.factor b.recipe

entries_of : (bs : List Batch) → entries (raws_of bs) (factors_of bs) (recipes_of bs) ≡ map entry_of bs
unfolding entries
entries_of [] = refl
entries_of (b ∷ bs) = ap (λ (es : List Entry). entry_of b ∷ es) (entries_of bs)

-- ---- the batches of a valid bank are never refused
one_in : (b : Batch) → batch_valid b ≡ true → in_range (entry_of b) ≡ true
unfolding batch_valid all_within in_range
one_in b h = go (within (field_range number) b.number) (within (field_range recipe) b.recipe) (within (kind_range Factor) b.factor) (within (field_range raw) b.raw) (within (field_range preset) b.preset && true) h
  where
    go : (n r f v p : Bool) → (n && (r && (f && (v && p)))) ≡ true → (r && (f && v)) ≡ true
    go true true true true p h = refl
    go true true true false p h = h
    go true true false v p h = h
    go true false f v p h = h
    go false r f v p h = absurd (false≢true h)

all_in : (bs : List Batch) → all_valid bs ≡ true → all_in_range (map entry_of bs) ≡ true
unfolding all_valid all_in_range
all_in [] h = refl
all_in (b ∷ bs) h =
    and_yes (in_range (entry_of b)) (all_in_range (map entry_of bs)) (one_in b (and_left (batch_valid b) (all_valid bs) h)) (all_in bs (and_right (batch_valid b) (all_valid bs) h))

batches-added : (bs : List Batch) → length bs ≤ totalling.most → all_valid bs ≡ true → batch_totals bs ≡ added_up (map entry_of bs)
unfolding batch_totals totals_of
batches-added bs h v =
    let x : eqb (length (raws_of bs)) (length (factors_of bs)) ≡ true = eq-eqb _ _ (length-map bs (λ (b : Batch). b.raw) ∙ sym (length-map bs (λ (b : Batch). b.factor))) in
    let y : eqb (length (raws_of bs)) (length (recipes_of bs)) ≡ true = eq-eqb _ _ (length-map bs (λ (b : Batch). b.raw) ∙ sym (length-map bs (λ (b : Batch). b.recipe))) in
    let m : leb (length (raws_of bs)) totalling.most ≡ true = le-leb (length (raws_of bs)) totalling.most (let l = length-map bs (λ (b : Batch). b.raw) in omega arith) in
    let i : all_in_range (entries (raws_of bs) (factors_of bs) (recipes_of bs)) ≡ true = ap all_in_range (entries_of bs) ∙ all_in bs v in
    simp (x, y, m, i) (ap added_up (entries_of bs))

few_kept : (k : Bank) → leb k.count most ≡ true → length (batches_in k) ≤ totalling.most
few_kept k h = let a = leb-true k.count most h in let b = length-take k.count k.batches in omega arith

-- the totals of a valid bank are those of its batches
pub bank_added : (k : Bank) → valid k ≡ true → bank_totals k ≡ added_up (map entry_of (batches_in k))
unfolding valid
bank_added k v =
    let r = and_right (full_length k) (leb k.count most && all_valid (batches_in k)) v in
    batches-added (batches_in k) (few_kept k (and_left (leb k.count most) (all_valid (batches_in k)) r)) (and_right (leb k.count most) (all_valid (batches_in k)) r)

-- ---- a stored bank, good or bad
module _ (bs : List ℕ) where
  abbrev pub read : Bank
  read = (read_of bs).1

  -- what was read is added up, and never refused
  pub stored-added : (week_of bs).1 ≡ added_up (map entry_of (batches_in read))
  unfolding week_of
  stored-added = bank_added read (read_valid bs)

  never_refused : (batch_totals (batches_in read)).refused ≡ 0
  never_refused = ap (λ (o : Outcome). o.refused) (bank_added read (read_valid bs))

  pub week_adds_up : added (week_of bs).1.sums ≡ sum_over amount (map entry_of (batches_in read))
  unfolding week_of batch_totals
  week_adds_up =
      sums-add_up (raws_of (batches_in read)) (factors_of (batches_in read)) (recipes_of (batches_in read)) never_refused ∙ ap (sum_over amount) (entries_of (batches_in read))

  pub week_counts_up : added (week_of bs).1.counts ≡ length (batches_in read)
  unfolding week_of batch_totals
  week_counts_up =
      counts-add_up (raws_of (batches_in read)) (factors_of (batches_in read)) (recipes_of (batches_in read)) never_refused ∙ length-map (batches_in read) (λ (b : Batch). b.raw)

-- no batch, no line
nothing-added : added_up [] ≡ outcome 0 zeros zeros
unfolding table sum_over
nothing-added = refl

nothing-printed : printed (done, added_up []) ≡ []
unfolding printed sheet_text lines_from recipe_text table sum_over
nothing-printed = refl

module _ (bs : List ℕ) where
  read_bad : well_formed bs ≡ false → read_of bs ≡ (K 7, empty_bank)
  unfolding read_of
  read_bad h = simp h

  -- "a bad one `refused K7`", with every sum and number 0
  pub bad_refused : well_formed bs ≡ false → week_text bs ≡ text "refused K7" ++ newline
  unfolding week_of printed decimal width_in digits
  bad_refused h = ap (λ (p : stored.Outcome × Bank). printed (p.0, bank_totals p.1)) (read_bad h)

  pub bad_zero : well_formed bs ≡ false → week_of bs ≡ (K 7, outcome 0 zeros zeros)
  unfolding week_of all_valid
  bad_zero h =
      ap (λ (p : stored.Outcome × Bank). (p.0, bank_totals p.1)) (read_bad h)
      ∙ ap (λ (o : Outcome). (K 7, o)) (batches-added [] (omega arith) refl ∙ nothing-added)

  -- "An empty bank prints nothing"
  pub empty_nothing : (week_of bs).0 ≡ done → batches_in (read bs) ≡ [] → week_text bs ≡ []
  empty_nothing w h =
      ap (λ (a : stored.Outcome). printed (a, (week_of bs).1)) w
      ∙ (ap (λ (o : Outcome). printed (done, o)) (stored-added bs ∙ ap (λ (l : List Batch). added_up (map entry_of l)) h) ∙ nothing-printed)
