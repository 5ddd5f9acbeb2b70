-- Learning from refusals is exact: a record is possible after guards were passed, or one refused, exactly if it was possible before and
-- the guards decide so for it. By induction on the guards, each of which cuts one field's set. Assumes nothing.
use Prim.Native.Nat.{ℕ, ◌<◌}
use mathlib.Core.Bool.{Bool, true, false, not, ◌&&◌, or-true}
use mathlib.Core.Path.{◌≡◌, refl, sym, ap, subst, ◌∙◌}
use mathlib.Core.List.{List, [], ◌∷◌}
use native.Mathlib.Omega.{arith}
use lib.Dec.{eqb}
use borrow.Author.Tests.{eq-eqb, ne_eqb, eqb-true, eqb-false, not-true}
use Rattle.base.specs.Test.{pick, member}
use Rattle.base.proofs.Tests.{by_test, and_yes, and_left, and_right}
use Rattle.state.specs.declared.Record.{Record}
use Rattle.state.specs.Field.{Field, phase, keypad, level, get, Held}
use Rattle.command.specs.Commands.{Arguments}
use Rattle.command.specs.Refusals.{Row, by_text, by_arguments, by_field, row_number, keypad_taken, level_above, wrong_phase, refusals}
use Rattle.command.specs.Answer.{NO, accepted}
use Rattle.command.specs.Request.{Guard, guards_in, guarded}
use Rattle.command.proofs.Fits.{Sound}
use Rattle.knowledge.specs.declared.Knowledge.{Knowledge}
use Rattle.knowledge.specs.Sets.{several, kind_of}
use Rattle.knowledge.specs.Knowledge.{passing}
use Rattle.knowledge.proofs.Possible.{Possible, Kept}
use Rattle.knowledge.proofs.Codes.{Testable, small_testable, alarm_testable, testable_not}
use Rattle.knowledge.proofs.Cut.{dead-none, dead_kept, passing-told, passing_left, passing_kept}
use Rattle.learning.specs.Learn.{passed, refused_by}

-- ---- guards that the laws hold for

-- one that looks at one of the record's fields, by a test that the field's set has a code for, and has a refusal number of two digits
pub record Fine (m : ℕ) (f : Field) (p : ℕ → Bool) : Type 0 where
  pub held : Held f
  pub coded : Testable f p
  pub small : m < 100

-- none has the refusal number n
abbrev without : ℕ → List Guard → Bool
without n [] = true
without n (g ∷ gs) = not (eqb n g.refusal) && without n gs

-- each is so, and no two have one refusal number
abbrev pub AllFine : List Guard → Type 0
AllFine [] = Unit {0}
AllFine (g ∷ gs) = Fine g.refusal g.field g.refuses × (without g.refusal gs ≡ true) × AllFine gs

-- one of two, by a test
pub from_pick : {A P : Type 0} (Q : A → Type 0) (b : Bool) (x y : A) → (b ≡ true → Q x → P) → (b ≡ false → Q y → P) → Q (pick b x y) → P
from_pick Q true x y f g = f refl
from_pick Q false x y f g = g refl

pub to_pick : {A : Type 0} (Q : A → Type 0) (b : Bool) (x y : A) → (b ≡ true → Q x) → (b ≡ false → Q y) → Q (pick b x y)
to_pick Q true x y f g = f refl
to_pick Q false x y f g = g refl

-- ---- the guards' verdict, by the first guard
pub same_number : (m n : ℕ) → NO m ≡ NO n → m ≡ n
same_number m n e = cc

no_number : {A : Type 0} (n : ℕ) → accepted ≡ NO n → A
no_number n e = let z : ◌≡◌ {A = ℕ} 0 1 = cc in absurd (omega arith)

abbrev refuses : Guard → Record → Bool
refuses g r = g.refuses (get g.field r)

module _ (g : Guard) (gs : List Guard) (r : Record) where
  refused_here : refuses g r ≡ true → guarded (g ∷ gs) r ≡ NO g.refusal
  unfolding guarded
  refused_here h = simp h

  refused-later : refuses g r ≡ false → guarded (g ∷ gs) r ≡ guarded gs r
  unfolding guarded
  refused-later h = simp h

-- a refusal has the number of a guard
module _ (r : Record) (n : ℕ) where
  pub fine_below : (gs : List Guard) → AllFine gs → guarded gs r ≡ NO n → n < 100
  unfolding guarded
  fine_below [] fine e = no_number n e
  fine_below (g ∷ gs) fine e =
      by_test (refuses g r)
      (λ h. subst (λ (m : ℕ). m < 100) (same_number g.refusal n (sym (refused_here g gs r h) ∙ e)) fine.0.small)
      (λ h. fine_below gs fine.2 (sym (refused-later g gs r h) ∙ e))

  not_without : (gs : List Guard) → without n gs ≡ true → guarded gs r ≡ NO n → ⊥
  unfolding guarded
  not_without [] w e = no_number n e
  not_without (g ∷ gs) w e =
      by_test (refuses g r)
      (λ h.
      let other : eqb n g.refusal ≡ false = not-true _ (and_left (not (eqb n g.refusal)) (without n gs) w) in
      eqb-false n g.refusal other (sym (same_number g.refusal n (sym (refused_here g gs r h) ∙ e))))
      (λ h. not_without gs (and_right (not (eqb n g.refusal)) (without n gs) w) (sym (refused-later g gs r h) ∙ e))

-- so the first guard refuses exactly if the number is its own
first-refuses : (g : Guard) (gs : List Guard) (r : Record) (n : ℕ) → without g.refusal gs ≡ true → guarded (g ∷ gs) r ≡ NO n
    → refuses g r ≡ eqb n g.refusal
first-refuses g gs r n other e =
    by_test (refuses g r) (λ h. h ∙ sym (eq-eqb n g.refusal (sym (same_number g.refusal n (sym (refused_here g gs r h) ∙ e)))))
    (λ h.
    h
    ∙ sym
    (ne_eqb n g.refusal
    (λ same. not_without r n gs (subst (λ (m : ℕ). without m gs ≡ true) (sym same) other) (sym (refused-later g gs r h) ∙ e))))

-- ---- one guard's cut: it does not refuse
abbrev spared : Guard → Knowledge → Knowledge
spared g k = passing g.field (λ n. not (g.refuses n)) k

module _ {a c : ℕ} (g : Guard) (k : Knowledge) (kept : Kept a c k) (fine : Fine g.refusal g.field g.refuses) where
  coded : Testable g.field (λ n. not (g.refuses n))
  coded = testable_not g.field g.refuses fine.coded

  spared_told : (r : Record) → Possible (spared g k) r → Possible k r × (refuses g r ≡ false)
  spared_told r t =
      let (was, h) = passing-told k r g.field (λ n. not (g.refuses n)) kept.full fine.held coded t in
      (was, not-true (refuses g r) h)

  spared_left : (r : Record) → Possible k r → refuses g r ≡ false → Possible (spared g k) r
  spared_left r t h = passing_left k r g.field (λ n. not (g.refuses n)) kept.full fine.held coded t (ap not h)

  spared_kept : Kept a c (spared g k)
  spared_kept = passing_kept k g.field (λ n. not (g.refuses n)) kept fine.held coded

-- ---- all guards are passed
pub passed-told : {a c : ℕ} (gs : List Guard) (k : Knowledge) (r : Record) → Kept a c k → AllFine gs → Possible (passed gs k) r
    → Possible k r × (guarded gs r ≡ accepted)
unfolding guarded passed
passed-told [] k r kept fine t = (t, refl)
passed-told (g ∷ gs) k r kept fine t =
    let (rest, e) = passed-told gs (spared g k) r (spared_kept g k kept fine.0) fine.2 t in
    let (was, h) = spared_told g k kept fine.0 r rest in
    (was, refused-later g gs r h ∙ e)

pub passed_left : {a c : ℕ} (gs : List Guard) (k : Knowledge) (r : Record) → Kept a c k → AllFine gs → Possible k r → guarded gs r ≡ accepted
    → Possible (passed gs k) r
unfolding passed
passed_left [] k r kept fine t e = t
passed_left (g ∷ gs) k r kept fine t e =
    by_test (refuses g r) (λ h. no_number g.refusal (sym e ∙ refused_here g gs r h))
    (λ h. passed_left gs (spared g k) r (spared_kept g k kept fine.0) fine.2 (spared_left g k kept fine.0 r t h) (sym (refused-later g gs r h) ∙ e))

pub passed_kept : {a c : ℕ} (gs : List Guard) (k : Knowledge) → Kept a c k → AllFine gs → Kept a c (passed gs k)
unfolding passed
passed_kept [] k kept fine = kept
passed_kept (g ∷ gs) k kept fine = passed_kept gs (spared g k) (spared_kept g k kept fine.0) fine.2

-- ---- the guard numbered n is the first that refuses
pub refused-told : {a c : ℕ} (n : ℕ) (gs : List Guard) (k : Knowledge) (r : Record) → Kept a c k → AllFine gs → Possible (refused_by n gs k) r
    → Possible k r × (guarded gs r ≡ NO n)
unfolding refused_by
refused-told n [] k r kept fine t = absurd (dead-none k r t)
refused-told n (g ∷ gs) k r kept fine t =
    from_pick (λ j. Possible j r) (eqb n g.refusal) (passing g.field g.refuses k) (refused_by n gs (spared g k))
    (λ same here.
    let (was, h) = passing-told k r g.field g.refuses kept.full fine.0.held fine.0.coded here in
    (was, refused_here g gs r h ∙ ap NO (sym (eqb-true n g.refusal same))))
    (λ other later.
    let (rest, e) = refused-told n gs (spared g k) r (spared_kept g k kept fine.0) fine.2 later in
    let (was, h) = spared_told g k kept fine.0 r rest in
    (was, refused-later g gs r h ∙ e)) t

pub refused_left : {a c : ℕ} (n : ℕ) (gs : List Guard) (k : Knowledge) (r : Record) → Kept a c k → AllFine gs → Possible k r → guarded gs r ≡ NO n
    → Possible (refused_by n gs k) r
unfolding guarded refused_by
refused_left n [] k r kept fine t e = no_number n e
refused_left n (g ∷ gs) k r kept fine t e =
    let so = first-refuses g gs r n fine.1 e in
    to_pick (λ j. Possible j r) (eqb n g.refusal) (passing g.field g.refuses k) (refused_by n gs (spared g k))
    (λ same. passing_left k r g.field g.refuses kept.full fine.0.held fine.0.coded t (so ∙ same))
    (λ other.
    refused_left n gs (spared g k) r (spared_kept g k kept fine.0) fine.2 (spared_left g k kept fine.0 r t (so ∙ other))
    (sym (refused-later g gs r (so ∙ other)) ∙ e))

pub refused_kept : {a c : ℕ} (n : ℕ) (gs : List Guard) (k : Knowledge) → Kept a c k → AllFine gs → Kept a c (refused_by n gs k)
unfolding refused_by
refused_kept n [] k kept fine = dead_kept k kept
refused_kept {a} {c} n (g ∷ gs) k kept fine =
    to_pick (Kept a c) (eqb n g.refusal) (passing g.field g.refuses k) (refused_by n gs (spared g k))
    (λ same. passing_kept k g.field g.refuses kept fine.0.held fine.0.coded)
    (λ other. refused_kept n gs (spared g k) (spared_kept g k kept fine.0) fine.2)

-- ---- the guards that rows give for a code c with arguments x
module _ (c : ℕ) (x : Arguments) (a : ℕ) where
  -- no row has the number n
  abbrev unnumbered : ℕ → List Row → Bool
  unnumbered n [] = true
  unnumbered n (row ∷ rows) = not (eqb n (row_number row)) && unnumbered n rows

  -- those that look at a field of the record do it as above
  abbrev FineRows : List Row → Type 0
  FineRows [] = Unit {0}
  FineRows (by_text m p ∷ rows) = FineRows rows
  FineRows (by_arguments m p ∷ rows) = FineRows rows
  FineRows (by_field m codes f p ∷ rows) = (member c codes ≡ true → Fine m (f x) (p c x a)) × (unnumbered m rows ≡ true) × FineRows rows

  rows_without : (n : ℕ) (rows : List Row) → unnumbered n rows ≡ true → without n (guards_in rows c x a) ≡ true
  unfolding guards_in
  rows_without n [] h = refl
  rows_without n (by_text m p ∷ rows) h = rows_without n rows (and_right (not (eqb n m)) (unnumbered n rows) h)
  rows_without n (by_arguments m p ∷ rows) h = rows_without n rows (and_right (not (eqb n m)) (unnumbered n rows) h)
  rows_without n (by_field m codes f p ∷ rows) h =
      let rest = rows_without n rows (and_right (not (eqb n m)) (unnumbered n rows) h) in
      to_pick (λ gs. without n gs ≡ true) (member c codes) _ _ (λ i. and_yes (not (eqb n m)) _ (and_left (not (eqb n m)) (unnumbered n rows) h) rest) (λ i. rest)

  rows_fine : (rows : List Row) → FineRows rows → AllFine (guards_in rows c x a)
  unfolding guards_in
  rows_fine [] h = tt
  rows_fine (by_text m p ∷ rows) h = rows_fine rows h
  rows_fine (by_arguments m p ∷ rows) h = rows_fine rows h
  rows_fine (by_field m codes f p ∷ rows) h =
      to_pick AllFine (member c codes) _ _ (λ i. (h.0 i, rows_without m rows h.1, rows_fine rows h.2)) (λ i. rows_fine rows h.2)

  -- the refusals of the table
  pub guards_fine : Sound c x → AllFine (guards_in refusals c x a)
  guards_fine sound =
      let one : (m : ℕ) (f : Field) (p : ℕ → Bool) → Held f → kind_of f ≡ several → m < 100 → Fine m f p =
      λ m f p h e l. record { held = h; coded = small_testable f p e; small = l } in
      rows_fine refusals (
        (λ i. one 2 keypad (keypad_taken c x a) (omega arith) refl (omega arith)),
        refl,
        (
          (λ i. let l = sound.placed (simp (i, or-true)) in one 7 (level x.place) (level_above c x a) (omega arith) refl (omega arith)),
          refl,
          (
            (λ i. one 5 phase (wrong_phase c x a) (omega arith) refl (omega arith)),
            refl,
            ((λ i. record { held = omega arith; coded = alarm_testable; small = omega arith }), refl, tt),
          ),
        ),
      )
