-- The possible records are the product of the fields' sets: any number of each set goes with any of the others, and no field holds another.
-- So a record is chosen field by field, and a field's set has exactly the numbers that possible records hold there. Assumes nothing.
use Prim.Native.Nat.{ℕ, ◌≤◌}
use mathlib.Core.Bool.{true}
use mathlib.Core.Path.{◌≡◌, refl, sym, ap, ◌∙◌}
use mathlib.Core.Logic.{◌↔◌, ⊎_elim}
use native.Mathlib.Omega.{arith}
use lib.Dec.{eqb}
use lib.ListN.{length}
use borrow.Author.Tests.{eq-eqb, ne_eqb, eqb-true}
use Rattle.base.specs.Test.{pick}
use Rattle.base.proofs.Tests.{and_left, and_right, below_or_not}
use Rattle.state.specs.declared.Record.{Record}
use Rattle.state.specs.Parameter.{parameter_count}
use Rattle.state.specs.Field.{Field, get, position, field_count, field_range, fields_for, record_from, Held}
use Rattle.state.specs.Valid.{within, all_in, full_length, valid}
use Rattle.state.proofs.Fields.{at_field}
use Rattle.state.proofs.Kept.{fields_in}
use Rattle.state.proofs.Whole.{get_from, from_valid}
use Rattle.knowledge.specs.declared.Knowledge.{Knowledge}
use Rattle.knowledge.specs.Sets.{has}
use Rattle.knowledge.specs.Knowledge.{code_at, sets_of}
use Rattle.knowledge.proofs.Possible.{Possible, Kept}
use Rattle.knowledge.proofs.Codes.{has_within}

-- a number of a field's set is in the field's range
sets-within : (k : Knowledge) (f : Field) (n : ℕ) → sets_of k f n ≡ true → within (field_range f) n ≡ true
unfolding sets_of
sets-within k f n h = has_within f (code_at (position f) k) n h

-- ---- a record chosen field by field
pub chosen : (k : Knowledge) → k.alive ≡ true → (w : Field → ℕ) → ((f : Field) → Held f → sets_of k f (w f) ≡ true)
    → (r : Record) × Possible k r × ((f : Field) → Held f → get f r ≡ w f)
unfolding sets_of
chosen k alive w own =
    let inside : (f : Field) → Held f → within (field_range f) (w f) ≡ true = λ f h. sets-within k f (w f) (own f h) in (
      record_from w,
      record { living = alive; sound = from_valid w inside; each = λ f h. ap (has f (code_at (position f) k)) (get_from w inside f h) ∙ own f h },
      get_from w inside,
    )

-- while alive each field's set has a number
module _ {a c : ℕ} (k : Knowledge) (kept : Kept a c k) (alive : k.alive ≡ true) where
  pub some_number : (f : Field) → (n : ℕ) × (Held f → sets_of k f n ≡ true)
  unfolding sets_of
  some_number f =
      ⊎_elim (λ held. let s = kept.some alive f held in (s.0, λ h. s.1)) (λ (beyond : field_count ≤ position f). (0, λ h. absurd (omega arith)))
      (below_or_not (position f) field_count)

  -- ---- a field's set: each number of it is held by some possible record, and no other
  pub set_exactly : (f : Field) → Held f → (n : ℕ) → (sets_of k f n ≡ true) ↔ ((r : Record) × Possible k r × (get f r ≡ n))
  unfolding sets_of
  set_exactly f held n = (with_it, λ t. ap (sets_of k f) (sym t.2) ∙ t.1.each f held)
    where
      -- n there, and any number elsewhere
      number_of : Field → ℕ
      number_of g = pick (eqb (position f) (position g)) n (some_number g).0

      own_number : number_of f ≡ n
      own_number = simp (eq-eqb (position f) (position f) refl)

      with_it : sets_of k f n ≡ true → (r : Record) × Possible k r × (get f r ≡ n)
      with_it h =
          let (r, t, same) =
          chosen k alive number_of
          (at_field f (λ g. Held g → sets_of k g (number_of g) ≡ true) (λ l. ap (sets_of k f) own_number ∙ h)
          (λ g other l. simp (ne_eqb (position f) (position g) other) ((some_number g).1 l))) in
          (r, t, same f held ∙ own_number)

-- ---- all fields: a record of the right lengths is possible exactly if each field holds a number of its set
pub product_exactly : (k : Knowledge) → k.alive ≡ true → (r : Record)
    → ((full_length r ≡ true) × ((f : Field) → Held f → sets_of k f (get f r) ≡ true)) ↔ Possible k r
unfolding sets_of valid
product_exactly k alive r = (
  (λ t.
      let values = eqb (length r.values) parameter_count in
      let levels = eqb (length r.levels) parameter_count in
      record {
        living = alive;
        sound =
            fields_in r (λ f h. sets-within k f (get f r) (t.1 f h)) (eqb-true (length r.values) parameter_count (and_left values levels t.0))
            (eqb-true (length r.levels) parameter_count (and_right values levels t.0));
        each = t.1;
      }),
  (λ p. (and_left (full_length r) (all_in r (fields_for parameter_count)) p.sound, p.each)),
)
