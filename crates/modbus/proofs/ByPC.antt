-- What PC by place and value is answered and leaves: five cases, by document 01's tests in their order. Assumes nothing.
use Prim.Native.Nat.{ℕ, ◌^◌, ◌≤◌, ◌<◌}
use mathlib.Core.Bool.{true, false}
use mathlib.Core.Path.{◌≡◌, refl, ap, ◌∙◌}
use mathlib.Core.List.{List, [], ◌∷◌}
use native.Mathlib.Omega.{arith}
use lib.Dec.{eqb, ltb}
use borrow.Author.Tests.{lt-ltb}
use Rattle.base.specs.Test.{member}
use Rattle.base.proofs.Tests.{by_test, between_no}
use Rattle.state.specs.declared.Record.{Record}
use Rattle.state.specs.Parameter.{parameter_count, range_at}
use Rattle.state.specs.Field.{Field, access, phase, keypad, level, get, on}
use Rattle.state.specs.Valid.{within, valid}
use Rattle.state.specs.Event.{idle, done}
use Rattle.state.proofs.Parameters.{value_small}
use Rattle.command.specs.Commands.{acknowledged, Change, new_value, applied, row_of}
use Rattle.command.specs.Request.{Answered, no, shows, first_by_arguments, asked_with, guards_in, guarded, served_of}
use Rattle.command.proofs.Tables.{number_after, applied-valid, applied-reads}
use Rattle.modbus.specs.Call.{as_pc}

-- what an accepted PC changes
abbrev pub writing : ℕ → ℕ → List Change
writing i v = new_value i v ∷ []

module _ (i v : ℕ) (r : Record) (listed : i < parameter_count) where
  pub PC_cases : (P : Answered × Record → Type 0) → (within (range_at i) v ≡ false → P (no 6, r)) → (within (range_at i) v ≡ true → P (no 2, r))
      → (within (range_at i) v ≡ true → P (no 7, r)) → (within (range_at i) v ≡ true → P (no 5, r))
      → (within (range_at i) v ≡ true → P (shows acknowledged, applied (writing i v) r)) → P (as_pc i v r)
  unfolding asked_with first_by_arguments served_of guards_in guarded row_of
  PC_cases P outside keypad_on above phase-wrong accepted =
      let l = lt-ltb i parameter_count listed in
      by_test (within (range_at i) v)
      (λ w. by_test (eqb (get keypad r) on) (λ k. simp (l, w, k) (keypad_on w))
      (λ k. by_test (ltb (get access r) (get (level i) r)) (λ a. simp (l, w, k, a) (above w))
      (λ a. by_test (member (get phase r) (idle ∷ done ∷ [])) (λ p. simp (l, w, k, a, p) (accepted w)) (λ p. simp (l, w, k, a, p) (phase-wrong w)))))
      (λ w. simp (l, w) (outside w))

  -- a record that is valid stays so
  pub PC-valid : valid r ≡ true → valid (as_pc i v r).1 ≡ true
  PC-valid h =
      PC_cases (λ (p : Answered × Record). valid p.1 ≡ true) (λ w. h) (λ w. h) (λ w. h) (λ w. h) (λ w. applied-valid r h (writing i v) ((listed, w), tt))

  refused : (n : ℕ) → no n ≡ shows acknowledged → ⊥
  refused n e = let z : ◌≡◌ {A = ℕ} 0 1 = cc in omega arith

  -- of an accepted one: what it leaves, and that its value is in range
  pub PC_left : (as_pc i v r).0 ≡ shows acknowledged → (as_pc i v r).1 ≡ applied (writing i v) r
  PC_left =
      PC_cases (λ (p : Answered × Record). p.0 ≡ shows acknowledged → p.1 ≡ applied (writing i v) r)
      (λ w e. absurd (refused 6 e)) (λ w e. absurd (refused 2 e)) (λ w e. absurd (refused 7 e)) (λ w e. absurd (refused 5 e)) (λ w e. refl)

  PC_inside : (as_pc i v r).0 ≡ shows acknowledged → within (range_at i) v ≡ true
  PC_inside =
      PC_cases (λ (p : Answered × Record). p.0 ≡ shows acknowledged → within (range_at i) v ≡ true)
      (λ w e. absurd (refused 6 e)) (λ w e. absurd (refused 2 e)) (λ w e. absurd (refused 7 e)) (λ w e. absurd (refused 5 e)) (λ w e. w)

  -- so what each field holds then
  pub PC-leaves : valid r ≡ true → (g : Field) → (as_pc i v r).0 ≡ shows acknowledged → get g (as_pc i v r).1 ≡ number_after g (writing i v) r
  PC-leaves h g e = ap (get g) (PC_left e) ∙ applied-reads r h (writing i v) ((listed, PC_inside e), tt) g

-- ---- no value of nine digits is in the range of a parameter
pub nine_digits : (i v : ℕ) → i < parameter_count → 10 ^ 8 ≤ v → within (range_at i) v ≡ false
nine_digits i v l h = let small = value_small i l in between_no (range_at i).low (range_at i).high v (λ a b. omega arith)
