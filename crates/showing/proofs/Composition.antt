-- RC shows exactly the records of that recipe and of that recipe's factor: the recipe that is read tells whose factor follows, and the
-- reply is split where the recipe's digits end. Assumes nothing.
use Rattle.std.specs.Prelude.{Option, Some, None}
use Prim.Native.Nat.{ℕ, ◌<◌}
use mathlib.Core.Bool.{true, false, false≢true}
use mathlib.Core.Path.{◌≡◌, sym, ap, ◌∙◌}
use mathlib.Core.List.{List, [], ◌∷◌, ◌++◌}
use native.Mathlib.Omega.{arith}
use lib.ListN.{length, take, drop, take-append-drop}
use lib.Seq.{take_at, drop_at}
use Rattle.base.specs.Text.{text}
use Rattle.base.proofs.Tests.{between_low, between_high}
use Rattle.state.specs.declared.Record.{Record}
use Rattle.state.specs.Parameter.{parameter_count}
use Rattle.state.specs.Field.{recipe, value, get, field_range}
use Rattle.state.specs.Valid.{within, valid}
use Rattle.state.proofs.Kept.{field_in}
use Rattle.state.proofs.Parameters.{value_small}
use Rattle.text.specs.Word.{space, digits}
use Rattle.command.specs.Commands.{factor_place, composition, printed}
use Rattle.text.proofs.Words.{digits-length}
use Rattle.knowledge.specs.declared.Knowledge.{Knowledge}
use Rattle.knowledge.proofs.Possible.{Kept}
use Rattle.showing.specs.Heard.{number_behind}
use Rattle.showing.specs.Shown.{number_shown, composition_shown, shown}
use Rattle.showing.proofs.Reading.{behind_told, behind_left}
use Rattle.showing.proofs.Fields.{Shows, shown_as, both_shown, unless-shown, same_number, no_number, number_shown_lem, field_fits}

-- the factor of a record's recipe, and "RC rr"
abbrev factor : Record → ℕ
factor r = get (value (factor_place (get recipe r))) r

abbrev start : Record → List ℕ
start r = text "RC " ++ digits 2 (get recipe r)

factor-within : (n : ℕ) → within (field_range recipe) n ≡ true → factor_place n < parameter_count
factor-within n h =
    omega (arith, between_low (field_range recipe).low (field_range recipe).high n h, between_high (field_range recipe).low (field_range recipe).high n h)

-- a record's recipe is one of the recipes
recipe-known : (r : Record) → valid r ≡ true → within (field_range recipe) (get recipe r) ≡ true
recipe-known r v = field_in r v recipe (omega arith)

-- the two numbers
abbrev Both : Option ℕ → Option ℕ → Record → Type 0
Both d e r = (d ≡ Some (get recipe r)) × (e ≡ Some (factor r))

numbers-shown : {a c : ℕ} (d e : Option ℕ) (k : Knowledge) → Kept a c k → Shows a c k (composition_shown d e k) (Both d e)
numbers-shown None e k kept =
    unless-shown false k k (Both None e) kept (λ q. absurd (false≢true q)) (λ r v q. absurd (no_number (get recipe r) q.0))
numbers-shown (Some n) e k kept =
    let l : Knowledge = number_shown recipe (Some n) k in
    let t = number_shown_lem k recipe (Some n) kept (omega arith) (omega arith) in
    unless-shown (within (field_range recipe) n) k (number_shown (value (factor_place n)) e l) (Both (Some n) e) kept
    (λ h.
    shown_as k _ (λ r. (Some n ≡ Some (get recipe r)) × (e ≡ Some (get (value (factor_place n)) r)))
    (Both (Some n) e)
    (λ r v q. (q.0, q.1 ∙ ap (λ (m : ℕ). Some (get (value (factor_place m)) r)) (sym (same_number n (get recipe r) q.0))))
    (λ r v q. (q.0, q.1 ∙ ap (λ (m : ℕ). Some (get (value (factor_place m)) r)) (same_number n (get recipe r) q.0)))
    (both_shown k l _ (λ r. Some n ≡ Some (get recipe r)) (λ r. e ≡ Some (get (value (factor_place n)) r)) t
    (number_shown_lem l (value (factor_place n)) e t.kept (omega (arith, factor-within n h)) (omega arith))))
    (λ r v q. ap (within (field_range recipe)) (sym (same_number n (get recipe r) q.0)) ∙ recipe-known r v)

-- ---- RC
pub composition_shown_lem : {a c : ℕ} (b : List ℕ) (k : Knowledge) → Kept a c k → Shows a c k (shown composition b k) (λ r. printed composition r ≡ b)
unfolding shown
composition_shown_lem b k kept =
    shown_as k _ (Both (number_behind (text "RC ") 2 (take 5 b)) (number_behind (space ∷ []) 8 (drop 5 b))) (λ r. printed composition r ≡ b) told left
    (numbers-shown (number_behind (text "RC ") 2 (take 5 b)) (number_behind (space ∷ []) 8 (drop 5 b)) k kept)
  where
    told : (r : Record) → valid r ≡ true → Both (number_behind (text "RC ") 2 (take 5 b)) (number_behind (space ∷ []) 8 (drop 5 b)) r → printed composition r ≡ b
    told r v e =
        let x = behind_told (text "RC ") 2 (take 5 b) (get recipe r) e.0 in
        let y = behind_told (space ∷ []) 8 (drop 5 b) (factor r) e.1 in
        ap (λ (l : List ℕ). l ++ (space ∷ digits 8 (factor r))) (sym x.0) ∙ ap (λ (l : List ℕ). take 5 b ++ l) (sym y.0) ∙ take-append-drop 5 b

    left : (r : Record) → valid r ≡ true → printed composition r ≡ b → Both (number_behind (text "RC ") 2 (take 5 b)) (number_behind (space ∷ []) 8 (drop 5 b)) r
    left r v e =
        let n : ℕ = get recipe r in
        let small = factor-within n (recipe-known r v) in
        let five : length (start r) ≡ 5 = omega (arith, digits-length 2 n) in
        let x : take 5 b ≡ start r = ap (take 5) (sym e) ∙ take_at (start r) (space ∷ digits 8 (factor r)) 5 five in
        let y : drop 5 b ≡ space ∷ digits 8 (factor r) = ap (drop 5) (sym e) ∙ drop_at (start r) (space ∷ digits 8 (factor r)) 5 five in (
          ap (number_behind (text "RC ") 2) x ∙ behind_left (text "RC ") 2 n (omega arith) (field_fits r recipe 2 v (omega arith) (omega arith)),
          ap (number_behind (space ∷ []) 8) y ∙ behind_left (space ∷ []) 8 (factor r) (omega arith)
              (field_fits r (value (factor_place n)) 8 v (omega (arith, small)) (value_small (factor_place n) small)),
        )
