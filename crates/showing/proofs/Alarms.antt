-- EA: one law for each return of the functions that read its reply; and it shows exactly the records with these alarms. By induction over
-- the characters: what is read of them is the number that they were printed from. Assumes nothing.
use Rattle.std.specs.Prelude.{Option, Some, None}
use Prim.Native.Nat.{ℕ, suc, ◌+◌, ◌-◌, ◌*◌, ◌/◌, ◌%◌, ◌^◌, ◌<◌}
use mathlib.Core.Bool.{Bool, true, false, ◌&&◌, and-false, false≢true}
use mathlib.Core.Path.{◌≡◌, refl, sym, ap, ap₂, ◌∙◌}
use mathlib.Core.List.{List, [], ◌∷◌, map}
use native.Mathlib.Nat.{add_comm, mod-lt}
use native.Mathlib.Omega.{arith}
use lib.ListN.{length, get_or}
use lib.Pow.{pow_pos, shr-shr, split, high, low}
use Rattle.base.specs.Test.{pick, unless, between}
use Rattle.base.proofs.Tests.{by_test, between_yes, between_low, between_high}
use Rattle.state.specs.Alarm.{total, character_values, character_widths}
use Rattle.state.specs.Field.{alarms, get, field_range, listed}
use Rattle.state.proofs.Kept.{field_in}
use Rattle.state.proofs.Whole.{listed_same}
use Rattle.command.specs.Status.{alarm_characters}
use Rattle.command.specs.Commands.{system_alarms}
use Rattle.knowledge.specs.declared.Knowledge.{Knowledge}
use Rattle.knowledge.specs.Knowledge.{dead, settled}
use Rattle.knowledge.proofs.Possible.{Kept}
use Rattle.showing.specs.Heard.{alarms_from, alarms_read}
use Rattle.showing.specs.Shown.{settled_by, number_shown, shown}
use Rattle.showing.proofs.Fields.{Shows, shown_as, number_shown_lem, same_number, no_number}

abbrev printed_values : List ℕ → ℕ → List ℕ
printed_values ws n = map (λ v. 0x30 + v) (character_values ws n)

-- ---- what was printed is read
read_left : (ws : List ℕ) (n : ℕ) → alarms_from (n / 2 ^ total ws) ws (printed_values ws n) ≡ Some n
unfolding alarms_from character_values
read_left [] n = ap Some (omega arith)
read_left (w ∷ ws) n =
    let q : ℕ = n / 2 ^ total ws in
    let v : ℕ = q % 2 ^ w in
    let h : v < 2 ^ w = mod-lt q (pow_pos w) in
    let e : n / 2 ^ (w + total ws) ≡ q / 2 ^ w = ap (λ (k : ℕ). n / 2 ^ k) (add_comm w (total ws)) ∙ sym (shr-shr n (total ws) w) in
    let d : 0x30 + v - 0x30 ≡ v = omega arith in
    simp (between_yes 0x30 (0x30 + (2 ^ w - 1)) (0x30 + v) (omega arith) (omega arith))
    (ap (λ (a : ℕ). alarms_from a ws (printed_values ws n)) (ap₂ (λ (x y : ℕ). x * 2 ^ w + y) e d ∙ split q w) ∙ read_left ws n)

-- ---- what is read was printed
read_told : (ws : List ℕ) (a n : ℕ) (xs : List ℕ) → alarms_from a ws xs ≡ Some n → (printed_values ws n ≡ xs) × (n / 2 ^ total ws ≡ a)
unfolding alarms_from character_values
read_told [] a n [] e = (refl, omega (arith, same_number a n e))
read_told [] a n (x ∷ xs) e = absurd (no_number n e)
read_told (w ∷ ws) a n [] e = absurd (no_number n e)
read_told (w ∷ ws) a n (x ∷ xs) e = go (λ f. read_told ws (a * 2 ^ w + (x - 0x30)) n xs f) (between 0x30 (0x30 + (2 ^ w - 1)) x) refl e
  where
    go : (alarms_from (a * 2 ^ w + (x - 0x30)) ws xs ≡ Some n → (printed_values ws n ≡ xs) × (n / 2 ^ total ws ≡ a * 2 ^ w + (x - 0x30))) → (b : Bool) → between 0x30 (0x30 + (2 ^ w - 1)) x ≡ b → unless b None (alarms_from (a * 2 ^ w + (x - 0x30)) ws xs) ≡ Some n
        → (printed_values (w ∷ ws) n ≡ x ∷ xs) × (n / 2 ^ total (w ∷ ws) ≡ a)
    go rest false t e = absurd (no_number n e)
    go rest true t e =
        let (later, q) = rest e in
        let one = pow_pos w in
        let l = between_low 0x30 (0x30 + (2 ^ w - 1)) x t in
        let u = between_high 0x30 (0x30 + (2 ^ w - 1)) x t in
        let d : x - 0x30 < 2 ^ w = omega arith in
        let v : n / 2 ^ total ws % 2 ^ w ≡ x - 0x30 = ap (λ (m : ℕ). m % 2 ^ w) q ∙ low a w d in
        let y : 0x30 + n / 2 ^ total ws % 2 ^ w ≡ x = omega arith in (
          ap₂ (λ (z : ℕ) (zs : List ℕ). z ∷ zs) y later,
          ap (λ (k : ℕ). n / 2 ^ k) (add_comm w (total ws)) ∙ (sym (shr-shr n (total ws) w) ∙ (ap (λ (m : ℕ). m / 2 ^ w) q ∙ high a w d)),
        )

-- ---- EA
pub alarms-shown : {a c : ℕ} (b : List ℕ) (k : Knowledge) → Kept a c k → Shows a c k (number_shown alarms (alarms_read b) k) (λ r. alarm_characters (get alarms r) ≡ b)
unfolding alarm_characters
alarms-shown b k kept =
    shown_as k _ (λ r. alarms_read b ≡ Some (get alarms r)) (λ r. alarm_characters (get alarms r) ≡ b)
    (λ r v e. (read_told character_widths 0 (get alarms r) b e).0)
    (λ r v e.
    let h = between_high (field_range alarms).low (field_range alarms).high (get alarms r) (field_in r v alarms (omega arith)) in
    let z : 0 ≡ get alarms r / 2 ^ total character_widths = omega arith in
    ap alarms_read (sym e) ∙ (ap (λ (m : ℕ). alarms_from m character_widths (printed_values character_widths (get alarms r))) z ∙ read_left character_widths (get alarms r)))
    (number_shown_lem k alarms (alarms_read b) kept (omega arith) (omega arith))

-- ---- `alarms_in`
read_length : (ws : List ℕ) (a : ℕ) (xs : List ℕ) → (length xs ≡ length ws → ⊥) → None ≡ alarms_from a ws xs
unfolding alarms_from
read_length [] a [] h = absurd (h refl)
read_length [] a (x ∷ xs) h = refl
read_length (w ∷ ws) a [] h = refl
read_length (w ∷ ws) a (x ∷ xs) h =
    let rest = read_length ws (a * 2 ^ w + (x - 0x30)) xs (λ e. h (ap suc e)) in
    by_test (between 0x30 (0x30 + (2 ^ w - 1)) x) (λ e. simp e rest) (λ e. simp e)

pub alarms_length : (s : List ℕ) → (length s ≡ 5 → ⊥) → alarms_read s ≡ None
alarms_length s h = sym (read_length character_widths 0 s h)

abbrev first_five : List ℕ → List ℕ
first_five s = get_or s 0 0 ∷ get_or s 1 0 ∷ get_or s 2 0 ∷ get_or s 3 0 ∷ get_or s 4 0 ∷ []

five : (s : List ℕ) → length s ≡ 5 → first_five s ≡ s
unfolding listed
five s e = listed_same s 5 e

-- what a character tells
abbrev told_up_to : ℕ → ℕ → Option ℕ
told_up_to high x = pick (between 0x30 high x) (Some (x - 0x30)) None

untold : (t : Bool) (n : ℕ) → pick t (Some n) None ≡ None → t ≡ false
untold true n e = absurd (no_number n (sym e))
untold false n e = refl

was_told : (t : Bool) (n m : ℕ) → pick t (Some n) None ≡ Some m → (t ≡ true) × (n ≡ m)
was_told true n m e = (refl, same_number m n (sym e))
was_told false n m e = absurd (no_number m e)

-- five tests, one after the other
abbrev in_turn : Bool → Bool → Bool → Bool → Bool → Option ℕ → Option ℕ
in_turn p q r s t d = unless p None (unless q None (unless r None (unless s None (unless t None d))))

one_fails : (p q r s t : Bool) (d : Option ℕ) → (p && (q && (r && (s && t)))) ≡ false → in_turn p q r s t d ≡ None
one_fails false q r s t d e = refl
one_fails true false r s t d e = refl
one_fails true true false s t d e = refl
one_fails true true true false t d e = refl
one_fails true true true true false d e = refl
one_fails true true true true true d e = absurd (false≢true (sym e))

module _ (s : List ℕ) (five_long : length s ≡ 5) where
  abbrev at : ℕ → ℕ
  at i = get_or s i 0

  abbrev shows : ℕ → Bool
  shows i = between 0x30 0x3f (at i)

  abbrev number : ℕ
  number = ((((0 * 16 + (at 0 - 0x30)) * 16 + (at 1 - 0x30)) * 16 + (at 2 - 0x30)) * 16 + (at 3 - 0x30)) * 8 + (at 4 - 0x30)

  read_in_turn : alarms_read s ≡ in_turn (shows 0) (shows 1) (shows 2) (shows 3) (between 0x30 0x37 (at 4)) (Some number)
  unfolding alarms_from
  read_in_turn = sym (ap alarms_read (five s five_long))

  fails : (shows 0 && (shows 1 && (shows 2 && (shows 3 && between 0x30 0x37 (at 4))))) ≡ false → alarms_read s ≡ None
  fails e = read_in_turn ∙ one_fails (shows 0) (shows 1) (shows 2) (shows 3) (between 0x30 0x37 (at 4)) (Some number) e

  pub alarms_first : told_up_to 0x3f (at 0) ≡ None → alarms_read s ≡ None
  alarms_first e = fails (simp (untold (shows 0) _ e))

  pub alarms_second : told_up_to 0x3f (at 1) ≡ None → alarms_read s ≡ None
  alarms_second e = fails (simp (untold (shows 1) _ e, and-false))

  pub alarms_third : told_up_to 0x3f (at 2) ≡ None → alarms_read s ≡ None
  alarms_third e = fails (simp (untold (shows 2) _ e, and-false))

  pub alarms_fourth : told_up_to 0x3f (at 3) ≡ None → alarms_read s ≡ None
  alarms_fourth e = fails (simp (untold (shows 3) _ e, and-false))

  pub alarms_fifth : told_up_to 0x37 (at 4) ≡ None → alarms_read s ≡ None
  alarms_fifth e = fails (simp (untold (between 0x30 0x37 (at 4)) _ e, and-false))

  pub alarms_number : (a b c d e : ℕ) → told_up_to 0x3f (at 0) ≡ Some a → told_up_to 0x3f (at 1) ≡ Some b → told_up_to 0x3f (at 2) ≡ Some c
      → told_up_to 0x3f (at 3) ≡ Some d → told_up_to 0x37 (at 4) ≡ Some e → alarms_read s ≡ Some ((((a * 16 + b) * 16 + c) * 16 + d) * 8 + e)
  alarms_number a b c d e p q r t u =
      let i = was_told (shows 0) _ a p in
      let j = was_told (shows 1) _ b q in
      let k = was_told (shows 2) _ c r in
      let l = was_told (shows 3) _ d t in
      let m = was_told (between 0x30 0x37 (at 4)) _ e u in
      let n : number ≡ (((a * 16 + b) * 16 + c) * 16 + d) * 8 + e = omega (arith, i.1, j.1, k.1, l.1, m.1) in
      read_in_turn ∙ simp (i.0, j.0, k.0, l.0, m.0) (ap Some n)

pub ruleset alarms_read_lem = (alarms_length, alarms_first, alarms_second, alarms_third, alarms_fourth, alarms_fifth, alarms_number)

-- ---- `show_alarms`
module _ (s : List ℕ) (k : Knowledge) where
  pub alarms_nothing : alarms_read s ≡ None → shown system_alarms s k ≡ dead k
  unfolding shown
  alarms_nothing e = ap (λ (y : Option ℕ). settled_by alarms y k) e

  pub alarms_told : (n : ℕ) → alarms_read s ≡ Some n → shown system_alarms s k ≡ settled alarms n k
  unfolding shown
  alarms_told n e = ap (λ (y : Option ℕ). settled_by alarms y k) e

pub ruleset alarms_learnt = (alarms_nothing, alarms_told)
