-- One law for each step of the code that reads a text. A step's premises have the form that the code's facts have, so that `search`
-- finds them. Assumes nothing.
use Prim.Native.Nat.{ℕ, ◌+◌, ◌-◌, ◌*◌, ◌≤◌, ◌<◌}
use mathlib.Core.Path.{◌≡◌, refl, ap, sym, subst, ◌∙◌}
use mathlib.Core.Bool.{Bool, true, false, not, ◌&&◌, ◌||◌, and-true, and-false}
use mathlib.Core.List.{List, [], ◌∷◌, map}
use Rattle.std.specs.Prelude.{Option, Some, None, Result, Ok, Err}
use Rattle.std.specs.Option.{unwrap_or, ok_or}
use native.Mathlib.Omega.{arith}
use lib.Dec.{eqb, leb}
use lib.ListN.{length, take, drop, get_or, length-drop, get_or-eq_default}
use lib.Seq.{take_all}
use borrow.Author.Tests.{le-leb, lt-ltb, le-ltb, eq-eqb, ne_eqb, eqb-true}
use Rattle.base.specs.Test.{pick, between, member}
use Rattle.base.proofs.Tests.{by_test, between_high, never}
use Rattle.text.specs.Word.{space, all_digits, value_of, number_for, equal}
use Rattle.text.proofs.Words.{value_below, number-told}
use Rattle.state.specs.declared.Range.{Range}
use Rattle.state.specs.Parameter.{parameter_count, range_at}
use Rattle.state.specs.Field.{recipe, level, field_range}
use Rattle.state.specs.Valid.{within}
use Rattle.command.specs.declared.Reading.TheVariants as reading
use Rattle.command.specs.declared.Writing.TheVariants as writing
use Rattle.command.specs.declared.Request.{Request}
use Rattle.command.specs.declared.Request.TheVariants as request
use Rattle.command.specs.declared.Refusal.{Refusal}
use Rattle.command.specs.declared.Refusal.TheVariants as refusal
use Rattle.command.specs.Commands.{EQ, RS, TN, RR, RC, RT, PV, XV, PC, XC, NR, SB, SA, SP, ET, RE, EA, AR, Command, code_in, Form, numbers, nothing, a_word, digits_between, formed, a_place, place_number, place_for, place_behind, last_behind, arguments_of, commands, row_of}
use Rattle.command.specs.Refusals.{refusals, of, arguments_for, unknown_code, not_served, listed}
use Rattle.command.specs.Answer.{NO, accepted}
use Rattle.command.specs.Request.{last_of, numbers_of, whole, Asked, refused, asked, first_by_text, first_by_arguments, unless_refused, asked_with, asked_for, asked_in, refusal_number, request_as}

-- ---- a code of the table: the arguments decide if what stands behind the code has the form
module _ (k : ℕ) (xs : List ℕ) (known : unknown_code k xs ≡ false) (served : not_served k xs ≡ false) where
  formed-asked : formed (row_of k commands).form xs ≡ true → asked_with k (arguments_for k xs) ≡ asked_for k xs
  unfolding asked_for first_by_text
  formed-asked f = simp (known, served, f)

  malformed-asked : formed (row_of k commands).form xs ≡ false → refused 1 ≡ asked_for k xs
  unfolding asked_for first_by_text
  malformed-asked f = simp (known, served, f)

-- ---- `alone`
pub alone_form : (s : List ℕ) (q : Request) → whole nothing s q ≡ pick {A = Result Request Refusal} (eqb (length s) 0) (Ok q) (Err refusal.Malformed)
unfolding formed
alone_form [] q = refl
alone_form (x ∷ s) q = simp (ne_eqb (length (x ∷ s)) 0 (omega arith))

-- ---- `volume` and `flag`

-- by whether a byte is the one of a word
by_letter : (P : ℕ → Type 0) (y k : ℕ) → P k → (eqb y k ≡ false → P y) → P y
by_letter P y k p q = by_test (eqb y k) (λ e. subst P (sym (eqb-true y k e)) p) q

abbrev pub volume_by : ℕ → Asked
volume_by y = pick (eqb y 0x52) (asked RT (a_word (0x52 ∷ []))) (pick (member y (0x47 ∷ 0x4e ∷ 0x50 ∷ 0x4d ∷ [])) (refused 8) (refused 1))

-- a word of two bytes
abbrev Volume : ℕ → ℕ → Type 0
Volume x y = asked_for RT (x ∷ y ∷ []) ≡ pick (eqb x space) (volume_by y) (refused 1)

volume_letter : (y : ℕ) → Volume space y
unfolding asked_for first_by_text asked_with first_by_arguments formed row_of equal
volume_letter y =
    by_letter (Volume space) y 0x52 refl
    (λ r.
    by_letter (Volume space) y 0x47 refl
    (λ g. by_letter (Volume space) y 0x4e refl (λ n. by_letter (Volume space) y 0x50 refl (λ p. by_letter (Volume space) y 0x4d refl (λ m. simp (r, g, n, p, m))))))

pub volume_form : (s : List ℕ) → asked_for RT s ≡ pick (eqb (length s) 2 && eqb (get_or s 0 0) space) (volume_by (get_or s 1 0)) (refused 1)
unfolding asked_for first_by_text asked_with first_by_arguments formed row_of equal
volume_form [] = refl
volume_form (x ∷ []) = simp and-false
volume_form (x ∷ y ∷ []) = by_letter (λ a. Volume a y) x space (volume_letter y) (λ h. simp h)
volume_form (x ∷ y ∷ z ∷ s) = simp (and-false, ne_eqb (length (x ∷ y ∷ z ∷ s)) 2 (omega arith))

abbrev pub flag_by : ℕ → ℕ → Asked
flag_by y z =
    pick (eqb y 0x42 && eqb z 0x44) (asked RE (a_word (0x42 ∷ 0x44 ∷ [])))
    (pick (eqb y 0x50 && eqb z 0x43) (asked RE (a_word (0x50 ∷ 0x43 ∷ []))) (pick (eqb y 0x50 && eqb z 0x46) (refused 8) (refused 1)))

-- a word of three bytes
abbrev Flag : ℕ → ℕ → ℕ → Type 0
Flag x y z = asked_for RE (x ∷ y ∷ z ∷ []) ≡ pick (eqb x space) (flag_by y z) (refused 1)

flag_letters : (y z : ℕ) → Flag space y z
unfolding asked_for first_by_text asked_with first_by_arguments formed row_of equal
flag_letters y z =
    by_letter (λ a. Flag space a z) y 0x42 (by_letter (Flag space 0x42) z 0x44 refl (λ d. simp d))
    (λ b. by_letter (λ a. Flag space a z) y 0x50 (by_letter (Flag space 0x50) z 0x43 refl (λ c. by_letter (Flag space 0x50) z 0x46 refl (λ f. simp (c, f)))) (λ p. simp (b, p)))

pub flag_form : (s : List ℕ) → asked_for RE s ≡ pick (eqb (length s) 3 && eqb (get_or s 0 0) space) (flag_by (get_or s 1 0) (get_or s 2 0)) (refused 1)
unfolding asked_for first_by_text asked_with first_by_arguments formed row_of equal
flag_form [] = refl
flag_form (x ∷ []) = simp and-false
flag_form (x ∷ y ∷ []) = simp and-false
flag_form (x ∷ y ∷ z ∷ []) = by_letter (λ a. Flag a y z) x space (flag_letters y z) (λ h. simp h)
flag_form (x ∷ y ∷ z ∷ w ∷ s) = simp (and-false, ne_eqb (length (x ∷ y ∷ z ∷ w ∷ s)) 3 (omega arith))

-- ---- the part of a text from its byte n on
abbrev pub behind : ℕ → List ℕ → List ℕ
behind n s = take (length s - n) (drop n s)

pub behind_is : (n : ℕ) (s : List ℕ) → behind n s ≡ drop n s
behind_is n s = take_all (length s - n) (drop n s) (omega (arith, length-drop n s))

-- ---- `last_number`
last_digits : (least most : ℕ) (s : List ℕ) → most ≤ 8 → (b : Bool) → between least most (length s) ≡ b
    → pick {A = Result ℕ Refusal} (b && all_digits s) (Ok (value_of s)) (Err refusal.Malformed) ≡ pick b (ok_or (number_for s) refusal.Malformed) (Err refusal.Malformed)
unfolding number_for
last_digits least most s m true e = let l : length s ≤ 8 = omega (arith, between_high least most (length s) e) in simp (le-leb _ _ l) (go (all_digits s))
  where
    go : (b : Bool) → pick {A = Result ℕ Refusal} b (Ok (value_of s)) (Err refusal.Malformed) ≡ ok_or (pick b (Some (value_of s)) None) refusal.Malformed
    go true = refl
    go false = refl
last_digits least most s m false e = refl

pub last_form : (least most : ℕ) (s : List ℕ) → most ≤ 8
    → last_of least most s
    ≡ pick {A = Result ℕ Refusal} (eqb most 0) (pick (eqb (length s) 0) (Ok 0) (Err refusal.Malformed))
    (pick (eqb (get_or s 0 0) space && between least most (length (behind 1 s))) (ok_or (number_for (behind 1 s)) refusal.Malformed) (Err refusal.Malformed))
unfolding last_of formed digits_between
last_form least most [] m = go (eqb most 0)
  where
    go : (b : Bool) → pick {A = Result ℕ Refusal} (pick b true false) (Ok (pick b 0 (value_of []))) (Err refusal.Malformed) ≡ pick b (Ok 0) (Err refusal.Malformed)
    go true = refl
    go false = refl
last_form least most (x ∷ s) m = simp (behind_is 1 (x ∷ s), ne_eqb (length (x ∷ s)) 0 (omega arith)) (go (eqb most 0) (eqb x space))
  where
    go : (b d : Bool) → pick {A = Result ℕ Refusal} (pick b false (d && (between least most (length s) && all_digits s))) (Ok (pick b 0 (value_of s))) (Err refusal.Malformed)
        ≡ pick b (Err refusal.Malformed) (pick (d && between least most (length s)) (ok_or (number_for s) refusal.Malformed) (Err refusal.Malformed))
    go true d = refl
    go false true = last_digits least most s m (between least most (length s)) refl
    go false false = refl

-- ---- `parameter_and`
abbrev pub with_place : Option ℕ → Result ℕ Refusal → Result (ℕ × ℕ) Refusal
with_place None q = Err refusal.Malformed
with_place (Some p) (Err e) = Err e
with_place (Some p) (Ok n) = Ok (place_for p, n)

placed : (a b d : Bool) (p n : ℕ) → pick {A = Result (ℕ × ℕ) Refusal} (a && (b && d)) (Ok (place_for p, n)) (Err refusal.Malformed)
    ≡ pick a (with_place (pick b (Some p) None) (pick d (Ok n) (Err refusal.Malformed))) (Err refusal.Malformed)
placed true true true p n = refl
placed true true false p n = refl
placed true false d p n = refl
placed false b d p n = refl

pub parameter_form : (least most : ℕ) (s : List ℕ)
    → numbers_of least most s
    ≡ pick {A = Result (ℕ × ℕ) Refusal} (eqb (get_or s 0 0) space && leb 4 (length s))
    (with_place (number_for (get_or s 1 0 ∷ get_or s 2 0 ∷ get_or s 3 0 ∷ [])) (last_of least most (behind 4 s))) (Err refusal.Malformed)
unfolding numbers_of last_of formed digits_between number_for
parameter_form least most [] = refl
parameter_form least most (x ∷ []) = simp and-false
parameter_form least most (x ∷ a ∷ []) = simp and-false
parameter_form least most (x ∷ a ∷ b ∷ []) = simp and-false
parameter_form least most (x ∷ a ∷ b ∷ c ∷ s) =
    let k : 4 ≤ length (x ∷ a ∷ b ∷ c ∷ s) = omega arith in
    simp (behind_is 4 (x ∷ a ∷ b ∷ c ∷ s), le-leb 4 (length (x ∷ a ∷ b ∷ c ∷ s)) k, and-true)
    (placed (eqb x space) (all_digits (a ∷ b ∷ c ∷ [])) (formed (numbers false least most) s) (value_of (a ∷ b ∷ c ∷ [])) (last_behind false most s))

-- three digits
pub number_small : (a b c n : ℕ) → number_for (a ∷ b ∷ c ∷ []) ≡ Some n → n < 1000
number_small a b c n e = let (all, value) = number-told (a ∷ b ∷ c ∷ []) n e in omega (arith, value_below (a ∷ b ∷ c ∷ []) 0 all)

pub place_or_none : (o : Option ℕ) → unwrap_or o parameter_count ≡ place_number o
place_or_none (Some i) = refl
place_or_none None = refl

-- ---- `parse`

-- a number is none of several
abbrev pub differs : ℕ → List ℕ → Type 0
differs c [] = Unit
differs c (k ∷ ks) = differs c ks × (c ≡ k → ⊥)

pub absent : (c : ℕ) (ks : List ℕ) → differs c ks → (k : ℕ) → member k ks ≡ true → eqb c k ≡ false
absent c [] h k m = absurd (never (cc))
absent c (j ∷ ks) h k m = go (eqb k j) refl (absent c ks h.0 k) m
  where
    go : (b : Bool) → eqb k j ≡ b → (member k ks ≡ true → eqb c k ≡ false) → (b || member k ks) ≡ true → eqb c k ≡ false
    go true e f n = ne_eqb c k (λ (q : c ≡ k). h.1 (q ∙ eqb-true k j e))
    go false e f n = f n

-- the codes, the last first
abbrev onto : List ℕ → List ℕ → List ℕ
onto ys [] = ys
onto ys (x ∷ xs) = onto (x ∷ ys) xs

abbrev codes_back : List ℕ
codes_back = onto [] (map (λ (k : Command). k.code) commands)

pub unknown : (c : ℕ) (xs : List ℕ) → differs c codes_back → refused 0 ≡ asked_for c xs
unfolding asked_for first_by_text
unknown c xs h = simp (absent c codes_back h)

pub parsed_short : (t : List ℕ) → length t < 4 → refused 0 ≡ asked_in t
unfolding asked_in code_in
parsed_short t h =
    let l : length t ≤ 3 = omega arith in
    let z : get_or t 3 0 ≡ 0 = get_or-eq_default t 0 l in
    unknown (get_or t 2 0 * 256 + get_or t 3 0) (drop 4 t) (omega arith)

-- what the numbers of a form ask for, or what refuses them
abbrev pub with_numbers : ℕ → Result (ℕ × ℕ) Refusal → Asked
with_numbers k (Ok (i, n)) = asked_with k (a_place i n)
with_numbers k (Err d) = refused (refusal_number d)

abbrev pub with_number : ℕ → Result ℕ Refusal → Asked
with_number k (Ok n) = asked_with k (a_place 0 n)
with_number k (Err d) = refused (refusal_number d)

-- PV and XV: a place beyond the last is all that refuses
abbrev pub with_listed : ℕ → Result (ℕ × ℕ) Refusal → Asked
with_listed k (Ok (i, n)) = pick (listed i) (asked k (a_place i 0)) (refused 4)
with_listed k (Err d) = refused (refusal_number d)

-- a code of the table whose form has no argument, or numbers
module _ (k : ℕ) (xs : List ℕ) (known : unknown_code k xs ≡ false) (served : not_served k xs ≡ false) where
  by_form : (f : Form) (q : Asked) → (row_of k commands).form ≡ f → (formed f xs ≡ true → q ≡ asked_with k (arguments_of f xs)) → (formed f xs ≡ false → q ≡ refused 1)
      → asked_for k xs ≡ q
  by_form f q e right wrong =
      sym (by_test (formed f xs)
      (λ b. right b ∙ ap (λ (x : Form). asked_with k (arguments_of x xs)) (sym e) ∙ formed-asked k xs known served (ap (λ (x : Form). formed x xs) e ∙ b))
      (λ b. wrong b ∙ malformed-asked k xs known served (ap (λ (x : Form). formed x xs) e ∙ b)))

  by_alone : (q : Request) → (row_of k commands).form ≡ nothing → request_as (Ok q) ≡ asked_with k (a_place 0 0) → asked_for k xs ≡ request_as (whole nothing xs q)
  by_alone q e h = by_form nothing _ e (λ b. simp b h) (λ b. simp b)

  by_numbers : (least most : ℕ) → (row_of k commands).form ≡ numbers true least most → asked_for k xs ≡ with_numbers k (numbers_of least most xs)
  unfolding numbers_of
  by_numbers least most e = by_form (numbers true least most) _ e (λ b. simp b) (λ b. simp b)

  by_number : (least most : ℕ) → (row_of k commands).form ≡ numbers false least most → asked_for k xs ≡ with_number k (last_of least most xs)
  unfolding last_of
  by_number least most e = by_form (numbers false least most) _ e (λ b. simp b) (λ b. simp b)

  by_listed : (row_of k commands).form ≡ numbers true 0 0 → ((i : ℕ) → first_by_arguments refusals k (a_place i 0) ≡ pick (not (listed i)) (NO 4) accepted)
      → asked_for k xs ≡ with_listed k (numbers_of 0 0 xs)
  unfolding numbers_of asked_with
  by_listed e h = by_form (numbers true 0 0) _ e (λ b. simp (b, h) (go (listed (place_behind true xs)) (asked k (a_place (place_behind true xs) 0)))) (λ b. simp b)
    where
      go : (b : Bool) (q : Asked) → pick b q (refused 4) ≡ unless_refused (pick (not b) (NO 4) accepted) q
      go true q = refl
      go false q = refl

module _ (xs : List ℕ) where
  pub EQ_form : asked_for EQ xs ≡ request_as (whole nothing xs (request.Read reading.Status))
  unfolding row_of asked_with first_by_arguments
  EQ_form = by_alone EQ xs refl refl _ refl refl

  pub RS_form : asked_for RS xs ≡ request_as (whole nothing xs (request.Read reading.Codes))
  unfolding row_of asked_with first_by_arguments
  RS_form = by_alone RS xs refl refl _ refl refl

  pub TN_form : asked_for TN xs ≡ request_as (whole nothing xs (request.Read reading.Number))
  unfolding row_of asked_with first_by_arguments
  TN_form = by_alone TN xs refl refl _ refl refl

  pub RR_form : asked_for RR xs ≡ request_as (whole nothing xs (request.Read reading.Recipe))
  unfolding row_of asked_with first_by_arguments
  RR_form = by_alone RR xs refl refl _ refl refl

  pub RC_form : asked_for RC xs ≡ request_as (whole nothing xs (request.Read reading.Composition))
  unfolding row_of asked_with first_by_arguments
  RC_form = by_alone RC xs refl refl _ refl refl

  pub EA_form : asked_for EA xs ≡ request_as (whole nothing xs (request.Read reading.Alarms))
  unfolding row_of asked_with first_by_arguments
  EA_form = by_alone EA xs refl refl _ refl refl

  pub SA_form : asked_for SA xs ≡ request_as (whole nothing xs (request.Write writing.Start))
  unfolding row_of asked_with first_by_arguments
  SA_form = by_alone SA xs refl refl _ refl refl

  pub SP_form : asked_for SP xs ≡ request_as (whole nothing xs (request.Write writing.Stop))
  unfolding row_of asked_with first_by_arguments
  SP_form = by_alone SP xs refl refl _ refl refl

  pub ET_form : asked_for ET xs ≡ request_as (whole nothing xs (request.Write writing.End))
  unfolding row_of asked_with first_by_arguments
  ET_form = by_alone ET xs refl refl _ refl refl

  pub AR_form : asked_for AR xs ≡ request_as (whole nothing xs (request.Write writing.ResetAlarms))
  unfolding row_of asked_with first_by_arguments
  AR_form = by_alone AR xs refl refl _ refl refl

  pub PV_form : asked_for PV xs ≡ with_listed PV (numbers_of 0 0 xs)
  unfolding row_of first_by_arguments
  PV_form = by_listed PV xs refl refl refl (λ i. refl)

  pub XV_form : asked_for XV xs ≡ with_listed XV (numbers_of 0 0 xs)
  unfolding row_of first_by_arguments
  XV_form = by_listed XV xs refl refl refl (λ i. refl)

  pub PC_form : asked_for PC xs ≡ with_numbers PC (numbers_of 1 8 xs)
  unfolding row_of
  PC_form = by_numbers PC xs refl refl 1 8 refl

  pub XC_form : asked_for XC xs ≡ with_numbers XC (numbers_of 1 1 xs)
  unfolding row_of
  XC_form = by_numbers XC xs refl refl 1 1 refl

  pub NR_form : asked_for NR xs ≡ with_number NR (last_of 2 2 xs)
  unfolding row_of
  NR_form = by_number NR xs refl refl 2 2 refl

  pub SB_form : asked_for SB xs ≡ with_number SB (last_of 1 6 xs)
  unfolding row_of
  SB_form = by_number SB xs refl refl 1 6 refl

pub ruleset forms = (EQ_form, RS_form, TN_form, RR_form, RC_form, EA_form, SA_form, SP_form, ET_form, AR_form, PV_form, XV_form, PC_form, XC_form, NR_form, SB_form)

-- ---- by the arguments

module _ (i : ℕ) (q : Asked) where
  pub place-listed : i < parameter_count → q ≡ pick (listed i) q (refused 4)
  place-listed h = simp (lt-ltb i parameter_count h)

  pub place_nowhere : parameter_count ≤ i → refused 4 ≡ pick (listed i) q (refused 4)
  place_nowhere h = simp (le-ltb i parameter_count h)

module _ (i n : ℕ) where
  pub nowhere_asked : (k : ℕ) → of (PV ∷ XV ∷ PC ∷ XC ∷ []) k ≡ true → parameter_count ≤ i → refused 4 ≡ asked_with k (a_place i n)
  unfolding asked_with first_by_arguments
  nowhere_asked k o h = simp (o, le-ltb i parameter_count h)

  module _ (l : i < parameter_count) where
    module _ (g : Range) (b : Bool) (e : g ≡ range_at i) (t : b ≡ within g n) where
      inside : b ≡ within (range_at i) n
      inside = t ∙ ap (λ (x : Range). within x n) e

      pub value_right : b ≡ true → asked PC (a_place i n) ≡ asked_with PC (a_place i n)
      unfolding asked_with first_by_arguments
      value_right h = simp (lt-ltb i parameter_count l, sym inside ∙ h)

      pub value_wrong : b ≡ false → refused 6 ≡ asked_with PC (a_place i n)
      unfolding asked_with first_by_arguments
      value_wrong h = simp (lt-ltb i parameter_count l, sym inside ∙ h)

    pub level_right : n ≤ (field_range (level i)).high → asked XC (a_place i n) ≡ asked_with XC (a_place i n)
    unfolding asked_with first_by_arguments
    level_right h = simp (lt-ltb i parameter_count l, le-ltb (field_range (level i)).high n h)

    pub level_wrong : (field_range (level i)).high < n → refused 6 ≡ asked_with XC (a_place i n)
    unfolding asked_with first_by_arguments
    level_wrong h = simp (lt-ltb i parameter_count l, lt-ltb (field_range (level i)).high n h)

module _ (n : ℕ) where
  pub recipe_right : (b : Bool) → b ≡ within (field_range recipe) n → b ≡ true → asked NR (a_place 0 n) ≡ asked_with NR (a_place 0 n)
  unfolding asked_with first_by_arguments
  recipe_right b e h = simp (sym e ∙ h)

  pub recipe_wrong : (b : Bool) → b ≡ within (field_range recipe) n → b ≡ false → refused 30 ≡ asked_with NR (a_place 0 n)
  unfolding asked_with first_by_arguments
  recipe_wrong b e h = simp (sym e ∙ h)

  pub recipe_small : (b : Bool) → b ≡ within (field_range recipe) n → b ≡ true → n ≤ 255
  recipe_small b e h = omega (arith, between_high (field_range recipe).low (field_range recipe).high n (sym e ∙ h))

  pub batch_right : (n ≡ 0 → ⊥) → asked SB (a_place 0 n) ≡ asked_with SB (a_place 0 n)
  unfolding asked_with first_by_arguments
  batch_right h = simp (ne_eqb n 0 h)

  pub batch_wrong : n ≡ 0 → refused 6 ≡ asked_with SB (a_place 0 n)
  unfolding asked_with first_by_arguments
  batch_wrong h = simp (eq-eqb n 0 h)

pub ruleset asking = (place-listed, place_nowhere, nowhere_asked, value_right, value_wrong, level_right, level_wrong, recipe_right, recipe_wrong, recipe_small, batch_right, batch_wrong)
