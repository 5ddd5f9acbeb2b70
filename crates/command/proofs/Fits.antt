-- What a text asks for is sound: its code stands in the table and its arguments fit, so that what an accepted request changes fits the record.
-- One line for a command. Assumes nothing.
use Prim.Native.Nat.{ℕ, ◌^◌, ◌≤◌, ◌<◌}
use mathlib.Core.Bool.{Bool, true, false, not, ◌&&◌, false≢true, or-false}
use mathlib.Core.Path.{◌≡◌, refl, sym, ap, subst, ◌∙◌}
use mathlib.Core.List.{List, [], ◌∷◌, map}
use native.Mathlib.Nat.{pow-le-pow_right}
use native.Mathlib.Omega.{arith}
use lib.Dec.{eqb, ltb}
use lib.ListN.{length, drop}
use borrow.Author.Tests.{eqb-true, ltb-true, ltb-false, not-false}
use Rattle.state.specs.declared.Record.{Record}
use Rattle.base.specs.Test.{pick, between, member}
use Rattle.base.specs.Text.{text}
use Rattle.state.specs.Parameter.{parameter_count, range_at}
use Rattle.state.specs.Field.{reset, changed, recipe, preset, level, field_range, off}
use Rattle.state.specs.Valid.{within}
use Rattle.base.proofs.Tests.{◌also◌, by_test, and_left, and_right, neither, between_yes, between_high}
use Rattle.text.specs.Word.{space, value_of, all_digits, equal}
use Rattle.command.specs.Commands.{PV, XV, PC, XC, NR, SB, code_in, Command, Arguments, a_number, formed, digits_between, commands, row_of, ◌≔◌}
use Rattle.command.specs.Refusals.{Row, by_text, by_arguments, by_field, row_number, refusals, of, arguments_for, unknown_code, not_served, malformed, listed, unknown_parameter, unknown_recipe, out_of_range}
use Rattle.command.specs.Answer.{Verdict, NO, accepted, behind_code, arguments_in, verdict}
use Rattle.command.specs.Request.{Asked, refused, asked, first_by_text, first_by_arguments, unless_refused, asked_with, asked_for, asked_in}
use Rattle.text.proofs.Words.{value_below}
use Rattle.command.proofs.Tables.{Fitting}
use Rattle.command.proofs.Agree.{accepted-asked}

-- ---- every code of the table
abbrev pub codes : List ℕ
codes = map (λ (k : Command). k.code) commands

abbrev pub All : (ℕ → Type 0) → List ℕ → Type 0
All P [] = Unit {0}
All P (c ∷ cs) = P c × All P cs

pub by_member : (P : ℕ → Type 0) (cs : List ℕ) → All P cs → (c : ℕ) → member c cs ≡ true → P c
by_member P [] all c m = let z : ◌≡◌ {A = ℕ} 0 1 = cc in absurd (omega arith)
by_member P (d ∷ cs) all c m = by_test (eqb c d) (λ e. subst P (sym (eqb-true c d e)) all.0) (λ e. by_member P cs all.1 c (simp e at m))

-- ---- what a text that is not refused by itself says of its code and arguments
pub record Sound (c : ℕ) (x : Arguments) : Type 0 where
  pub known : member c codes ≡ true
  pub placed : of (PV ∷ XV ∷ PC ∷ XC ∷ []) c ≡ true → x.place < parameter_count
  pub valued : of (PC ∷ []) c ≡ true → within (range_at x.place) x.number ≡ true
  pub levelled : of (XC ∷ []) c ≡ true → within (field_range (level x.place)) x.number ≡ true
  pub among : of (NR ∷ []) c ≡ true → within (field_range recipe) x.number ≡ true
  pub counted : of (SB ∷ []) c ≡ true → within (field_range preset) x.number ≡ true

abbrev pub SoundAsked : Asked → Type 0
SoundAsked (refused n) = n < 100
SoundAsked (asked c x) = Sound c x

-- every refusal number has two digits
abbrev pub two_digits : List Row → Bool
two_digits [] = true
two_digits (row ∷ rows) = ltb (row_number row) 100 && two_digits rows

abbrev Below : Verdict → Type 0
Below (NO n) = n < 100
Below accepted = Unit {0}

picked_below : (b : Bool) (n : ℕ) (v : Verdict) → n < 100 → Below v → Below (pick b (NO n) v)
picked_below true n v l h = l
picked_below false n v l h = h

text_below : (c : ℕ) (xs : List ℕ) (rows : List Row) → two_digits rows ≡ true → Below (first_by_text rows c xs)
unfolding first_by_text
text_below c xs [] h = tt
text_below c xs (by_text m p ∷ rows) h =
    picked_below (p c xs) m _ (ltb-true m 100 (and_left (ltb m 100) (two_digits rows) h)) (text_below c xs rows (and_right (ltb m 100) (two_digits rows) h))
text_below c xs (by_arguments m p ∷ rows) h = text_below c xs rows (and_right (ltb m 100) (two_digits rows) h)
text_below c xs (by_field m cs f p ∷ rows) h = text_below c xs rows (and_right (ltb m 100) (two_digits rows) h)

arguments_below : (c : ℕ) (x : Arguments) (rows : List Row) → two_digits rows ≡ true → Below (first_by_arguments rows c x)
unfolding first_by_arguments
arguments_below c x [] h = tt
arguments_below c x (by_text m p ∷ rows) h = arguments_below c x rows (and_right (ltb m 100) (two_digits rows) h)
arguments_below c x (by_arguments m p ∷ rows) h =
    picked_below (p c x) m _ (ltb-true m 100 (and_left (ltb m 100) (two_digits rows) h)) (arguments_below c x rows (and_right (ltb m 100) (two_digits rows) h))
arguments_below c x (by_field m cs f p ∷ rows) h = arguments_below c x rows (and_right (ltb m 100) (two_digits rows) h)

-- a row that was passed does not apply
passed : (b : Bool) (n : ℕ) (v : Verdict) → pick b (NO n) v ≡ accepted → (b ≡ false) × (v ≡ accepted)
passed true n v e = let z : ◌≡◌ {A = ℕ} 0 1 = cc in absurd (omega arith)
passed false n v e = (refl, e)

-- a test for some codes that does not hold does not hold for one of them
told : (b t : Bool) → (b && t) ≡ false → b ≡ true → t ≡ false
told true t e h = e
told false t e h = let z : ◌≡◌ {A = ℕ} 0 1 = cc in absurd (omega arith)

shaped_so : (a b : Bool) → (a && not b) ≡ false → b ≡ false → a ≡ false
shaped_so true b p q = absurd (false≢true (sym p ∙ ap (λ (z : Bool). not z) q))
shaped_so false b p q = refl

-- a batch that a text asks for has at most six digits
digits_small : (xs : List ℕ) → formed (a_number 1 6) xs ≡ true → value_of (drop 1 xs) ≤ (field_range preset).high
unfolding formed digits_between
digits_small [] h = let z : ◌≡◌ {A = ℕ} 0 1 = cc in absurd (omega arith)
digits_small (x ∷ xs) h =
    let d : between 1 6 (length xs) && all_digits xs ≡ true = and_right (eqb x space) (between 1 6 (length xs) && all_digits xs) h in
    let l : length xs ≤ 6 = between_high 1 6 (length xs) (and_left (between 1 6 (length xs)) (all_digits xs) d) in
    let p : 10 ^ length xs ≤ 10 ^ 6 = pow-le-pow_right {n = 10} (omega arith) {i = length xs} {j = 6} l in
    omega (arith, value_below xs 0 (and_right (between 1 6 (length xs)) (all_digits xs) d))

batch_small : (c : ℕ) (xs : List ℕ) → c ≡ SB → formed (row_of c commands).form xs ≡ true → (arguments_for c xs).number ≤ (field_range preset).high
unfolding row_of
batch_small c xs e h = subst (λ (d : ℕ). (arguments_for d xs).number ≤ 999999) (sym e) (digits_small xs (sym (ap (λ (d : ℕ). formed (row_of d commands).form xs) e) ∙ h))

sound_for : (c : ℕ) (xs : List ℕ) → first_by_text refusals c xs ≡ accepted → first_by_arguments refusals c (arguments_for c xs) ≡ accepted → Sound c (arguments_for c xs)
unfolding first_by_text first_by_arguments
sound_for c xs e h =
    let x : Arguments = arguments_for c xs in
    let (known, e₁) = passed (unknown_code c xs) 0 _ e in
    let (shaped, e₂) = passed (malformed c xs) 1 _ e₁ in
    let (served, e₃) = passed (not_served c xs) 8 _ e₂ in
    let (parameter, h₁) = passed (unknown_parameter c x) 4 _ h in
    let (named, h₂) = passed (unknown_recipe c x) 30 _ h₁ in
    let (range, h₃) = passed (out_of_range c x) 6 _ h₂ in
    let (others, batch) = neither _ (of (SB ∷ []) c && eqb x.number 0) range in
    let (value, above) = neither (of (PC ∷ []) c && not (within (range_at x.place) x.number)) (of (XC ∷ []) c && ltb 3 x.number) others in
    record {
      known = not-false (member c codes) known;
      placed = λ b. ltb-true x.place parameter_count (not-false (listed x.place) (told (of (PV ∷ XV ∷ PC ∷ XC ∷ []) c) _ parameter b));
      valued = λ b. not-false (within (range_at x.place) x.number) (told (of (PC ∷ []) c) _ value b);
      levelled = λ b. between_yes _ _ x.number (omega arith) (ltb-false 3 x.number (told (of (XC ∷ []) c) _ above b));
      among = λ b. not-false (within (field_range recipe) x.number) (told (of (NR ∷ []) c) _ named b);
      counted =
          λ b.
          between_yes _ _ x.number (omega arith) (batch_small c xs (eqb-true c SB (sym (or-false (eqb c SB)) ∙ b)) (not-false (formed (row_of c commands).form xs) (shaped_so (not (formed (row_of c commands).form xs)) (not_served c xs) shaped served)));
    }

pub asked_sound : (t : List ℕ) → SoundAsked (asked_in t)
unfolding asked_in asked_for asked_with
asked_sound t =
    go (first_by_text refusals c xs) refl (text_below c xs refusals refl) (first_by_arguments refusals c (arguments_in t)) refl
    (arguments_below c (arguments_in t) refusals refl)
  where
    c : ℕ
    c = code_in t

    xs : List ℕ
    xs = behind_code t

    go : (u : Verdict) → first_by_text refusals c xs ≡ u → Below u → (v : Verdict) → first_by_arguments refusals c (arguments_in t) ≡ v → Below v
        → SoundAsked (unless_refused u (unless_refused v (asked c (arguments_in t))))
    go (NO n) e l v h m = l
    go accepted e l (NO n) h m = m
    go accepted e l accepted h m = sound_for c xs e h

-- ---- what a sound request changes fits the record
flag_fits : (b : Bool) → Fitting ((pick b reset changed ≔ off) ∷ [])
flag_fits true = ((omega arith, omega arith, refl), tt)
flag_fits false = ((omega arith, omega arith, refl), tt)

pub effect-fits : (c : ℕ) (x : Arguments) → Sound c x → Fitting ((row_of c commands).effect x)
unfolding row_of
effect-fits c x s = by_member (λ (d : ℕ). Sound d x → Fitting ((row_of d commands).effect x)) codes each c s.known s
  where
    each : All (λ (d : ℕ). Sound d x → Fitting ((row_of d commands).effect x)) codes
    each =
        -- EQ, RS, TN, RR, RC, RT, PV, XV
        (λ s. tt) also (λ s. tt) also (λ s. tt) also (λ s. tt) also (λ s. tt) also (λ s. tt) also (λ s. tt) also (λ s. tt) also
        -- PC
        (λ s. ((s.placed refl, s.valued refl), tt)) also
        -- XC
        (λ s. let l = s.placed refl in ((omega arith, omega arith, s.levelled refl), tt)) also
        -- NR
        (λ s. ((omega arith, omega arith, s.among refl), tt)) also
        -- SB
        (λ s.
        (omega arith, omega arith, refl) also (omega arith, omega arith, s.counted refl) also (omega arith, omega arith, refl) also
        (omega arith, omega arith, refl) also tt also tt) also
        -- SA, SP, ET
        (λ s. ((omega arith, omega arith, refl), tt)) also (λ s. ((omega arith, omega arith, refl), tt)) also (λ s. ((omega arith, omega arith, refl), tt)) also
        -- RE
        (λ s. flag_fits (equal x.word (text "BD"))) also
        -- EA, AR
        (λ s. tt) also (λ s. (tt, tt)) also
        tt

-- what an accepted text changes fits the record
pub accepted-fits : (t : List ℕ) (r : Record) → verdict t r ≡ accepted → Fitting ((row_of (code_in t) commands).effect (arguments_in t))
accepted-fits t r h = effect-fits (code_in t) (arguments_in t) (subst SoundAsked (accepted-asked t r h) (asked_sound t))
