-- EQ: one law for each return of the functions that read its reply; and it shows exactly the records of the status characters. By induction
-- over the lists of bits: each bit is a test of one field, and the bits that are read in a character are those that were printed, computed
-- over all choices of a list's bits. Assumes nothing.
use Prim.Native.Nat.{ℕ, suc, ◌+◌, ◌<◌, ◌*◌}
use mathlib.Core.Bool.{Bool, true, false, not, false≢true, ◌&&◌}
use mathlib.Core.Path.{◌≡◌, refl, sym, ap, ◌∙◌, subst}
use mathlib.Core.List.{List, [], ◌∷◌, map}
use native.Mathlib.Omega.{arith}
use lib.Bits.{bit_and}
use lib.Dec.{eqb}
use lib.Pointwise.{pointwise}
use lib.ListN.{length, get_or, drop}
use borrow.Author.Tests.{eq-eqb, not-true, eqb-true}
use Rattle.base.proofs.Tests.{by_test, same, same_as, and_right, all_below, holds_below, and_yes, and_left}
use Rattle.state.specs.declared.Record.{Record}
use Rattle.state.specs.Field.{flag_number, listed}
use Rattle.state.proofs.Whole.{listed_same}
use Rattle.command.specs.Status.{Bit, first, second, third, fourth, characters, passes, weight_in, status_characters}
use Rattle.knowledge.specs.declared.Knowledge.{Knowledge}
use Rattle.knowledge.specs.Knowledge.{dead}
use Rattle.knowledge.proofs.Possible.{Kept}
use Rattle.showing.specs.Heard.{lit, weight_lit, characters_formed}
use Rattle.showing.specs.Shown.{bits_shown, characters_shown, status_shown, test_shown}
use Rattle.showing.proofs.Fields.{Shows, all_shown, shown_as, both_shown, unless-shown, is_small, Tested, small_tested, alarm_tested, test_shown_lem}

-- ---- `show_first`, `show_second`, `show_third`, `show_fourth`: one bit behind another
module _ (x : ℕ) (b : Bit) (bs : List Bit) (k l r : Knowledge) where
  pub bit-shown : l ≡ test_shown (lit b.weight x) b.if k → r ≡ bits_shown x bs l → r ≡ bits_shown x (b ∷ bs) k
  unfolding bits_shown
  bit-shown e h = h ∙ ap (bits_shown x bs) e

pub none-shown : (x : ℕ) (k : Knowledge) → k ≡ bits_shown x [] k
unfolding bits_shown
none-shown x k = refl

pub ruleset bits_told = (bit-shown, none-shown)

-- ---- `characters_formed`

-- a character has the form of a list of bits exactly if its other bits are those of 0x30; computed over all bytes
abbrev both : ℕ → List Bit → ℕ → Bool
both m bs x = same (eqb (bit_and x m) 0x30) (eqb x (0x30 + weight_lit x bs))

others : (m : ℕ) (bs : List Bit) → all_below (both m bs) 256 ≡ true → (x : ℕ) → x < 256 → eqb (bit_and x m) 0x30 ≡ eqb x (0x30 + weight_lit x bs)
others m bs h x l = same_as _ _ (holds_below (both m bs) 256 h x l)

-- as many as there are lists of bits
formed_length : (xs : List ℕ) (bss : List (List Bit)) → characters_formed xs bss ≡ true → length xs ≡ length bss
unfolding characters_formed
formed_length [] [] h = refl
formed_length [] (bs ∷ bss) h = absurd (false≢true h)
formed_length (x ∷ xs) [] h = absurd (false≢true h)
formed_length (x ∷ xs) (bs ∷ bss) h = ap suc (formed_length xs bss (and_right (eqb x (0x30 + weight_lit x bs)) _ h))

abbrev first_six : List ℕ → List ℕ
first_six s = get_or s 0 0 ∷ get_or s 1 0 ∷ get_or s 2 0 ∷ get_or s 3 0 ∷ get_or s 4 0 ∷ get_or s 5 0 ∷ []

six : (s : List ℕ) → length s ≡ 6 → first_six s ≡ s
unfolding listed
six s e = listed_same s 6 e

module _ (s : List ℕ) where
  pub formed_six : characters_formed s characters ≡ true → length s ≡ 6
  formed_six = formed_length s characters

  pub formed_other : (length s ≡ 6 → ⊥) → characters_formed s characters ≡ false
  formed_other h = by_test (characters_formed s characters) (λ e. absurd (h (formed_six e))) (λ e. e)

  pub six_formed : length s ≡ 6 → get_or s 0 0 < 256 → get_or s 1 0 < 256 → get_or s 2 0 < 256 → get_or s 3 0 < 256
      → characters_formed s characters
      ≡ pointwise eqb (bit_and (get_or s 0 0) 0xf0 ∷ bit_and (get_or s 1 0) 0xf1 ∷ bit_and (get_or s 2 0) 0xfe ∷ bit_and (get_or s 3 0) 0xf6 ∷ get_or s 4 0 ∷ get_or s 5 0 ∷ [])
      (0x30 ∷ 0x30 ∷ 0x30 ∷ 0x30 ∷ 0x30 ∷ 0x30 ∷ [])
  unfolding characters_formed weight_lit
  six_formed e l m n o =
      ap (λ (xs : List ℕ). characters_formed xs characters) (sym (six s e))
      ∙ simp (sym (others 0xf0 first refl (get_or s 0 0) l), sym (others 0xf1 second refl (get_or s 1 0) m), sym (others 0xfe third refl (get_or s 2 0) n), sym (others 0xf6 fourth refl (get_or s 3 0) o))

pub ruleset formed = (formed_six, formed_other, six_formed)

-- ---- `show_status`
module _ (s : List ℕ) (k : Knowledge) where
  pub status_wrong : characters_formed s characters ≡ false → status_shown s k ≡ dead k
  unfolding status_shown
  status_wrong h = simp h

  pub status_read : characters_formed s characters ≡ true
      → status_shown s k ≡ bits_shown (get_or s 3 0) fourth (bits_shown (get_or s 2 0) third (bits_shown (get_or s 1 0) second (bits_shown (get_or s 0 0) first k)))
  unfolding status_shown characters_shown bits_shown
  status_read h =
      let u : characters_shown (first_six s) characters k ≡ characters_shown s characters k = ap (λ (xs : List ℕ). characters_shown xs characters k) (six s (formed_six s h)) in
      simp h (sym u)

pub ruleset status_known = (status_wrong, status_read)

-- ---- the bits of a character, and the tests that they tell
abbrev Telling : Record → ℕ → List Bit → Type 0
Telling r x [] = Unit
Telling r x (b ∷ bs) = (lit b.weight x ≡ passes b.if r) × Telling r x bs

same-weight : (r : Record) (x : ℕ) (bs : List Bit) → Telling r x bs → weight_lit x bs ≡ weight_in r bs
unfolding weight_lit weight_in
same-weight r x [] h = refl
same-weight r x (b ∷ bs) h =
    ap (λ (t : Bool). b.weight * flag_number t + weight_lit x bs) h.0
    ∙ ap (λ (n : ℕ). b.weight * flag_number (passes b.if r) + n) (same-weight r x bs h.1)

-- a test of x and the weights of some bits, for each choice of bits, that holds with those bits read as chosen
abbrev each_choice : (ℕ → Bool) → ℕ → List Bit → Bool
each_choice p x [] = p x
each_choice p x (b ∷ bs) = each_choice (λ y. p y && not (lit b.weight y)) x bs && each_choice (λ y. p y && lit b.weight y) (x + b.weight) bs

chosen : (p : ℕ → Bool) (l : ℕ → Type 0) (x w m : ℕ) (t : Bool) → ((p (x + m) && not (lit w (x + m))) ≡ true) × l (x + m)
    → ((p (x + w + m) && lit w (x + w + m)) ≡ true) × l (x + w + m)
    → (p (x + (w * flag_number t + m)) ≡ true) × ((lit w (x + (w * flag_number t + m)) ≡ t) × l (x + (w * flag_number t + m)))
chosen p l x w m true f g =
    let e : x + w + m ≡ x + (w * 1 + m) = omega arith in
    subst (λ (y : ℕ). (p y ≡ true) × ((lit w y ≡ true) × l y)) e (and_left (p (x + w + m)) _ g.0, (and_right (p (x + w + m)) _ g.0, g.1))
chosen p l x w m false f g =
    let e : x + m ≡ x + (w * 0 + m) = omega arith in
    subst (λ (y : ℕ). (p y ≡ true) × ((lit w y ≡ false) × l y)) e
    (and_left (p (x + m)) _ f.0, (not-true (lit w (x + m)) (and_right (p (x + m)) _ f.0), f.1))

own_bits : (r : Record) (p : ℕ → Bool) (x : ℕ) (bs : List Bit) → each_choice p x bs ≡ true → (p (x + weight_in r bs) ≡ true) × Telling r (x + weight_in r bs) bs
unfolding weight_in
own_bits r p x [] h = let e : x + 0 ≡ x = omega arith in (ap p e ∙ h, tt)
own_bits r p x (b ∷ bs) h =
    chosen p (λ y. Telling r y bs) x b.weight (weight_in r bs) (passes b.if r)
    (own_bits r (λ y. p y && not (lit b.weight y)) x bs (and_left (each_choice (λ y. p y && not (lit b.weight y)) x bs) _ h))
    (own_bits r (λ y. p y && lit b.weight y) (x + b.weight) bs (and_right (each_choice (λ y. p y && not (lit b.weight y)) x bs) _ h))

-- ---- what the lists of bits are held to: tests that sets have codes for, and no choice of bits is read as another
abbrev AllTested : List Bit → Type 0
AllTested [] = Unit
AllTested (b ∷ bs) = Tested b.if × AllTested bs

abbrev all_small : List Bit → Bool
all_small [] = true
all_small (b ∷ bs) = is_small b.if.field && all_small bs

all_small_lem : (bs : List Bit) → all_small bs ≡ true → AllTested bs
all_small_lem [] h = tt
all_small_lem (b ∷ bs) h = (small_tested b.if (and_left (is_small b.if.field) _ h), all_small_lem bs (and_right (is_small b.if.field) _ h))

record Sound (bs : List Bit) : Type 0 where
  tested : AllTested bs
  choice : each_choice (λ y. true) 0x30 bs ≡ true

abbrev AllSound : List (List Bit) → Type 0
AllSound [] = Unit
AllSound (bs ∷ bss) = Sound bs × AllSound bss

small_sound : (bs : List Bit) → all_small bs ≡ true → each_choice (λ y. true) 0x30 bs ≡ true → Sound bs
small_sound bs h e = record { tested = all_small_lem bs h; choice = e }

characters_sound : AllSound characters
characters_sound = (
  small_sound first refl refl,
  (
    small_sound second refl refl,
    (record { tested = (alarm_tested, tt); choice = refl }, (small_sound fourth refl refl, (small_sound [] refl refl, (small_sound [] refl refl, tt)))),
  ),
)

-- ---- one character
bits_shown_lem : {a c : ℕ} (x : ℕ) (bs : List Bit) (k : Knowledge) → Kept a c k → AllTested bs → Shows a c k (bits_shown x bs k) (λ r. Telling r x bs)
unfolding bits_shown
bits_shown_lem x [] k kept h = all_shown k (λ r. Unit) kept (λ r. tt)
bits_shown_lem x (b ∷ bs) k kept h =
    let t = test_shown_lem (lit b.weight x) b.if k kept h.0 in
    both_shown k _ _ (λ r. lit b.weight x ≡ passes b.if r) (λ r. Telling r x bs) t
    (bits_shown_lem x bs (test_shown (lit b.weight x) b.if k) t.kept h.1)

-- ---- all characters
abbrev characters_of : Record → List (List Bit) → List ℕ
characters_of r bss = map (λ (bs : List Bit). 0x30 + weight_in r bs) bss

characters_shown_lem : {a c : ℕ} (xs : List ℕ) (bss : List (List Bit)) (k : Knowledge) → Kept a c k → AllSound bss → characters_formed xs bss ≡ true
    → Shows a c k (characters_shown xs bss k) (λ r. characters_of r bss ≡ xs)
unfolding characters_shown characters_formed
characters_shown_lem [] [] k kept h f = all_shown k (λ r. [] ≡ []) kept (λ r. refl)
characters_shown_lem [] (bs ∷ bss) k kept h f = absurd (false≢true f)
characters_shown_lem (x ∷ xs) [] k kept h f = absurd (false≢true f)
characters_shown_lem (x ∷ xs) (bs ∷ bss) k kept h f =
    let t = bits_shown_lem x bs k kept h.0.tested in
    shown_as k _ (λ r. Telling r x bs × (characters_of r bss ≡ xs)) (λ r. characters_of r (bs ∷ bss) ≡ x ∷ xs)
    (λ r v e.
    let q : 0x30 + weight_in r bs ≡ x = omega (arith, eqb-true x (0x30 + weight_lit x bs) (and_left (eqb x (0x30 + weight_lit x bs)) _ f), same-weight r x bs e.0) in
    ap (λ (y : ℕ). y ∷ characters_of r bss) q ∙ ap (λ (ys : List ℕ). x ∷ ys) e.1)
    (λ r v e.
    (subst (λ (y : ℕ). Telling r y bs) (ap (λ (ys : List ℕ). get_or ys 0 0) e) (own_bits r (λ y. true) 0x30 bs h.0.choice).1, ap (drop 1) e))
    (both_shown k _ _ (λ r. Telling r x bs) (λ r. characters_of r bss ≡ xs) t
    (characters_shown_lem xs bss (bits_shown x bs k) t.kept h.1 (and_right (eqb x (0x30 + weight_lit x bs)) _ f)))

own_formed : (r : Record) (bss : List (List Bit)) → AllSound bss → characters_formed (characters_of r bss) bss ≡ true
unfolding characters_formed
own_formed r [] h = refl
own_formed r (bs ∷ bss) h =
    let x : ℕ = 0x30 + weight_in r bs in
    let e = same-weight r x bs (own_bits r (λ y. true) 0x30 bs h.0.choice).1 in
    and_yes (eqb x (0x30 + weight_lit x bs)) _ (eq-eqb _ _ (ap (λ (n : ℕ). 0x30 + n) (sym e))) (own_formed r bss h.1)

-- ---- EQ
pub status_shown_lem : {a c : ℕ} (b : List ℕ) (k : Knowledge) → Kept a c k → Shows a c k (status_shown b k) (λ r. status_characters r ≡ b)
unfolding status_shown status_characters
status_shown_lem b k kept =
    unless-shown (characters_formed b characters) k (characters_shown b characters k) (λ r. status_characters r ≡ b) kept
    (characters_shown_lem b characters k kept characters_sound)
    (λ r v e. ap (λ (xs : List ℕ). characters_formed xs characters) (sym e) ∙ own_formed r characters characters_sound)
