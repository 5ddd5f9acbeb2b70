-- RS: one law for each return of the functions that read its reply; and it shows exactly the records whose codes are those listed. By
-- induction over the codes along the text: a code that stands next is on, since the words of the later codes are other words of the same
-- length, and one that does not is off. Assumes nothing.
use Prim.Native.Nat.{ℕ, ◌+◌, ◌≤◌}
use mathlib.Core.Bool.{Bool, true, false, not, ◌&&◌}
use mathlib.Core.Path.{◌≡◌, refl, sym, ap, ◌∙◌}
use mathlib.Core.List.{List, [], ◌∷◌, ◌++◌}
use native.Mathlib.Omega.{arith}
use lib.ListN.{length, take, drop, length-append, take-append-drop}
use lib.Seq.{take_at, take-append_seam, drop-append_seam}
use lib.Dec.{eqb}
use lib.Pointwise.{pointwise}
use Rattle.std.proofs.Common.{Option, Some, None, Bor, MatchOption, unwrap_or, is_some}
use borrow.Author.Tests.{not-true, eqb-true}
use Rattle.base.specs.Text.{text}
use Rattle.base.specs.Test.{pick, unless}
use Rattle.base.proofs.Tests.{and_left, and_right}
use Rattle.state.specs.declared.Record.{Record}
use Rattle.state.specs.Field.{alarms, position}
use Rattle.command.specs.Status.{phase_codes, flag_codes, status_codes, passes, Code, codes_on}
use Rattle.text.specs.Word.{space, equal}
use Rattle.text.proofs.Words.{equal-pointwise, equal_true, equal-same, word-length}
use Rattle.knowledge.specs.declared.Knowledge.{Knowledge}
use Rattle.knowledge.specs.Sets.{none_mask, some_mask, mask_in}
use Rattle.knowledge.specs.Knowledge.{dead, restricted}
use Rattle.knowledge.proofs.Possible.{Kept}
use Rattle.showing.specs.declared.Test as declared
use Rattle.showing.specs.Heard.{starts_with}
use Rattle.showing.specs.Shown.{word_shown, codes_shown, list_shown, test_shown, printed_code}
use Rattle.showing.proofs.Fields.{Shows, word_shown_lem, shown_as, both_shown, unless-shown, is_small, Tested, small_tested, alarm_tested, test_shown_lem}

-- ---- `show_code`
module _ (s w : List ℕ) (p m n : ℕ) (k : Knowledge) (r : Option (Bor (List ℕ)))
    (read : MatchOption r (pointwise eqb (take (length w) s) w ≡ false) (λ x. (pointwise eqb (take (length w) s) w ≡ true) × (x.now ≡ drop (length w) s) × (length x.now + length w ≡ length s))) where
  pub code_read : (d : Bor (List ℕ)) → d.now ≡ s → ((unwrap_or r d).now, restricted p (pick (is_some r) m n) k) ≡ word_shown w p m n (s, k)
  unfolding word_shown
  code_read d same = go r read
    where
      stands : pointwise eqb (take (length w) s) w ≡ starts_with w s
      stands = equal-pointwise (take (length w) s) w

      go : (x : Option (Bor (List ℕ))) → MatchOption x (pointwise eqb (take (length w) s) w ≡ false) (λ y. (pointwise eqb (take (length w) s) w ≡ true) × (y.now ≡ drop (length w) s) × (length y.now + length w ≡ length s))
          → ((unwrap_or x d).now, restricted p (pick (is_some x) m n) k) ≡ word_shown w p m n (s, k)
      go None h = simp (sym stands ∙ h, same)
      go (Some y) h = simp (sym stands ∙ h.0, h.1)

-- ---- `show_flag_codes` and `show_phase_codes`: one code behind another
module _ (s t rest : List ℕ) (c : Code) (cs ds : List Code) (x : declared.Test) (k l m : Knowledge) where
  pub code_shown : (t, l) ≡ word_shown (printed_code c) x.at x.with x.without (s, k)
      → x ≡ record { at = position c.if.field; with = mask_in c.if.field c.if.holds; without = mask_in c.if.field (λ n. not (c.if.holds n)) }
      → codes_shown ds (rest, m) ≡ codes_shown cs (t, l) → codes_shown ds (rest, m) ≡ codes_shown (c ∷ cs) (s, k)
  unfolding codes_shown
  code_shown e f h = h ∙ ap (codes_shown cs) (e ∙ ap (λ (y : declared.Test). word_shown (printed_code c) y.at y.with y.without (s, k)) f)

pub ruleset codes_told = (code_shown, refl)

-- ---- `show_codes`
none_of : (s : List ℕ) → length s ≡ 0 → s ≡ []
none_of [] e = refl
none_of (x ∷ s) e = absurd (omega arith)

module _ (s : List ℕ) (k : Knowledge) where
  pub list_wrong : pointwise eqb (take 3 s) (text "RS ") ≡ false → list_shown s k ≡ dead k
  unfolding list_shown
  list_wrong e = simp (sym (equal-pointwise (take 3 s) (text "RS ")) ∙ e)

  module _ (e : pointwise eqb (take 3 s) (text "RS ") ≡ true) (t u rest : List ℕ) (a b c : Knowledge)
      (x : (t, a) ≡ word_shown (text "AL ") (position alarms) some_mask none_mask (drop 3 s, k))
      (y : codes_shown phase_codes (u, b) ≡ codes_shown flag_codes (t, a)) (z : codes_shown [] (rest, c) ≡ codes_shown phase_codes (u, b)) where
    list_read : list_shown s k ≡ unless (equal rest []) (dead c) c
    unfolding list_shown codes_shown
    list_read = simp (sym (equal-pointwise (take 3 s) (text "RS ")) ∙ e) (sym (z ∙ (y ∙ ap (codes_shown flag_codes) x)))

    pub list_left : (length rest ≡ 0 → ⊥) → list_shown s k ≡ dead c
    list_left l = list_read ∙ simp (sym (word-length rest [] l))

    pub list_whole : length rest ≡ 0 → list_shown s k ≡ c
    list_whole l = list_read ∙ simp (ap (λ (l : List ℕ). equal l []) (none_of rest l) ∙ equal-same [])

pub ruleset List_read = (list_wrong, list_left, list_whole)

-- ---- a word at the start of a text, and what is left behind it
module _ (w xs rest : List ℕ) where
  word_behind : starts_with w xs ≡ true → rest ≡ drop (length w) xs → w ++ rest ≡ xs
  word_behind e q =
      ap (λ (l : List ℕ). w ++ l) q ∙ ap (λ (l : List ℕ). l ++ drop (length w) xs) (sym (equal_true _ _ e)) ∙ take-append-drop (length w) xs

  word-told : (b : Bool) → starts_with w xs ≡ b → rest ≡ pick b (drop (length w) xs) xs → pick b w [] ++ rest ≡ xs
  word-told true e q = word_behind e q
  word-told false e q = q

  word_left : (b : Bool) → starts_with w rest ≡ false → pick b w [] ++ rest ≡ xs
      → (starts_with w xs ≡ b) × (rest ≡ pick (starts_with w xs) (drop (length w) xs) xs)
  word_left true n e =
      let s : starts_with w xs ≡ true = ap (starts_with w) (sym e) ∙ ap (λ (l : List ℕ). equal l w) (take-append_seam w rest) ∙ equal-same w in
      (s, sym (drop-append_seam w rest) ∙ ap (drop (length w)) e ∙ ap (λ (t : Bool). pick t (drop (length w) xs) xs) (sym s))
  word_left false n e =
      let s : starts_with w xs ≡ false = ap (starts_with w) (sym e) ∙ n in
      (s, e ∙ ap (λ (t : Bool). pick t (drop (length w) xs) xs) (sym s))

-- ---- codes of other words, of the same length
abbrev others : List ℕ → List Code → Bool
others w [] = true
others w (c ∷ cs) = eqb (length (printed_code c)) (length w) && (not (equal (printed_code c) w) && others w cs)

-- each code's test is one that a set has a code for, and the later ones have other words
abbrev Distinct : List Code → Type 0
Distinct [] = Unit
Distinct (c ∷ cs) = Tested c.if × ((others (printed_code c) cs ≡ true) × Distinct cs)

-- those of small fields
abbrev distinct : List Code → Bool
distinct [] = true
distinct (c ∷ cs) = is_small c.if.field && (others (printed_code c) cs && distinct cs)

small_distinct : (cs : List Code) → distinct cs ≡ true → Distinct cs
small_distinct [] h = tt
small_distinct (c ∷ cs) h =
    let rest = and_right (is_small c.if.field) _ h in (
      small_tested c.if (and_left (is_small c.if.field) _ h),
      (and_left (others (printed_code c) cs) _ rest, small_distinct cs (and_right (others (printed_code c) cs) _ rest)),
    )

codes_distinct : Distinct status_codes
unfolding equal
codes_distinct = (alarm_tested, (refl, small_distinct flag_codes refl))

-- no list of other words starts with this one
none_starts : (w : List ℕ) (cs : List Code) (r : Record) → 1 ≤ length w → others w cs ≡ true → starts_with w (codes_on cs r) ≡ false
unfolding equal codes_on
none_starts [] [] r l h = absurd (omega arith)
none_starts (x ∷ w) [] r l h = refl
none_starts w (c ∷ cs) r l h =
    let rest = and_right (eqb (length (printed_code c)) (length w)) _ h in
    go (passes c.if r) (eqb-true _ _ (and_left (eqb (length (printed_code c)) (length w)) _ h))
    (not-true _ (and_left (not (equal (printed_code c) w)) _ rest)) (none_starts w cs r l (and_right (not (equal (printed_code c) w)) _ rest))
  where
    go : (b : Bool) → length (printed_code c) ≡ length w → equal (printed_code c) w ≡ false → starts_with w (codes_on cs r) ≡ false
        → starts_with w (pick b (printed_code c) [] ++ codes_on cs r) ≡ false
    go true e d n = ap (λ (xs : List ℕ). equal xs w) (take_at (printed_code c) (codes_on cs r) (length w) e) ∙ d
    go false e d n = n

-- ---- all codes
abbrev next : Code → List ℕ → List ℕ
next d xs = pick (starts_with (printed_code d) xs) (drop (length (printed_code d)) xs) xs

abbrev after : Code → List ℕ → Knowledge → Knowledge
after d xs k = test_shown (starts_with (printed_code d) xs) d.if k

codes_shown_lem : {a c : ℕ} (cs : List Code) (xs : List ℕ) (k : Knowledge) → Kept a c k → Distinct cs
    → Shows a c k (codes_shown cs (xs, k)) (λ r. codes_on cs r ≡ xs)
unfolding codes_shown word_shown codes_on
codes_shown_lem [] xs k kept h = word_shown_lem [] xs k kept
codes_shown_lem (d ∷ cs) xs k kept h =
    let w : List ℕ = printed_code d in
    let s : Bool = starts_with w xs in
    let t = test_shown_lem s d.if k kept h.0 in
    shown_as k _ (λ r. (s ≡ passes d.if r) × (codes_on cs r ≡ next d xs)) (λ r. codes_on (d ∷ cs) r ≡ xs)
    (λ r v e. ap (λ (b : Bool). pick b w [] ++ codes_on cs r) (sym e.0) ∙ word-told w xs (codes_on cs r) s refl e.1)
    (λ r v e.
    word_left w xs (codes_on cs r) (passes d.if r) (none_starts w cs r (omega (arith, length-append d.letters (space ∷ []))) h.1.0) e)
    (both_shown k _ _ (λ r. s ≡ passes d.if r) (λ r. codes_on cs r ≡ next d xs) t
    (codes_shown_lem cs (next d xs) (after d xs k) t.kept h.1.1))

-- ---- RS
pub list_shown_lem : {a c : ℕ} (b : List ℕ) (k : Knowledge) → Kept a c k → Shows a c k (list_shown b k) (λ r. text "RS " ++ codes_on status_codes r ≡ b)
unfolding list_shown equal
list_shown_lem b k kept =
    unless-shown (starts_with (text "RS ") b) k (codes_shown status_codes (drop 3 b, k)) (λ r. text "RS " ++ codes_on status_codes r ≡ b) kept
    (λ s.
    shown_as k _ (λ r. codes_on status_codes r ≡ drop 3 b) (λ r. text "RS " ++ codes_on status_codes r ≡ b)
    (λ r v e. word_behind (text "RS ") b (codes_on status_codes r) s e) (λ r v e. ap (drop 3) e) (codes_shown_lem status_codes (drop 3 b) k kept codes_distinct))
    (λ r v e. ap (starts_with (text "RS ")) (sym e))
