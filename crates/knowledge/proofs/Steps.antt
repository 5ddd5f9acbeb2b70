-- What the code's returns give is what the definitions of the steps of knowledge say. Assumes nothing.
use Prim.Native.Nat.{ℕ, zero, suc, ◌+◌, ◌-◌, ◌*◌, ◌/◌, ◌%◌, ◌^◌, ◌≤◌, ◌<◌}
use mathlib.Core.Bool.{Bool, true, false, not}
use mathlib.Core.Path.{◌≡◌, refl, sym, ap, ◌∙◌}
use mathlib.Core.List.{List, [], ◌∷◌, ◌++◌, map, map-append, append_assoc, append-nil}
use native.Mathlib.Numerals.{add-one}
use native.Mathlib.Omega.{arith}
use lib.Dec.{eqb}
use lib.ListN.{get_or-eq_default, length, get_or, set, take, drop, replicate, length-append, length-take}
use lib.Seq.{set_out, set_at}
use lib.Bits.{bit_and}
use borrow.Author.Tests.{eq-eqb, ne_eqb, le-leb, lt-leb, lt-ltb, le-ltb, not-true, not-false}
use Rattle.base.specs.Lists.{over}
use Rattle.base.proofs.Tests.{between_yes, between_no}
use Rattle.state.specs.declared.Range.{Range}
use Rattle.state.specs.Parameter.{parameter_count}
use Rattle.state.specs.Alarm.{no_alarm, all_alarms, lasting}
use Rattle.state.specs.Field.{address, access, number, alarms, value, level, position, field_count, field_range, fields_for}
use Rattle.state.specs.Valid.{within}
use Rattle.knowledge.specs.declared.Knowledge.{Knowledge}
use Rattle.knowledge.specs.Sets.{bit, mask_from, any_number, any_lasting, above, alarms_in, just_alarms, reset_code, on_mask, or_on, flag_code, has, any, alone}
use Rattle.knowledge.specs.Knowledge.{code_at, dead, recoded, restricted, told, settled, advanced, alarms_left, start, lent_in, laid_in}

-- ---- one code: beyond the last position there is none
module _ (k : Knowledge) (p n : ℕ) (full : length k.codes ≡ n) (beyond : n ≤ p) where
  pub code_beyond : 0 ≡ code_at p k
  unfolding code_at
  code_beyond = sym (get_or-eq_default k.codes 0 (omega arith))

  pub put_beyond : (c : ℕ) → k ≡ recoded p c k
  put_beyond c = ap (λ (l : List ℕ). record { alive = k.alive; codes = l }) (sym (set_out k.codes p c (omega arith)))

module _ (k s : Knowledge) (c : ℕ) where
  -- ---- a cut by a mask
  module _ (p m : ℕ) (known : c ≡ code_at p k) where
    pub restrict_none : bit_and c m ≡ 0 → s ≡ dead k → s ≡ restricted p m k
    unfolding restricted
    restrict_none z e = e ∙ simp (← known, eq-eqb _ _ z)

    pub restrict_some : (bit_and c m ≡ 0 → ⊥) → s ≡ recoded p (bit_and c m) k → s ≡ restricted p m k
    unfolding restricted
    restrict_some z e = e ∙ simp (← known, ne_eqb _ _ z)

  -- ---- a cut to one number
  module _ (p n : ℕ) (range : Range) (b : Bool) (inside : b ≡ within range n) where
    pub tell_outside : not b ≡ true → s ≡ dead k → s ≡ told p range n k
    unfolding told
    tell_outside o e = e ∙ simp (← inside, not-true b o)

    module _ (i : not b ≡ false) (known : c ≡ code_at p k) where
      pub tell_other : (c ≡ any_number → ⊥) → not (eqb c n) ≡ true → s ≡ dead k → s ≡ told p range n k
      unfolding told
      tell_other a o e = e ∙ simp (← inside, not-false b i, ← known, ne_eqb _ _ a, not-true (eqb c n) o)

      pub tell_any : c ≡ any_number → s ≡ recoded p n k → s ≡ told p range n k
      unfolding told
      tell_any a e = e ∙ simp (← inside, not-false b i, ← known, eq-eqb _ _ a)

      pub tell_same : (c ≡ any_number → ⊥) → not (eqb c n) ≡ false → s ≡ recoded p n k → s ≡ told p range n k
      unfolding told
      tell_same a o e = e ∙ simp (← inside, not-false b i, ← known, ne_eqb _ _ a, not-false (eqb c n) o)

  -- ---- the batch number goes on
  module _ (known : c ≡ code_at (position number) k) where
    pub advance_any : c ≡ any_number → s ≡ recoded (position number) any_number k → s ≡ advanced k
    unfolding advanced
    advance_any a e = e ∙ simp (← known, eq-eqb _ _ a)

    module _ (one : c ≡ any_number → ⊥) where
      pub advance_more : c < (field_range number).high → s ≡ recoded (position number) (c + 1) k → s ≡ advanced k
      unfolding advanced
      advance_more l e = e ∙ simp (← known, ne_eqb _ _ one, lt-ltb _ _ l)

      pub advance_round : (field_range number).high ≤ c → s ≡ recoded (position number) (field_range number).low k → s ≡ advanced k
      unfolding advanced
      advance_round l e = e ∙ simp (← known, ne_eqb _ _ one, le-ltb _ _ l)

-- ---- the alarms' codes

-- of a code of 32 bits, all that is above the lowest
above_half : (c : ℕ) → c < 2 ^ 32 → c / 2 ≡ above c
above_half c h = omega arith

module _ (c n : ℕ) (fits : c < 2 ^ 32) where
  pub may_none_such : all_alarms < n → false ≡ has alarms c n
  unfolding has
  may_none_such l = simp (between_no no_alarm all_alarms n (λ p q. omega arith))

  module _ (l : n ≤ all_alarms) where
    may : (b : Bool) → b ≡ alarms_in c n → b ≡ has alarms c n
    unfolding has
    may b e = e ∙ simp (between_yes no_alarm all_alarms n (omega arith) l)

    pub may_none : n ≡ 0 → eqb (c % 2) 1 ≡ has alarms c n
    unfolding alarms_in bit
    may_none z = may (eqb (c % 2) 1) (simp (eq-eqb n 0 z))

    module _ (some : n ≡ 0 → ⊥) where
      pub may_just : c / 2 ≤ all_alarms → eqb (c / 2) n ≡ has alarms c n
      unfolding alarms_in
      may_just h = may (eqb (c / 2) n) (simp (ne_eqb n 0 some, ← above_half c fits, le-leb _ _ h))

      module _ (more : all_alarms < c / 2) where
        pub may_lasting : c / 2 ≡ any_lasting → (m : ℕ) → m ≡ lasting n → eqb m n ≡ has alarms c n
        unfolding alarms_in
        may_lasting e m f = may (eqb m n) (simp (ne_eqb n 0 some, ← above_half c fits, lt-leb _ _ more, eq-eqb _ _ e, f))

        pub may_any : (c / 2 ≡ any_lasting → ⊥) → true ≡ has alarms c n
        unfolding alarms_in
        may_any e = may true (simp (ne_eqb n 0 some, ← above_half c fits, lt-leb _ _ more, ne_eqb _ _ e))

module _ (c : ℕ) (fits : c < 2 ^ 32) where
  module _ (h : c / 2 ≤ all_alarms) (m : ℕ) (e : m ≡ lasting (c / 2)) where
    pub reset-none : m ≡ 0 → 1 ≡ reset_code c
    unfolding reset_code
    reset-none z = simp (← above_half c fits, le-leb _ _ h, ← e, eq-eqb _ _ z)

    pub reset_just : (m ≡ 0 → ⊥) → c % 2 + 2 * m ≡ reset_code c
    unfolding reset_code
    reset_just z = simp (← above_half c fits, le-leb _ _ h, ← e, ne_eqb _ _ z)

  module _ (more : all_alarms < c / 2) where
    pub reset-lasting : c / 2 ≡ any_lasting → c % 2 + 2 * any_lasting ≡ reset_code c
    unfolding reset_code
    reset-lasting e = simp (← above_half c fits, lt-leb _ _ more, eq-eqb _ _ e)

    pub reset_any : (c / 2 ≡ any_lasting → ⊥) → 1 + 2 * any_lasting ≡ reset_code c
    unfolding reset_code
    reset_any e = simp (← above_half c fits, lt-leb _ _ more, ne_eqb _ _ e)

module _ (n : ℕ) where
  pub just_none : n ≡ 0 → 1 ≡ alone alarms n
  unfolding just_alarms
  just_none z = simp (eq-eqb n 0 z)

  pub just_some : (n ≡ 0 → ⊥) → 2 * n ≡ alone alarms n
  unfolding just_alarms
  just_some z = simp (ne_eqb n 0 z)

module _ (k s : Knowledge) (c n : ℕ) (known : c ≡ code_at (position alarms) k) (b : Bool) (inside : b ≡ has alarms c n) where
  pub settle_other : not b ≡ true → s ≡ dead k → s ≡ settled alarms n k
  unfolding settled
  settle_other o e = e ∙ simp (← known, ← inside, not-true b o)

  pub settle_own : (d : ℕ) → not b ≡ false → d ≡ alone alarms n → s ≡ recoded (position alarms) d k → s ≡ settled alarms n k
  unfolding settled
  settle_own d i j e = e ∙ simp (← known, ← inside, not-false b i, j)

pub reset_stored : (k s : Knowledge) (c d : ℕ) → c ≡ code_at (position alarms) k → d ≡ reset_code c → s ≡ recoded (position alarms) d k → s ≡ alarms_left k
unfolding alarms_left
reset_stored k s c d known e f = f ∙ simp (e, known)

-- ---- a flag, and a value that becomes n
module _ (n held flag : ℕ) where
  pub flag_same : held ≡ n → flag ≡ flag_code n held flag
  unfolding flag_code
  flag_same e = simp (eq-eqb _ _ e)

  module _ (other : held ≡ n → ⊥) where
    pub flag_either : held ≡ any_number → or_on flag ≡ flag_code n held flag
    unfolding flag_code
    flag_either e = simp (ne_eqb _ _ other, eq-eqb _ _ e)

    pub flag_on : (held ≡ any_number → ⊥) → on_mask ≡ flag_code n held flag
    unfolding flag_code
    flag_on e = simp (ne_eqb _ _ other, ne_eqb _ _ e)

-- a level may be any
abbrev any_level : ℕ
any_level = 0xf

-- ---- the start: the fields of the first i parameters have their codes, and in all others any number is possible
module _ (a c : ℕ) where
  abbrev codes_for : ℕ → List ℕ
  codes_for i = set (set (map any (fields_for i)) (position address) a) (position access) c

  unfoldable pub begun : ℕ → List ℕ
  begun i = codes_for i ++ replicate (2 * (parameter_count - i)) any_number

  codes_more : (i : ℕ) → codes_for (suc i) ≡ codes_for i ++ (any_number ∷ any_level ∷ [])
  unfolding mask_from
  codes_more i =
      ap (λ (codes : List ℕ). set (set codes (position address) a) (position access) c) (map-append any (fields_for i) (value i ∷ level i ∷ []))

  codes-length : (i : ℕ) → length (codes_for i) ≡ position (value i)
  codes-length zero = refl
  codes-length (suc i) =
      let h = codes-length i in
      ap length (codes_more i) ∙ (length-append (codes_for i) (any_number ∷ any_level ∷ []) ∙ omega arith)

  -- the level of one parameter more
  level-set : (xs : List ℕ) (i n : ℕ) → length xs ≡ position (value i)
      → set (xs ++ replicate (suc (suc n)) any_number) (position (level i)) any_level ≡ (xs ++ (any_number ∷ any_level ∷ [])) ++ replicate n any_number
  level-set xs i n l =
      ap (λ (ys : List ℕ). set ys (position (level i)) any_level) (sym (append_assoc xs (any_number ∷ []) (replicate (suc n) any_number))) ∙
      (set_at (xs ++ (any_number ∷ [])) any_number (replicate n any_number) any_level (position (level i)) (length-append xs (any_number ∷ []) ∙ omega arith) ∙
      (append_assoc xs (any_number ∷ []) (any_level ∷ replicate n any_number) ∙ sym (append_assoc xs (any_number ∷ any_level ∷ []) (replicate n any_number))))

  module _ (codes : List ℕ) (i : ℕ) (e : codes ≡ begun i) where
    pub begun_more : i < parameter_count → set codes (position (level i)) any_level ≡ begun (i + 1)
    unfolding begun
    begun_more l =
        let m : 2 * (parameter_count - i) ≡ suc (suc (2 * (parameter_count - suc i))) = omega arith in
        ap (λ (ys : List ℕ). set ys (position (level i)) any_level) (e ∙ ap (λ (n : ℕ). codes_for i ++ replicate n any_number) m) ∙
        (level-set (codes_for i) i (2 * (parameter_count - suc i)) (codes-length i) ∙
        (ap (λ (xs : List ℕ). xs ++ replicate (2 * (parameter_count - suc i)) any_number) (sym (codes_more i)) ∙ ap begun (sym (add-one i))))

    pub begun_all : i ≤ parameter_count → parameter_count ≤ i → record { alive = true; codes = codes } ≡ start a c
    unfolding begun start
    begun_all l u =
        let n : i ≡ parameter_count = omega arith in
        ap (λ (ys : List ℕ). record { alive = true; codes = ys }) (e ∙ (ap begun n ∙ append-nil (codes_for parameter_count)))

-- ---- codes in lent memory
pub lent_short : (cs : List ℕ) → length cs < field_count → record { alive = false; codes = replicate field_count 0 } ≡ lent_in cs
unfolding lent_in
lent_short cs h = simp (lt-leb _ _ h)

pub lent_all : (cs : List ℕ) → field_count ≤ length cs → lent_in cs ≡ record { alive = true; codes = take field_count cs }
unfolding lent_in
lent_all cs h = simp (le-leb _ _ h)

pub laid-short : (cs o : List ℕ) → length o < field_count → (false, o) ≡ laid_in cs o
unfolding laid_in
laid-short cs o h = simp (lt-leb _ _ h)

pub laid_all : (cs o : List ℕ) → field_count ≤ length o → length cs ≡ field_count → laid_in cs o ≡ (true, cs ++ drop field_count o)
unfolding laid_in over
laid_all cs o h l = simp (le-leb _ _ h) (ap (λ (n : ℕ). (true, cs ++ drop n o)) l)

pub ruleset lending = (lent_short, lent_all)

pub ruleset laying = (laid-short, laid_all, length-take)

pub ruleset beginning = (begun_more, begun_all)

pub ruleset restricting = (restrict_none, restrict_some)

pub ruleset telling = (tell_outside, tell_other, tell_any, tell_same)

pub ruleset advancing = (advance_any, advance_more, advance_round)

pub ruleset may_be = (may_none_such, may_none, may_just, may_lasting, may_any)

pub ruleset resetting = (reset-none, reset_just, reset-lasting, reset_any)

pub ruleset just = (just_none, just_some)

pub ruleset settling = (settle_other, settle_own)

pub ruleset flagging = (flag_same, flag_either, flag_on)
