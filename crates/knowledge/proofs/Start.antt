-- At the start exactly the valid records with the address and the access are possible; what is kept gives the address and the access of
-- each possible record, and, while alive, a possible record. The codes are read by the fields' positions. Assumes nothing.
use Prim.Native.Nat.{ℕ, zero, suc, ◌+◌, ◌-◌, ◌*◌, ◌≤◌, ◌<◌}
use mathlib.Core.Bool.{true}
use mathlib.Core.Path.{◌≡◌, refl, sym, ap, ◌∙◌}
use mathlib.Core.List.{List, [], ◌∷◌, map}
use mathlib.Core.Logic.{⊎_elim}
use native.Mathlib.Nat.{not-suc-le-zero, le_of_suc-le-suc}
use native.Mathlib.Omega.{arith}
use lib.ListN.{length, get_or, length-append, get_or-append}
use lib.Seq.{get_or-append-add}
use Rattle.base.proofs.Tests.{below_or_not}
use Rattle.state.specs.declared.Record.{Record}
use Rattle.state.specs.Parameter.{parameter_count}
use Rattle.state.specs.Field.{Field, address, access, value, level, get, position, field_range, scalar_fields, scalar_count, fields_for, parameter_fields, Held}
use Rattle.state.specs.Valid.{within, valid}
use Rattle.state.proofs.Fields.{same-field, scalar_at}
use Rattle.state.proofs.Kept.{field_in}
use Rattle.state.proofs.Whole.{low_within}
use Rattle.knowledge.specs.declared.Knowledge.{Knowledge}
use Rattle.knowledge.specs.Sets.{single, kind_of, only, has, any}
use Rattle.knowledge.specs.Knowledge.{code_at, recoded, unknown, start}
use Rattle.knowledge.proofs.Possible.{Possible, Kept}
use Rattle.knowledge.proofs.Recode.{code_same, code_other, recode_left, recode_some}
use Rattle.knowledge.proofs.Product.{chosen, some_number}
use Rattle.knowledge.proofs.Codes.{has_only, only_has, only_self, only_same, never_any, any_has}

-- ---- the address and the access that are kept
own_number : (k : Knowledge) (r : Record) (f : Field) (n : ℕ) → kind_of f ≡ single → Held f → code_at (position f) k ≡ n → within (field_range f) n ≡ true
    → Possible k r → get f r ≡ n
own_number k r f n kind held e w t =
    only_same n (get f r) (never_any f n held w) (has_only f n (get f r) kind (ap (λ (c : ℕ). has f c (get f r)) (sym e) ∙ t.each f held))

module _ {a c : ℕ} (k : Knowledge) (r : Record) (kept : Kept a c k) where
  pub own_address : within (field_range address) a ≡ true → Possible k r → get address r ≡ a
  own_address w t = own_number k r address a refl (omega arith) kept.own_address w t

  pub own_access : within (field_range access) c ≡ true → Possible k r → get access r ≡ c
  own_access w t = own_number k r access c refl (omega arith) kept.own_access w t

-- ---- while alive there is a possible record: each field holds a number of its set
pub some_record : {a c : ℕ} (k : Knowledge) → Kept a c k → k.alive ≡ true → (r : Record) × Possible k r
some_record k kept alive =
    let (r, t, same) = chosen k alive (λ f. (some_number k kept alive f).0) (λ f. (some_number k kept alive f).1) in
    (r, t)

-- ---- the codes where nothing is known

-- an element of a mapped list, whatever stands for a missing one
mapped_at : {A B : Type 0} (g : A → B) (l : List A) (i : ℕ) (d : A) (e : B) → i < length l → get_or (map g l) i e ≡ g (get_or l i d)
mapped_at g [] i d e h = absurd (not-suc-le-zero h)
mapped_at g (x ∷ xs) zero d e h = refl
mapped_at g (x ∷ xs) (suc i) d e h = mapped_at g xs i d e (le_of_suc-le-suc h)

parameters_length : (n : ℕ) → length (parameter_fields n) ≡ 2 * n
parameters_length zero = refl
parameters_length (suc n) = let h = parameters_length n in length-append (parameter_fields n) (value n ∷ level n ∷ []) ∙ omega arith

-- each field of the list stands at its position
pair_at : (n j : ℕ) → j < 2 → position (get_or (value n ∷ level n ∷ []) j address) ≡ position (value n) + j
pair_at n zero h = omega arith
pair_at n (suc zero) h = omega arith
pair_at n (suc (suc j)) h = absurd (omega arith)

parameters_at : (n j : ℕ) → j < 2 * n → position (get_or (parameter_fields n) j address) ≡ scalar_count + j
parameters_at zero j h = absurd (omega arith)
parameters_at (suc n) j h =
    let l = parameters_length n in
    ⊎_elim (λ (q : j < 2 * n). ap position (get_or-append (parameter_fields n) (value n ∷ level n ∷ []) address j (omega arith)) ∙ parameters_at n j q)
    (λ (q : 2 * n ≤ j).
    let e : j ≡ length (parameter_fields n) + (j - 2 * n) = omega arith in
    let t = pair_at n (j - 2 * n) (omega arith) in
    ap (λ (i : ℕ). position (get_or (parameter_fields (suc n)) i address)) e
    ∙ (ap position (get_or-append-add (parameter_fields n) (value n ∷ level n ∷ []) (j - 2 * n) address) ∙ omega arith))
    (below_or_not j (2 * n))

fields_at : (n i : ℕ) → i < position (value n) → position (get_or (fields_for n) i address) ≡ i
fields_at n i h =
    ⊎_elim (λ (q : i < scalar_count). ap position (get_or-append scalar_fields (parameter_fields n) address i q) ∙ scalar_at i q)
    (λ (q : scalar_count ≤ i).
    let e : i ≡ scalar_count + (i - scalar_count) = omega arith in
    let t = parameters_at n (i - scalar_count) (omega arith) in
    ap (λ (j : ℕ). position (get_or (fields_for n) j address)) e
    ∙ (ap position (get_or-append-add scalar_fields (parameter_fields n) (i - scalar_count) address) ∙ omega arith))
    (below_or_not i scalar_count)

unknown_code : (f : Field) → Held f → code_at (position f) unknown ≡ any f
unfolding code_at
unknown_code f h =
    mapped_at any (fields_for parameter_count) (position f) address 0 h
    ∙ ap any (same-field (get_or (fields_for parameter_count) (position f) address) f (fields_at parameter_count (position f) h))

-- ---- the records of the start
module _ (a c : ℕ) where
  -- the address is known
  abbrev addressed : Knowledge
  addressed = recoded (position address) a unknown

  pub start_possible : (r : Record) → valid r ≡ true → get address r ≡ a → get access r ≡ c → Possible (start a c) r
  unfolding start
  start_possible r v p q =
      let all : Possible unknown r =
      record { living = refl; sound = v; each = λ f h. ap (λ (d : ℕ). has f d (get f r)) (unknown_code f h) ∙ any_has f (get f r) (field_in r v f h) } in
      recode_left addressed r access c refl (omega arith)
      (recode_left unknown r address a refl (omega arith) all (only_has address a (get address r) refl (field_in r v address (omega arith)) (ap (only a) p ∙ only_self a)))
      (only_has access c (get access r) refl (field_in r v access (omega arith)) (ap (only c) q ∙ only_self c))

  pub start_kept : within (field_range address) a ≡ true → within (field_range access) c ≡ true → Kept a c (start a c)
  unfolding start
  start_kept p q =
      record {
        full = refl;
        own_address = code_other addressed access c address (λ e. omega arith) ∙ code_same unknown address a refl (omega arith);
        own_access = code_same addressed access c refl (omega arith);
        some =
            λ alive.
            recode_some addressed access c refl (omega arith) (c, only_has access c c refl q (only_self c))
            (recode_some unknown address a refl (omega arith) (a, only_has address a a refl p (only_self a))
            (λ g l. ((field_range g).low, ap (λ (d : ℕ). has g d (field_range g).low) (unknown_code g l) ∙ any_has g (field_range g).low (low_within g l))));
      }

  pub start_told : (r : Record) → within (field_range address) a ≡ true → within (field_range access) c ≡ true → Possible (start a c) r
      → (valid r ≡ true) × (get address r ≡ a) × (get access r ≡ c)
  start_told r p q t = (t.sound, own_address (start a c) r (start_kept p q) p t, own_access (start a c) r (start_kept p q) q t)
