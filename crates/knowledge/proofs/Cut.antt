-- Cuts are exact: a record is possible after a cut exactly if it was possible before and its field passes the test, or holds the number
-- told; and what is kept stays kept. By the law of what is left of a set's code. Assumes nothing.
use Prim.Native.Nat.{ℕ, ◌<◌}
use mathlib.Core.Bool.{Bool, true, false, ◌&&◌, false≢true}
use mathlib.Core.Path.{◌≡◌, refl, sym, ap, subst, ◌∙◌}
use lib.Dec.{eqb}
use lib.ListN.{length}
use lib.Bits.{bit_and}
use borrow.Author.Tests.{eqb-true, eqb-false}
use Rattle.base.specs.Test.{pick}
use Rattle.base.proofs.Tests.{and_yes, and_left, and_right}
use Rattle.state.specs.declared.Record.{Record}
use Rattle.state.specs.Parameter.{parameter_count}
use Rattle.state.specs.Field.{Field, access, value, get, position, field_range, Held}
use Rattle.state.specs.Valid.{within}
use Rattle.knowledge.specs.declared.Knowledge.{Knowledge}
use Rattle.knowledge.specs.Sets.{single, kind_of, mask_in, only, has, alone}
use Rattle.knowledge.specs.Knowledge.{code_at, dead, recoded, restricted, told, settled, passing, holding}
use Rattle.knowledge.proofs.Possible.{Possible, Kept}
use Rattle.knowledge.proofs.Codes.{Testable, testable_beyond, has_within, has_only, only_has, only_self, only_same, never_any, passed, some_passed, none_empty, alone_has, alone-same}
use Rattle.knowledge.proofs.Recode.{recode_own, recode_told, recode_left, recode_kept}

-- ---- no record
pub dead-none : (k : Knowledge) (r : Record) → Possible (dead k) r → ⊥
dead-none k r t = false≢true t.living

pub dead_kept : {a c : ℕ} (k : Knowledge) → Kept a c k → Kept a c (dead k)
unfolding code_at
dead_kept k kept =
    record { full = kept.full; own_address = kept.own_address; own_access = kept.own_access; some = λ e. absurd (false≢true e) }

-- ---- a test

-- the code of what is left
left : Field → (ℕ → Bool) → Knowledge → ℕ
left f p k = bit_and (code_at (position f) k) (mask_in f p)

module _ (k : Knowledge) (r : Record) (f : Field) (p : ℕ → Bool) (full : length k.codes ≡ position (value parameter_count)) (held : Held f)
    (testable : Testable f p) where
  own : has f (left f p k) (get f r) ≡ (has f (code_at (position f) k) (get f r) && p (get f r))
  unfolding left
  own = passed f p testable (code_at (position f) k) (get f r)

  pub passing-told : Possible (passing f p k) r → Possible k r × (p (get f r) ≡ true)
  unfolding restricted left
  passing-told = go (eqb (left f p k) 0)
    where
      go : (b : Bool) → Possible (pick b (dead k) (recoded (position f) (left f p k) k)) r → Possible k r × (p (get f r) ≡ true)
      go true t = absurd (dead-none k r t)
      go false t =
          let had = has f (code_at (position f) k) (get f r) in
          let both = sym own ∙ recode_own k r f (left f p k) full held t in
          (recode_told k r f (left f p k) full held t (and_left had (p (get f r)) both), and_right had (p (get f r)) both)

  pub passing_left : Possible k r → p (get f r) ≡ true → Possible (passing f p k) r
  unfolding restricted left
  passing_left t q = go (eqb (left f p k) 0) refl
    where
      has_left : has f (left f p k) (get f r) ≡ true
      has_left = own ∙ and_yes (has f (code_at (position f) k) (get f r)) (p (get f r)) (t.each f held) q

      go : (b : Bool) → eqb (left f p k) 0 ≡ b → Possible (pick b (dead k) (recoded (position f) (left f p k) k)) r
      go true e = absurd (none_empty f p (get f r) testable (ap (λ (c : ℕ). has f c (get f r)) (sym (eqb-true _ _ e)) ∙ has_left))
      go false e = recode_left k r f (left f p k) full held t has_left

pub passing_kept : {a c : ℕ} (k : Knowledge) (f : Field) (p : ℕ → Bool) → Kept a c k → Held f → Testable f p → Kept a c (passing f p k)
unfolding restricted left
passing_kept {a} {c} k f p kept held testable = go (eqb (left f p k) 0) refl
  where
    go : (b : Bool) → eqb (left f p k) 0 ≡ b → Kept a c (pick b (dead k) (recoded (position f) (left f p k) k))
    go true e = dead_kept k kept
    go false e =
        recode_kept k f (left f p k) kept held (testable_beyond f p testable) (λ alive. some_passed f p testable (code_at (position f) k) (eqb-false _ _ e))

-- ---- a number
module _ (k : Knowledge) (r : Record) (f : Field) (n : ℕ) (full : length k.codes ≡ position (value parameter_count)) (held : Held f)
    (kind : kind_of f ≡ single) where
  pub holding-told : Possible (holding f n k) r → Possible k r × (get f r ≡ n)
  unfolding told
  holding-told = go (within (field_range f) n && only (code_at (position f) k) n) refl
    where
      go : (b : Bool) → (within (field_range f) n && only (code_at (position f) k) n) ≡ b → Possible (pick b (recoded (position f) n k) (dead k)) r
          → Possible k r × (get f r ≡ n)
      go true e t =
          let w = and_left (within (field_range f) n) (only (code_at (position f) k) n) e in
          let o = and_right (within (field_range f) n) (only (code_at (position f) k) n) e in
          let same : get f r ≡ n = only_same n (get f r) (never_any f n held w) (has_only f n (get f r) kind (recode_own k r f n full held t)) in (
            recode_told k r f n full held t
                (ap (has f (code_at (position f) k)) same ∙ only_has f (code_at (position f) k) n kind w o),
            same,
          )
      go false e t = absurd (dead-none k r t)

  pub holding_left : Possible k r → get f r ≡ n → Possible (holding f n k) r
  unfolding told
  holding_left t same =
      let h : has f (code_at (position f) k) n ≡ true = ap (has f (code_at (position f) k)) (sym same) ∙ t.each f held in
      let w = has_within f (code_at (position f) k) n h in
      subst (λ (b : Bool). Possible (pick b (recoded (position f) n k) (dead k)) r)
      (sym (and_yes (within (field_range f) n) (only (code_at (position f) k) n) w (has_only f (code_at (position f) k) n kind h)))
      (recode_left k r f n full held t (ap (has f n) same ∙ only_has f n n kind w (only_self n)))

pub holding_kept : {a c : ℕ} (k : Knowledge) (f : Field) (n : ℕ) → Kept a c k → Held f → kind_of f ≡ single → position access < position f → Kept a c (holding f n k)
unfolding told
holding_kept {a} {c} k f n kept held kind beyond = go (within (field_range f) n && only (code_at (position f) k) n) refl
  where
    go : (b : Bool) → (within (field_range f) n && only (code_at (position f) k) n) ≡ b → Kept a c (pick b (recoded (position f) n k) (dead k))
    go true e =
        let w = and_left (within (field_range f) n) (only (code_at (position f) k) n) e in
        recode_kept k f n kept held beyond (λ alive. (n, only_has f n n kind w (only_self n)))
    go false e = dead_kept k kept

-- ---- a number, of a field of any kind
module _ (k : Knowledge) (r : Record) (f : Field) (n : ℕ) (full : length k.codes ≡ position (value parameter_count)) (held : Held f) where
  pub settled-told : Possible (settled f n k) r → Possible k r × (get f r ≡ n)
  unfolding settled
  settled-told = go (has f (code_at (position f) k) n) refl
    where
      go : (b : Bool) → has f (code_at (position f) k) n ≡ b → Possible (pick b (recoded (position f) (alone f n) k) (dead k)) r → Possible k r × (get f r ≡ n)
      go true e t =
          let same : get f r ≡ n = alone-same f n (has_within f (code_at (position f) k) n e) (get f r) held (recode_own k r f (alone f n) full held t) in
          (recode_told k r f (alone f n) full held t (ap (has f (code_at (position f) k)) same ∙ e), same)
      go false e t = absurd (dead-none k r t)

  pub settled_left : Possible k r → get f r ≡ n → Possible (settled f n k) r
  unfolding settled
  settled_left t same =
      let h : has f (code_at (position f) k) n ≡ true = ap (has f (code_at (position f) k)) (sym same) ∙ t.each f held in
      subst (λ (b : Bool). Possible (pick b (recoded (position f) (alone f n) k) (dead k)) r) (sym h)
      (recode_left k r f (alone f n) full held t (ap (has f (alone f n)) same ∙ alone_has f n (has_within f (code_at (position f) k) n h)))

pub settled_kept : {a c : ℕ} (k : Knowledge) (f : Field) (n : ℕ) → Kept a c k → Held f → position access < position f → Kept a c (settled f n k)
unfolding settled
settled_kept {a} {c} k f n kept held beyond = go (has f (code_at (position f) k) n) refl
  where
    go : (b : Bool) → has f (code_at (position f) k) n ≡ b → Kept a c (pick b (recoded (position f) (alone f n) k) (dead k))
    go true e = recode_kept k f (alone f n) kept held beyond (λ alive. (n, alone_has f n (has_within f (code_at (position f) k) n e)))
    go false e = dead_kept k kept
