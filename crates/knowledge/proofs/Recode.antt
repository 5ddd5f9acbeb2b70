-- One field's code replaced: which records are possible then, and what is kept. A field is the one whose code changes or has another
-- position, so no law has a case per field. Assumes nothing.
use Prim.Native.Nat.{ℕ, ◌<◌}
use mathlib.Core.Bool.{true}
use mathlib.Core.Path.{◌≡◌, refl, sym, ap, ap₂, subst, ◌∙◌}
use native.Mathlib.Omega.{arith}
use lib.Dec.{eqb}
use borrow.Author.Tests.{eqb-true, eqb-false}
use Rattle.base.proofs.Tests.{by_test}
use lib.ListN.{length, length-set}
use lib.Seq.{get_or-set_same, get_or-set_other}
use Rattle.state.specs.declared.Record.{Record}
use Rattle.state.specs.Parameter.{parameter_count}
use Rattle.state.specs.Field.{Field, address, access, value, get, put, position, Held}
use Rattle.state.proofs.Fields.{at_field, get-put_other}
use Rattle.state.proofs.Kept.{get-put_own, put_kept}
use Rattle.state.proofs.Whole.{put_own}
use Rattle.knowledge.specs.declared.Knowledge.{Knowledge}
use Rattle.knowledge.specs.Sets.{has}
use Rattle.knowledge.specs.Knowledge.{code_at, recoded}
use Rattle.knowledge.proofs.Possible.{Possible, Kept}
use Rattle.knowledge.proofs.Codes.{has_within}

-- ---- the code at a field's position
module _ (k : Knowledge) (f : Field) (code : ℕ) where
  pub code_same : length k.codes ≡ position (value parameter_count) → Held f → code_at (position f) (recoded (position f) code k) ≡ code
  unfolding code_at
  code_same full held = get_or-set_same k.codes (position f) code 0 (omega arith)

  pub code_other : (g : Field) → (position f ≡ position g → ⊥) → code_at (position g) (recoded (position f) code k) ≡ code_at (position g) k
  unfolding code_at
  code_other g h = get_or-set_other k.codes (position f) (position g) code 0 (λ e. h (sym e))

-- ---- possible records

-- with another number in a field: possible by what has that number there and is the same elsewhere
put_possible : (k l : Knowledge) (r : Record) (f : Field) (n : ℕ) → Held f → l.alive ≡ k.alive
    → ((g : Field) → (position f ≡ position g → ⊥) → code_at (position g) l ≡ code_at (position g) k) → Possible k r → has f (code_at (position f) l) n ≡ true → Possible l (put f n r)
put_possible k l r f n held alive others t h =
    let w = has_within f (code_at (position f) l) n h in
    record {
      living = alive ∙ t.living;
      sound = put_kept r t.sound f n w;
      each =
          at_field f (λ g. Held g → has g (code_at (position g) l) (get g (put f n r)) ≡ true)
          (λ i. ap (has f (code_at (position f) l)) (get-put_own r t.sound f n held w) ∙ h)
          (λ g o i. ap₂ (has g) (others g o) (get-put_other f g n r o) ∙ t.each g i);
    }

module _ (k : Knowledge) (r : Record) (f : Field) (code n : ℕ) (full : length k.codes ≡ position (value parameter_count)) (held : Held f) where
  pub recode_put : Possible k r → has f code n ≡ true → Possible (recoded (position f) code k) (put f n r)
  recode_put t h = put_possible k (recoded (position f) code k) r f n held refl (code_other k f code) t (ap (λ (c : ℕ). has f c n) (code_same k f code full held) ∙ h)

  pub recode_back : Possible (recoded (position f) code k) r → has f (code_at (position f) k) n ≡ true → Possible k (put f n r)
  recode_back t h = put_possible (recoded (position f) code k) k r f n held refl (λ g o. sym (code_other k f code g o)) t h

-- with the number as it is
module _ (k : Knowledge) (r : Record) (f : Field) (code : ℕ) (full : length k.codes ≡ position (value parameter_count)) (held : Held f) where
  pub recode_own : Possible (recoded (position f) code k) r → has f code (get f r) ≡ true
  recode_own t = ap (λ (c : ℕ). has f c (get f r)) (sym (code_same k f code full held)) ∙ t.each f held

  pub recode_told : Possible (recoded (position f) code k) r → has f (code_at (position f) k) (get f r) ≡ true → Possible k r
  recode_told t own = subst (Possible k) (put_own r f t.sound held (get f r) refl) (recode_back k r f code (get f r) full held t own)

  pub recode_left : Possible k r → has f code (get f r) ≡ true → Possible (recoded (position f) code k) r
  recode_left t own = subst (Possible (recoded (position f) code k)) (put_own r f t.sound held (get f r) refl) (recode_put k r f code (get f r) full held t own)

-- ---- what is kept
module _ (k : Knowledge) (f : Field) (code : ℕ) (full : length k.codes ≡ position (value parameter_count)) (held : Held f) where
  pub recode_some : (n : ℕ) × (has f code n ≡ true) → ((g : Field) → Held g → (n : ℕ) × (has g (code_at (position g) k) n ≡ true))
      → (g : Field) → Held g → (n : ℕ) × (has g (code_at (position g) (recoded (position f) code k)) n ≡ true)
  recode_some own some =
      at_field f (λ g. Held g → (n : ℕ) × (has g (code_at (position g) (recoded (position f) code k)) n ≡ true))
      (λ h. (own.0, ap (λ (d : ℕ). has f d own.0) (code_same k f code full held) ∙ own.1))
      (λ g o h. let s = some g h in (s.0, ap (λ (d : ℕ). has g d s.0) (code_other k f code g o) ∙ s.1))

-- what is kept stays kept, if the address and the access do
pub recode_kept_any : {a c : ℕ} (k : Knowledge) (f : Field) (code : ℕ) → Kept a c k → Held f → (position f ≡ position address → code ≡ a) → (position f ≡ position access → code ≡ c)
    → (k.alive ≡ true → (n : ℕ) × (has f code n ≡ true)) → Kept a c (recoded (position f) code k)
recode_kept_any k f code kept held as-address as-access left =
    record {
      full = length-set k.codes (position f) code ∙ kept.full;
      own_address = own address kept.own_address as-address;
      own_access = own access kept.own_access as-access;
      some = λ alive. recode_some k f code kept.full held (left alive) (kept.some alive);
    }
  where
    own : {n : ℕ} (g : Field) → code_at (position g) k ≡ n → (position f ≡ position g → code ≡ n) → code_at (position g) (recoded (position f) code k) ≡ n
    own g e same =
        by_test (eqb (position f) (position g))
        (λ q. let p = eqb-true (position f) (position g) q in ap (λ (i : ℕ). code_at i (recoded (position f) code k)) (sym p) ∙ (code_same k f code kept.full held ∙ same p))
        (λ q. code_other k f code g (eqb-false _ _ q) ∙ e)

pub recode_kept : {a c : ℕ} (k : Knowledge) (f : Field) (code : ℕ) → Kept a c k → Held f → position access < position f
    → (k.alive ≡ true → (n : ℕ) × (has f code n ≡ true)) → Kept a c (recoded (position f) code k)
recode_kept k f code kept held beyond left = recode_kept_any k f code kept held (λ e. absurd (omega arith)) (λ e. absurd (omega arith)) left
