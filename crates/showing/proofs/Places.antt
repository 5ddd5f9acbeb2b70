-- What is done at a position beyond the last does not depend on the position, so all of them may stand at the end. Assumes nothing.
use Rattle.std.specs.Prelude.{Option, Some, None}
use Prim.Native.Nat.{ℕ, ◌≤◌, ◌<◌, min}
use mathlib.Core.Bool.{Bool, true, false, ◌&&◌}
use mathlib.Core.Path.{◌≡◌, refl, sym, ap, ◌∙◌}
use native.Mathlib.Omega.{arith}
use lib.Bits.{bit_and}
use lib.Dec.{eqb, ltb}
use lib.ListN.{length, length-set}
use borrow.Author.Tests.{ltb-true, ltb-false}
use Rattle.base.specs.Test.{pick}
use Rattle.state.specs.declared.Range.{Range}
use Rattle.state.specs.Valid.{within}
use Rattle.knowledge.specs.declared.Knowledge.{Knowledge}
use Rattle.knowledge.specs.Sets.{only, flag_code}
use Rattle.knowledge.specs.Knowledge.{code_at, dead, recoded, restricted, told, replacing}
use Rattle.knowledge.proofs.Steps.{code_beyond, put_beyond}
use Rattle.showing.specs.Shown.{restricted_by, told_by}

module _ (k : Knowledge) where
  abbrev held : ℕ → ℕ
  held p = min p (length k.codes)

  placed : (step : ℕ → Knowledge) (l : Knowledge) → ((p : ℕ) → length k.codes ≤ p → step p ≡ l) → (p : ℕ) → step (held p) ≡ step p
  placed step l h p = go (ltb p (length k.codes)) refl
    where
      go : (t : Bool) → ltb p (length k.codes) ≡ t → step (held p) ≡ step p
      go true e =
          let i : p < length k.codes = ltb-true p (length k.codes) e in
          let z : held p ≡ p = omega arith in
          ap step z
      go false e =
          let m : length k.codes ≤ p = ltb-false p (length k.codes) e in
          h (held p) (omega arith) ∙ sym (h p m)

  pub put_placed : (c p : ℕ) → recoded (held p) c k ≡ recoded p c k
  put_placed c = placed (λ p. recoded p c k) k (λ p h. sym (put_beyond k p _ refl h c))

  pub replace_placed : (n q p : ℕ) → replacing (held p) n q k ≡ replacing p n q k
  unfolding replacing
  replace_placed n q =
      placed (λ p. replacing p n q k) (recoded q (flag_code n 0 (code_at q k)) k) (λ p h.
      ap (λ (c : ℕ). recoded p n (recoded q (flag_code n c (code_at q k)) k)) (sym (code_beyond k p _ refl h))
      ∙ sym (put_beyond (recoded q (flag_code n 0 (code_at q k)) k) p _ (length-set k.codes q (flag_code n 0 (code_at q k))) h n))

  pub restrict_placed : (m p : ℕ) → restricted (held p) m k ≡ restricted p m k
  unfolding restricted
  restrict_placed m =
      placed (λ p. restricted p m k) (pick (eqb (bit_and 0 m) 0) (dead k) k) (λ p h.
      ap (λ (c : ℕ). pick (eqb (bit_and c m) 0) (dead k) (recoded p (bit_and c m) k)) (sym (code_beyond k p _ refl h))
      ∙ ap (pick (eqb (bit_and 0 m) 0) (dead k)) (sym (put_beyond k p _ refl h (bit_and 0 m))))

  pub restrict_by_placed : (g : Range) (d : Option ℕ) (p : ℕ) → restricted_by (held p) g d k ≡ restricted_by p g d k
  restrict_by_placed g (Some n) p = restrict_placed _ p
  restrict_by_placed g None p = refl

  pub tell_by_placed : (g : Range) (d : Option ℕ) (p : ℕ) → told_by (held p) g d k ≡ told_by p g d k
  unfolding told
  tell_by_placed g (Some n) p =
      placed (λ p. told p g n k) (pick (within g n && only 0 n) k (dead k)) (λ p h.
      ap (λ (c : ℕ). pick (within g n && only c n) (recoded p n k) (dead k)) (sym (code_beyond k p _ refl h))
      ∙ ap (λ (l : Knowledge). pick (within g n && only 0 n) l (dead k)) (sym (put_beyond k p _ refl h n))) p
  tell_by_placed g None p = refl
