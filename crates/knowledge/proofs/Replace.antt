-- A field that is set, and a flag that is switched on by its difference (02, L2): what is possible afterwards is still one set for each
-- field. The field becomes one number, so nothing ties the flag to it any more: of a flag, each number that it may then hold comes from
-- some old number of the field with some old one of the flag. Assumes nothing.
use Prim.Native.Nat.{ℕ, ◌<◌}
use mathlib.Core.Bool.{Bool, true, false, ◌&&◌, ◌||◌, false≢true, or-true}
use mathlib.Core.Path.{◌≡◌, refl, sym, ap, ap₂, subst, ◌∙◌}
use native.Mathlib.Omega.{arith}
use lib.Dec.{eqb}
use lib.ListN.{length, length-set}
use borrow.Author.Tests.{eq-eqb, ne_eqb, eqb-true, eqb-false}
use Rattle.base.specs.Test.{pick}
use Rattle.base.proofs.Tests.{by_test, between_yes}
use Rattle.state.specs.declared.Record.{Record}
use Rattle.state.specs.declared.Range.{Range}
use Rattle.state.specs.Parameter.{parameter_count, range}
use Rattle.state.specs.Field.{Field, access, value, get, put, position, field_range, off, on, Held}
use Rattle.state.specs.Valid.{within, valid}
use Rattle.state.specs.Event.{flag_after, replaced}
use Rattle.state.proofs.Fields.{same-field, get-put_other}
use Rattle.state.proofs.Kept.{get-put_own, put_kept}
use Rattle.state.proofs.Whole.{put-over, range_wide, low_within}
use Rattle.knowledge.specs.declared.Knowledge.{Knowledge}
use Rattle.knowledge.specs.Sets.{Kind, several, single, kind_of, mask_from, mask_of, any_number, only, on_mask, or_on, flag_code, has, alone, alone_of}
use Rattle.knowledge.specs.Knowledge.{code_at, recoded, replacing}
use Rattle.knowledge.proofs.Possible.{Possible, Kept}
use Rattle.knowledge.proofs.Codes.{is_several, small, has_within, has_only, only_has, only_self, only_same, never_any, alone_has, alone-same, has_or}
use Rattle.knowledge.proofs.Recode.{code_same, code_other, recode_own, recode_put, recode_back, recode_kept}

-- a field of many numbers becomes n, one of its range, and a flag goes by what it was
pub record Replacing (f : Field) (n : ℕ) (flag : Field) : Type 0 where
  pub many : kind_of f ≡ single
  pub held : Held f
  pub beyond : position access < position f
  pub inside : within (field_range f) n ≡ true
  pub few : kind_of flag ≡ several
  pub two : field_range flag ≡ range off on
  pub flag_held : Held flag

module _ {f : Field} {n : ℕ} {flag : Field} (s : Replacing f n flag) where
  -- ---- the flag is on
  on_inside : within (field_range flag) on ≡ true
  on_inside = ap (λ (r : Range). within r on) s.two

  on_alone : alone flag on ≡ on_mask
  unfolding mask_from
  on_alone = ap (λ (k : Kind). alone_of k flag on) s.few ∙ ap (λ (r : Range). mask_of (λ m. within r m && eqb m on)) s.two

  lit : has flag on_mask on ≡ true
  lit = subst (λ (c : ℕ). has flag c on ≡ true) on_alone (alone_has flag on on_inside)

  only-lit : (m : ℕ) → has flag on_mask m ≡ true → m ≡ on
  only-lit m h = alone-same flag on on_inside m s.flag_held (subst (λ (c : ℕ). has flag c m ≡ true) (sym on_alone) h)

  -- ---- what the flag may hold, by what the field held: known to be n, unknown, or known to be another

  n_alone : has f n n ≡ true
  n_alone = only_has f n n s.many s.inside (only_self n)

  -- what it becomes is in the set
  pub flag_onward : (d c w v : ℕ) → has f d w ≡ true → has flag c v ≡ true → has flag (flag_code n d c) (flag_after w n v) ≡ true
  unfolding flag_code
  flag_onward d c w v h g =
      by_test (eqb d n)
      (λ e.
      let same : w ≡ n = only_same n w (never_any f n s.held s.inside) (ap (λ (x : ℕ). only x w) (sym (eqb-true d n e)) ∙ has_only f d w s.many h) in
      simp (e, eq-eqb w n same) g)
      (λ e. by_test (eqb d any_number)
      (λ a.
      by_test (eqb w n) (λ b. simp (e, a, b, has_or flag s.few c on_mask v, g)) (λ b. simp (e, a, b, has_or flag s.few c on_mask on, lit, or-true)))
      (λ a.
      let same : w ≡ d = only_same d w (eqb-false d any_number a) (has_only f d w s.many h) in
      simp (e, a, ne_eqb w n (λ z. eqb-false d n e (sym same ∙ z))) lit))

  -- another number than n, since each field's range has at least two: with the old number unknown the flag may have been switched on
  other_number : (w : ℕ) × (within (field_range f) w ≡ true) × (w ≡ n → ⊥)
  other_number =
      let l = range_wide f s.held in
      by_test (eqb n (field_range f).low)
      (λ e. let z : n ≡ (field_range f).low = eqb-true _ _ e in ((field_range f).high, between_yes _ _ (field_range f).high (omega arith) (omega arith), λ q. omega arith))
      (λ e. ((field_range f).low, low_within f s.held, λ q. eqb-false _ _ e (sym q)))

  -- the old numbers that leave the flag at m
  abbrev From : ℕ → ℕ → ℕ → Type 0
  From d c m = (w : ℕ) × (v : ℕ) × (has f d w ≡ true) × (has flag c v ≡ true) × (flag_after w n v ≡ m)

  -- the number held was n, and the flag stayed
  stayed : (d c m : ℕ) → has f d n ≡ true → has flag c m ≡ true → From d c m
  stayed d c m h g = (n, m, h, g, simp (eq-eqb n n refl))

  -- it was another, and the flag is on, whatever it was
  switched : (d c m w v : ℕ) → has f d w ≡ true → (w ≡ n → ⊥) → has flag c v ≡ true → has flag on_mask m ≡ true → From d c m
  switched d c m w v h other g o = (w, v, h, g, simp (ne_eqb w n other) (sym (only-lit m o)))

  -- and each number there comes from old ones, if there are any
  pub flag_back : (d c m w v : ℕ) → has f d w ≡ true → has flag c v ≡ true → has flag (flag_code n d c) m ≡ true → From d c m
  unfolding flag_code
  flag_back d c m w v h g t = go (eqb d n) refl (eqb d any_number) refl t
    where
      unknown : d ≡ any_number → (b : Bool) → has flag c m ≡ b → (b || has flag on_mask m) ≡ true → From d c m
      unknown a true e o = stayed d c m (subst (λ (x : ℕ). has f x n ≡ true) (sym a) (only_has f any_number n s.many s.inside refl)) e
      unknown a false e o =
          let x = other_number in
          switched d c m x.0 v (subst (λ (y : ℕ). has f y x.0 ≡ true) (sym a) (only_has f any_number x.0 s.many x.1 refl)) x.2 g o

      go : (b : Bool) → eqb d n ≡ b → (a : Bool) → eqb d any_number ≡ a → has flag (pick b c (pick a (or_on c) on_mask)) m ≡ true → From d c m
      go true e a i o = stayed d c m (subst (λ (x : ℕ). has f x n ≡ true) (sym (eqb-true d n e)) n_alone) o
      go false e true i o = unknown (eqb-true d any_number i) (has flag c m) refl (sym (has_or flag s.few c on_mask m) ∙ o)
      go false e false i o =
          let same : w ≡ d = only_same d w (eqb-false d any_number i) (has_only f d w s.many h) in
          switched d c m w v h (λ z. eqb-false d n e (sym same ∙ z)) g o

  -- ---- the two fields of what is known
  apart : position f ≡ position flag → ⊥
  apart e = false≢true (ap is_several (sym s.many ∙ (ap kind_of (same-field f flag e) ∙ s.few)))

  -- the record q after the change, if before it the field held w and the flag v
  undone : (q : Record) (w v : ℕ) → valid q ≡ true → within (field_range f) w ≡ true → within (field_range flag) v ≡ true → n ≡ get f q → flag_after w n v ≡ get flag q
      → replaced f n flag (put flag v (put f w q)) ≡ q
  undone q w v sound in-w in-v e g =
      ap (put f n) (put-over p r flag p_sound (put_kept p p_sound flag v in-v) s.flag_held (λ x z. get-put_other flag x v p z) (flag_after (get f r) n (get flag r)) now)
      ∙ put-over q p f sound p_sound s.held (λ x z. get-put_other f x w q z) n e
    where
      p : Record
      p = put f w q

      r : Record
      r = put flag v p

      p_sound : valid p ≡ true
      p_sound = put_kept q sound f w in-w

      held_w : get f r ≡ w
      held_w = get-put_other flag f v p (λ z. apart (sym z)) ∙ get-put_own q sound f w s.held in-w

      held_v : get flag r ≡ v
      held_v = get-put_own p p_sound flag v s.flag_held in-v

      now : flag_after (get f r) n (get flag r) ≡ get flag p
      now = ap₂ (λ (x y : ℕ). flag_after x n y) held_w held_v ∙ (g ∙ sym (get-put_other f flag w q apart))

  module _ (k : Knowledge) where
    abbrev own : ℕ
    own = code_at (position f) k

    abbrev flag_own : ℕ
    flag_own = code_at (position flag) k

    abbrev code : ℕ
    code = flag_code n own flag_own

    -- with the flag's new code
    abbrev marked : Knowledge
    marked = recoded (position flag) code k

    pub replace_onward : (r : Record) → length k.codes ≡ position (value parameter_count) → Possible k r → Possible (replacing (position f) n (position flag) k) (replaced f n flag r)
    unfolding replacing
    replace_onward r full t =
        let m : ℕ = flag_after (get f r) n (get flag r) in
        recode_put marked (put flag m r) f n n (length-set k.codes (position flag) code ∙ full) s.held
        (recode_put k r flag code m full s.flag_held t (flag_onward own flag_own (get f r) (get flag r) (t.each f s.held) (t.each flag s.flag_held))) n_alone

    pub replace_back : {a c : ℕ} (q : Record) → Kept a c k → Possible (replacing (position f) n (position flag) k) q → (r : Record) × Possible k r × (replaced f n flag r ≡ q)
    unfolding replacing
    replace_back q kept t =
        let full : length marked.codes ≡ position (value parameter_count) = length-set k.codes (position flag) code ∙ kept.full in
        let e : n ≡ get f q = sym (only_same n (get f q) (never_any f n s.held s.inside) (has_only f n (get f q) s.many (recode_own marked q f n full s.held t))) in
        let now : has flag code (get flag q) ≡ true =
        ap (λ (c : ℕ). has flag c (get flag q)) (sym (code_other marked f n flag apart ∙ code_same k flag code kept.full s.flag_held)) ∙ t.each flag s.flag_held in
        let (w₀, h₀) = kept.some t.living f s.held in
        let (v₀, g₀) = kept.some t.living flag s.flag_held in
        let (w, v, h, g, so) = flag_back own flag_own (get flag q) w₀ v₀ h₀ g₀ now in
        -- the number back, and then the flag
        let u = recode_back marked q f n w full s.held t (ap (λ (c : ℕ). has f c w) (code_other k flag code f (λ z. apart (sym z))) ∙ h) in (
          put flag v (put f w q),
          recode_back k (put f w q) flag code v kept.full s.flag_held u g,
          undone q w v t.sound (has_within f own w h) (has_within flag flag_own v g) e so,
        )

    pub replace_kept : {a c : ℕ} → Kept a c k → Kept a c (replacing (position f) n (position flag) k)
    unfolding replacing
    replace_kept kept =
        recode_kept marked f n
        (recode_kept k flag code kept s.flag_held (small flag s.few).beyond (λ alive.
        let (w, h) = kept.some alive f s.held in
        let (v, g) = kept.some alive flag s.flag_held in
        (flag_after w n v, flag_onward own flag_own w v h g)))
        s.held s.beyond (λ alive. (n, n_alone))
