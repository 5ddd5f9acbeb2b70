-- One law for each return of the functions that learn from a refusal, and from none. Assumes nothing.
use Prim.Native.Nat.{ℕ, ◌+◌, ◌-◌, ◌≤◌, min}
use mathlib.Core.Bool.{Bool, true, false, not, ◌||◌, or-true}
use mathlib.Core.Path.{◌≡◌, refl, sym, ap, ◌∙◌}
use mathlib.Core.Logic.{◌⊎◌, inl, inr}
use mathlib.Core.List.{List, [], ◌∷◌, ◌++◌, append-nil}
use native.Mathlib.Omega.{arith}
use lib.Dec.{eqb, ltb}
use lib.ListN.{length}
use borrow.Author.Tests.{eq-eqb, ne_eqb, le-ltb}
use Rattle.base.specs.Test.{pick}
use Rattle.state.specs.Field.{phase, keypad, alarms, level, position, field_range, on, flag_number}
use Rattle.command.specs.declared.Guards.{Guards}
use Rattle.command.specs.declared.LevelGuard.{LevelGuard}
use Rattle.std.specs.Prelude.{Some}
use Rattle.command.specs.declared.Phases.{Phases}
use Rattle.command.specs.declared.Phases.TheVariants.{IdleOrDone, SetOrStopped, Running, SetStoppedOrDone}
use Rattle.command.specs.Request.{Guard, keypad_guard, alarm_guard, keypad_guards, level_guards, phase_guards, alarm_guards, guards_as}
use Rattle.knowledge.specs.declared.Knowledge.{Knowledge}
use Rattle.knowledge.specs.Sets.{some_mask, mask_from, mask_in, any, alone}
use Rattle.knowledge.specs.Knowledge.{dead, restricted, passing}
use Rattle.showing.proofs.Places.{restrict_placed}
use Rattle.learning.specs.Learn.{let_through, allowed_levels, passed, refused_by}

-- ---- the levels that do not refuse a write, and those that do
module _ (a : ℕ) (above : Bool) where
  pub allowed_above : above ≡ true → 0 ≡ allowed_levels a above
  unfolding mask_from allowed_levels
  allowed_above e = simp (e, or-true)

  module _ (e : above ≡ false) where
    pub allowed_0 : a ≡ 0 → 0x1 ≡ allowed_levels a above
    unfolding mask_from allowed_levels
    allowed_0 l = simp (e, l)

    pub allowed_1 : a ≡ 1 → 0x3 ≡ allowed_levels a above
    unfolding mask_from allowed_levels
    allowed_1 l = simp (e, l)

    pub allowed_2 : a ≡ 2 → 0x7 ≡ allowed_levels a above
    unfolding mask_from allowed_levels
    allowed_2 l = simp (e, l)

    -- no level is above an access of 3
    pub allowed_all : (field_range (level 0)).high ≤ a → any (level 0) ≡ allowed_levels a above
    unfolding mask_from allowed_levels
    allowed_all h = simp (e, reached 0 (omega arith), reached 1 (omega arith), reached 2 (omega arith), reached 3 (omega arith))
      where
        reached : (n : ℕ) → n ≤ (field_range (level 0)).high → ltb a n ≡ false
        reached n l = le-ltb a n (omega arith)

pub ruleset allowing = (allowed_above, allowed_0, allowed_1, allowed_2, allowed_all)

flag_not : (b : Bool) → flag_number b + flag_number (not b) ≡ 1
flag_not true = refl
flag_not false = refl

others : (p : ℕ → Bool) → mask_in (level 0) p + mask_in (level 0) (λ n. not (p n)) ≡ any (level 0)
unfolding mask_from
others p = omega (arith, flag_not (p 0), flag_not (p 1), flag_not (p 2), flag_not (p 3))

-- ---- a phase is needed, or not
module _ (p : Phases) (m : ℕ) (e : m ≡ let_through (phase_guards (Some p))) (k : Knowledge) where
  by_phase : (gs : List Guard) (n : ℕ)
      → (passed (phase_guards (Some p)) k ≡ restricted (position phase) (let_through (phase_guards (Some p))) k)
      × (refused_by n (phase_guards (Some p) ++ gs) k
      ≡ pick (eqb n 5) (restricted (position phase) (any phase - let_through (phase_guards (Some p))) k) (refused_by n gs (restricted (position phase) (let_through (phase_guards (Some p))) k)))
  unfolding passed refused_by mask_from
  by_phase gs n = go p
    where
      go : (q : Phases)
          → (passed (phase_guards (Some q)) k ≡ restricted (position phase) (let_through (phase_guards (Some q))) k)
          × (refused_by n (phase_guards (Some q) ++ gs) k
          ≡ pick (eqb n 5) (restricted (position phase) (any phase - let_through (phase_guards (Some q))) k) (refused_by n gs (restricted (position phase) (let_through (phase_guards (Some q))) k)))
      go IdleOrDone = (refl, refl)
      go SetOrStopped = (refl, refl)
      go Running = (refl, refl)
      go SetStoppedOrDone = (refl, refl)

  pub some_passed : passed (phase_guards (Some p)) k ≡ restricted (position phase) m k
  some_passed = (by_phase [] 0).0 ∙ simp e

  module _ (gs : List Guard) (n : ℕ) where
    pub some_met : n ≡ 5 → refused_by n (phase_guards (Some p) ++ gs) k ≡ restricted (position phase) (any phase - m) k
    some_met q = (by_phase gs n).1 ∙ simp (eq-eqb n 5 q, e)

    pub none_met : (n ≡ 5 → ⊥) → refused_by n (phase_guards (Some p) ++ gs) k ≡ refused_by n gs (restricted (position phase) m k)
    none_met q = (by_phase gs n).1 ∙ simp (ne_eqb n 5 q, e)

pub any_passed : (k : Knowledge) → passed [] k ≡ k
unfolding passed
any_passed k = refl

pub ruleset phase_passing = (any_passed, some_passed)

pub ruleset phase_meeting = (some_met, none_met)

-- ---- one guard, if it is tested
abbrev pass_if : Bool → Guard → Knowledge → Knowledge
pass_if b g k = pick b (passing g.field (λ n. not (g.refuses n)) k) k

passed-if : (b : Bool) (g : Guard) (k : Knowledge) → pass_if b g k ≡ passed (pick b (g ∷ []) []) k
unfolding passed
passed-if true g k = refl
passed-if false g k = refl

module _ (l : LevelGuard) (a : ℕ) (k s : Knowledge) (p m : ℕ) (q : p ≡ min (position (level l.place)) (length k.codes)) (w : m ≡ allowed_levels a l.above) where
  restricted_so : (c i : ℕ) → c ≡ i → s ≡ restricted p c k → s ≡ restricted (position (level l.place)) i k
  restricted_so c i j f = f ∙ (ap (λ (x : ℕ). restricted x c k) q ∙ (restrict_placed k c (position (level l.place)) ∙ ap (λ (x : ℕ). restricted (position (level l.place)) x k) j))

  pub level_passed : s ≡ restricted p m k → s ≡ passed (level_guards a (Some l)) k
  unfolding passed allowed_levels
  level_passed e = restricted_so m _ w e

  module _ (gs : List Guard) (n : ℕ) where
    pub level_met : n ≡ 7 → s ≡ restricted p (any (level 0) - m) k → s ≡ refused_by n (level_guards a (Some l) ++ gs) k
    unfolding refused_by allowed_levels
    level_met j e =
        let z : any (level 0) - m ≡ mask_in (level 0) (λ i. ltb a i || l.above) = omega (arith, others (λ i. ltb a i || l.above)) in
        simp (eq-eqb n 7 j) (restricted_so (any (level 0) - m) _ z e)

    pub level_unmet : (t : Knowledge) → (n ≡ 7 → ⊥) → s ≡ restricted p m k → t ≡ refused_by n gs s → t ≡ refused_by n (level_guards a (Some l) ++ gs) k
    unfolding refused_by allowed_levels
    level_unmet t j e f = f ∙ simp (ne_eqb n 7 j) (ap (refused_by n gs) (restricted_so m _ w e))

pub others_fit : (m a : ℕ) (b : Bool) → m ≡ allowed_levels a b → m ≤ any (level 0)
unfolding allowed_levels
others_fit m a b e = omega (arith, others (λ i. ltb a i || b))

pub ruleset level_passing = (any_passed, level_passed)

pub ruleset level_meeting = (level_met, level_unmet, others_fit)

-- ---- guards one after the other
append-passed : (xs ys : List Guard) (k : Knowledge) → passed (xs ++ ys) k ≡ passed ys (passed xs k)
unfolding passed
append-passed [] ys k = refl
append-passed (g ∷ gs) ys k = append-passed gs ys (passing g.field (λ n. not (g.refuses n)) k)

-- one that is not tested, or has another number
abbrev Unmet : Bool → ℕ → ℕ → Type 0
Unmet b n m = (n ≡ m → ⊥) ⊎ (b ≡ false)

unmet : (b : Bool) (g : Guard) (gs : List Guard) (n : ℕ) (k : Knowledge) → Unmet b n g.refusal
    → refused_by n (pick b (g ∷ []) [] ++ gs) k ≡ refused_by n gs (passed (pick b (g ∷ []) []) k)
unfolding passed refused_by
unmet true g gs n k (inl q) = simp (ne_eqb n g.refusal q)
unmet false g gs n k (inl q) = refl
unmet b g gs n k (inr h) = simp h

module _ (g : Guards) (a n : ℕ) (k s : Knowledge) where
  abbrev phases_left : List Guard
  phases_left = phase_guards g.phases ++ alarm_guards g.alarms

  abbrev levels_left : List Guard
  levels_left = level_guards a g.level ++ phases_left

  pub all_passed : (t u v : Knowledge) → t ≡ pass_if g.keypad keypad_guard k → u ≡ passed (level_guards a g.level) t → v ≡ passed (phase_guards g.phases) u
      → s ≡ pass_if g.alarms alarm_guard v → s ≡ passed (guards_as a g) k
  all_passed t u v e f i h =
      h ∙ (passed-if g.alarms alarm_guard v ∙ (ap (passed (alarm_guards g.alarms)) i ∙ (sym (append-passed (phase_guards g.phases) (alarm_guards g.alarms) u)
      ∙ (ap (passed phases_left) f ∙ (sym (append-passed (level_guards a g.level) phases_left t)
      ∙ (ap (passed levels_left) (e ∙ passed-if g.keypad keypad_guard k) ∙ sym (append-passed (keypad_guards g.keypad) levels_left k)))))))

  pub keypad_met : g.keypad ≡ true → n ≡ 2 → s ≡ restricted (position keypad) (alone keypad on) k → s ≡ refused_by n (guards_as a g) k
  unfolding refused_by mask_from
  keypad_met h q e = simp (h, eq-eqb n 2 q) e

  pub keypad_unmet : (t : Knowledge) → Unmet g.keypad n 2 → t ≡ pass_if g.keypad keypad_guard k → s ≡ refused_by n levels_left t
      → s ≡ refused_by n (guards_as a g) k
  keypad_unmet t h f e = e ∙ (ap (refused_by n levels_left) (f ∙ passed-if g.keypad keypad_guard k) ∙ sym (unmet g.keypad keypad_guard levels_left n k h))

-- NO09 is the last
module _ (b : Bool) (n : ℕ) (k s : Knowledge) where
  pub alarms_met : b ≡ true → n ≡ 9 → s ≡ restricted (position alarms) some_mask k → s ≡ refused_by n (alarm_guards b) k
  unfolding refused_by
  alarms_met h q e = simp (h, eq-eqb n 9 q) e

  pub alarms_unmet : (t : Knowledge) → Unmet b n 9 → t ≡ pass_if b alarm_guard k → s ≡ dead t → s ≡ refused_by n (alarm_guards b) k
  unfolding refused_by
  alarms_unmet t h f e = e ∙ (ap dead (f ∙ passed-if b alarm_guard k) ∙ (sym (unmet b alarm_guard [] n k h) ∙ ap (λ (gs : List Guard). refused_by n gs k) (append-nil (alarm_guards b))))
