-- A judge that keeps exactly the states that may be current gives the right answer, whatever the states, the exchanges and the form of
-- its knowledge. Assumes nothing.
use Prim.Native.Nat.{ℕ, suc, ◌+◌, ◌-◌, ◌≤◌, ◌<◌}
use mathlib.Core.Bool.{Bool, true, false}
use mathlib.Core.Path.{◌≡◌, refl, sym, ap, subst, ◌∙◌}
use mathlib.Core.List.{List, [], ◌∷◌, ◌++◌}
use mathlib.Core.Logic.{◌↔◌}
use native.Mathlib.Omega.{arith}
use native.Mathlib.Numerals.{add-one}
use lib.Dec.{ltb}
use lib.ListN.{length, get_or, take}
use lib.Seq.{take-length}
use borrow.Author.Tests.{ltb-true, ltb-false}
use Rattle.base.specs.Test.{pick}
use Rattle.recording.specs.Replay.{fits, refuted, not_judged, AllAgree, after_all, before_asked, Right}
use Rattle.recording.specs.Progress.{passed, learnt, answer_from, answer_of}
use Rattle.recording.proofs.Asked.{before_all, before_first}

-- ---- those that pass, and the one that does not
module _ {K E : Type 0} (learn : K → E → K) (alive : K → Bool) where
  -- as many pass of those that pass
  pub passed_those : (es : List E) (k : K) → passed learn alive k (take (passed learn alive k es) es) ≡ passed learn alive k es
  unfolding passed
  passed_those [] k = refl
  passed_those (e ∷ es) k = go (alive (learn k e)) refl (passed_those es (learn k e))
    where
      go : (b : Bool) → alive (learn k e) ≡ b → passed learn alive (learn k e) (take (passed learn alive (learn k e) es) es) ≡ passed learn alive (learn k e) es
          → passed learn alive k (take (pick b (suc (passed learn alive (learn k e) es)) 0) (e ∷ es)) ≡ pick b (suc (passed learn alive (learn k e) es)) 0
      go true a rest = simp a (ap suc rest)
      go false a rest = refl

  -- and the next one leaves nothing possible
  pub passed-not : (es : List E) (k : K) (d : E) → passed learn alive k es < length es
      → alive (learn (learnt learn k (take (passed learn alive k es) es)) (get_or es (passed learn alive k es) d)) ≡ false
  unfolding passed learnt
  passed-not [] k d h = absurd (omega arith)
  passed-not (e ∷ es) k d h = go (alive (learn k e)) refl h (passed-not es (learn k e) d)
    where
      go : (b : Bool) → alive (learn k e) ≡ b → pick b (suc (passed learn alive (learn k e) es)) 0 < suc (length es)
          → (passed learn alive (learn k e) es < length es
          → alive (learn (learnt learn (learn k e) (take (passed learn alive (learn k e) es) es)) (get_or es (passed learn alive (learn k e) es) d)) ≡ false)
          → alive (learn (learnt learn k (take (pick b (suc (passed learn alive (learn k e) es)) 0) (e ∷ es))) (get_or (e ∷ es) (pick b (suc (passed learn alive (learn k e) es)) 0) d)) ≡ false
      go true a l rest = rest (omega arith)
      go false a l rest = a

  pub passed_bound : (es : List E) (k : K) → passed learn alive k es ≤ length es
  unfolding passed
  passed_bound [] k = omega arith
  passed_bound (e ∷ es) k = go (alive (learn k e)) (passed_bound es (learn k e))
    where
      go : (b : Bool) → passed learn alive (learn k e) es ≤ length es → pick b (suc (passed learn alive (learn k e) es)) 0 ≤ suc (length es)
      go true l = omega arith
      go false l = omega arith

  -- where all pass, something is possible after them
  pub learnt_alive : (es : List E) (k : K) → alive k ≡ true → passed learn alive k es ≡ length es → alive (learnt learn k es) ≡ true
  unfolding learnt passed
  learnt_alive [] k h e = h
  learnt_alive (e ∷ es) k h q = go (alive (learn k e)) refl q (λ a z. learnt_alive es (learn k e) a z)
    where
      go : (b : Bool) → alive (learn k e) ≡ b → pick b (suc (passed learn alive (learn k e) es)) 0 ≡ suc (length es)
          → (alive (learn k e) ≡ true → passed learn alive (learn k e) es ≡ length es → alive (learnt learn (learn k e) es) ≡ true)
          → alive (learnt learn (learn k e) es) ≡ true
      go true a z rest = rest a (omega arith)
      go false a z rest = absurd (omega arith)

  -- one more than all that pass: it is learnt from what is known after them, and passes if that leaves something
  pub learnt_more : (es : List E) (k : K) (d : E) → learnt learn k (es ++ (d ∷ [])) ≡ learn (learnt learn k es) d
  unfolding learnt
  learnt_more [] k d = refl
  learnt_more (e ∷ es) k d = learnt_more es (learn k e) d

  pub passed_more : (es : List E) (k : K) (d : E) → passed learn alive k es ≡ length es
      → passed learn alive k (es ++ (d ∷ [])) ≡ pick (alive (learn (learnt learn k es) d)) (suc (length es)) (length es)
  unfolding passed learnt
  passed_more [] k d h = refl
  passed_more (e ∷ es) k d h = go (alive (learn k e)) refl h (λ z. passed_more es (learn k e) d z)
    where
      one : (b : Bool) (n : ℕ) → suc (pick b (suc n) n) ≡ pick b (suc (suc n)) (suc n)
      one true n = refl
      one false n = refl

      go : (b : Bool) → alive (learn k e) ≡ b → pick b (suc (passed learn alive (learn k e) es)) 0 ≡ suc (length es)
          → (passed learn alive (learn k e) es ≡ length es
          → passed learn alive (learn k e) (es ++ (d ∷ [])) ≡ pick (alive (learn (learnt learn (learn k e) es) d)) (suc (length es)) (length es))
          → pick b (suc (passed learn alive (learn k e) (es ++ (d ∷ [])))) 0 ≡ pick (alive (learn (learnt learn (learn k e) es) d)) (suc (suc (length es))) (suc (length es))
      go true a z rest = ap suc (rest (omega arith)) ∙ one (alive (learn (learnt learn (learn k e) es) d)) (length es)
      go false a z rest = absurd (omega arith)

module _ {S E K : Type 0} (step : S → E → S) (Agree : S → E → Type 0) (Sound : K → Type 0) (Member : K → S → Type 0) (learn : K → E → K) (alive : K → Bool) where
  -- sound knowledge is exact: what may be current before and agrees is current after, and nothing else; it is alive exactly if it has a
  -- member; and it stays sound
  pub record Exactly : Type 0 where
    pub onward : (k : K) (e : E) (s : S) → Sound k → Member k s → Agree s e → Member (learn k e) (step s e)
    pub back : (k : K) (e : E) (s : S) → Sound k → Member (learn k e) s → (r : S) × Member k r × Agree r e × (step r e ≡ s)
    pub some : (k : K) → Sound k → alive k ≡ true → (s : S) × Member k s
    pub none : (k : K) (s : S) → alive k ≡ false → Member k s → ⊥
    pub kept : (k : K) (e : E) → Sound k → Sound (learn k e)

  module _ (exact : Exactly) where
    -- some state that may be current agrees with all of the exchanges
    abbrev pub From : K → List E → Type 0
    From k es = (s : S) × Member k s × AllAgree step Agree s es

    -- what may be current after all of them is what some that may be current at first, and agrees with all, leads to
    pub leads : (es : List E) (k : K) → Sound k → (t : S)
        → Member (learnt learn k es) t ↔ ((s : S) × Member k s × AllAgree step Agree s es × (after_all step Agree s es ≡ t))
    unfolding learnt
    leads [] k v t = (λ m. (t, m, tt, refl), λ (s, m, a, e). subst (Member k) e m)
    leads (e ∷ es) k v t = (
      λ m.
          let (s, n, a, q) = (leads es (learn k e) (exact.kept k e v) t).0 m in
          let (r, o, h, d) = exact.back k e s v n in
          (r, o, (h, subst (λ (x : S). AllAgree step Agree x es) (sym d) a), ap (λ (x : S). after_all step Agree x es) d ∙ q),
      λ (r, m, a, q). (leads es (learn k e) (exact.kept k e v) t).1 (step r e, exact.onward k e r v m a.0, a.1, q),
    )

    -- what is known stays sound
    pub learnt_sound : (es : List E) (k : K) → Sound k → Sound (learnt learn k es)
    unfolding learnt
    learnt_sound [] k v = v
    learnt_sound (e ∷ es) k v = learnt_sound es (learn k e) (exact.kept k e v)

    -- the count is of those that pass, and not one more
    record Last (k : K) (es : List E) (c : ℕ) : Type 0 where
      bound : c ≤ length es
      holds : From k (take c es)
      fails : c < length es → From k (take (suc c) es) → ⊥

    more : (k : K) (e : E) (es : List E) (c : ℕ) → Sound k → Last (learn k e) es c → Last k (e ∷ es) (suc c)
    more k e es c g l =
        record {
          bound = let b = l.bound in omega arith;
          holds =
              let (s, m, a) = l.holds in
              let (r, n, h, q) = exact.back k e s g m in
              (r, n, (h, subst (λ (x : S). AllAgree step Agree x (take c es)) (sym q) a));
          fails = λ h f.
              let (r, n, a) = f in
              l.fails (omega arith) (step r e, exact.onward k e r g n a.0, a.1);
        }

    last : (k : K) (es : List E) → Sound k → alive k ≡ true → Last k es (passed learn alive k es)
    unfolding passed
    last k [] v h = let (s, m) = exact.some k v h in record { bound = omega arith; holds = (s, m, tt); fails = λ l f. omega arith }
    last k (e ∷ es) v h = go (alive (learn k e)) refl (λ a. last (learn k e) es (exact.kept k e v) a)
      where
        go : (b : Bool) → alive (learn k e) ≡ b → (alive (learn k e) ≡ true → Last (learn k e) es (passed learn alive (learn k e) es))
            → Last k (e ∷ es) (pick b (suc (passed learn alive (learn k e) es)) 0)
        go true q rest = more k e es (passed learn alive (learn k e) es) v (rest q)
        go false q rest =
            let (s, m) = exact.some k v h in
            record {
              bound = omega arith;
              holds = (s, m, tt);
              fails = λ l f. let (r, n, a) = f in exact.none (learn k e) (step r e) q (exact.onward k e r v n a.0);
            }

    -- the exchanges that are asked so, and all behind them, are not judged
    module _ (asks : E → Bool) where
      right_answer : (k : K) (es : List E) (c : ℕ) → Last k (before_asked asks es) c
          → Right asks (From k) es (answer_from learn alive c (length (before_asked asks es)) (length es))
      right_answer k es c l = go (ltb c m) refl (ltb m (length es)) refl
        where
          m : ℕ
          m = length (before_asked asks es)

          same : (n : ℕ) → n ≤ m → take n (before_asked asks es) ≡ take n es
          same n h = before_first asks es n h

          everyone : ltb c m ≡ false → From k (before_asked asks es)
          everyone q =
              let h : m ≤ c = ltb-false c m q in
              let e : c ≡ m = let b = l.bound in omega arith in
              subst (From k) (take-length (before_asked asks es)) (subst (λ (n : ℕ). From k (take n (before_asked asks es))) e l.holds)

          go : (b : Bool) → ltb c m ≡ b → (d : Bool) → ltb m (length es) ≡ d
              → Right asks (From k) es (pick b (refuted (c + 1) (length es)) (pick d (not_judged (m + 1) (length es)) (fits (length es))))
          go true q d w =
              let h : c < m = ltb-true c m q in
              let e : c + 1 - 1 ≡ c = omega arith in (
                refl,
                omega arith,
                omega arith,
                subst (λ (n : ℕ). From k (take n es)) (sym e) (subst (From k) (same c (omega arith)) l.holds),
                λ f. l.fails h (subst (From k) (sym (same (suc c) (omega arith))) (subst (λ (n : ℕ). From k (take n es)) (add-one c) f)),
              )
          go false q true w =
              let h : m < length es = ltb-true m (length es) w in
              (refl, refl, omega arith, everyone q)
          go false q false w =
              let h : length es ≤ m = ltb-false m (length es) w in
              let none = before_all asks es h in
              (refl, none, subst (From k) none (everyone q))

      -- the answer is right of the states that the first knowledge allows
      pub right : (k : K) (es : List E) → Sound k → alive k ≡ true → Right asks (From k) es (answer_of learn alive asks k es)
      unfolding answer_of
      right k es v h = right_answer k es (passed learn alive k (before_asked asks es)) (last k (before_asked asks es) v h)
