-- The first of several tests that fails, and which it is, as "if and only if". Assumes nothing.
use Prim.Native.Nat.{ℕ, zero, suc, ◌+◌, ◌≤◌, ◌<◌}
use mathlib.Core.Bool.{Bool, true, false, false≢true}
use mathlib.Core.Path.{◌≡◌, refl, sym, subst, ◌∙◌}
use mathlib.Core.List.{List, [], ◌∷◌}
use mathlib.Core.Logic.{◌↔◌, ◌⊎◌, inl, inr, ⊎_elim}
use native.Mathlib.Nat.{le_of_suc-le-suc}
use native.Mathlib.Omega.{arith}
use lib.ListN.{get_or}
use Rattle.base.specs.Test.{unless}
use Rattle.base.proofs.Tests.{below_or_not}

-- the test at a place, counted from 0, fails and none before it does
pub record FirstFailing (bs : List Bool) (i : ℕ) : Type 0 where
  pub fails : get_or bs i true ≡ false
  pub before : (j : ℕ) → j < i → get_or bs j true ≡ true

-- no test fails
abbrev pub NoneFails : List Bool → Type 0
NoneFails bs = (j : ℕ) → get_or bs j true ≡ true

-- the number of the first that fails, where the first of all has number n; 0 if none fails
abbrev pub failing : ℕ → List Bool → ℕ
failing n [] = 0
failing n (b ∷ bs) = unless b n (failing (suc n) bs)

-- it is found, or none fails
first_or_none : (bs : List Bool) (n : ℕ) → ((i : ℕ) × FirstFailing bs i × (failing n bs ≡ n + i)) ⊎ (NoneFails bs × (failing n bs ≡ 0))
first_or_none [] n = inr ((λ j. refl), refl)
first_or_none (false ∷ bs) n = inl (0, record { fails = refl; before = λ j l. absurd (omega arith) }, omega arith)
first_or_none (true ∷ bs) n =
    ⊎_elim (λ (x : (i : ℕ) × FirstFailing bs i × (failing (suc n) bs ≡ suc n + i)). inl (later x))
    (λ (x : NoneFails bs × (failing (suc n) bs ≡ 0)). inr (all x.0, x.1)) (first_or_none bs (suc n))
  where
    all : NoneFails bs → NoneFails (true ∷ bs)
    all h zero = refl
    all h (suc j) = h j

    before : (i : ℕ) → FirstFailing bs i → (j : ℕ) → j < suc i → get_or (true ∷ bs) j true ≡ true
    before i f zero l = refl
    before i f (suc j) l = f.before j (le_of_suc-le-suc l)

    later : (i : ℕ) × FirstFailing bs i × (failing (suc n) bs ≡ suc n + i) → (i : ℕ) × FirstFailing (true ∷ bs) i × (failing n (true ∷ bs) ≡ n + i)
    later (i, f, e) = (suc i, record { fails = f.fails; before = before i f }, omega (arith, e))

-- a test does not both hold and fail
pub not_both : {A : Type 0} (b : Bool) → b ≡ true → b ≡ false → A
not_both b h f = absurd (false≢true (sym f ∙ h))

-- only one test is the first that fails
first_once : (bs : List Bool) (i j : ℕ) → FirstFailing bs i → FirstFailing bs j → j ≤ i
first_once bs i j f g =
    ⊎_elim (λ (l : i < j). not_both (get_or bs i true) (g.before i l) f.fails) (λ (l : j ≤ i). l) (below_or_not i j)

-- the number tells the first that fails, and 0 tells that none does
pub failing_exactly : (bs : List Bool) (i : ℕ) → failing 1 bs ≡ i + 1 ↔ FirstFailing bs i
failing_exactly bs i =
    ⊎_elim
    (λ (x : (j : ℕ) × FirstFailing bs j × (failing 1 bs ≡ 1 + j)).
    let (j, f, e) = x in (
      λ h. let q : j ≡ i = omega arith in subst (FirstFailing bs) q f,
      λ g. omega (arith, first_once bs i j g f, first_once bs j i f g),
    ))
    (λ (x : NoneFails bs × (failing 1 bs ≡ 0)). (λ h. absurd (omega (arith, x.1)), λ g. not_both (get_or bs i true) (x.0 i) g.fails))
    (first_or_none bs 1)

pub none_exactly : (bs : List Bool) → failing 1 bs ≡ 0 ↔ NoneFails bs
none_exactly bs =
    ⊎_elim
    (λ (x : (j : ℕ) × FirstFailing bs j × (failing 1 bs ≡ 1 + j)).
    let (j, f, e) = x in (λ h. absurd (omega arith), λ g. not_both (get_or bs j true) (g j) f.fails))
    (λ (x : NoneFails bs × (failing 1 bs ≡ 0)). (λ h. x.0, λ g. x.1)) (first_or_none bs 1)
