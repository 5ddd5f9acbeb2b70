-- Replay, agreement and a right answer, over any state, exchange and step.
use Rattle.std.specs.Prelude.{ℕ, ◌+◌, ◌-◌, ◌≤◌, Bool, ◌≡◌, List, [], ◌∷◌, length, take}
use Rattle.base.specs.Test.{pick}

-- "`fits N` (N exchanges), `refuted at I of N` (I counts from 1)"; 02, L7: "`not judged at I`", beside which N is known too
pub data Answer : Type 0 where
  fits : ℕ → Answer
  refuted : ℕ → ℕ → Answer
  not_judged : ℕ → ℕ → Answer

module _ {S E : Type 0} (step : S → E → S) (Agree : S → E → Type 0) where
  -- "Exchange by exchange": each gets the state that the last one returned
  abbrev pub AllAgree : S → List E → Type 0
  AllAgree s [] = Unit {0}
  AllAgree s (e ∷ es) = Agree s e × AllAgree (step s e) es

  -- "for some such record all .. agree"
  abbrev pub SomeAgrees : (S → Type 0) → List E → Type 0
  SomeAgrees Start es = (s : S) × Start s × AllAgree s es

  -- the state after them
  abbrev pub after_all : S → List E → S
  after_all s [] = s
  after_all s (e ∷ es) = after_all (step s e) es

  -- some such state agrees with all of them, and is t after them
  abbrev pub SomeLeads : (S → Type 0) → List E → S → Type 0
  SomeLeads Start es t = (s : S) × Start s × AllAgree s es × (after_all s es ≡ t)

module _ {E : Type 0} (asks : E → Bool) where
  -- 02, L7: "the exchanges before it", the first one with such a request
  unfoldable pub before_asked : List E → List E
  before_asked [] = []
  before_asked (e ∷ es) = pick (asks e) [] (e ∷ before_asked es)

  -- a list without one
  abbrev pub NoneAsked : List E → Type 0
  NoneAsked es = before_asked es ≡ es

  -- "The answer is `fits N` exactly when for some such record all N agree. Otherwise it is `refuted at I of N`, where for some
  -- such record all exchanges before I agree, and for none all up to and including I."
  -- 02, L7: "At the first such request not silent the judge writes `not judged at I`, unless the exchanges before it, taken alone, are refuted
  -- as demand 3 has it (N counting all); demand 3 speaks of recordings without one"
  abbrev pub Right : (List E → Type 0) → List E → Answer → Type 0
  Right Some es (fits n) = (n ≡ length es) × NoneAsked es × Some es
  Right Some es (refuted i n) = (n ≡ length es) × (1 ≤ i) × (i ≤ length (before_asked es)) × Some (take (i - 1) es) × (Some (take i es) → ⊥)
  Right Some es (not_judged i n) = (n ≡ length es) × (i ≡ length (before_asked es) + 1) × (i ≤ n) × Some (before_asked es)
