-- A judge that keeps what it knows from exchange to exchange, over any knowledge and exchange: what it knows, and its answer.
use Rattle.std.specs.Prelude.{ℕ, suc, ◌+◌, Bool, List, [], ◌∷◌, ltb, length}
use Rattle.base.specs.Test.{pick}
use Rattle.recording.specs.Replay.{Answer, fits, refuted, not_judged, before_asked}

-- what is known after all of the exchanges
module _ {K E : Type 0} (learn : K → E → K) where
  unfoldable pub learnt : K → List E → K
  learnt k [] = k
  learnt k (e ∷ es) = learnt (learn k e) es

module _ {K E : Type 0} (learn : K → E → K) (alive : K → Bool) where
  -- how many exchanges pass before one leaves nothing possible
  unfoldable pub passed : K → List E → ℕ
  passed k [] = 0
  passed k (e ∷ es) = pick (alive (learn k e)) (suc (passed (learn k e) es)) 0

  -- c of the m that are judged pass, of n in all
  abbrev pub answer_from : ℕ → ℕ → ℕ → Answer
  answer_from c m n = pick (ltb c m) (refuted (c + 1) n) (pick (ltb m n) (not_judged (m + 1) n) (fits n))

  -- those are judged that come before the first with a request that is not
  unfoldable pub answer_of : (E → Bool) → K → List E → Answer
  answer_of asks k es = answer_from (passed k (before_asked asks es)) (length (before_asked asks es)) (length es)
