-- khuyapesh_judge: the numbers that come back tell the answer, and demand 3 holds of it. By the cases of the answer. Assumes nothing.
use Prim.Native.Nat.{ℕ, ◌+◌}
use mathlib.Core.Path.{◌≡◌, refl, ap, subst, ◌∙◌}
use mathlib.Core.List.{List}
use native.Mathlib.Omega.{arith}
use Rattle.recording.specs.Replay.{fits, refuted, not_judged}
use Rattle.recording.specs.Statement.{Judgement, judged, refused, Demand3}
use Rattle.judging.specs.Judge.{judgement_of}
use Rattle.judging.proofs.Theorem.{judgement_right}
use Rattle.exports.specs.Bytes.{judge_numbers}

module _ (bs : List ℕ) where
  answered : (j : Judgement) → judgement_of bs ≡ j → Demand3 bs j
  answered j e = subst (Demand3 bs) e (judgement_right bs)

  pub judge_fits : (i n : ℕ) → judge_numbers (judgement_of bs) ≡ (0, (i, n)) → Demand3 bs (judged (fits n))
  unfolding judge_numbers
  judge_fits i n = go (judgement_of bs) refl
    where
      go : (j : Judgement) → judgement_of bs ≡ j → judge_numbers j ≡ (0, (i, n)) → Demand3 bs (judged (fits n))
      go (judged (fits m)) e h = let z : m ≡ n = ap (λ (x : ℕ × (ℕ × ℕ)). x.1.1) h in answered (judged (fits n)) (e ∙ ap (λ (x : ℕ). judged (fits x)) z)
      go (judged (refuted k m)) e h = let z : ◌≡◌ {A = ℕ} 1 0 = ap (λ (x : ℕ × (ℕ × ℕ)). x.0) h in absurd (omega arith)
      go (judged (not_judged k m)) e h = let z : ◌≡◌ {A = ℕ} 2 0 = ap (λ (x : ℕ × (ℕ × ℕ)). x.0) h in absurd (omega arith)
      go (refused m) e h = let z : 500 + m ≡ 0 = ap (λ (x : ℕ × (ℕ × ℕ)). x.0) h in absurd (omega arith)

  pub judge_refutes : (i n : ℕ) → judge_numbers (judgement_of bs) ≡ (1, (i, n)) → Demand3 bs (judged (refuted i n))
  unfolding judge_numbers
  judge_refutes i n = go (judgement_of bs) refl
    where
      go : (j : Judgement) → judgement_of bs ≡ j → judge_numbers j ≡ (1, (i, n)) → Demand3 bs (judged (refuted i n))
      go (judged (fits m)) e h = let z : ◌≡◌ {A = ℕ} 0 1 = ap (λ (x : ℕ × (ℕ × ℕ)). x.0) h in absurd (omega arith)
      go (judged (refuted k m)) e h =
          let y : k ≡ i = ap (λ (x : ℕ × (ℕ × ℕ)). x.1.0) h in
          let z : m ≡ n = ap (λ (x : ℕ × (ℕ × ℕ)). x.1.1) h in
          answered (judged (refuted i n)) (e ∙ (ap (λ (x : ℕ). judged (refuted x m)) y ∙ ap (λ (x : ℕ). judged (refuted i x)) z))
      go (judged (not_judged k m)) e h = let z : ◌≡◌ {A = ℕ} 2 1 = ap (λ (x : ℕ × (ℕ × ℕ)). x.0) h in absurd (omega arith)
      go (refused m) e h = let z : 500 + m ≡ 1 = ap (λ (x : ℕ × (ℕ × ℕ)). x.0) h in absurd (omega arith)

  pub judge_halts : (i n : ℕ) → judge_numbers (judgement_of bs) ≡ (2, (i, n)) → Demand3 bs (judged (not_judged i n))
  unfolding judge_numbers
  judge_halts i n = go (judgement_of bs) refl
    where
      go : (j : Judgement) → judgement_of bs ≡ j → judge_numbers j ≡ (2, (i, n)) → Demand3 bs (judged (not_judged i n))
      go (judged (fits m)) e h = let z : ◌≡◌ {A = ℕ} 0 2 = ap (λ (x : ℕ × (ℕ × ℕ)). x.0) h in absurd (omega arith)
      go (judged (refuted k m)) e h = let z : ◌≡◌ {A = ℕ} 1 2 = ap (λ (x : ℕ × (ℕ × ℕ)). x.0) h in absurd (omega arith)
      go (judged (not_judged k m)) e h =
          let y : k ≡ i = ap (λ (x : ℕ × (ℕ × ℕ)). x.1.0) h in
          let z : m ≡ n = ap (λ (x : ℕ × (ℕ × ℕ)). x.1.1) h in
          answered (judged (not_judged i n)) (e ∙ (ap (λ (x : ℕ). judged (not_judged x m)) y ∙ ap (λ (x : ℕ). judged (not_judged i x)) z))
      go (refused m) e h = let z : 500 + m ≡ 2 = ap (λ (x : ℕ × (ℕ × ℕ)). x.0) h in absurd (omega arith)

  pub judge_refuses : (m i n : ℕ) → judge_numbers (judgement_of bs) ≡ (500 + m, (i, n)) → Demand3 bs (refused m)
  unfolding judge_numbers
  judge_refuses m i n = go (judgement_of bs) refl
    where
      go : (j : Judgement) → judgement_of bs ≡ j → judge_numbers j ≡ (500 + m, (i, n)) → Demand3 bs (refused m)
      go (judged (fits k)) e h = let z : 0 ≡ 500 + m = ap (λ (x : ℕ × (ℕ × ℕ)). x.0) h in absurd (omega arith)
      go (judged (refuted k l)) e h = let z : 1 ≡ 500 + m = ap (λ (x : ℕ × (ℕ × ℕ)). x.0) h in absurd (omega arith)
      go (judged (not_judged k l)) e h = let z : 2 ≡ 500 + m = ap (λ (x : ℕ × (ℕ × ℕ)). x.0) h in absurd (omega arith)
      go (refused k) e h =
          let z : 500 + k ≡ 500 + m = ap (λ (x : ℕ × (ℕ × ℕ)). x.0) h in
          let y : k ≡ m = omega arith in
          answered (refused m) (e ∙ ap refused y)
