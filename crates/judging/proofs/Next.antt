-- One exchange more: what is known after it is what it teaches from what was known before. So a line can be followed exchange by exchange,
-- and each step gives what the whole recording tells. Assumes nothing.
use Prim.Native.Nat.{ℕ, suc, ◌+◌, ◌≤◌, ◌<◌}
use mathlib.Core.Bool.{Bool, true, false}
use mathlib.Core.Path.{◌≡◌, refl, sym, ap, subst, ◌∙◌}
use mathlib.Core.List.{List, [], ◌∷◌, ◌++◌}
use native.Mathlib.Omega.{arith}
use native.Mathlib.Numerals.{add-one}
use lib.Dec.{ltb}
use lib.ListN.{length, get_or, take, length-append}
use lib.Seq.{length-take-le, take-suc}
use borrow.Author.Tests.{le-ltb, lt-ltb, ltb-false}
use Rattle.base.specs.Test.{pick}
use Rattle.base.proofs.Tests.{never}
use Rattle.knowledge.specs.declared.Knowledge.{Knowledge}
use Rattle.knowledge.specs.Knowledge.{start}
use Rattle.recording.specs.Form.{Exchange, recorded, recording_of}
use Rattle.recording.specs.Statement.{asks}
use Rattle.recording.specs.Progress.{passed, learnt}
use Rattle.recording.proofs.Asked.{before_all, before_stopped, before_more}
use Rattle.recording.proofs.Exact.{passed_bound, learnt_alive, learnt_more, passed_more}
use Rattle.hearing.specs.Hearing.{exchange, exchange_learnt}
use Rattle.judging.specs.Judge.{living, judgeable, Telling, broken, halted, sets, no_sets, known_by, known_after, known_for, known_of}

-- what is told after an exchange that comes behind k others: that it is not judged, or by what it teaches
abbrev pub next_told : Bool → ℕ → Knowledge → Telling × List ℕ
next_told asked k x = pick asked (halted (k + 1), no_sets) (pick x.alive (sets, x.codes) (broken (k + 1), no_sets))

module _ (a c : ℕ) where
  -- all are judged and pass where the sets are told
  all_passed : (p m n : ℕ) (x : Knowledge) (cs : List ℕ) → known_by p m n x ≡ (sets, cs) → (m ≤ p) × (n ≤ m) × (x.codes ≡ cs)
  all_passed p m n x cs = go (ltb p m) refl (ltb m n) refl
    where
      go : (b : Bool) → ltb p m ≡ b → (d : Bool) → ltb m n ≡ d
          → ◌≡◌ {A = Telling × List ℕ} (pick b (broken (p + 1), no_sets) (pick d (halted (m + 1), no_sets) (sets, x.codes))) (sets, cs) → (m ≤ p) × (n ≤ m) × (x.codes ≡ cs)
      go true q d w h = let z : broken (p + 1) ≡ sets = ap (λ (y : Telling × List ℕ). y.0) h in absurd (never (cc))
      go false q true w h = let z : halted (m + 1) ≡ sets = ap (λ (y : Telling × List ℕ). y.0) h in absurd (never (cc))
      go false q false w h = (ltb-false p m q, ltb-false m n w, ap (λ (y : Telling × List ℕ). y.1) h)

  module _ (fs : List Exchange) (e : Exchange) (cs : List ℕ) where
    abbrev count : List Exchange → ℕ
    count es = passed (exchange_learnt a c) living (start a c) es

    abbrev known : List Exchange → Knowledge
    known es = learnt (exchange_learnt a c) (start a c) es

    -- one more exchange behind those of which the sets are told
    one_more : known_after a c fs ≡ (sets, cs) → known_after a c (fs ++ (e ∷ [])) ≡ next_told (asks a e) (length fs) (exchange_learnt a c record { alive = true; codes = cs } e)
    unfolding start
    one_more h =
        let (l, m, codes) = all_passed (count (judgeable a fs)) (length (judgeable a fs)) (length fs) (known (judgeable a fs)) cs h in
        let quiet : judgeable a fs ≡ fs = before_all (asks a) fs m in
        let all : count fs ≡ length fs =
        omega (arith, passed_bound (exchange_learnt a c) living fs (start a c), subst (λ (gs : List Exchange). length gs ≤ count gs) quiet l) in
        let same : known fs ≡ record { alive = true; codes = cs } =
        ap (λ (b : Bool). record { alive = b; codes = (known fs).codes }) (learnt_alive (exchange_learnt a c) living fs (start a c) refl all)
        ∙ ap (λ (ds : List ℕ). record { alive = true; codes = ds }) (ap (λ (gs : List Exchange). (known gs).codes) (sym quiet) ∙ codes) in
        go (asks a e) refl all same quiet
      where
        n : length (fs ++ (e ∷ [])) ≡ suc (length fs)
        n = length-append fs (e ∷ []) ∙ omega arith

        by_alive : (b : Bool) (x : Knowledge)
            → known_by (pick b (suc (length fs)) (length fs)) (suc (length fs)) (suc (length fs)) x ≡ pick b (sets, x.codes) (broken (length fs + 1), no_sets)
        by_alive true x = simp (le-ltb (suc (length fs)) (suc (length fs)) (omega arith))
        by_alive false x = simp (lt-ltb (length fs) (suc (length fs)) (omega arith))

        go : (b : Bool) → asks a e ≡ b → count fs ≡ length fs → known fs ≡ record { alive = true; codes = cs } → judgeable a fs ≡ fs
            → known_after a c (fs ++ (e ∷ [])) ≡ next_told b (length fs) (exchange_learnt a c record { alive = true; codes = cs } e)
        go true w all same quiet =
            let judged : judgeable a (fs ++ (e ∷ [])) ≡ fs = before_stopped (asks a) fs e quiet w in
            ap (λ (gs : List Exchange). known_by (count gs) (length gs) (length (fs ++ (e ∷ []))) (known gs)) judged
            ∙ (ap (λ (p : ℕ). known_by p (length fs) (length (fs ++ (e ∷ []))) (known fs)) all
            ∙ (ap (λ (i : ℕ). known_by (length fs) (length fs) i (known fs)) n
            ∙ simp (le-ltb (length fs) (length fs) (omega arith), lt-ltb (length fs) (suc (length fs)) (omega arith))))
        go false w all same quiet =
            let x : Knowledge = exchange_learnt a c record { alive = true; codes = cs } e in
            let judged : judgeable a (fs ++ (e ∷ [])) ≡ fs ++ (e ∷ []) = before_more (asks a) fs e quiet w in
            let now : known (fs ++ (e ∷ [])) ≡ x =
            learnt_more (exchange_learnt a c) living fs (start a c) e ∙ ap (λ (k : Knowledge). exchange_learnt a c k e) same in
            let passes : count (fs ++ (e ∷ [])) ≡ pick x.alive (suc (length fs)) (length fs) =
            passed_more (exchange_learnt a c) living fs (start a c) e all
            ∙ ap (λ (k : Knowledge). pick (exchange_learnt a c k e).alive (suc (length fs)) (length fs)) same in
            ap (λ (gs : List Exchange). known_by (count gs) (length gs) (length (fs ++ (e ∷ []))) (known gs)) judged
            ∙ (ap (λ (p : ℕ). known_by p (length (fs ++ (e ∷ []))) (length (fs ++ (e ∷ []))) (known (fs ++ (e ∷ [])))) passes
            ∙ (ap (λ (m : ℕ). known_by (pick x.alive (suc (length fs)) (length fs)) m m (known (fs ++ (e ∷ [])))) n
            ∙ (ap (known_by (pick x.alive (suc (length fs)) (length fs)) (suc (length fs)) (suc (length fs))) now ∙ by_alive x.alive x)))

-- ---- of a recording
pub known_next : (bs : List ℕ) (a c : ℕ) (es : List Exchange) (k : ℕ) (cs : List ℕ) → recording_of bs ≡ recorded a c es → k < length es
    → known_of bs k ≡ (sets, cs)
    → known_of bs (k + 1) ≡ next_told (asks a (get_or es k (exchange [] []))) k (exchange_learnt a c record { alive = true; codes = cs } (get_or es k (exchange [] [])))
unfolding known_of
known_next bs a c es k cs same l h =
    let n : length (take k es) ≡ k = length-take-le k es (omega arith) in
    let e : Exchange = get_or es k (exchange [] []) in
    let split : take (k + 1) es ≡ take k es ++ (e ∷ []) = ap (λ (i : ℕ). take i es) (add-one k) ∙ take-suc es k (exchange [] []) l in
    let x : Knowledge = exchange_learnt a c record { alive = true; codes = cs } e in
    ap (known_for (k + 1)) same
    ∙ (ap (known_after a c) split
    ∙ (one_more a c (take k es) e cs (sym (ap (known_for k) same) ∙ h) ∙ ap (λ (i : ℕ). next_told (asks a e) i x) n))
