-- Laws for the search of a reason: one for each return of `left_alone`, `first_alone`, `by_reply` and `find`. Assumes nothing.
use Prim.Native.Nat.{ℕ, suc, ◌+◌, ◌-◌, ◌≤◌, ◌<◌}
use mathlib.Core.Bool.{Bool, true, false, not}
use mathlib.Core.Path.{◌≡◌, refl, sym, ap, ◌∙◌}
use mathlib.Core.List.{List}
use native.Mathlib.Omega.{arith}
use borrow.Author.Tests.{not-true, not-false}
use Rattle.base.specs.Test.{pick}
use Rattle.state.specs.Field.{field_count}
use Rattle.knowledge.specs.declared.Knowledge.{Knowledge}
use Rattle.knowledge.specs.Knowledge.{code_at, recoded, start}
use Rattle.recording.specs.Form.{Exchange}
use Rattle.hearing.specs.declared.Said.{Said}
use Rattle.hearing.specs.declared.Said.TheVariants as said
use Rattle.hearing.specs.Hearing.{exchange, said_of, exchange_heard, exchange_taught}
use Rattle.hearing.proofs.Exact.{taught_before}
use Rattle.reason.specs.declared.Reason.{Reason}
use Rattle.reason.specs.declared.Reason.TheVariants as reason
use Rattle.reason.specs.Reason.{first_from, needed, alone, first_alone, reply_reason, reason_by, reason_of}

module _ (a c : ℕ) (e : Exchange) (k : Knowledge) where
  -- ---- what the reply leaves
  pub left_of : (x y r : Knowledge) (i d : ℕ) → x ≡ start a c → d ≡ code_at i k → y ≡ recoded i d x → r ≡ exchange_taught false a c y e → r ≡ alone a c e k i
  left_of x y r i d s f g h =
      h ∙ (taught_before a c y e
      ∙ ap (λ (z : Knowledge). exchange_heard a c z e) (g ∙ (ap (λ (j : ℕ). recoded i j x) f ∙ ap (recoded i (code_at i k)) s)))

  -- ---- a reply that can be read
  module _ (x r : Knowledge) (s : x ≡ start a c) (h : r ≡ exchange_taught false a c x e) where
    needed_so : r ≡ needed a c e
    needed_so = h ∙ (taught_before a c x e ∙ ap (λ (z : Knowledge). exchange_heard a c z e) s)

    pub reply-impossible : not r.alive ≡ true → reason.Impossible ≡ reply_reason a c e k
    unfolding reply_reason
    reply-impossible n = let z : (needed a c e).alive ≡ false = ap (λ (y : Knowledge). y.alive) (sym needed_so) ∙ not-true r.alive n in simp z

    pub reply-field : (i d f : ℕ) → not r.alive ≡ false → i ≡ first_alone a c e k → d ≡ code_at i k → f ≡ code_at i r → reason.Field i d f ≡ reply_reason a c e k
    unfolding reply_reason
    reply-field i d f n p u v =
        let z : (needed a c e).alive ≡ true = ap (λ (y : Knowledge). y.alive) (sym needed_so) ∙ not-false r.alive n in
        let y : f ≡ code_at i (needed a c e) = v ∙ ap (code_at i) needed_so in
        ap (λ (j : ℕ). reason.Field i j f) u ∙ (ap (reason.Field i (code_at i k)) y
        ∙ (ap (λ (j : ℕ). reason.Field j (code_at j k) (code_at j (needed a c e))) p ∙ sym (simp z)))

  -- ---- the search: none before i
  abbrev test : ℕ → Bool
  test i = not (alone a c e k i).alive

  pub record Searched (i : ℕ) : Type 0 where
    pub inside : i ≤ field_count
    pub rest : first_alone a c e k ≡ first_from test (field_count - i) i

  pub searched-none : Searched 0
  unfolding first_alone
  searched-none = record { inside = omega arith; rest = refl }

  module _ (i : ℕ) (s : Searched i) (l : i < field_count) (r : Knowledge) (h : r ≡ alone a c e k i) where
    one_step : (x : Bool) → not r.alive ≡ x → first_alone a c e k ≡ pick x i (first_from test (field_count - (i + 1)) (i + 1))
    unfolding first_from
    one_step x n =
        let l : field_count - i ≡ suc (field_count - (i + 1)) = omega arith in
        let z : test i ≡ x = ap (λ (y : Knowledge). not y.alive) (sym h) ∙ n in
        s.rest ∙ (ap (λ (j : ℕ). first_from test j i) l ∙ ap (λ (y : Bool). pick y i (first_from test (field_count - (i + 1)) (i + 1))) z)

    pub searched_here : not r.alive ≡ true → i ≡ first_alone a c e k
    searched_here n = sym (one_step true n)

    pub searched_on : not r.alive ≡ false → Searched (i + 1)
    searched_on n = record { inside = omega arith; rest = one_step false n }

  pub searched_all : (i : ℕ) → Searched i → field_count ≤ i → field_count ≡ first_alone a c e k
  unfolding first_from
  searched_all i s l =
      let n : field_count - i ≡ 0 = omega arith in
      let z : i ≡ field_count = omega (arith, s.inside) in
      sym (s.rest ∙ (ap (λ (j : ℕ). first_from test j i) n ∙ z))

pub ruleset replying = (reply-impossible, reply-field)

pub ruleset searching = (searched-none, searched_here, searched_on, searched_all)

-- ---- the exchange
module _ (a c : ℕ) (q reply : List ℕ) (k : Knowledge) (x : Said) (e : x ≡ said_of a (exchange q reply)) where
  by_said : (y : Said) → x ≡ y → reason_of a c k (exchange q reply) ≡ reason_by a c k (exchange q reply) y
  unfolding reason_of
  by_said y z = ap (reason_by a c k (exchange q reply)) (sym e ∙ z)

  pub found_quiet : x ≡ said.Quiet → reason.Impossible ≡ reason_of a c k (exchange q reply)
  found_quiet z = sym (by_said said.Quiet z)

  pub found_answered : (n : ℕ) → x ≡ said.Answered n → reason.Answered n ≡ reason_of a c k (exchange q reply)
  found_answered n z = sym (by_said (said.Answered n) z)

  pub found_unanswered : x ≡ said.Unanswered → reason.Unanswered ≡ reason_of a c k (exchange q reply)
  found_unanswered z = sym (by_said said.Unanswered z)

  pub found_unreadable : x ≡ said.Unreadable → reason.Impossible ≡ reason_of a c k (exchange q reply)
  found_unreadable z = sym (by_said said.Unreadable z)

  pub found_texts : (n m : ℕ) (r : Reason) → x ≡ said.Texts n m → r ≡ reply_reason a c (exchange q reply) k → r ≡ reason_of a c k (exchange q reply)
  found_texts n m r z w = w ∙ sym (by_said (said.Texts n m) z)

pub ruleset finding = (found_quiet, found_answered, found_unanswered, found_unreadable, found_texts)
