-- What follows from the statement of demand 3: what agrees agrees up to any place, exactly one answer is right, and what the reply
-- buffers hold does not matter. Assumes nothing.
use Prim.Native.Nat.{ℕ, zero, suc, ◌-◌, ◌≤◌, ◌<◌}
use mathlib.Core.Bool.{Bool}
use mathlib.Core.Path.{◌≡◌, sym, ap, subst, ◌∙◌}
use mathlib.Core.List.{List, [], ◌∷◌}
use mathlib.Core.Logic.{⊎_elim}
use native.Mathlib.Omega.{arith}
use lib.Dec.{leb}
use lib.ListN.{length, take, replicate}
use lib.Seq.{take-take}
use Rattle.base.proofs.Tests.{below_or_not}
use Rattle.state.specs.declared.Record.{Record}
use Rattle.frame.specs.declared.Kind.TheVariants.{Minicomputer}
use Rattle.controller.specs.Call.{OutcomeOf}
use Rattle.controller.proofs.Buffers.{Alike, calls_alike}
use Rattle.banked.specs.declared.Banked.{Banked}
use Rattle.banked.proofs.Theorems.{banked_alike}
use Rattle.recording.specs.Form.{Exchange, Recording, J, recorded, recording_of}
use Rattle.recording.specs.Replay.{Answer, fits, refuted, not_judged, AllAgree, SomeAgrees, before_asked, Right}
use Rattle.recording.specs.Statement.{AgreesIn, called, Agrees, next, Start, asks, Judgement, refused, judged, RightOf, Demand3}
use Rattle.recording.specs.Alone as alone
use Rattle.recording.proofs.Asked.{before_first}

-- ---- over any state, exchange and step
module _ {S E : Type 0} (step : S → E → S) (Agree : S → E → Type 0) where
  all_prefix : (s : S) (es : List E) (n : ℕ) → AllAgree step Agree s es → AllAgree step Agree s (take n es)
  all_prefix s es zero h = tt
  all_prefix s [] (suc n) h = tt
  all_prefix s (e ∷ es) (suc n) h = (h.0, all_prefix (step s e) es n h.1)

  module _ (Start : S → Type 0) where
    -- a prefix of what agrees agrees
    pub prefix : (es : List E) → SomeAgrees step Agree Start es → (n : ℕ) → SomeAgrees step Agree Start (take n es)
    prefix es h n = (h.0, h.1, all_prefix h.0 es n h.2)

    pub shorter : (es : List E) (m n : ℕ) → m ≤ n → SomeAgrees step Agree Start (take n es) → SomeAgrees step Agree Start (take m es)
    shorter es m n l h = subst (SomeAgrees step Agree Start) (take-take m n es l) (prefix (take n es) h m)

    module _ (asks : E → Bool) where
      abbrev RightOne : List E → Answer → Type 0
      RightOne es x = Right asks (SomeAgrees step Agree Start) es x

      -- no place of refutation is before another
      first-place : (es : List E) (i j n m : ℕ) → RightOne es (refuted i n) → RightOne es (refuted j m) → j ≤ i
      first-place es i j n m r q =
          ⊎_elim (λ (l : i < j). absurd (r.4 (shorter es i (j - 1) (omega arith) q.3))) (λ (l : j ≤ i). l) (below_or_not i j)

      -- one that is not judged to its end has a request that is asked so
      never_both : (es : List E) (i n m : ℕ) → RightOne es (fits n) → RightOne es (not_judged i m) → ⊥
      never_both es i n m r q = let k = ap length r.1 in let place = q.1 in let inside = q.2 in let size = q.0 in omega arith

      before_refuted : (es : List E) (i j n m : ℕ) → RightOne es (refuted i n) → RightOne es (not_judged j m) → ⊥
      before_refuted es i j n m r q =
          r.4 (subst (SomeAgrees step Agree Start) (before_first asks es i r.2) (prefix (before_asked asks es) q.3 i))

      -- exactly one answer is right
      pub one_answer : (es : List E) (a b : Answer) → RightOne es a → RightOne es b → a ≡ b
      one_answer es (fits n) (fits m) r q = ap fits (r.0 ∙ sym q.0)
      one_answer es (fits n) (refuted j m) r q = absurd (q.4 (prefix es r.2 j))
      one_answer es (fits n) (not_judged j m) r q = absurd (never_both es j n m r q)
      one_answer es (refuted i n) (fits m) r q = absurd (r.4 (prefix es q.2 i))
      one_answer es (refuted i n) (refuted j m) r q =
          let x : j ≤ i = first-place es i j n m r q in
          let y : i ≤ j = first-place es j i m n q r in
          let e : i ≡ j = omega arith in
          let f : n ≡ m = r.0 ∙ sym q.0 in
          cc
      one_answer es (refuted i n) (not_judged j m) r q = absurd (before_refuted es i j n m r q)
      one_answer es (not_judged i n) (fits m) r q = absurd (never_both es i m n q r)
      one_answer es (not_judged i n) (refuted j m) r q = absurd (before_refuted es j i m n q r)
      one_answer es (not_judged i n) (not_judged j m) r q =
          let e : i ≡ j = r.1 ∙ sym q.1 in
          let f : n ≡ m = r.0 ∙ sym q.0 in
          cc

-- ---- at the statement
pub one_judgement : (bs : List ℕ) (i j : Judgement) → Demand3 bs i → Demand3 bs j → i ≡ j
one_judgement bs = one (recording_of bs)
  where
    one : (x : Recording) (i j : Judgement) → RightOf x i → RightOf x j → i ≡ j
    one (J n) (refused m) (refused k) p q = ap refused (p ∙ sym q)
    one (J n) (refused m) (judged b) p q = absurd q
    one (J n) (judged a) j p q = absurd p
    one (recorded a c es) (refused m) j p q = absurd p
    one (recorded a c es) (judged x) (refused m) p q = absurd q
    one (recorded a c es) (judged x) (judged y) p q = ap judged (one_answer (next called) (Agrees called) (Start a c) (asks a) es x y p q)

-- ---- what a reply buffer held before does not matter, to a controller whose outcomes are alike with any two of 64 bytes
module _ {S : Type 0} (call : S → List ℕ → List ℕ → OutcomeOf S)
    (alike : (s : S) (q o o' : List ℕ) → leb 64 (length o) ≡ leb 64 (length o') → Alike (call s q o) (call s q o')) where
  pub buffer_free : (s : S) (e : Exchange) (o o' : List ℕ) → length o ≡ 64 → length o' ≡ 64 → AgreesIn call s e o → AgreesIn call s e o'
  buffer_free s e o o' l l' h =
      let a : Alike (call s e.request o) (call s e.request o') = alike s e.request o o' (ap (leb 64) (l ∙ sym l')) in
      (sym a.same_length ∙ h.0, sym a.same_bytes ∙ h.1)

  pub next_free : (s : S) (e : Exchange) (o : List ℕ) → length o ≡ 64 → (call s e.request o).after ≡ next call s e
  next_free s e o l = (alike s e.request o (replicate 64 0) (ap (leb 64) l)).same_record

-- so with the statement's: one buffer is as good as any, for the agreement and for what is held next
pub one_buffer : (b : Banked) (e : Exchange) (o : List ℕ) → length o ≡ 64
    → (AgreesIn called b e o → Agrees called b e) × ((called b e.request o).after ≡ next called b e)
one_buffer b e o l = (
  λ h o' l'. buffer_free called (banked_alike Minicomputer) b e o o' l l' h,
  next_free called (banked_alike Minicomputer) b e o l,
)

-- and with document 01's alone
pub one_buffer-alone : (r : Record) (e : Exchange) (o : List ℕ) → length o ≡ 64 → alone.AgreesIn r e o → alone.Agrees r e
one_buffer-alone r e o l h o' l' = buffer_free alone.call (calls_alike Minicomputer) r e o o' l l' h
