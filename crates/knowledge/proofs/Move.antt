-- Moves are exact: a record is possible after a move exactly if it comes from one that was possible before; and what is kept stays kept.
-- Each move puts into a field a number that depends on the field alone, so one law serves them. Assumes nothing.
use Prim.Native.Nat.{ℕ, ◌-◌, ◌≤◌, ◌<◌}
use mathlib.Core.Bool.{Bool, true, false}
use mathlib.Core.Path.{◌≡◌, refl, sym, ap, ◌∙◌}
use native.Mathlib.Omega.{arith}
use lib.Dec.{eqb}
use lib.ListN.{length}
use borrow.Author.Tests.{eqb-true, eqb-false, lt-ltb}
use Rattle.base.specs.Test.{pick}
use Rattle.base.proofs.Tests.{between_yes, between_low, between_high}
use Rattle.state.specs.declared.Record.{Record}
use Rattle.state.specs.Parameter.{parameter_count}
use Rattle.state.specs.Alarm.{no_alarm, all_alarms, lasting}
use Rattle.state.specs.Field.{Field, access, number, alarms, value, get, put, position, field_range, Held}
use Rattle.state.specs.Valid.{within}
use Rattle.state.specs.Event.{next_number}
use Rattle.state.proofs.Alarms.{lasting-within}
use Rattle.state.proofs.Fields.{get-put_other}
use Rattle.state.proofs.Kept.{get-put_own, next_within}
use Rattle.state.proofs.Whole.{put-over}
use Rattle.knowledge.specs.declared.Knowledge.{Knowledge}
use Rattle.knowledge.specs.Sets.{any_number, only, has, alone, next_code, reset_code}
use Rattle.knowledge.specs.Knowledge.{code_at, stepped}
use Rattle.knowledge.proofs.Possible.{Possible, Kept}
use Rattle.knowledge.proofs.Alarms.{reset_in, reset_from}
use Rattle.knowledge.proofs.Codes.{has_yes, has_within, has_set, has_only, only_has, only_self, only_same, never_any, any_has, alone_has, alone-same}
use Rattle.knowledge.proofs.Recode.{recode_own, recode_put, recode_back, recode_kept}

-- ---- a field's number w becomes `step w`, and the code of its set `code c`
pub record Stepping (f : Field) (step code : ℕ → ℕ) : Type 0 where
  pub held : Held f
  pub beyond : position access < position f
  -- what a number of the set becomes is in the set that the code becomes
  pub onward : (c w : ℕ) → has f c w ≡ true → has f (code c) (step w) ≡ true
  -- and each number there comes from one, if there is one at all
  pub back : (c m v : ℕ) → has f c v ≡ true → has f (code c) m ≡ true → (w : ℕ) × (has f c w ≡ true) × (step w ≡ m)

module _ {f : Field} {step code : ℕ → ℕ} (s : Stepping f step code) (k : Knowledge) where
  abbrev own : ℕ
  own = code_at (position f) k

  pub stepped_onward : (r : Record) → length k.codes ≡ position (value parameter_count) → Possible k r → Possible (stepped f code k) (put f (step (get f r)) r)
  stepped_onward r full t = recode_put k r f (code own) (step (get f r)) full s.held t (s.onward own (get f r) (t.each f s.held))

  pub stepped_back : {a c : ℕ} (q : Record) → Kept a c k → Possible (stepped f code k) q → (r : Record) × Possible k r × (put f (step (get f r)) r ≡ q)
  stepped_back q kept t =
      let held = s.held in
      let some = kept.some t.living f held in
      let b = s.back own (get f q) some.0 some.1 (recode_own k q f (code own) kept.full held t) in
      let before = recode_back k q f (code own) b.0 kept.full held t b.1 in
      let same : get f (put f b.0 q) ≡ b.0 = get-put_own q t.sound f b.0 held (has_within f own b.0 b.1) in
      (put f b.0 q, before, put-over q (put f b.0 q) f t.sound before.sound held (λ g n. get-put_other f g b.0 q n) _ (ap step same ∙ b.2))

  pub stepped_kept : {a c : ℕ} → Kept a c k → Kept a c (stepped f code k)
  stepped_kept kept =
      recode_kept k f (code own) kept s.held s.beyond
      (λ alive. let b = kept.some alive f s.held in (step b.0, s.onward own b.0 b.1))

-- ---- becoming n
pub become_stepping : (f : Field) (n : ℕ) → Held f → position access < position f → within (field_range f) n ≡ true → Stepping f (λ v. n) (λ c. alone f n)
become_stepping f n held beyond w =
    record { held = held; beyond = beyond; onward = λ c v h. alone_has f n w; back = λ c m v some h. (v, some, sym (alone-same f n w m held h)) }

-- ---- the batch number goes on
next_has : (c w : ℕ) → has number c w ≡ true → has number (next_code c) (next_number w) ≡ true
next_has c w h = go (eqb c any_number) refl
  where
    go : (b : Bool) → eqb c any_number ≡ b → has number (pick b any_number (next_number c)) (next_number w) ≡ true
    go true e = any_has number (next_number w) (next_within w)
    go false e =
        let same : w ≡ c = only_same c w (eqb-false c any_number e) (has_only number c w refl h) in
        only_has number (next_number c) (next_number w) refl (next_within w) (ap (λ (m : ℕ). only (next_number c) (next_number m)) same ∙ only_self (next_number c))

-- each number comes after one
before_next : (m : ℕ) → within (field_range number) m ≡ true → (w : ℕ) × (within (field_range number) w ≡ true) × (next_number w ≡ m)
before_next m h = go (eqb m (field_range number).low) refl
  where
    go : (b : Bool) → eqb m (field_range number).low ≡ b → (w : ℕ) × (within (field_range number) w ≡ true) × (next_number w ≡ m)
    go true e = ((field_range number).high, refl, sym (eqb-true _ _ e))
    go false e =
        let low = between_low (field_range number).low (field_range number).high m h in
        let high = between_high (field_range number).low (field_range number).high m h in
        let other = eqb-false m (field_range number).low e in
        (m - 1, between_yes _ _ (m - 1) (omega arith) (omega arith), simp (lt-ltb (m - 1) (field_range number).high (omega arith)) (omega arith))

next_back : (c m w : ℕ) → has number c w ≡ true → has number (next_code c) m ≡ true → (v : ℕ) × (has number c v ≡ true) × (next_number v ≡ m)
next_back c m w some h = go (eqb c any_number) refl h
  where
    go : (b : Bool) → eqb c any_number ≡ b → has number (pick b any_number (next_number c)) m ≡ true → (v : ℕ) × (has number c v ≡ true) × (next_number v ≡ m)
    go true e t =
        let b = before_next m (has_within number any_number m t) in
        (b.0, ap (λ (d : ℕ). has number d b.0) (eqb-true c any_number e) ∙ any_has number b.0 b.1, b.2)
    go false e t =
        let same : w ≡ c = only_same c w (eqb-false c any_number e) (has_only number c w refl some) in
        let new : m ≡ next_number c = only_same (next_number c) m (never_any number (next_number c) (omega arith) (next_within c)) (has_only number (next_number c) m refl t) in
        (w, some, ap next_number same ∙ sym new)

pub next_stepping : Stepping number (λ n. next_number n) (λ c. next_code c)
next_stepping =
    record { held = omega arith; beyond = omega arith; onward = λ c w h. next_has c w h; back = λ c m v some h. next_back c m v some h }

-- ---- AR

-- the lasting of the alarms in a set are in what is left of it, and each of these comes from one
reset_has : (c w : ℕ) → has alarms c w ≡ true → has alarms (reset_code c) (lasting w) ≡ true
reset_has c w h = has_yes alarms (reset_code c) (lasting w) (lasting-within w (has_within alarms c w h)) (reset_in c w (has_set alarms c w h))

reset_back : (c m v : ℕ) → has alarms c v ≡ true → has alarms (reset_code c) m ≡ true → (w : ℕ) × (has alarms c w ≡ true) × (lasting w ≡ m)
reset_back c m v some h =
    let limit : (d n : ℕ) → has alarms d n ≡ true → n ≤ all_alarms = λ d n t. between_high no_alarm all_alarms n (has_within alarms d n t) in
    let (w, l, on, e) = reset_from c m v (limit c v some) (has_set alarms c v some) (limit (reset_code c) m h) (has_set alarms (reset_code c) m h) in
    (w, has_yes alarms c w (between_yes no_alarm all_alarms w (omega arith) l) on, e)

pub reset_stepping : Stepping alarms (λ n. lasting n) (λ c. reset_code c)
reset_stepping =
    record { held = omega arith; beyond = omega arith; onward = λ c w h. reset_has c w h; back = λ c m v some h. reset_back c m v some h }
