-- What an accepted request changes is learned exactly: the records possible afterwards are those that were possible, changed as the
-- request changes them. Each change has this property and the property composes. Assumes nothing.
use Prim.Native.Nat.{ℕ, ◌<◌}
use mathlib.Core.Bool.{true}
use mathlib.Core.Path.{◌≡◌, refl, ap, ◌∙◌}
use mathlib.Core.List.{List, [], ◌∷◌}
use native.Mathlib.Omega.{arith}
use Rattle.state.specs.declared.Record.{Record}
use Rattle.state.specs.Parameter.{parameter_count, range_at}
use Rattle.state.specs.Field.{Field, access, changed, value, position, field_range, get, put, Held}
use Rattle.state.specs.Valid.{within}
use Rattle.command.specs.Commands.{Change, becomes, next_batch, reset_alarms, new_value, after_change, applied}
use Rattle.command.proofs.Tables.{FitsRecord, Fitting}
use Rattle.knowledge.specs.declared.Knowledge.{Knowledge}
use Rattle.knowledge.specs.Knowledge.{stepped, becoming, advanced, alarms_left}
use Rattle.knowledge.proofs.Possible.{Possible, Kept}
use Rattle.knowledge.proofs.Move.{Stepping, stepped_onward, stepped_back, stepped_kept, become_stepping, next_stepping, reset_stepping}
use Rattle.knowledge.proofs.Replace.{Replacing, replace_onward, replace_back, replace_kept}
use Rattle.learning.specs.Learn.{moved_by, moved}

-- ---- a move of knowledge that follows a change of the record: what is possible afterwards is the image of what was
pub record Follows (move : Knowledge → Knowledge) (change : Record → Record) : Type 0 where
  pub onward : {a c : ℕ} (k : Knowledge) (r : Record) → Kept a c k → Possible k r → Possible (move k) (change r)
  pub back : {a c : ℕ} (k : Knowledge) (s : Record) → Kept a c k → Possible (move k) s → (r : Record) × Possible k r × (change r ≡ s)
  pub keeps : {a c : ℕ} (k : Knowledge) → Kept a c k → Kept a c (move k)

-- nothing moves
pub stays : Follows (λ k. k) (λ r. r)
stays = record { onward = λ k r kept t. t; back = λ k s kept t. (s, t, refl); keeps = λ k kept. kept }

-- one change, and then another
infixl 50 ◌then◌
◌then◌ : {first second : Knowledge → Knowledge} {one two : Record → Record} → Follows first one → Follows second two
    → Follows (λ k. second (first k)) (λ r. two (one r))
◌then◌ {first} {second} {one} {two} f g =
    record {
      onward = λ k r kept t. g.onward (first k) (one r) (f.keeps k kept) (f.onward k r kept t);
      back =
          λ k s kept t.
          let (r, u, e) = g.back (first k) s (f.keeps k kept) t in
          let (q, v, d) = f.back k r kept u in
          (q, v, ap two d ∙ e);
      keeps = λ k kept. g.keeps (first k) (f.keeps k kept);
    }

-- ---- one change: a field's number steps
step : {f : Field} {number code : ℕ → ℕ} → Stepping f number code → Follows (stepped f code) (λ r. put f (number (get f r)) r)
step s =
    record {
      onward = λ k r kept t. stepped_onward s k r kept.full t;
      back = λ k q kept t. stepped_back s k q kept t;
      keeps = λ k kept. stepped_kept s k kept;
    }

become : (f : Field) (n : ℕ) → Held f → position access < position f → within (field_range f) n ≡ true → Follows (becoming f n) (put f n)
unfolding becoming
become f n held beyond w = step (become_stepping f n held beyond w)

advance : Follows (moved_by next_batch) (after_change next_batch)
unfolding advanced
advance = step next_stepping

reset : Follows (moved_by reset_alarms) (after_change reset_alarms)
unfolding alarms_left
reset = step reset_stepping

-- the value at a place becomes n, and the flag goes by what it was
replace : (i n : ℕ) → i < parameter_count → within (range_at i) n ≡ true → Follows (moved_by (new_value i n)) (after_change (new_value i n))
replace i n l w =
    let s : Replacing (value i) n changed = record { many = refl; held = omega arith; beyond = omega arith; inside = w; few = refl; two = refl; flag_held = omega arith } in
    record {
      onward = λ k r kept t. replace_onward s k r kept.full t;
      back = λ k q kept t. replace_back s k q kept t;
      keeps = λ k kept. replace_kept s k kept;
    }

one_change : (c : Change) → FitsRecord c → Follows (moved_by c) (after_change c)
one_change (becomes f n) h = become f n h.0 h.1 h.2
one_change next_batch h = advance
one_change reset_alarms h = reset
one_change (new_value i n) h = replace i n h.0 h.1

-- ---- changes
pub follows : (cs : List Change) → Fitting cs → Follows (moved cs) (applied cs)
unfolding moved applied
follows [] h = stays
follows (c ∷ cs) h = follows cs h.1 then one_change c h.0
