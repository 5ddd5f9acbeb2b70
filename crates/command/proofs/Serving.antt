-- One law for each return of the functions that decide a write and carry it out. Assumes nothing.
use Prim.Native.Nat.{ℕ, ◌≤◌}
use mathlib.Core.Bool.{Bool, true, false, not, ◌&&◌, ◌||◌, or-true, or-false}
use mathlib.Core.Path.{◌≡◌, refl, sym, ap, ◌∙◌}
use mathlib.Core.List.{List, [], ◌∷◌, ◌++◌}
use Rattle.std.specs.Prelude.{Some}
use native.Mathlib.Omega.{arith}
use lib.Dec.{eqb, ltb}
use lib.ListN.{length, get_or, set}
use lib.Seq.{set_out}
use Rattle.state.specs.declared.Record.{Record}
use Rattle.base.specs.Test.{pick, member}
use Rattle.base.proofs.Tests.{by_test}
use Rattle.state.specs.Parameter.{parameter_count}
use Rattle.state.specs.Field.{changed, value, level, get, put, phase_number, flag_number, on}
use Rattle.state.specs.Event.{flag_after}
use Rattle.state.proofs.Fields.{with_parts, with_lists, put-changed, put-value, put-level}
use Rattle.command.specs.declared.Reading.{Reading}
use Rattle.command.specs.declared.Reading.TheVariants as reading
use Rattle.command.specs.declared.Writing.{Writing}
use Rattle.command.specs.declared.Writing.TheVariants as writing
use Rattle.command.specs.declared.LevelGuard.{LevelGuard}
use Rattle.command.specs.Commands.{Reply, acknowledged, Change, applied, row_of}
use Rattle.command.specs.Answer.{Verdict, NO, accepted}
use Rattle.command.specs.Request.{refused, Guard, guards_in, guards_of, guarded, and_then, reply_of, changes_of, Answered, no, shows, served_by, served_of, reading_as, writing_as, phase_guard, keypad_guards, level_guards, alarm_guards}

-- ---- one guard behind another
module _ (r : Record) where
  then_refused : (b : Bool) (n : ℕ) (u v : Verdict) → pick b (NO n) (and_then u v) ≡ and_then (pick b (NO n) u) v
  then_refused true n u v = refl
  then_refused false n u v = refl

  pub guards_then : (xs ys : List Guard) → guarded (xs ++ ys) r ≡ and_then (guarded xs r) (guarded ys r)
  unfolding guarded
  guards_then [] ys = refl
  guards_then (g ∷ gs) ys =
      ap (pick (g.refuses (get g.field r)) (NO g.refusal)) (guards_then gs ys) ∙ then_refused (g.refuses (get g.field r)) g.refusal (guarded gs r) (guarded ys r)

  -- NO02
  pub keypad_form : (t : Bool) → guarded (keypad_guards t) r ≡ pick (t && r.keypad) (NO 2) accepted
  unfolding guarded
  keypad_form true = by_test r.keypad (λ h. simp h) (λ h. simp h)
  keypad_form false = refl

  -- NO07
  pub level_form : (l : LevelGuard) → guarded (level_guards r.access (Some l)) r ≡ pick (l.above || ltb r.access (get_or r.levels l.place 0)) (NO 7) accepted
  unfolding guarded
  level_form l = by_test l.above (λ a. simp (a, or-true)) (λ a. simp (a, or-false))

  -- a guard that is not there
  pub unguarded : guarded [] r ≡ accepted
  unfolding guarded
  unguarded = refl

  -- NO05
  pub phase_form : (ps : List ℕ) → guarded (phase_guard ps ∷ []) r ≡ pick (member (phase_number r.phase) ps) accepted (NO 5)
  unfolding guarded
  phase_form ps = go (member (phase_number r.phase) ps)
    where
      go : (b : Bool) → pick (not b) (NO 5) accepted ≡ pick b accepted (NO 5)
      go true = refl
      go false = refl

  -- NO09
  pub alarm_form : (t : Bool) → guarded (alarm_guards t) r ≡ pick (t && not (eqb r.alarms 0)) (NO 9) accepted
  unfolding guarded
  alarm_form true = refl
  alarm_form false = refl

-- ---- what PC and XC store

-- the flag: on if the value m that is held differs, else as it was
flag_stored : (b : Bool) (m n : ℕ) → flag_number (b || not (eqb m n)) ≡ flag_after m n (flag_number b)
flag_stored b m n = go b (eqb m n)
  where
    go : (b t : Bool) → flag_number (b || not t) ≡ pick t (flag_number b) on
    go true true = refl
    go true false = refl
    go false true = refl
    go false false = refl

module _ (i n : ℕ) (r s : Record) where
  module _ (m : ℕ) (held : m ≡ get (value i) r) where
    abbrev flag : Bool
    flag = r.changed || not (eqb m n)

    pub value-stored : s ≡ with_parts flag (set r.values i n) r.levels r → s ≡ applied (changes_of (writing_as (writing.SetValue i n))) r
    unfolding applied put row_of
    value-stored e =
        e ∙ (ap (with_lists (set r.values i n) r.levels) (put-changed flag r) ∙ (put-value i n (put changed (flag_number flag) r)
        ∙ ap (λ (k : ℕ). put (value i) n (put changed k r)) (flag_stored r.changed m n ∙ ap (λ (k : ℕ). flag_after k n (get changed r)) held)))

    pub value_beyond : length r.values ≡ parameter_count → parameter_count ≤ i → s ≡ with_parts flag r.values r.levels r
        → s ≡ applied (changes_of (writing_as (writing.SetValue i n))) r
    value_beyond l h e = value-stored (e ∙ ap (λ (vs : List ℕ). with_parts flag vs r.levels r) (sym (set_out r.values i n (omega arith))))

  pub level-stored : s ≡ with_lists r.values (set r.levels i n) r → s ≡ put (level i) n r
  level-stored e = e ∙ put-level i n r

  pub level_beyond : length r.levels ≡ parameter_count → parameter_count ≤ i → s ≡ r → s ≡ put (level i) n r
  level_beyond l h e = level-stored (e ∙ ap (λ (ls : List ℕ). with_lists r.values ls r) (sym (set_out r.levels i n (omega arith))))

-- ---- a write by its cases
pub applied_as : (q k : Writing) (r s : Record) → q ≡ k → s ≡ applied (changes_of (writing_as k)) r → s ≡ applied (changes_of (writing_as q)) r
applied_as q k r s e w = w ∙ ap (λ (x : Writing). applied (changes_of (writing_as x)) r) (sym e)

-- ---- a request served
-- a write is acknowledged
pub acknowledges : (q : Writing) → reply_of (writing_as q) ≡ acknowledged
unfolding row_of
acknowledges (writing.SetValue i n) = refl
acknowledges (writing.SetLevel i n) = refl
acknowledges (writing.SelectRecipe n) = refl
acknowledges (writing.SetBatch n) = refl
acknowledges writing.Start = refl
acknowledges writing.Stop = refl
acknowledges writing.End = refl
acknowledges writing.ClearReset = refl
acknowledges writing.ClearChanged = refl
acknowledges writing.ResetAlarms = refl

-- by the verdict on it
abbrev pub decided : Verdict → Writing → Record → Answered × Record
decided (NO n) q r = (no n, r)
decided accepted q r = (shows acknowledged, applied (changes_of (writing_as q)) r)

pub write_form : (q : Writing) (r : Record) → served_of (writing_as q) r ≡ decided (guarded (guards_of r.access (writing_as q)) r) q r
unfolding served_of
write_form q r = go (guarded (guards_of r.access (writing_as q)) r)
  where
    go : (v : Verdict) → served_by v (writing_as q) r ≡ decided v q r
    go (NO n) = refl
    go accepted = ap (λ (x : Reply). (shows x, applied (changes_of (writing_as q)) r)) (acknowledges q)

-- nothing refuses a read by the record, and it changes nothing
pub reads_only : (q : Reading) (a : ℕ) → (guards_of a (reading_as q) ≡ []) × (changes_of (reading_as q) ≡ [])
unfolding guards_in row_of
reads_only reading.Status a = (refl, refl)
reads_only reading.Codes a = (refl, refl)
reads_only reading.Number a = (refl, refl)
reads_only reading.Recipe a = (refl, refl)
reads_only reading.Composition a = (refl, refl)
reads_only reading.Raw a = (refl, refl)
reads_only (reading.Value i) a = (refl, refl)
reads_only (reading.Level i) a = (refl, refl)
reads_only reading.Alarms a = (refl, refl)

pub reading_served : (q : Reading) (r : Record) → ◌≡◌ {A = Answered × Record} (shows (reply_of (reading_as q)), r) (served_of (reading_as q) r)
unfolding served_of guarded applied
reading_served q r =
    let (unguarded, unchanging) = reads_only q r.access in
    sym (ap (λ (gs : List Guard). served_by (guarded gs r) (reading_as q) r) unguarded ∙ ap (λ (cs : List Change). (shows (reply_of (reading_as q)), applied cs r)) unchanging)

-- a request that is refused whatever the record
pub refusal_served : (n : ℕ) (r : Record) → served_of (refused n) r ≡ (no n, r)
unfolding served_of
refusal_served n r = refl

pub ruleset storing = (value-stored, value_beyond, level-stored, level_beyond)
