-- What the functions that answer come to, by what was heard and by what PC decides. Assumes nothing.
use Prim.Native.Nat.{ℕ}
use mathlib.Core.Bool.{Bool}
use mathlib.Core.Path.{◌≡◌, ap, ◌∙◌}
use mathlib.Core.List.{List}
use lib.ListN.{length}
use Rattle.std.proofs.Common.{Result, Ok}
use Rattle.state.specs.declared.Record.{Record}
use Rattle.command.specs.declared.Refusal.{Refusal}
use Rattle.command.specs.declared.Writing.{Writing}
use Rattle.command.specs.Request.{Answered, effect_as, effect_of, answer_as, served_as, to_write}
use Rattle.modbus.specs.Request.{Asked, asked_of}
use Rattle.modbus.specs.Reply.{write_body, laid}
use Rattle.modbus.specs.Call.{replied, as_pc, written_of, answered_as, served_by}
use Rattle.modbus.specs.Numbers.{outcome_as}

-- a body that was laid with its check, as an outcome
pub replied_as : (x : ℕ) (y b o : List ℕ) (r : Record) → ◌≡◌ {A = ℕ × List ℕ} (x, y) (laid b o) → outcome_as (Ok x) r y ≡ replied b r o
unfolding laid
replied_as x y b o r g = ap (λ (p : ℕ × List ℕ). outcome_as (Ok p.0) r p.1) g

-- a write, as PC is served
pub written_as : (z : Result Writing Refusal) (i v x : ℕ) (r : Record) (q y o : List ℕ) → served_as (to_write z) r ≡ as_pc i v r
    → ◌≡◌ {A = ℕ × List ℕ} (x, y) (laid (write_body (answer_as (to_write z)) q) o)
    → outcome_as (Ok x) (effect_as (effect_of (to_write z)) r) y ≡ written_of i v r q o
unfolding written_of
written_as z i v x r q y o f l =
    replied_as x y (write_body (answer_as (to_write z)) q) o (effect_as (effect_of (to_write z)) r) l
    ∙ ap (λ (p : Answered × Record). replied (write_body p.0 q) p.1 o) f

-- ---- by what was heard
pub heard_as : (good : Bool) (r : Record) (q o : List ℕ) (y : Asked) → y ≡ asked_of good r.address q (length o) → answered_as y r q o ≡ served_by good r q o
unfolding served_by
heard_as good r q o y e = ap (λ (u : Asked). answered_as u r q o) e
