-- The records that knowledge allows, and knowledge as the judge's steps keep it.
use Prim.Native.Nat.{ℕ}
use mathlib.Core.Bool.{true}
use mathlib.Core.Path.{◌≡◌}
use lib.ListN.{length}
use Rattle.state.specs.declared.Record.{Record}
use Rattle.state.specs.Parameter.{parameter_count}
use Rattle.state.specs.Field.{Field, address, access, value, get, position, Held}
use Rattle.state.specs.Valid.{valid}
use Rattle.knowledge.specs.declared.Knowledge.{Knowledge}
use Rattle.knowledge.specs.Sets.{has}
use Rattle.knowledge.specs.Knowledge.{code_at}

-- a record that is possible by what is known
pub record Possible (k : Knowledge) (r : Record) : Type 0 where
  pub living : k.alive ≡ true
  pub sound : valid r ≡ true
  pub each : (f : Field) → Held f → has f (code_at (position f) k) (get f r) ≡ true

-- the address and the access are known, and while a record is possible no field's set is empty
pub record Kept (a c : ℕ) (k : Knowledge) : Type 0 where
  pub full : length k.codes ≡ position (value parameter_count)
  pub own_address : code_at (position address) k ≡ a
  pub own_access : code_at (position access) k ≡ c
  pub some : k.alive ≡ true → (f : Field) → Held f → (n : ℕ) × (has f (code_at (position f) k) n ≡ true)
