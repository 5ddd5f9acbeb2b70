-- Document 01: "Valid means each field lies in its own range; no rule joins two fields."
use Rattle.std.specs.Prelude.{ℕ, Bool, true, ◌&&◌, List, [], ◌∷◌, eqb, length}
use Rattle.state.specs.declared.Record.{Record}
use Rattle.state.specs.declared.Range.{Range}
use Rattle.base.specs.Test.{between}
use Rattle.state.specs.Parameter.{parameter_count}
use Rattle.state.specs.Field.{Field, get, field_range, fields_for}

abbrev pub within : Range → ℕ → Bool
within range n = between range.low range.high n

unfoldable pub all_in : Record → List Field → Bool
all_in r [] = true
all_in r (f ∷ fs) = within (field_range f) (get f r) && all_in r fs

-- a record has as many values and as many levels as there are parameters
abbrev pub full_length : Record → Bool
full_length r = eqb (length r.values) parameter_count && eqb (length r.levels) parameter_count

unfoldable pub valid : Record → Bool
valid r = full_length r && all_in r (fields_for parameter_count)
