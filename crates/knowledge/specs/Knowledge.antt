-- What is known of a record: for each field the code of a set, at the field's position. Dead: no record is possible.
use Rattle.std.specs.Prelude.{ℕ, Bool, true, false, ◌&&◌, List, map, eqb, leb, ltb, length, get_or, set, take, replicate}
use Rattle.std.specs.Int.Bits.{bit_and}
use Rattle.base.specs.Test.{pick, unless}
use Rattle.base.specs.Lists.{over}
use Rattle.state.specs.declared.Range.{Range}
use Rattle.state.specs.Parameter.{parameter_count}
use Rattle.state.specs.Field.{Field, address, access, number, alarms, position, field_at, field_count, field_range, fields_for}
use Rattle.state.specs.Valid.{within}
use Rattle.knowledge.specs.declared.Knowledge.{Knowledge}
use Rattle.knowledge.specs.Sets.{any, alone, mask_in, only, has, next_code, reset_code, flag_code}

-- the code at a position, 0 beyond the last
unfoldable pub code_at : ℕ → Knowledge → ℕ
code_at p k = get_or k.codes p 0

-- ---- the sets: whether a field's has a number
unfoldable pub sets_of : Knowledge → Field → ℕ → Bool
sets_of k f n = has f (code_at (position f) k) n

-- the same by the field's position and the code; there is no field beyond the last
unfoldable pub may_hold : ℕ → ℕ → ℕ → Bool
may_hold p c n = ltb p field_count && has (field_at p) c n

-- no record is possible
abbrev pub dead : Knowledge → Knowledge
dead k = record { alive = false; codes = k.codes }

-- another code at a position
abbrev pub recoded : ℕ → ℕ → Knowledge → Knowledge
recoded p c k = record { alive = k.alive; codes = set k.codes p c }

-- ---- cuts: what is left of a set
unfoldable pub restricted : ℕ → ℕ → Knowledge → Knowledge
restricted p m k = pick (eqb (bit_and (code_at p k) m) 0) (dead k) (recoded p (bit_and (code_at p k) m) k)

unfoldable pub told : ℕ → Range → ℕ → Knowledge → Knowledge
told p range n k = pick (within range n && only (code_at p k) n) (recoded p n k) (dead k)

-- the field passes a test (several, alarmed), the field holds n (single), the field holds n (any kind)
abbrev pub passing : Field → (ℕ → Bool) → Knowledge → Knowledge
passing f p k = restricted (position f) (mask_in f p) k

abbrev pub holding : Field → ℕ → Knowledge → Knowledge
holding f n k = told (position f) (field_range f) n k

unfoldable pub settled : Field → ℕ → Knowledge → Knowledge
settled f n k = pick (has f (code_at (position f) k) n) (recoded (position f) (alone f n) k) (dead k)

-- ---- moves: what a set becomes, by its code
abbrev pub stepped : Field → (ℕ → ℕ) → Knowledge → Knowledge
stepped f code k = recoded (position f) (code (code_at (position f) k)) k

unfoldable pub becoming : Field → ℕ → Knowledge → Knowledge
becoming f n k = stepped f (λ c. alone f n) k

-- the batch number goes on by one
unfoldable pub advanced : Knowledge → Knowledge
advanced k = stepped number (λ c. next_code c) k

-- AR: the lasting alarms stay
unfoldable pub alarms_left : Knowledge → Knowledge
alarms_left k = stepped alarms (λ c. reset_code c) k

-- PC: the number at p becomes n, and the flag at q is switched on if that differs from the number held
unfoldable pub replacing : ℕ → ℕ → ℕ → Knowledge → Knowledge
replacing p n q k = recoded p n (recoded q (flag_code n (code_at p k) (code_at q k)) k)

-- ---- nothing is known
abbrev pub unknown : Knowledge
unknown = record { alive = true; codes = map any (fields_for parameter_count) }

-- at the start the address and the access are known, and nothing else
unfoldable pub start : ℕ → ℕ → Knowledge
start a c = recoded (position access) c (recoded (position address) a unknown)

-- ---- codes in lent memory: one for each field at the start, and the rest stays
abbrev pub room_for : List ℕ → Bool
room_for o = leb field_count (length o)

-- what is known by them, if there are enough; else no record is possible
unfoldable pub lent_in : List ℕ → Knowledge
lent_in o = unless (room_for o) (record { alive = false; codes = replicate field_count 0 }) (record { alive = true; codes = take field_count o })

unfoldable pub laid_in : List ℕ → List ℕ → Bool × List ℕ
laid_in cs o = unless (room_for o) (false, o) (true, over cs o)
