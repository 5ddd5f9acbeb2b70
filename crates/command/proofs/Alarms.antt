-- EA's characters beside document 000's table, "Response to Enquire Alarms – Systems": each alarm alone shows in its own character with
-- its own value, by computation over the nineteen; and A5's 8 is never set. Assumes nothing.
use Prim.Native.Nat.{ℕ, ◌≤◌}
use Prim.Native.String.{String}
use mathlib.Core.Path.{◌≡◌, refl}
use mathlib.Core.List.{List, [], ◌∷◌, map}
use native.Mathlib.Omega.{arith}
use lib.ListN.{get_or}
use Rattle.base.specs.Text.{text}
use Rattle.text.specs.Word.{equal}
use Rattle.state.specs.Alarm.{alarm_names, number_from, alarm_number, weight_of, character_values}
use Rattle.command.specs.Status.{alarm_characters}

-- A1 to A5, each from its 8 down
abbrev pub alone : List String
alone =
    "80000" ∷ "40000" ∷ "20000" ∷ "10000"
    ∷ "08000" ∷ "04000" ∷ "02000" ∷ "01000"
    ∷ "00800" ∷ "00400" ∷ "00200" ∷ "00100"
    ∷ "00080" ∷ "00040" ∷ "00020" ∷ "00010"
    ∷ "00004" ∷ "00002" ∷ "00001" ∷ []

pub each_shown : map (λ (a : String). alarm_characters (weight_of (alarm_number a))) alarm_names ≡ map text alone
unfolding number_from equal alarm_characters character_values
each_shown = refl

-- "the reserved bit always 0"
pub reserved_clear : (n : ℕ) → get_or (alarm_characters n) 4 0 ≤ 0x37
unfolding alarm_characters character_values
reserved_clear n = omega arith
