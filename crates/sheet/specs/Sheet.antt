-- Document 02, L8: the printed totals.
use Rattle.std.specs.Prelude.{ℕ, suc, ◌+◌, ◌*◌, ◌/◌, List, [], ◌∷◌, ◌++◌, eqb}
use Rattle.base.specs.Test.{pick}
use Rattle.state.specs.Parameter.{recipes}
use Rattle.text.specs.Word.{space, newline, digits, decimal, value_of}

abbrev pub point : ℕ
point = 0x2e

-- "as units with four exact decimals": a sum is in ten-thousandths, of which a unit has so many
abbrev pub unit : ℕ
unit = 10000

unfoldable pub units_text : ℕ → List ℕ
units_text s = decimal (s / unit) ++ (point ∷ digits 4 s)

-- "recipe in two digits, number of batches, sum"
unfoldable pub label_text : ℕ → ℕ → List ℕ
label_text r n = digits 2 r ++ (space ∷ (decimal n ++ (space ∷ [])))

unfoldable pub line_text : ℕ → ℕ → ℕ → List ℕ
line_text r n s = label_text r n ++ (units_text s ++ newline)

-- a line if the recipe "occurs"
unfoldable pub recipe_text : ℕ → ℕ → ℕ → List ℕ
recipe_text r n s = pick (eqb n 0) [] (line_text r n s)

-- "a line per recipe that occurs, rising", from recipe r on
unfoldable pub lines_from : ℕ → List ℕ → List ℕ → List ℕ
lines_from r [] ss = []
lines_from r (n ∷ ns) [] = []
lines_from r (n ∷ ns) (s ∷ ss) = recipe_text r n s ++ lines_from (suc r) ns ss

unfoldable pub sheet_text : List ℕ → List ℕ → List ℕ
sheet_text ns ss = lines_from 1 ns ss

-- ---- a printed sum read back: the units before the point, and the decimals behind it
unfoldable pub before_point : List ℕ → List ℕ
before_point [] = []
before_point (x ∷ xs) = pick (eqb x point) [] (x ∷ before_point xs)

unfoldable pub behind_point : List ℕ → List ℕ
behind_point [] = []
behind_point (x ∷ xs) = pick (eqb x point) xs (behind_point xs)

unfoldable pub units_read : List ℕ → ℕ
units_read t = value_of (before_point t) * unit + value_of (behind_point t)

-- ---- room for any number of 20 digits with a point and four decimals; for any label; for any line, which H1's 64 bytes are; and for all
-- lines together
abbrev pub units_room : ℕ
units_room = 20 + 1 + 4

abbrev pub label_room : ℕ
label_room = 2 + 1 + 20 + 1

abbrev pub line_room : ℕ
line_room = 64

abbrev pub room : ℕ
room = line_room * recipes
