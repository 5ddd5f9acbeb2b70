-- Lines of totals, computed on the definition that the promises cite. Assumes nothing.
use Rattle.std.specs.Prelude.{ℕ, ◌≡◌, refl, List, [], ◌∷◌, ◌++◌, map}
use Prim.Native.String.{String}
use Rattle.base.specs.Text.{text}
use Rattle.text.specs.Word.{newline, digits, width_in, decimal}
use Rattle.sheet.specs.Sheet.{units_text, label_text, line_text, recipe_text, lines_from, sheet_text}

pub record Example : Type 0 where
  pub recipe : ℕ
  pub count : ℕ
  pub sum : ℕ
  pub line : String

abbrev example : ℕ → ℕ → ℕ → String → Example
example r n s t = record { recipe = r; count = n; sum = s; line = t }

-- "one batch of recipe 3, factor 10150, raw 500 gives `03 1 507.5000`"; a sum under a unit, none, and the highest of 1,000 batches
abbrev pub table : List Example
table =
    example 3 1 5075000 "03 1 507.5000"
    ∷ example 8 100 42 "08 100 0.0042"
    ∷ example 1 1 0 "01 1 0.0000"
    ∷ example 2 1000 1199999988000000 "02 1000 119999998800.0000"
    ∷ []

pub worked : map (λ e. line_text e.recipe e.count e.sum) table ≡ map (λ e. text e.line ++ newline) table
unfolding line_text label_text units_text decimal width_in digits
worked = refl

-- recipes that do not occur have no line
pub rising : sheet_text (0 ∷ 2 ∷ 0 ∷ 1 ∷ 0 ∷ 0 ∷ 0 ∷ 0 ∷ []) (0 ∷ 10000 ∷ 0 ∷ 0 ∷ 0 ∷ 0 ∷ 0 ∷ 0 ∷ [])
    ≡ (text "02 2 1.0000" ++ newline) ++ (text "04 1 0.0000" ++ newline)
unfolding sheet_text lines_from recipe_text line_text label_text units_text decimal width_in digits
rising = refl
