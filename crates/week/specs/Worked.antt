-- What is printed of stored banks, computed on the definition that the promise of `write` cites. Assumes nothing.
use Rattle.std.specs.Prelude.{ℕ, ◌≡◌, refl, List, [], ◌∷◌, ◌++◌, map}
use Prim.Native.String.{String}
use Rattle.base.specs.Text.{text}
use Rattle.text.specs.Word.{newline, digits, width_in, decimal}
use Rattle.stored.specs.Form.{number_from, unpack}
use Rattle.bank.specs.Bank.{all_within, batch_valid, all_valid}
use Rattle.storedbank.specs.StoredBank.{batches_read, with_room, read_of}
use Rattle.totalling.specs.Totals.{entries, sum_over, table, in_range, all_in_range, totals_of}
use Rattle.sheet.specs.Sheet.{units_text, label_text, line_text, recipe_text, lines_from, sheet_text}
use Rattle.week.specs.Week.{batch_totals, week_of, printed, week_text}

pub record Example : Type 0 where
  pub bytes : List ℕ
  pub text : List ℕ

abbrev line : String → List ℕ
line s = text s ++ newline

-- "one batch of recipe 3, factor 10150, raw 500"; with one of recipe 1 behind it; an empty bank; no bytes, another version, a cut batch
-- and recipe 9
abbrev pub examples : List Example
examples =
    record {
      bytes = 0x01 ∷ 0x00 ∷ 0x0f ∷ 0x27 ∷ 0x0f ∷ 0x03 ∷ 0x27 ∷ 0xa6 ∷ 0x00 ∷ 0x00 ∷ 0x01 ∷ 0xf4 ∷ 0x00 ∷ 0x01 ∷ 0x90 ∷ [];
      text = line "03 1 507.5000";
    }
    ∷ record {
      bytes = 0x01 ∷ 0x00 ∷ 0x1b ∷ 0x27 ∷ 0x0f ∷ 0x03 ∷ 0x27 ∷ 0xa6 ∷ 0x00 ∷ 0x00 ∷ 0x01 ∷ 0xf4 ∷ 0x00 ∷ 0x01 ∷ 0x90
          ∷ 0x00 ∷ 0x01 ∷ 0x01 ∷ 0x1f ∷ 0x40 ∷ 0x00 ∷ 0x00 ∷ 0x00 ∷ 0x03 ∷ 0x00 ∷ 0x00 ∷ 0x01 ∷ [];
      text = line "01 1 2.4000" ++ line "03 1 507.5000";
    }
    ∷ record { bytes = 0x01 ∷ 0x00 ∷ 0x03 ∷ []; text = [] }
    ∷ record { bytes = []; text = line "refused K7" }
    ∷ record { bytes = 0x02 ∷ 0x00 ∷ 0x03 ∷ []; text = line "refused K7" }
    ∷ record { bytes = 0x01 ∷ 0x00 ∷ 0x05 ∷ 0x27 ∷ 0x0f ∷ []; text = line "refused K7" }
    ∷ record {
      bytes = 0x01 ∷ 0x00 ∷ 0x0f ∷ 0x27 ∷ 0x0f ∷ 0x09 ∷ 0x27 ∷ 0xa6 ∷ 0x00 ∷ 0x00 ∷ 0x01 ∷ 0xf4 ∷ 0x00 ∷ 0x01 ∷ 0x90 ∷ [];
      text = line "refused K7";
    }
    ∷ []

pub worked : map (λ e. week_text e.bytes) examples ≡ map (λ e. e.text) examples
unfolding week_of printed read_of all_valid batch_valid all_within with_room batches_read unpack number_from batch_totals totals_of entries all_in_range in_range table sum_over sheet_text lines_from recipe_text line_text label_text units_text decimal width_in digits
worked = refl
