-- The record of the low ends, as the code fills it. Assumes nothing.
use Prim.Native.Nat.{ℕ, ◌<◌}
use mathlib.Core.Path.{◌≡◌, sym, ap, ◌∙◌}
use mathlib.Core.List.{List}
use native.Mathlib.Omega.{arith}
use lib.ListN.{length, get_or}
use lib.Seq.{ext_get_or}
use Rattle.state.specs.Parameter.{parameter_count, range_at}
use Rattle.state.specs.Field.{Field, value, field_range, record_from}
use Rattle.state.proofs.Fields.{with_lists}
use Rattle.state.proofs.Whole.{listed-length, get_from, low_within}
use Rattle.stored.specs.Form.{low_record}

-- the values of the low record are the low ends
low_at : (i : ℕ) → i < parameter_count → get_or low_record.values i 0 ≡ (range_at i).low
unfolding low_record
low_at i h = get_from (λ (f : Field). (field_range f).low) low_within (value i) (omega arith)

low_length : length low_record.values ≡ parameter_count
unfolding low_record record_from
low_length = listed-length (λ (i : ℕ). (range_at i).low) parameter_count

pub low_is : (vs : List ℕ) → length vs ≡ parameter_count → ((i : ℕ) → i < parameter_count → get_or vs i 0 ≡ (range_at i).low)
    → with_lists vs low_record.levels low_record ≡ low_record
low_is vs l h =
    ap (λ (x : List ℕ). with_lists x low_record.levels low_record)
    (ext_get_or 0 vs low_record.values (l ∙ sym low_length) (λ i q. h i (omega arith) ∙ sym (low_at i (omega arith))))
