-- What the entries of request L8 answer and leave, in the words of include/khuyapesh.h.
use Rattle.std.specs.Prelude.{ℕ, ◌+◌, Bool, List, eqb, leb, length}
use Rattle.base.specs.Test.{unless}
use Rattle.text.specs.Written.{written_first}
use Rattle.totalling.specs.Totals.{totals_of, room_for, laid_in}
use Rattle.sheet.specs.Sheet.{units_text, line_room, room}
use Rattle.week.specs.Week.{week_of, week_text}
use Rattle.exports.specs.Bytes.{bank_answer}

-- "one of these classes plus the number": KHUYAPESH_TOTALS, "W1 unequal lengths, W2 over KHUYAPESH_TOTALS_BATCHES, W3 .. out of range"
abbrev pub totals_answer : ℕ → ℕ
totals_answer n = unless (eqb n 0) (800 + n) 0

-- "before all of these, H1", with what is lent as it is kept then; with room the answer and what is left
abbrev pub unless_short : {A : Type 0} → Bool → A → ℕ × A → ℕ × A
unless_short room kept done = unless room (401, kept) done

-- ---- khuyapesh_totals and khuyapesh_bank_totals: the answer, the sums and the counts
-- "what stands behind the first KHUYAPESH_RECIPES of either stays"
abbrev pub handed_out : ℕ → List ℕ → List ℕ → List ℕ → List ℕ → ℕ × (List ℕ × List ℕ)
handed_out n ss cs so co = unless_short (room_for so co) (so, co) (n, (laid_in ss cs so co).1)

unfoldable pub totals_numbers : List ℕ → List ℕ → List ℕ → List ℕ → List ℕ → ℕ × (List ℕ × List ℕ)
totals_numbers vs fs rs so co = handed_out (totals_answer (totals_of vs fs rs).refused) (totals_of vs fs rs).sums (totals_of vs fs rs).counts so co

-- "sums and counts as khuyapesh_totals gives them; or K7, and then they are all 0"
unfoldable pub bank_totals_numbers : List ℕ → List ℕ → List ℕ → ℕ × (List ℕ × List ℕ)
bank_totals_numbers b so co = handed_out (bank_answer (week_of b).0) (week_of b).1.sums (week_of b).1.counts so co

-- ---- khuyapesh_units: the answer and the buffer
unfoldable pub units_bytes : ℕ → List ℕ → ℕ × List ℕ
units_bytes s o = unless_short (leb line_room (length o)) o (written_first line_room (units_text s) o)

-- ---- khuyapesh_totals_text: the answer, the number of bytes and the buffer
unfoldable pub text_bytes : List ℕ → List ℕ → ℕ × (ℕ × List ℕ)
text_bytes b o = unless_short (leb room (length o)) (0, o) (bank_answer (week_of b).0, written_first room (week_text b) o)
