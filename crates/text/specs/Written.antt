-- Bytes written to a place of a buffer.
use Rattle.std.specs.Prelude.{ℕ, ◌+◌, List, leb, length}
use Rattle.base.specs.Test.{unless}
use Rattle.base.specs.Lists.{over, over_at}

-- the place behind the bytes, and the buffer with them; where they do not fit, the place itself, and the buffer as it was
unfoldable pub written_at : ℕ → List ℕ → List ℕ → ℕ × List ℕ
written_at at xs o = unless (leb (at + length xs) (length o)) (at, o) (at + length xs, over_at at xs o)

-- the length of a text, and the text over the start of a buffer, the rest of which stays; nothing, where the buffer is under the room for any such text
unfoldable pub written_first : ℕ → List ℕ → List ℕ → ℕ × List ℕ
written_first room t o = unless (leb room (length o)) (0, o) (length t, over t o)
