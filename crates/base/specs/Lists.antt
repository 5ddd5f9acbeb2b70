-- Lists laid over lists.
use Rattle.std.specs.Prelude.{ℕ, ◌+◌, List, ◌++◌, length, take, drop}

-- the first list laid over the start of the second, the rest of which stays
unfoldable pub over : List ℕ → List ℕ → List ℕ
over f o = f ++ drop (length f) o

-- bytes laid over a list from a place on
unfoldable pub over_at : ℕ → List ℕ → List ℕ → List ℕ
over_at at xs s = take at s ++ (xs ++ drop (at + length xs) s)
