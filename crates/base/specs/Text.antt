-- Quoted texts as bytes.
use Rattle.std.specs.Prelude.{ℕ, ◌+◌, ◌*◌, List, [], ◌∷◌, get_or}
use Prim.Native.Char.{code}
use Prim.Native.String.{String, [] as end, ◌∷◌ as ◌then◌}

-- the bytes of a quoted text
abbrev pub text : String → List ℕ
text end = []
text (c then s) = code c ∷ text s

-- two letters as one number
abbrev pub letters : String → ℕ
letters s = get_or (text s) 0 0 * 256 + get_or (text s) 1 0
