-- Replies one after the other, whatever their bytes, each with the buffer that is lent with it.
use Rattle.std.specs.Prelude.{ℕ, zero, suc, ◌+◌, ◌*◌, ◌≤◌, ◌<◌, Bool, true, false, ◌≡◌, List, [], ◌∷◌, ◌++◌, length, take}
use Rattle.base.specs.Text.{text}
use Rattle.text.specs.Word.{digits}
use Rattle.drum.specs.declared.Change.{Change}
use Rattle.drum.specs.Drum.{framed, reply_frame, last, ended, stopped, at_step, Told, Q, short, request, end, stop, Outcome, take_of}

pub record Turn : Type 0 where
  pub reply : List ℕ
  pub room : List ℕ

-- what the last of them leaves
unfoldable pub ran_on : Outcome → List Turn → Outcome
ran_on x [] = x
ran_on x (t ∷ ts) = ran_on (take_of x.after t.reply t.room) ts

-- the bytes that are handed out
abbrev pub size_told : Told → ℕ
size_told (Q n) = 0
size_told short = 0
size_told (request n) = n
size_told end = 0
size_told (stop i) = 0

abbrev pub handed_out : Outcome → List ℕ
handed_out x = take (size_told x.told) x.buffer

-- a reply is taken unless it is refused
abbrev pub is_taken : Told → Bool
is_taken (Q n) = false
is_taken short = false
is_taken (request n) = true
is_taken end = true
is_taken (stop i) = true

abbrev pub kept_if : Bool → List ℕ → List (List ℕ) → List (List ℕ)
kept_if true q qs = q ∷ qs
kept_if false q qs = qs

-- the replies that are taken
unfoldable pub taken_of : Change → List Turn → List (List ℕ)
taken_of s [] = []
taken_of s (t ∷ ts) = kept_if (is_taken (take_of s t.reply t.room).told) t.reply (taken_of (take_of s t.reply t.room).after ts)

-- the right replies of n steps from step i on
unfoldable pub right_from : ℕ → ℕ → Change → List (List ℕ)
right_from i zero s = []
right_from i (suc n) s = reply_frame i s ∷ right_from (i + 1) n s

-- how far the replies that are taken, qs, have brought a change that began with the picks s, and that then stands as z: n of them were
-- right, and the next is awaited; all five were right; or the one behind n right ones was wrong
pub data Came (s : Change) (qs : List (List ℕ)) (z : Change) : Type 0 where
  waits : (n : ℕ) → n < last → qs ≡ right_from 1 n s → z ≡ at_step (1 + n) s → Came s qs z
  ends : qs ≡ right_from 1 last s → z ≡ at_step ended s → Came s qs z
  stops : (n : ℕ) (q : List ℕ) → n < last → (q ≡ reply_frame (1 + n) s → ⊥) → qs ≡ right_from 1 n s ++ (q ∷ [])
      → z ≡ at_step (stopped (1 + n)) s → Came s qs z

-- ---- "gives SB only after PV and RC both showed the picked numbers": in words of its own and not those of the steps

-- SB's frame, and the replies that must have been taken before it
abbrev pub batch_frame : ℕ → ℕ → List ℕ
batch_frame a p = framed a (text "SB " ++ digits 6 p)

abbrev pub before_batch : ℕ → ℕ → ℕ → List (List ℕ)
before_batch a r f =
    framed a (text "OK")
    ∷ framed a (text "OK")
    ∷ framed a (text "PV " ++ (digits 3 (10 * r + 2) ++ (text " " ++ digits 8 f)))
    ∷ framed a (text "RC " ++ (digits 2 r ++ (text " " ++ digits 8 f)))
    ∷ []

-- ---- a buffer with room for a request was lent with every reply
abbrev pub AllRoomy : List Turn → Type 0
AllRoomy [] = Unit {0}
AllRoomy (t ∷ ts) = (64 ≤ length t.room) × AllRoomy ts
