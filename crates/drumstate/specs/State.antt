-- include/khuyapesh.h, 02, L6: "The state is KHUYAPESH_DRUM_STATE bytes, numbers high byte first: address 1, recipe 1, factor 2, preset
-- 3, step 1".
-- b is the state, q a reply, o the buffer that is lent for the next request.
use Rattle.std.specs.Prelude.{ℕ, ◌≡◌, Option, Some, None, List, [], ◌∷◌, ◌++◌, eqb, length, take, drop, get_or}
use Rattle.base.specs.Test.{pick, unless}
use Rattle.stored.specs.Form.{big_endian, number_of}
use Rattle.drum.specs.declared.Change.{Change}
use Rattle.drum.specs.declared.Answer.{Answer}
use Rattle.drum.specs.Drum as drum
use Rattle.drum.specs.Drum.{Checked, out, good, checked, picked, Told, Q, Outcome}
use Rattle.drum.specs.Numbers.{told_as}
use Rattle.drum.specs.Turns.{Turn, is_taken}

unfoldable pub state_of : Change → List ℕ
state_of s = s.address ∷ s.recipe ∷ (big_endian 2 s.factor ++ (big_endian 3 s.preset ++ (s.step ∷ [])))

unfoldable pub change_in : List ℕ → Change
change_in b =
    record {
      address = get_or b 0 0;
      recipe = get_or b 1 0;
      factor = number_of (take 2 (drop 2 b));
      preset = number_of (take 3 (drop 4 b));
      step = get_or b 7 0;
    }

-- that of eight bytes; none of another length
unfoldable pub change_for : List ℕ → Option Change
change_for b = pick (eqb (length b) 8) (Some (change_in b)) None

-- what is told, and what is left: the state and the lent buffer
pub record Left : Type 0 where
  pub told : Told
  pub state : List ℕ
  pub buffer : List ℕ

abbrev pub leaves : Told → List ℕ → List ℕ → Left
leaves t b o = record { told = t; state = b; buffer = o }

-- "each with the state after it"; a refusal leaves every lent byte as it was
unfoldable pub saved_in : Told → Change → List ℕ → List ℕ
saved_in t s b = pick (is_taken t) (state_of s) b

abbrev pub left_by : Outcome → List ℕ → Left
left_by x b = leaves x.told (saved_in x.told x.after b) x.buffer

-- a state of another length: "Q0 to Q3, then Q4"
abbrev pub no_state : Checked → Told
no_state (out n) = Q n
no_state good = Q 4

unfoldable pub begin_of : ℕ → ℕ → ℕ → ℕ → List ℕ → List ℕ → Left
begin_of a r f p b o = unless (eqb (length b) 8) (leaves (no_state (checked (picked a r f p))) b o) (left_by (drum.begin_of a r f p o) b)

unfoldable pub take_of : List ℕ → List ℕ → List ℕ → Left
take_of b q o = unless (eqb (length b) 8) (leaves (Q 4) b o) (left_by (drum.take_of (change_in b) q o) b)

abbrev pub left_as : Answer → List ℕ → List ℕ → Left
left_as a b o = leaves (told_as a) b o

-- ---- replies one after the other, each with the buffer that is lent with it: what the last of them leaves
unfoldable pub ran_on : Left → List Turn → Left
ran_on x [] = x
ran_on x (t ∷ ts) = ran_on (take_of x.state t.reply t.room) ts

-- the bytes stand as the change does
pub record Same (x : Left) (y : Outcome) : Type 0 where
  pub same-told : x.told ≡ y.told
  pub same-buffer : x.buffer ≡ y.buffer
  pub size : length x.state ≡ 8
  pub same-state : change_in x.state ≡ y.after
