-- What is proved of every call over several frames, for anything held, bytes and reply buffer: said once for any call, and proved of each call
-- that has the laws of the walk. Assumes nothing.
use Prim.Native.Nat.{ℕ, ◌-◌, ◌*◌, ◌≤◌, ◌<◌}
use mathlib.Core.Bool.{Bool, true, false}
use mathlib.Core.Path.{◌≡◌}
use mathlib.Core.List.{List, [], ◌∷◌, ◌++◌}
use lib.ListN.{length, take, drop}
use Rattle.state.specs.declared.Record.{Record}
use Rattle.state.specs.Valid.{valid}
use Rattle.banked.specs.Banked as banked
use Rattle.controller.specs.Call.{OutcomeOf}
use Rattle.several.specs.Beside.{called_banked, banked_several_of}
use Rattle.several.specs.Several.{whole, place_of, nothing, heard_from, SeveralOn, report_of, several_by, called_record, several_of}
use Rattle.several.specs.OneByOne.{end_to_end, OneByOne, AllLegal, frames_of, all_heard, next_call, both_calls, ticks, Roomy, AllRoomy, looks_from}
use Rattle.several.proofs.Serving.{Serving}
use Rattle.several.proofs.Left as left
use Rattle.several.proofs.OneByOne as single
use Rattle.several.proofs.BackToBack as frames
use Rattle.several.proofs.Cut as cutting
use Rattle.several.proofs.Cut.{Bounded, going_on}
use Rattle.several.proofs.Room as room
use Rattle.several.proofs.Inside as inside
use Rattle.several.proofs.Looks as looks
use Rattle.several.proofs.OfRecord.{serving_record}
use Rattle.several.proofs.OfBanked.{serving_banked}

-- `called` is what a frame that is handed over gets, `good` if what is held is valid, `several` the call over several frames
pub record Proved {S : Type 0} (called : S → List ℕ → OutcomeOf S) (good : S → Bool) (several : S → List ℕ → List ℕ → SeveralOn S) : Type 0 where
  -- ---- what is valid stays so, and only S1 is a silence
  pub several-valid : (r : S) (s o : List ℕ) → good r ≡ true → good (several r s o).after ≡ true
  pub several-heard : (r : S) (s o : List ℕ) → good r ≡ true → (several r s o).silence ≡ 0
  -- "S1 as before, nothing taken"
  pub several-refused : (r : S) (s o : List ℕ) → good r ≡ false
      → several r s o ≡ record { silence = 1; taken = 0; answered = 0; written = 0; after = r; buffer = o }
  -- of what is valid, what is heard and nothing else
  pub several_served : (r : S) (s o : List ℕ) → good r ≡ true → several r s o ≡ report_of 0 (heard_from called 0 (length o) r s) o
  -- ---- "equal to calling one by one": single calls over stretches of the bytes give what is heard of them
  pub one_by_one : (s : List ℕ) (room : ℕ) (r : S) → OneByOne called s r (heard_from called 0 room r s)
  -- ... and of frames end to end, with reply room of 64 bytes for each, every one is called and every byte taken
  pub back_to_back : (ts : List (List ℕ)) (room : ℕ) (r : S) → AllLegal ts → 64 * length ts ≤ room
      → heard_from called 0 room r (end_to_end (frames_of ts)) ≡ all_heard called r (frames_of ts)
  -- ---- cutting the stream changes nothing: taking the rest again with what comes later gives the same as taking both at once
  pub several-cut : (r : S) (a b o : List ℕ) → good r ≡ true → several r (a ++ b) o ≡ both_calls (several r a o) (next_call several (several r a o) a b)
  pub cut : (a b : List ℕ) (room : ℕ) (r : S) → heard_from called 0 room r (a ++ b) ≡ going_on called room (heard_from called 0 room r a) a b
  -- any number of ticks, if room sufficed
  pub cut_anywhere : (cs : List (List ℕ)) (room ample : ℕ) (r : S) (s : List ℕ) → AllRoomy called room r s cs → Roomy ample (ticks called room r s cs)
      → heard_from called 0 ample r (s ++ end_to_end cs) ≡ ticks called room r s cs
  -- bytes that are not taken have done nothing: alone they are not taken, and leave what is held and the buffer as they were
  pub several-rest : (r : S) (s o : List ℕ) → good r ≡ true
      → next_call several (several r s o) s [] ≡ report_of 0 (nothing (several r s o).after) (drop (several r s o).written (several r s o).buffer)
  -- ---- the numbers are within the bytes and the room, and under 64 bytes are left if there was room for an answer more
  pub within : (s : List ℕ) (room : ℕ) (r : S) → Bounded s room (heard_from called 0 room r s)
  -- as there is with 64 bytes for every 8 that are lent, and 64 more
  pub room_suffices : (s : List ℕ) (m room : ℕ) (r : S) → length s < 8 * m → 64 * m ≤ room → Roomy room (heard_from called 0 room r s)
  -- ---- after a whole frame with S5, S7 or S8, going on at p+1 and going on after it are the same
  pub either_way : (x : ℕ) (xs : List ℕ) (n : ℕ) (r : S) → place_of x xs ≡ whole n → 5 ≤ (called r (take n (x ∷ xs))).silence
      → (room : ℕ) (t : S) → heard_from called 0 room t xs ≡ heard_from called (n - 1) room t xs
  -- ---- each byte is looked at four times at most
  pub each_byte : (s : List ℕ) (room : ℕ) (r : S) (i : ℕ) → looks_from called 0 room r s i ≤ 4

pub all_proved : {S : Type 0} {called : S → List ℕ → OutcomeOf S} {good : S → Bool} {address : S → ℕ} → Serving called good address
    → Proved called good (several_by called good)
all_proved laws =
    record {
      several-valid = left.several-valid laws;
      several-heard = left.several-heard laws;
      several-refused = left.several-refused laws;
      several_served = left.several_served laws;
      one_by_one = single.one_by_one laws;
      back_to_back = frames.back_to_back laws;
      several-cut = left.several-cut laws;
      cut = cutting.cut laws;
      cut_anywhere = cutting.cut_anywhere laws;
      several-rest = left.several-rest laws;
      within = cutting.within laws;
      room_suffices = room.room_suffices laws;
      either_way = inside.either_way laws;
      each_byte = looks.each_byte laws;
    }

-- ---- of a record, by document 01's call
pub record_proved : Proved called_record valid several_of
unfolding several_of
record_proved = all_proved serving_record

pub several-valid : (r : Record) (s o : List ℕ) → valid r ≡ true → valid (several_of r s o).after ≡ true
several-valid = record_proved.several-valid

pub several-heard : (r : Record) (s o : List ℕ) → valid r ≡ true → (several_of r s o).silence ≡ 0
several-heard = record_proved.several-heard

-- ---- of a record with a bank beside it, by the banked call
pub banked_proved : Proved called_banked banked.valid banked_several_of
unfolding banked_several_of
banked_proved = all_proved serving_banked
