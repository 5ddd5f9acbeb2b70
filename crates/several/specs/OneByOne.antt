-- Document 02, L4, "equal to calling one by one": what is meant by it, by a tick loop, and by a byte that is looked at. Over any call on what is
-- held, as in `Several`.
use Rattle.std.specs.Prelude.{ℕ, zero, suc, ◌+◌, ◌-◌, ◌≤◌, ◌≡◌, List, [], ◌∷◌, ◌++◌, map, ◌&&◌, true, eqb, leb, ltb, length, take, drop}
use Rattle.base.specs.Test.{pick}
use Rattle.controller.specs.Call.{OutcomeOf, reply_in}
use Rattle.frame.specs.declared.Kind.TheVariants.{Minicomputer}
use Rattle.frame.specs.Frame.{stx, all_text, frame_of}
use Rattle.several.specs.Several.{through, place_of, Step, stop, skip, full, silent, answer, step_of, Heard, ◌then◌, heard_from, SeveralOn}

-- ---- frames that are called one by one

-- a stretch of the lent bytes: where it starts, and its length
pub record Stretch : Type 0 where
  pub start : ℕ
  pub size : ℕ

abbrev pub cut_out : List ℕ → Stretch → List ℕ
cut_out s f = take f.size (drop f.start s)

-- "end to end"
unfoldable pub end_to_end : List (List ℕ) → List ℕ
end_to_end [] = []
end_to_end (x ∷ xs) = x ++ end_to_end xs

module _ {S : Type 0} where
  abbrev pub replies_in : List (OutcomeOf S) → List ℕ
  replies_in cs = end_to_end (map reply_in cs)

  -- how many were answered
  unfoldable pub answered_in : List (OutcomeOf S) → ℕ
  answered_in [] = 0
  answered_in (c ∷ cs) = pick (eqb c.silence 0) 1 0 + answered_in cs

  -- what the last one left
  unfoldable pub last_held : S → List (OutcomeOf S) → S
  last_held r [] = r
  last_held r (c ∷ cs) = last_held c.after cs

  -- where the next frame may start: "if it is answered .. go on after it"; a frame with no answer may share bytes with the next
  abbrev pub next_start : OutcomeOf S → Stretch → ℕ
  next_start c f = pick (eqb c.silence 0) (f.start + f.size) (f.start + 1)

module _ {S : Type 0} (called : S → List ℕ → OutcomeOf S) where
  -- the calls in turn, each with what the one before left
  unfoldable pub calls : S → List (List ℕ) → List (OutcomeOf S)
  calls r [] = []
  calls r (q ∷ qs) = called r q ∷ calls (called r q).after qs

  -- the stretches lie in the bytes s from p on, in order, those answered not overlapping; all that is answered is among the e bytes taken
  abbrev pub InOrder : List ℕ → ℕ → ℕ → S → List Stretch → Type 0
  InOrder s e p r [] = p ≤ e
  InOrder s e p r (f ∷ fs) =
      (p ≤ f.start) × (f.start + f.size ≤ length s) × InOrder s e (next_start (called r (cut_out s f)) f) (called r (cut_out s f)).after fs

  -- of the bytes s and what is heard of them
  pub record OneByOne (s : List ℕ) (r : S) (h : Heard S) : Type 0 where
    pub frames : List Stretch
    pub order : InOrder s h.taken 0 r frames
    pub replies : h.replies ≡ replies_in (calls r (map (cut_out s) frames))
    pub answered : h.answered ≡ answered_in (calls r (map (cut_out s) frames))
    pub after : h.after ≡ last_held r (calls r (map (cut_out s) frames))

-- ---- frames back to back: "4 to 60 bytes, each 0x20..0x7E" for each text
abbrev pub AllLegal : List (List ℕ) → Type 0
AllLegal [] = Unit {0}
AllLegal (t ∷ ts) = (4 ≤ length t) × (length t ≤ 60) × (all_text t ≡ true) × AllLegal ts

abbrev pub frames_of : List (List ℕ) → List (List ℕ)
frames_of ts = map (frame_of Minicomputer) ts

module _ {S : Type 0} where
  -- every one of the frames is called, and every byte taken
  abbrev pub all_heard : (S → List ℕ → OutcomeOf S) → S → List (List ℕ) → Heard S
  all_heard called r qs =
      let cs : List (OutcomeOf S) = calls called r qs in
      record { taken = length (end_to_end qs); answered = answered_in cs; replies = replies_in cs; after = last_held r cs }

  -- ---- a call over several frames after another one: with what is held and the rest of the reply buffer that the first left, over what it
  -- did not take of the bytes a, and b behind that
  abbrev pub next_call : (S → List ℕ → List ℕ → SeveralOn S) → SeveralOn S → List ℕ → List ℕ → SeveralOn S
  next_call several x a b = several x.after (drop x.taken a ++ b) (drop x.written x.buffer)

  -- what both leave
  abbrev pub both_calls : SeveralOn S → SeveralOn S → SeveralOn S
  both_calls x y =
      record {
        silence = 0;
        taken = x.taken + y.taken;
        answered = x.answered + y.answered;
        written = x.written + y.written;
        after = y.after;
        buffer = take x.written x.buffer ++ y.buffer;
      }

  -- ---- a tick loop

  -- "Stop at p": what is not taken
  abbrev pub untaken : Heard S → List ℕ → List ℕ
  untaken h s = drop h.taken s

  -- there was room for an answer more
  abbrev pub Roomy : ℕ → Heard S → Type 0
  Roomy room h = length h.replies + 64 ≤ room

module _ {S : Type 0} (called : S → List ℕ → OutcomeOf S) where
  -- the bytes of one tick, and what comes in the ticks after it, each put behind what is not taken; each call has so much reply room
  unfoldable pub ticks : ℕ → S → List ℕ → List (List ℕ) → Heard S
  ticks room r s [] = heard_from called 0 room r s
  ticks room r s (c ∷ cs) = let h : Heard S = heard_from called 0 room r s in h then ticks room h.after (untaken h s ++ c) cs

  abbrev pub AllRoomy : ℕ → S → List ℕ → List (List ℕ) → Type 0
  AllRoomy room r s [] = Roomy room (heard_from called 0 room r s)
  AllRoomy room r s (c ∷ cs) =
      Roomy room (heard_from called 0 room r s)
      × AllRoomy room (heard_from called 0 room r s).after (untaken (heard_from called 0 room r s) s ++ c) cs

-- ---- how often a byte is looked at: by the walk that stands there, by a search, and in each frame that is handed over

-- by a search from the byte x before xs: "through at most 60 text bytes", and the one behind them
abbrev pub sought : ℕ → List ℕ → ℕ → ℕ
sought x xs i = pick (eqb x stx && leb i (through 60 xs)) 1 0

-- in a frame of n bytes
abbrev pub within : ℕ → ℕ → ℕ
within n i = pick (ltb i n) 1 0

module _ {S : Type 0} where
  -- the byte where the walk stands
  abbrev pub looks_here : Step S → ℕ
  looks_here stop = 1
  looks_here skip = 1
  looks_here (full n) = 2
  looks_here (silent n k) = 2
  looks_here (answer n c) = 2

  -- the byte at i behind it
  abbrev pub looks_behind : Step S → ℕ → ℕ → S → (ℕ → ℕ → S → ℕ) → ℕ
  looks_behind stop i room r on = 0
  looks_behind skip i room r on = on 0 room r
  looks_behind (full n) i room r on = within n (suc i)
  looks_behind (silent n k) i room r on = within n (suc i) + on k room r
  looks_behind (answer n c) i room r on = within n (suc i) + on (n - 1) (room - c.reported) c.after

  unfoldable pub looks_from : (S → List ℕ → OutcomeOf S) → ℕ → ℕ → S → List ℕ → ℕ → ℕ
  looks_from called k room r [] i = 0
  looks_from called (suc k) room r (x ∷ xs) zero = 0
  looks_from called (suc k) room r (x ∷ xs) (suc i) = looks_from called k room r xs i
  looks_from called zero room r (x ∷ xs) zero = looks_here (step_of called (place_of x xs) (x ∷ xs) room r)
  looks_from called zero room r (x ∷ xs) (suc i) =
      sought x xs i + looks_behind (step_of called (place_of x xs) (x ∷ xs) room r) i room r (λ k room r. looks_from called k room r xs i)
