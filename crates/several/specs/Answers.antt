-- The code's answers in the words of the definition.
use Rattle.std.specs.Prelude.{ℕ, zero, suc, ◌+◌, ◌-◌, Result, Ok, Err, List, [], ◌∷◌, eqb, leb, take}
use Rattle.base.specs.Test.{pick, unless}
use Rattle.frame.specs.Frame.{stx}
use Rattle.frame.specs.Numbers.{silence_number}
use Rattle.frame.specs.declared.Kind.TheVariants.{Minicomputer}
use Rattle.frame.specs.Numbers.{H, S, accepted, unit}
use Rattle.frame.specs.Numbers as frame
use Rattle.frame.specs.Answer.{address_of}
use Rattle.frame.specs.declared.Silence.{Silence}
use Rattle.several.specs.declared.NotDue.{NotDue}
use Rattle.several.specs.declared.NotDue.TheVariants.{Refused, OtherUnit, NoRoom}
use Rattle.several.specs.declared.Frame.{Frame}
use Rattle.several.specs.declared.Turn.{Turn}
use Rattle.several.specs.declared.Report.{Report}
use Rattle.several.specs.Several.{Place, passed, undecided, whole, place_of, SeveralOn}

-- ---- the whole call
abbrev pub several_as : {S : Type 0} → Result Report Silence → S → List ℕ → SeveralOn S
several_as (Err s) r o = record { silence = silence_number s; taken = 0; answered = 0; written = 0; after = r; buffer = o }
several_as (Ok t) r o = record { silence = 0; taken = t.taken; answered = t.answered; written = t.written; after = r; buffer = o }

abbrev pub served_as : ℕ → ℕ → ℕ → Result Report Silence
served_as p a u = Ok (record { taken = p; answered = a; written = u })

-- ---- the place of the next STX from p on, or the end
unfoldable pub start_from : ℕ → List ℕ → ℕ
start_from p [] = p
start_from p (x ∷ xs) = let on = start_from (p + 1) xs in pick (eqb x stx) p on

-- ---- the next frame from p on, or where the walk stops
abbrev pub found_at : Place → ℕ → Result Frame ℕ → Result Frame ℕ
found_at passed p on = on
found_at undecided p on = Err p
found_at (whole n) p on = Ok (record { start = p; end = p + n })

unfoldable pub found_from : ℕ → List ℕ → Result Frame ℕ
found_from p [] = Err p
found_from p (x ∷ xs) = let on = found_from (p + 1) xs in found_at (place_of x xs) p on

-- ---- what is due to a frame from a unit with the address d: nothing, by S3 to S7 or S8; an answer, to a text of n bytes if there is room
abbrev pub due_by : ℕ → ℕ → frame.Answer → Result ℕ NotDue
due_by d room (unit a n) = unless (eqb a d) (Err OtherUnit) (unless (leb 64 room) (Err NoRoom) (Ok n))
due_by d room (S n) = Err Refused
due_by d room (H n) = Err Refused
due_by d room (accepted n) = Err Refused

unfoldable pub due_of : ℕ → ℕ → List ℕ → Result ℕ NotDue
due_of d room q = due_by d room (address_of Minicomputer q)

-- ---- the next frame from p on to which an answer is due: where its text starts and ends, and where it ends; or where the walk stops. The
-- first k bytes belong to a frame that is done
abbrev pub turn_by : Result ℕ NotDue → ℕ → ℕ → (ℕ → Result Turn ℕ) → Result Turn ℕ
turn_by (Err Refused) p n on = on 0
turn_by (Err OtherUnit) p n on = on (n - 1)
turn_by (Err NoRoom) p n on = Err p
turn_by (Ok m) p n on = Ok (record { text = p + 1; text_end = p + 1 + m; end = p + n })

abbrev pub turn_at : Place → ℕ → ℕ → List ℕ → ℕ → (ℕ → Result Turn ℕ) → Result Turn ℕ
turn_at passed d room s p on = on 0
turn_at undecided d room s p on = Err p
turn_at (whole n) d room s p on = turn_by (due_of d room (take n s)) p n on

unfoldable pub turn_from : ℕ → ℕ → ℕ → ℕ → List ℕ → Result Turn ℕ
turn_from d room k p [] = Err p
turn_from d room (suc k) p (x ∷ xs) = turn_from d room k (p + 1) xs
turn_from d room zero p (x ∷ xs) = turn_at (place_of x xs) d room (x ∷ xs) p (λ k. turn_from d room k (p + 1) xs)
