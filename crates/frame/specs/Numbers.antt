-- Each answer of the code as document 01 numbers it, with the values that go with it.
use Rattle.std.specs.Prelude.{ℕ, Result, Ok, Err, eqb}
use Rattle.base.specs.Test.{pick}
use Rattle.frame.specs.declared.Kind.{Kind}
use Rattle.frame.specs.declared.Kind.TheVariants.{Minicomputer, Terminal}
use Rattle.frame.specs.declared.UnknownKind.{UnknownKind}
use Rattle.frame.specs.declared.Silence.{Silence}
use Rattle.frame.specs.declared.Silence.TheVariants as silence
use Rattle.frame.specs.declared.BuildRefusal.{BuildRefusal}
use Rattle.frame.specs.declared.BuildRefusal.TheVariants as build
use Rattle.frame.specs.declared.ReadRefusal.{ReadRefusal}
use Rattle.frame.specs.declared.ReadRefusal.TheVariants as read
use Rattle.frame.specs.declared.Addressed.{Addressed}

-- the kind of link that a number stands for: 0 a minicomputer, 1 a terminal
abbrev pub kind_numbered : ℕ → Result Kind UnknownKind
kind_numbered n = pick (eqb n 0) (Ok Minicomputer) (pick (eqb n 1) (Ok Terminal) (Err record { 0 = n }))

-- H1 to H3; S1 to S8; the length of the frame that was built or of the text that was found; the address of a
-- request and its text's length
pub data Answer : Type 0 where
  H : ℕ → Answer
  S : ℕ → Answer
  accepted : ℕ → Answer
  unit : ℕ → ℕ → Answer

-- the number of the silence, 0 if there is none
abbrev pub silence_in : Answer → ℕ
silence_in (H n) = 0
silence_in (S n) = n
silence_in (accepted n) = 0
silence_in (unit a n) = 0

-- the length that goes with an answer; 0 for a refusal or a silence
abbrev pub length_in : Answer → ℕ
length_in (H n) = 0
length_in (S n) = 0
length_in (accepted n) = n
length_in (unit a n) = n

abbrev pub silence_number : Silence → ℕ
silence_number silence.InvalidRecord = 1
silence_number silence.ShortReplyBuffer = 2
silence_number silence.FrameLength = 3
silence_number silence.Mark = 4
silence_number silence.Check = 5
silence_number silence.TextByte = 6
silence_number silence.AddressOrCode = 7
silence_number silence.OtherAddress = 8

abbrev pub built_as : Result ℕ BuildRefusal → Answer
built_as (Err build.ShortBuffer) = H 1
built_as (Err build.TextLength) = H 2
built_as (Err build.TextByte) = H 3
built_as (Ok n) = accepted n

abbrev pub located_as : Result ℕ Silence → Answer
located_as (Err s) = S (silence_number s)
located_as (Ok n) = accepted n

abbrev pub read_as : Result ℕ ReadRefusal → Answer
read_as (Err read.ShortBuffer) = H 1
read_as (Err (read.Silent s)) = S (silence_number s)
read_as (Ok n) = accepted n

abbrev pub addressed_as : Result Addressed Silence → Answer
addressed_as (Err s) = S (silence_number s)
addressed_as (Ok a) = unit a.unit a.length
