-- The code's values as document 02, L9, and the standard number them.
use Rattle.std.specs.Prelude.{ℕ, List, Result, Ok, Err}
use Rattle.controller.specs.Call.{OutcomeOf}
use Rattle.modbus.specs.Request.{Asked, M, exception, reads, writes}
use Rattle.modbus.specs.declared.Silence.{Silence}
use Rattle.modbus.specs.declared.Silence.TheVariants as silence
use Rattle.modbus.specs.declared.Exception.{Exception}
use Rattle.modbus.specs.declared.Exception.TheVariants as exceptional
use Rattle.modbus.specs.declared.Asked as heard
use Rattle.modbus.specs.declared.Asked.TheVariants as told

-- the n of Mn
abbrev pub silence_number : Silence → ℕ
silence_number silence.InvalidRecord = 1
silence_number silence.ShortReplyBuffer = 2
silence_number silence.FrameLength = 3
silence_number silence.Crc = 4
silence_number silence.OtherSlave = 5
silence_number silence.FunctionRange = 6
silence_number silence.ReadLength = 7
silence_number silence.WriteLength = 8

-- the standard's exception codes
abbrev pub exception_number : Exception → ℕ
exception_number exceptional.IllegalFunction = 1
exception_number exceptional.IllegalDataAddress = 2
exception_number exceptional.IllegalDataValue = 3
exception_number exceptional.SlaveDeviceFailure = 4

abbrev pub told_as : heard.Asked → Asked
told_as (told.Exception e) = exception (exception_number e)
told_as (told.Read s n) = reads s n
told_as (told.Write i v) = writes i v

abbrev pub asked_as : Result heard.Asked Silence → Asked
asked_as (Ok a) = told_as a
asked_as (Err s) = M (silence_number s)

-- a silence's number and length 0, or no silence and the reply's length
abbrev pub answer_silence : Result ℕ Silence → ℕ
answer_silence (Ok n) = 0
answer_silence (Err s) = silence_number s

abbrev pub answer_length : Result ℕ Silence → ℕ
answer_length (Ok n) = n
answer_length (Err s) = 0

abbrev pub outcome_as : {S : Type 0} → Result ℕ Silence → S → List ℕ → OutcomeOf S
outcome_as a s o = record { silence = answer_silence a; reported = answer_length a; after = s; buffer = o }
