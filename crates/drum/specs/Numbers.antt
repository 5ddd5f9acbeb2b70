-- What the code's own values say in the words of Drum.antt.
use Rattle.std.specs.Prelude.{ℕ, Option, Some, None, Result, Ok, Err, List, [], ◌++◌}
use Rattle.drum.specs.declared.message.Number.{Number}
use Rattle.drum.specs.declared.message.Message.{Message}
use Rattle.drum.specs.declared.Step.{Step}
use Rattle.drum.specs.declared.Step.TheVariants as step
use Rattle.drum.specs.declared.Refusal.{Refusal}
use Rattle.drum.specs.declared.Refusal.TheVariants as refusal
use Rattle.drum.specs.declared.Answer.{Answer}
use Rattle.drum.specs.declared.Answer.TheVariants as answer
use Rattle.drum.specs.declared.Handled.{Handled}
use Rattle.drum.specs.Drum.{number, Checked, out, good, Told, Q, short, request, end, stop, Outcome, tells}

-- a number behind a space
abbrev pub number_text : Option Number → List ℕ
number_text None = []
number_text (Some n) = number n.width n.value

abbrev pub message_text : Message → List ℕ
message_text m = m.letters ++ (number_text m.first ++ number_text m.second)

-- step i, counted from 1
abbrev pub step_number : Step → ℕ
step_number step.Recipe = 1
step_number step.Factor = 2
step_number step.Value = 3
step_number step.Composition = 4
step_number step.Batch = 5

abbrev pub refusal_number : Refusal → ℕ
refusal_number refusal.Address = 0
refusal_number refusal.Recipe = 1
refusal_number refusal.Factor = 2
refusal_number refusal.Preset = 3
refusal_number refusal.NotAwaited = 4

abbrev pub checked_as : Result (Unit {0}) Refusal → Checked
checked_as (Ok _) = good
checked_as (Err w) = out (refusal_number w)

abbrev pub told_as : Answer → Told
told_as (answer.Refused w) = Q (refusal_number w)
told_as answer.ShortBuffer = short
told_as (answer.Request n) = request n
told_as answer.Ended = end
told_as (answer.Stopped i) = stop i

abbrev pub outcome_as : Handled → List ℕ → Outcome
outcome_as h o = tells (told_as h.answer) h.after o
