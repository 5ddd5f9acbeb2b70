-- What one exchange says before any record is looked at, and what it teaches. a is the address, c the access.
use Rattle.std.specs.Prelude.{ℕ, Bool, List, eqb, take, drop}
use Rattle.base.specs.Test.{pick, unless}
use Rattle.frame.specs.declared.Kind.TheVariants.{Minicomputer}
use Rattle.frame.specs.Frame.{text_in}
use Rattle.frame.specs.Numbers.{Answer, H, S, accepted, unit}
use Rattle.frame.specs.Answer.{locate_of, address_of}
use Rattle.text.specs.Word.{digits, equal}
use Rattle.command.specs.Commands.{is_empty}
use Rattle.command.specs.Request.{Asked, asked_in}
use Rattle.knowledge.specs.declared.Knowledge.{Knowledge}
use Rattle.knowledge.specs.Knowledge.{dead}
use Rattle.learning.specs.Learn.{heard_of, learn_of, taught_of}
use Rattle.recording.specs.Form.{Exchange}
use Rattle.hearing.specs.declared.Exchange as pair
use Rattle.hearing.specs.declared.Said.{Said}
use Rattle.hearing.specs.declared.Said.TheVariants.{Quiet, Answered, Unanswered, Unreadable, Texts}

abbrev pub exchange : List ℕ → List ℕ → Exchange
exchange q reply = record { request = q; reply = reply }

-- an exchange that is lent
abbrev pub lent : pair.Exchange → Exchange
lent e = exchange e.request.now e.reply.now

-- the text of the request, that of the reply's frame, and what it says behind the address digits
abbrev pub asked : Exchange → List ℕ
asked e = text_in Minicomputer e.request

abbrev pub heard : Exchange → List ℕ
heard e = text_in Minicomputer e.reply

abbrev pub told : Exchange → List ℕ
told e = drop 2 (heard e)

-- ---- what is said

-- silence n was due
unfoldable pub silence_said : ℕ → List ℕ → Said
silence_said n reply = pick (is_empty reply) Quiet (Answered n)

-- a reply was due to a request with a text of n bytes; u is the text of the reply's frame
abbrev pub frame_said : ℕ → ℕ → Answer → List ℕ → Said
frame_said a n (accepted m) u = unless (equal (take 2 u) (digits 2 a)) Unreadable (Texts n m)
frame_said a n (H m) u = Unreadable
frame_said a n (S m) u = Unreadable
frame_said a n (unit b m) u = Unreadable

unfoldable pub reply_said : ℕ → ℕ → List ℕ → Said
reply_said a n reply = pick (is_empty reply) Unanswered (frame_said a n (locate_of Minicomputer reply) (text_in Minicomputer reply))

-- by what the request's reader tells: S3 to S7, or a text for the unit of an address; it tells nothing else
abbrev pub said_to : ℕ → Answer → List ℕ → Said
said_to a (S n) reply = silence_said n reply
said_to a (unit b n) reply = unless (eqb b a) (silence_said 8 reply) (reply_said a n reply)
said_to a (H n) reply = silence_said 0 reply
said_to a (accepted n) reply = silence_said 0 reply

unfoldable pub said_of : ℕ → Exchange → Said
said_of a e = said_to a (address_of Minicomputer e.request) e.reply

-- ---- what it teaches, by what two texts teach: of the record as the request leaves it, or as it was when the reply came
abbrev pub taught_by : (Asked → List ℕ → Knowledge → Knowledge) → Exchange → Said → Knowledge → Knowledge
taught_by texts e Quiet k = k
taught_by texts e (Answered n) k = dead k
taught_by texts e Unanswered k = dead k
taught_by texts e Unreadable k = dead k
taught_by texts e (Texts n m) k = texts (asked_in (asked e)) (told e) k

unfoldable pub exchange_learnt : ℕ → ℕ → Knowledge → Exchange → Knowledge
exchange_learnt a c k e = taught_by (learn_of c) e (said_of a e) k

unfoldable pub exchange_heard : ℕ → ℕ → Knowledge → Exchange → Knowledge
exchange_heard a c k e = taught_by (heard_of c) e (said_of a e) k

unfoldable pub exchange_taught : Bool → ℕ → ℕ → Knowledge → Exchange → Knowledge
exchange_taught after a c k e = taught_by (taught_of after c) e (said_of a e) k
