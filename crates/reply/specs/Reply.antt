-- A reply's text in the lent part of the reply buffer.
use Rattle.std.specs.Prelude.{ℕ, Option, Some, None, List, ◌∷◌, ◌++◌, leb, length}
use Rattle.state.specs.declared.Record.{Record}
use Rattle.base.specs.Test.{unless}
use Rattle.state.specs.Field.{address, get}
use Rattle.base.specs.Lists.{over}
use Rattle.text.specs.Word.{space, digits}
use Rattle.command.specs.Commands.{batch_shown}
use Rattle.command.specs.Answer.{refusal_text}
use Rattle.command.specs.Request.{Answered, answer_text}
use Rattle.reply.specs.declared.Kept.{Kept}

-- a word and a number in full width behind it
abbrev pub labelled : List ℕ → ℕ → ℕ → List ℕ
labelled w width n = w ++ digits width n

-- a word, a number, a space and a number
abbrev pub labelled_two : List ℕ → ℕ → ℕ → ℕ → ℕ → List ℕ
labelled_two w width n width2 n2 = labelled w width n ++ (space ∷ digits width2 n2)

-- "address digits, then the reply"
unfoldable pub text_for : Answered → Record → List ℕ
text_for a r = digits 2 (get address r) ++ answer_text a r

-- a text's length, and the buffer with the text laid over its start; nothing, where there is no room for a text
unfoldable pub laid_text : List ℕ → List ℕ → ℕ × List ℕ
laid_text t o = unless (leb 60 (length o)) (0, o) (length t, over t o)

unfoldable pub written_of : Answered → Record → List ℕ → ℕ × List ℕ
written_of a r o = laid_text (text_for a r) o

-- ---- what is replied to the request for a kept batch (02, L7): NO03, or "RT R VVVVVVVV NNN"
abbrev pub kept_words : Option Kept → List ℕ
kept_words None = refusal_text 3
kept_words (Some k) = batch_shown k.raw k.number

unfoldable pub kept_text : ℕ → Option Kept → List ℕ
kept_text a x = digits 2 a ++ kept_words x
