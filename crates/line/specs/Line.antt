-- Document 01: "writes that answer as one line: `fits N` (N exchanges), `refuted at I of N` (I counts from 1), or `refused Jn`"; 02, L7: "the
-- judge writes `not judged at I`".
use Rattle.std.specs.Prelude.{ℕ, List, ◌++◌}
use Rattle.base.specs.Text.{text}
use Rattle.text.specs.Word.{newline, decimal}
use Rattle.text.specs.Written.{written_first}
use Rattle.recording.specs.Replay.{fits, refuted, not_judged}
use Rattle.recording.specs.Statement.{Judgement, refused, judged}

unfoldable pub line_of : Judgement → List ℕ
line_of (judged (fits n)) = text "fits " ++ (decimal n ++ newline)
line_of (judged (refuted i n)) = text "refuted at " ++ (decimal i ++ (text " of " ++ (decimal n ++ newline)))
line_of (judged (not_judged i n)) = text "not judged at " ++ (decimal i ++ newline)
line_of (refused n) = text "refused J" ++ (decimal n ++ newline)

-- room for any line
abbrev pub room : ℕ
room = 64

abbrev pub line_written : Judgement → List ℕ → ℕ × List ℕ
line_written j o = written_first room (line_of j) o
