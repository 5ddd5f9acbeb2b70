-- Document 01, "Frames": what building, reading and addressing answer, and what the lent buffer then holds.
use Rattle.std.specs.Prelude.{ℕ, List, leb, length}
use Rattle.base.specs.Test.{unless, between}
use Rattle.base.specs.Lists.{over}
use Rattle.frame.specs.declared.Kind.{Kind}
use Rattle.frame.specs.Frame.{all_text, names_unit, address_in, frame_of, text_in, within_limits, marks_right, check_right}
use Rattle.frame.specs.Numbers.{Answer, H, S, accepted, unit}

-- ---- "build a frame from any text of legal length and bytes, at the start of a lent buffer"
-- "H1 buffer under 64, H2 length, H3 byte; buffer untouched"
unfoldable pub build_of : Kind → List ℕ → List ℕ → Answer × List ℕ
build_of k t o =
    unless (leb 64 (length o)) (H 1, o)
    (unless (between 4 60 (length t)) (H 2, o)
    (unless (all_text t) (H 3, o)
    (accepted (length (frame_of k t)), over (frame_of k t) o)))

-- ---- S3 to S6, or the text's length
unfoldable pub locate_of : Kind → List ℕ → Answer
locate_of k f =
    unless (within_limits k (length f)) (S 3)
    (unless (marks_right k f) (S 4)
    (unless (check_right k f) (S 5)
    (unless (all_text (text_in k f)) (S 6)
    (accepted (length (text_in k f))))))

-- ---- "Read a frame back: its text is copied to the start of a second lent buffer"
-- "H1 again, then S3 to S6 as above; a refusal leaves that buffer untouched"
abbrev pub copied : Answer → List ℕ → List ℕ → List ℕ
copied (accepted n) t o = over t o
copied (H n) t o = o
copied (S n) t o = o
copied (unit a n) t o = o

unfoldable pub read_of : Kind → List ℕ → List ℕ → Answer × List ℕ
read_of k f o = unless (leb 64 (length o)) (H 1, o) (locate_of k f, copied (locate_of k f) (text_in k f) o)

-- ---- S3 to S7, or the address and the text's length; S7: "address not two digits, or code not two capitals"
abbrev pub addressed : Answer → List ℕ → Answer
addressed (accepted n) t = unless (names_unit t) (S 7) (unit (address_in t) n)
addressed (H n) t = H n
addressed (S n) t = S n
addressed (unit a n) t = unit a n

unfoldable pub address_of : Kind → List ℕ → Answer
address_of k f = addressed (locate_of k f) (text_in k f)
