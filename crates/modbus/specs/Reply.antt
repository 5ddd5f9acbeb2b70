-- Document 02, L9: the replies, each a body and its check. q is the request.
use Rattle.std.specs.Prelude.{ℕ, zero, suc, ◌+◌, ◌*◌, ◌/◌, ◌%◌, List, [], ◌∷◌, ◌++◌, eqb, length, get_or, take}
use Rattle.base.specs.Test.{pick}
use Rattle.base.specs.Lists.{over}
use Rattle.command.specs.Request.{Answered, no, shows}
use Rattle.crc.specs.Crc.{sealed}
use Rattle.modbus.specs.Request.{slave_in, function_in}

-- "the parameter at place i .. is registers 2i and 2i+1, high word first"; vs are the values by place
abbrev pub register_at : List ℕ → ℕ → ℕ
register_at vs n = pick (eqb (n % 2) 0) (get_or vs (n / 2) 0 / 65536) (get_or vs (n / 2) 0 % 65536)

-- a number of two bytes, the high one first
abbrev pub two_bytes : ℕ → List ℕ
two_bytes n = n / 256 ∷ n % 256 ∷ []

-- the bytes of n registers from s on
unfoldable pub registers : List ℕ → ℕ → ℕ → List ℕ
registers vs s zero = []
registers vs s (suc n) = registers vs s n ++ two_bytes (register_at vs (s + n))

-- an exception: slave, function + 128, code
abbrev pub refusal : ℕ → List ℕ → List ℕ
refusal n q = slave_in q ∷ (function_in q + 128) ∷ n ∷ []

-- a read: slave, function, number of bytes, the bytes
abbrev pub shown : List ℕ → ℕ → ℕ → List ℕ → List ℕ
shown vs s n q = slave_in q ∷ function_in q ∷ 2 * n ∷ registers vs s n

-- a write: slave, function, start and count, as they were asked
abbrev pub echoed : List ℕ → List ℕ
echoed q = take 6 q

-- "03 PC's NO06; 04 PC's NO02, NO07 or NO05"; PC by place has no other NO
abbrev pub exception_for : ℕ → ℕ
exception_for n = pick (eqb n 6) 3 4

-- the body by what PC is answered
abbrev pub write_body : Answered → List ℕ → List ℕ
write_body (no n) q = refusal (exception_for n) q
write_body (shows s) q = echoed q

-- a body laid with its check over the start of a buffer: the length, and the buffer
unfoldable pub laid : List ℕ → List ℕ → ℕ × List ℕ
laid b o = (length (sealed b), over (sealed b) o)
