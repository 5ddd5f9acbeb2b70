-- include/khuyapesh.h: what the functions for Modbus answer and what every lent byte then is, by the definitions of document 02, L9.
-- s are the stored bytes, b the bank's, q the request, and o the reply buffer.
use Rattle.std.specs.Prelude.{ℕ, ◌+◌, List}
use Rattle.controller.specs.Call.{OutcomeOf, Outcome}
use Rattle.banked.specs.declared.Banked.{Banked}
use Rattle.modbus.specs.Call.{modbus_of, banked_modbus_of}
use Rattle.exports.specs.Bytes.{open_of, in_place, left_of, open_banked}

-- "KHUYAPESH_MODBUS 900" + n, for Mn
abbrev pub modbus_silence : ℕ → ℕ
modbus_silence n = 900 + n

-- "KHUYAPESH_MODBUS_STORED 1200": 1,000 above what the other functions answer for the same K, which is n here
abbrev pub modbus_refusal : ℕ → ℕ
modbus_refusal n = 1000 + n

unfoldable pub modbus_left : Outcome → List ℕ → List ℕ → ℕ × (List ℕ × List ℕ)
modbus_left c s o = left_of (λ r. r) modbus_silence c s o

-- "K1 to K4 or K6 for the record .., then M2 to M8"
unfoldable pub modbus_bytes : List ℕ → List ℕ → List ℕ → ℕ × (List ℕ × List ℕ)
modbus_bytes s q o = in_place (open_of s) (λ n. (modbus_refusal n, (s, o))) (λ r. modbus_left (modbus_of r q o) s o)

-- "The same with a bank .. beside the record": "K7 for the bank .. after the record's K1 to K4 or K6 and before M2 to M8"; "it is only read"
unfoldable pub banked_modbus_left : OutcomeOf Banked → List ℕ → List ℕ → ℕ × (List ℕ × List ℕ)
banked_modbus_left c s o = left_of (λ h. h.state) modbus_silence c s o

unfoldable pub banked_modbus_bytes : List ℕ → List ℕ → List ℕ → List ℕ → ℕ × (List ℕ × List ℕ)
banked_modbus_bytes s b q o = in_place (open_banked s b) (λ n. (modbus_refusal n, (s, o))) (λ h. banked_modbus_left (banked_modbus_of h q o) s o)
