-- Document 02, L9: one call of the controller as a Modbus slave: what is answered, what is held afterwards, and what the reply buffer then
-- holds. q is the lent request, o the lent reply buffer.
use Rattle.std.specs.Prelude.{ℕ, ◌≡◌, refl, Bool, List, length}
use Rattle.state.specs.declared.Record.{Record}
use Rattle.state.specs.Field.{address, get}
use Rattle.state.specs.Valid as state
use Rattle.command.specs.Commands.{PC, a_place}
use Rattle.command.specs.Request.{Answered, asked_with, served_of}
use Rattle.controller.specs.Call.{OutcomeOf, Outcome, silent, answered_by}
use Rattle.banked.specs.declared.Banked.{Banked}
use Rattle.banked.specs.Banked as banked
use Rattle.banked.specs.Banked.{with, beside}
use Rattle.crc.specs.Crc.{sealed}
use Rattle.modbus.specs.Request.{Asked, M, exception, reads, writes, asked_of}
use Rattle.modbus.specs.Reply.{refusal, shown, write_body}

-- "replies built with the standard's CRC"; b is the reply's body, s what is held then
abbrev pub replied : {S : Type 0} → List ℕ → S → List ℕ → OutcomeOf S
replied b s o = answered_by (sealed b) s o

-- PC by place and value: what it is answered, and the record afterwards
abbrev pub as_pc : ℕ → ℕ → Record → Answered × Record
as_pc i v r = served_of (asked_with PC (a_place i v)) r

-- a write "is judged and takes effect as PC does"
unfoldable pub written_of : ℕ → ℕ → Record → List ℕ → List ℕ → Outcome
written_of i v r q o = replied (write_body (as_pc i v r).0 q) (as_pc i v r).1 o

abbrev pub answered_as : Asked → Record → List ℕ → List ℕ → Outcome
answered_as (M n) r q o = silent n r o
answered_as (exception n) r q o = replied (refusal n q) r o
answered_as (reads s n) r q o = replied (shown r.values s n q) r o
answered_as (writes i v) r q o = written_of i v r q o

-- "Slave address is the record's."; `good` if what the unit holds is valid
unfoldable pub served_by : Bool → Record → List ℕ → List ℕ → Outcome
served_by good r q o = answered_as (asked_of good (get address r) q (length o)) r q o

-- what a call of the record leaves, with what a unit then holds
abbrev pub holding : {H : Type 0} → (Record → H) → Outcome → OutcomeOf H
holding with c = record { silence = c.silence; reported = c.reported; after = with c.after; buffer = c.buffer }

unfoldable pub modbus_of : Record → List ℕ → List ℕ → Outcome
modbus_of r q o = served_by (state.valid r) r q o

-- ---- with a bank of finished batches beside the record (L7): M1 is S1, which is also for the bank; a write alters what PC does, so no bank
unfoldable pub banked_modbus_of : Banked → List ℕ → List ℕ → OutcomeOf Banked
banked_modbus_of b q o = beside (served_by (banked.valid b) b.state q o) b.bank

-- ---- both are the same, by what of it is valid and by what holds the record afterwards
pub record_outcome : (r : Record) (q o : List ℕ) → modbus_of r q o ≡ holding (λ s. s) (served_by (state.valid r) r q o)
unfolding modbus_of
record_outcome r q o = refl

pub banked_outcome : (b : Banked) (q o : List ℕ) → banked_modbus_of b q o ≡ holding (λ s. with s b.bank) (served_by (banked.valid b) b.state q o)
unfolding banked_modbus_of
banked_outcome b q o = refl
