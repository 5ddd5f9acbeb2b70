-- What the functions below the banked call promise.
use Rattle.std.specs.Prelude.{◌≡◌, refl, ℕ, Bool, false, ◌&&◌, Option, Some, None, [], ◌∷◌, eqb}
use Rattle.base.specs.Test.{pick, member}
use Rattle.state.specs.declared.Record.{Record}
use Rattle.std.proofs.Common.{ap}
use Rattle.state.specs.declared.Phase.{Phase}
use Rattle.state.specs.declared.Phase.TheVariants.{Idle, Set, Running, Stopped, Done}
use Rattle.state.specs.Field.{phase, get, phase_number}
use Rattle.state.specs.Event.{idle, stopped, done}
use Rattle.bank.specs.declared.Bank.{Bank}
use Rattle.bank.specs.declared.Batch.{Batch}
use Rattle.bank.specs.Bank.{batch_of, keep_of, newest_of}
use Rattle.command.specs.declared.Writing.{Writing}
use Rattle.command.specs.Request.{effect_as}
use Rattle.reply.specs.declared.Kept.{Kept}
use Rattle.controller.specs.Call.{HeldLaws}
use Rattle.banked.specs.declared.Banked.{Banked}
use Rattle.banked.specs.Banked.{with, valid, address_of, reply_text, held_after, reply_of, banked_of}

-- the answer to the request for batch n: NO03, or its raw volume
abbrev pub answer_by : ℕ → Option Batch → Option Kept
answer_by n (Some b) = Some (record { raw = b.raw; number = n })
answer_by n None = None

unfoldable pub answer_for : ℕ → Bank → Option Kept
answer_for n k = answer_by n (newest_of n k)

-- a batch was stored, by the records before and after a request
unfoldable pub stored_between : Record → Record → Bool
stored_between r s = member (get phase r) (stopped ∷ done ∷ []) && eqb (get phase s) idle

-- the bank then
unfoldable pub bank_after : Bank → Record → Record → Bank
bank_after k r s = pick (stored_between r s) (keep_of (batch_of r) k) k

-- ---- what the controller asks of what a unit holds

-- what an effect leaves: the record takes it, and the bank goes by the phases
abbrev pub changed_as : Option Writing → Banked → Banked
changed_as c b = with (effect_as c b.state) (bank_after b.bank b.state (effect_as c b.state))

-- from a phase to itself none is stored
none_stored : (p : Phase) → (member (phase_number p) (stopped ∷ done ∷ []) && eqb (phase_number p) idle) ≡ false
none_stored Idle = refl
none_stored Set = refl
none_stored Running = refl
none_stored Stopped = refl
none_stored Done = refl

unchanged : (b : Banked) → changed_as None b ≡ b
unfolding bank_after stored_between
unchanged b = ap (λ (t : Bool). with b.state (pick t (keep_of (batch_of b.state) b.bank) b.bank)) (none_stored b.state.phase)

pub banked_laws : HeldLaws valid address_of reply_text held_after changed_as reply_of banked_of
unfolding reply_of banked_of
banked_laws = record { reply = λ k b t o. refl; call = λ k b q o. refl; unchanged = unchanged }
