-- Document 02, L6: a drum change "against document 01's controller .. and nothing else acting on it"; L7: "L6's controller has such a bank
-- too." a, r, f and p are the picked address, recipe, factor and preset; u and w what the controller holds: a record, and a bank beside it.
use Rattle.std.specs.Prelude.{ℕ, ◌≤◌, true, ◌≡◌, List, [], ◌∷◌, length}
use Rattle.state.specs.declared.Record.{Record}
use Rattle.state.specs.Field.{Field, address, access, phase, keypad, changed, reset, recipe, preset, raw, number, value, level, get, position, on, off}
use Rattle.state.specs.Valid.{valid}
use Rattle.state.specs.Event.{idle, set, next_number, flag_after}
use Rattle.bank.specs.Bank as bank
use Rattle.frame.specs.declared.Kind.TheVariants.{Minicomputer}
use Rattle.command.specs.Commands.{factor_place}
use Rattle.controller.specs.Call.{OutcomeOf, reply_in}
use Rattle.banked.specs.declared.Banked.{Banked}
use Rattle.banked.specs.Banked.{banked_of}
use Rattle.drum.specs.Drum.{Outcome, take_of}
use Rattle.drum.specs.Turns.{handed_out}

-- ---- exchanges

-- the buffers that are lent for one: to the controller for its reply, to the change for the next request
pub record Lent : Type 0 where
  pub reply : List ℕ
  pub next : List ℕ

-- "a reply buffer of 64 bytes", and room for a request
pub record Roomy (l : Lent) : Type 0 where
  pub reply-room : 64 ≤ length l.reply
  pub next_room : 64 ≤ length l.next

abbrev pub AllRoomy : List Lent → Type 0
AllRoomy [] = Unit {0}
AllRoomy (l ∷ ls) = Roomy l × AllRoomy ls

-- what the change last told, and what the controller holds
pub record Both : Type 0 where
  pub change : Outcome
  pub unit : Banked

abbrev pub both : Outcome → Banked → Both
both x u = record { change = x; unit = u }

-- one exchange: the controller is called with the bytes that were handed out, and the bytes that it reports are taken
abbrev pub called : Banked → List ℕ → List ℕ → OutcomeOf Banked
called u q o = banked_of Minicomputer u q o

unfoldable pub exchanged : Lent → Both → Both
exchanged l w =
    let c = called w.unit (handed_out w.change) l.reply in
    both (take_of w.change.after (reply_in c) l.next) c.after

unfoldable pub run : List Lent → Both → Both
run [] w = w
run (l ∷ ls) w = run ls (exchanged l w)

-- ---- "document 01's controller at that address, record valid, Idle, keypad off, the factor's level within the access", with "any bank that
-- S1 lets pass"
pub record Ready (a r : ℕ) (u : Banked) : Type 0 where
  pub valid_record : valid u.state ≡ true
  pub valid_bank : bank.valid u.bank ≡ true
  pub same_address : get address u.state ≡ a
  pub in_idle : get phase u.state ≡ idle
  pub keypad_off : get keypad u.state ≡ off
  pub level-within : get (level (factor_place r)) u.state ≤ get access u.state

-- ---- what the controller's record w holds

-- the picked recipe and factor
pub record Holds (r f : ℕ) (w : Record) : Type 0 where
  pub recipe-held : get recipe w ≡ r
  pub factor-held : get (value (factor_place r)) w ≡ f

-- and a batch is set, of the picked preset
pub record Closed (r f p : ℕ) (w : Record) : Type 0 where
  pub holds : Holds r f w
  pub in_set : get phase w ≡ set
  pub preset-held : get preset w ≡ p

-- a field that is none of several
abbrev pub Apart : Field → List Field → Type 0
Apart g [] = Unit {0}
Apart g (f ∷ fs) = (position f ≡ position g → ⊥) × Apart g fs

-- the fields that a drum change may alter
abbrev pub altered : ℕ → List Field
altered r = recipe ∷ value (factor_place r) ∷ changed ∷ phase ∷ preset ∷ raw ∷ reset ∷ number ∷ []

-- what is held after a whole change of u: changed as by PC (02, L2), raw, reset and number as by SB; every field that is not altered is as it
-- was, and so is the bank, batch for batch
pub record Loaded (r f p : ℕ) (u w : Banked) : Type 0 where
  pub valid_record : valid w.state ≡ true
  pub closed : Closed r f p w.state
  pub changed_by : get changed w.state ≡ flag_after (get (value (factor_place r)) u.state) f (get changed u.state)
  pub raw_zero : get raw w.state ≡ 0
  pub reset_on : get reset w.state ≡ on
  pub number_next : get number w.state ≡ next_number (get number u.state)
  pub others : (g : Field) → Apart g (altered r) → get g w.state ≡ get g u.state
  pub same_bank : w.bank ≡ u.bank
