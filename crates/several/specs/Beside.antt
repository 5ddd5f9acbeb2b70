-- Document 02, L7, with L4: several frames of a record with a bank beside it. All is said in `Several`, here over the banked call.
use Rattle.std.specs.Prelude.{◌≡◌, refl, List, ℕ, replicate}
use Rattle.frame.specs.declared.Kind.TheVariants.{Minicomputer}
use Rattle.controller.specs.Call.{OutcomeOf}
use Rattle.banked.specs.declared.Banked.{Banked}
use Rattle.banked.specs.Banked.{valid, address_of, reply_text, banked_of}
use Rattle.banked.proofs.Theorems.{reply_legal}
use Rattle.banked.proofs.Unseen.{stays_valid, same_address}
use Rattle.several.specs.Several.{SeveralOn, SteadyLaws, several_by, several_held}

-- a frame that is handed over: the banked call, with a reply buffer of its own
abbrev pub called_banked : Banked → List ℕ → OutcomeOf Banked
called_banked b q = banked_of Minicomputer b q (replicate 64 0)

-- "S1 .. also for a bank with over 100 batches or a field out of its range"
unfoldable pub banked_several_of : Banked → List ℕ → List ℕ → SeveralOn Banked
banked_several_of b s o = several_by called_banked valid b s o

-- so it is what is said of whatever is held
pub several_of_banked : (b : Banked) (s o : List ℕ) → several_held banked_of valid b s o ≡ banked_several_of b s o
unfolding several_held banked_several_of
several_of_banked b s o = refl

-- and its call has what the walk rests on
pub steady_banked : SteadyLaws valid address_of reply_text banked_of
steady_banked = record { legal = reply_legal; sound = stays_valid; unit = same_address }
