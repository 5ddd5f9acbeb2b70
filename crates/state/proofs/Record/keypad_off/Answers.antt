-- `state::Record::keypad_off` meets its contract: unchanged if not valid, else the flag off. Assumes nothing.
use borrow.Author.Rules.{rules}
use mathlib.Core.Path.{refl}
use Rattle.state.specs.Field.{put}
use Rattle.state.proofs.Events.{after_invalid, after_valid}
use Rattle.state.specs.declared.Event.TheVariants.{KeypadOff}
use Rattle.state.proofs.Record.keypad_off.Goals as goal

pub returns-then-not-valid : goal.returns-then-not-valid
returns-then-not-valid c = search after_invalid

pub returns : goal.returns
unfolding put
returns c = after_valid _ _ c.valid.ensures (search rules) KeypadOff _ refl
