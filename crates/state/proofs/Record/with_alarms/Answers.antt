-- `state::Record::with_alarms` meets its contract: unchanged if not valid. Assumes nothing.
use borrow.Author.Rules.{rules}
use mathlib.Core.Path.{sym, ◌∙◌}
use borrow.Author.Tests.{not-false}
use Rattle.state.specs.Field.{put}
use Rattle.state.proofs.Record.with_alarms.Goals as goal

pub returns : goal.returns
unfolding put
returns c = simp (sym c.valid.ensures ∙ not-false _ (search rules))
