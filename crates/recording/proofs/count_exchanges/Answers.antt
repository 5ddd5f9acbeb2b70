-- `recording::count_exchanges`: one exchange more is counted. Assumes nothing.
use Rattle.std.proofs.Common.{Ok, sym, ap, ◌∙◌}
use Rattle.recording.proofs.Laws.{counted_one}
use Rattle.recording.proofs.count_exchanges.Goals as goal

pub loop-spans-preserved : goal.loop-spans-preserved
loop-spans-preserved c =
    counted_one _ _ _ c.loop-spans.invariant c.in-Some.spans (sym c.exchange_at.ensures ∙ c.in_ok-spans.was ∙ ap Ok c.in-Some.is)
