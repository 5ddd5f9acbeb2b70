-- `hearing::asks_batch` meets its contract, by a law for what is heard. Assumes nothing.
use Rattle.hearing.proofs.Asking.{asked_heard}
use Rattle.hearing.proofs.asks_batch.Goals as goal

pub returns : goal.returns
returns c = search asked_heard
