-- `learning::learn` meets its contract: the reply is a refusal. Assumes nothing.
use Rattle.learning.proofs.Accepting.{learning}
use Rattle.learning.proofs.learn.Goals as goal

pub returns-in-Some : goal.returns-in-Some
returns-in-Some c = search learning
