-- `hearing::learn` meets its contract, by a law for two texts. Assumes nothing.
use Rattle.hearing.proofs.Steps.{learn_texts}
use Rattle.hearing.proofs.learn.Goals as goal

pub returns-in-Texts : goal.returns-in-Texts
returns-in-Texts c = search learn_texts
