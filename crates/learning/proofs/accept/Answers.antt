-- `learning::accept` meets its contract: a read shows, a write passes and shows. Assumes nothing.
use Rattle.std.proofs.Common.{Ok, ap, ◌∙◌}
use Rattle.learning.proofs.Accepting.{read_accepted, write_accepted}
use Rattle.learning.proofs.accept.Goals as goal

pub returns-in-Read : goal.returns-in-Read
returns-in-Read c = read_accepted _ _ _ _ _ _ (c.in-Ok.is ∙ ap Ok c.in-Read.is) c.show.ensures

pub returns-in-Write : goal.returns-in-Write
returns-in-Write c = write_accepted _ _ _ _ _ _ _ _ (c.in-Ok.is ∙ ap Ok c.in-Write.is) c.of.ensures c.pass.ensures c.show_ok.ensures
