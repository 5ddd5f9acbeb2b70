-- `reply_to` of a record meets its contract: the text is parsed and served, the reply written from the second byte on, and enclosed. Assumes
-- nothing.
use mathlib.Core.Path.{◌≡◌, ap, ◌∙◌}
use Rattle.command.specs.Request.{Asked, asked_in, served_of, served_as}
use Rattle.controller.proofs.Steps.{reply_made}
use Rattle.controller.proofs.RecordHeld.reply_to.Goals as goal

pub returns : goal.returns
returns c =
    let served : served_as c.serve-served.result c.args.self.now ≡ served_of (asked_in c.args.text.now) c.args.self.now =
    c.serve-served.ensures ∙ ap (λ (q : Asked). served_of q c.args.self.now) c.parse.ensures in
    search reply_made
