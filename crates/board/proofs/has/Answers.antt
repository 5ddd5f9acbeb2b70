-- `board::has` meets its contract: the closure compares addresses. Assumes nothing.
use Rattle.std.proofs.Common.{◌∙◌, rules, tests}
use Rattle.std.proofs.lemmas.Iterator.{YieldsList-from_slice}
use Rattle.std.proofs.lemmas.Iterator.Search.{any_from_yields_List}
use lib.Dec.{eqb}
use Rattle.state.specs.declared.Record.{Record}
use Rattle.board.proofs.Laws.{member-list}
use Rattle.board.proofs.has.Goals as goal

pub returns : goal.returns
returns c =
    let a = c.args in
    any_from_yields_List (λ (r : Record). eqb a.address r.address) _ _ _ c.any.ensures.ran (YieldsList-from_slice a.records.now cc) (λ x b q k. search (rules, tests))
    ∙ member-list a.address a.records.now
