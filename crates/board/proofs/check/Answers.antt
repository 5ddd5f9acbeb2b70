-- `board::check` meets its contract: the closure asks each record. Assumes nothing.
use mathlib.Core.Path.{◌≡◌, ◌∙◌}
use Rattle.std.proofs.Common.{rules, tests}
use Rattle.std.proofs.lemmas.Iterator.{YieldsList-from_slice}
use Rattle.std.proofs.lemmas.Iterator.Search.{all_from_yields_List}
use Rattle.state.specs.Valid.{valid}
use Rattle.board.specs.Board.{all_valid}
use Rattle.board.specs.Steps.{refused_of}
use Rattle.board.proofs.Laws.{all_valid-list}
use Rattle.board.proofs.check.Goals as goal
use Rattle.board.proofs.check.Goals.{After-all}

each : (c : After-all) → c.all.result ≡ all_valid c.args.records.now
each c =
    all_from_yields_List valid _ _ _ c.all.ensures.ran (YieldsList-from_slice c.args.records.now cc) (λ x b q k. search (rules, tests))
    ∙ all_valid-list c.args.records.now

pub returns-then-not-all : goal.returns-then-not-all
unfolding refused_of
returns-then-not-all c = let e = each (goal.at.returns-then-not-all c).After-all in search rules

pub returns-then-not-distinct : goal.returns-then-not-distinct
unfolding refused_of
returns-then-not-distinct c = let e = each (goal.at.returns-then-not-distinct c).After-all in search rules

pub returns : goal.returns
unfolding refused_of
returns c = let e = each (goal.at.returns c).After-all in search rules
