-- `week::add_up` meets its contract: what was read is added up. Assumes nothing.
use Rattle.week.proofs.Laws.{week_refused, week_ok, week_whole}
use borrow.Author.Rules.{rules}
use Rattle.week.proofs.add_up.Goals as goal

pub returns-in_err-bank : goal.returns-in_err-bank
returns-in_err-bank c =
    week_refused _ c.read.result c.read.ensures c.from_residual.result _ c.in_err-bank.was (search rules)

pub unwrap-requires : goal.unwrap-requires
unwrap-requires c = search (week_ok, rules)

pub returns : goal.returns
returns c =
    week_whole _ c.read.result c.read.ensures c.in_ok-bank.bank c.in_ok-bank.was c.bank_totals.result c.bank_totals.ensures c.unwrap.result (search rules)
