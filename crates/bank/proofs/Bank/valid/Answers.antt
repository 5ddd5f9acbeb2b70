-- `bank::Bank::valid` meets its contract: each of the batches that are kept is asked. Assumes nothing.
use Rattle.std.proofs.Common.{◌≡◌, ◌∙◌, rules, tests}
use Rattle.std.specs.List.{list_all}
use Rattle.std.proofs.lemmas.Iterator.{YieldsList-from_slice}
use Rattle.std.proofs.lemmas.Iterator.Search.{all_from_yields_List}
use Rattle.bank.specs.Bank.{batch_valid, batches_in}
use Rattle.bank.proofs.Validity.{valid_few}
use Rattle.bank.proofs.Bank.valid.Goals as goal

pub returns : goal.returns
returns c =
    let kept = batches_in c.args.self in
    let each : c.all.result ≡ list_all batch_valid kept =
    all_from_yields_List batch_valid _ _ _ c.all.ensures.ran (YieldsList-from_slice kept cc) (λ x b q h. search (rules, tests)) in
    each ∙ search (valid_few, rules)
