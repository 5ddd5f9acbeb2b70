-- `sheet::put_units` meets its contract: the units, the point and the decimals are joined. Assumes nothing.
use Rattle.sheet.proofs.Laws.{units-laid}
use borrow.Author.Rules.{rules}
use Rattle.sheet.proofs.put_units.Goals as goal

pub returns : goal.returns
returns c =
    units-laid c.args.sum _ _ _ _ _ _ _ _ (search rules) c.put_decimal-point.ensures c.put_word-decimals.ensures c.put_digits.ensures
