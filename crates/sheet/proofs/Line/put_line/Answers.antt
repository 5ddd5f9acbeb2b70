-- `sheet::Line::put_line` meets its contract: the label, the sum and the end of the line are joined. Assumes nothing.
use Rattle.sheet.proofs.Laws.{sum_room, line-laid}
use borrow.Author.Rules.{rules}
use Rattle.sheet.proofs.Line.put_line.Goals as goal

pub put_units-end-requires : goal.put_units-end-requires
put_units-end-requires c =
    let a = c.args.self in
    sum_room a.recipe a.count _ _ _ _ (search rules) c.put_label-units.ensures

pub returns : goal.returns
returns c =
    let a = c.args.self in
    line-laid a.recipe a.count a.sum _ _ _ _ _ _ _ _ (search rules) c.put_label-units.ensures c.put_units-end.ensures c.put_word.ensures
