-- `sheet::Line::put_recipe` meets its contract: no line for a recipe that does not occur. Assumes nothing.
use Rattle.sheet.proofs.Laws.{none-laid, one_laid}
use borrow.Author.Rules.{rules}
use Rattle.sheet.proofs.Line.put_recipe.Goals as goal

pub returns-then-self-eq0 : goal.returns-then-self-eq0
returns-then-self-eq0 c = let a = c.args.self in none-laid a.recipe a.count a.sum c.args.at _ (search rules)

pub returns : goal.returns
returns c =
    let a = c.args.self in
    one_laid a.recipe a.count a.sum _ _ _ _ (search rules) c.put_line.ensures
