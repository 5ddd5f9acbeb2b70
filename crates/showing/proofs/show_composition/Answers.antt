-- `showing::show_composition` meets its contract: that recipe's factor is told. Assumes nothing.
use Rattle.std.proofs.Common.{ℕ, List, sym, ap, ◌∙◌}
use Rattle.base.specs.Text.{text}
use Rattle.showing.specs.Heard.{number_behind}
use Rattle.showing.proofs.Telling.{recipe_factor}
use Rattle.showing.proofs.show_composition.Goals as goal

pub returns-in-Some-number_behind : goal.returns-in-Some-number_behind
returns-in-Some-number_behind c =
    let (long, first, rest, five, whole) = c.in-Some.ensures.cases in
    recipe_factor c.args.s.now c.args.k.now c.in-Some.recipe.now first c.in-Some-number_behind.n (sym c.number_behind.ensures ∙ c.in-Some-number_behind.is)
    (sym c.within.ensures ∙ c.if-within.true) _ _ _ _ _ c.recipe_place-place.ensures c.alone.ensures c.narrow.ensures
    (c.number_behind-in-Some-number_behind.ensures ∙ ap (λ (l : List ℕ). number_behind (text " ") 8 l) rest) c.show_number.ensures
