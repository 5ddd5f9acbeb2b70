-- `knowledge::has_mask` meets its contract before the parameters: between the phase and the recipe. Assumes nothing.
use Rattle.std.proofs.Common.{◌≡◌, rules, arith}
use Rattle.base.specs.Test.{between}
use Rattle.state.specs.Field.{phase, recipe, position}
use Rattle.knowledge.proofs.Membership.{kind_scalar}
use Rattle.knowledge.proofs.has_mask.Goals as goal

pub returns-then-field-lt-VALUES : goal.returns-then-field-lt-VALUES
returns-then-field-lt-VALUES c =
    let inside : c.contains.result ≡ between (position phase) (position recipe) c.args.field = search rules in
    rw inside (kind_scalar _ c.requires (omega arith))
