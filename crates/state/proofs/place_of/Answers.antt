-- `state::place_of` meets its contract: the digits give what document 01 lists, and the system's codes stand behind. Assumes nothing.
use mathlib.Core.Path.{refl, sym, ap, ◌∙◌}
use native.Mathlib.Omega.{arith}
use borrow.Author.Rules.{rules}
use Rattle.std.specs.Prelude.{Some, None}
use Rattle.std.proofs.Common.{◌≡◌}
use Rattle.state.specs.Parameter.{digits_place}
use Rattle.state.proofs.Parameters.{place-given-digits, place-given_system}
use Rattle.state.proofs.place_of.Goals as goal
use Rattle.state.proofs.place_of.Goals.{in_default-via-then-code-lt801, in_default-via-else-code-lt801+else-code-lt809}

pub returns-in-801-to-808 : goal.returns-in-801-to-808
returns-in-801-to-808 c = place-given_system _ _ (omega arith) (omega arith) refl

pub returns-in_err-recipe-in_default : goal.returns-in_err-recipe-in_default
returns-in_err-recipe-in_default c =
    let e : c.by_digits.result ≡ None = search rules in
    let f : c.from_residual.result ≡ None = search rules in
    f ∙ (ap digits_place (sym e) ∙ place-given-digits _ _ c.by_digits.ensures (λ l h. elim c.in_default.branch [ in_default-via-then-code-lt801 w ↦ omega arith | in_default-via-else-code-lt801+else-code-lt809 w ↦ omega arith ]))

pub returns-in_ok-recipe-in_default : goal.returns-in_ok-recipe-in_default
returns-in_ok-recipe-in_default c =
    let e : c.by_digits.result ≡ Some (c.in_ok-recipe-in_default.recipe, c.in_ok-recipe-in_default.kind) = search rules in
    ap Some c.recipe_place.ensures ∙ (ap digits_place (sym e) ∙ place-given-digits _ _ c.by_digits.ensures (λ l h. elim c.in_default.branch [ in_default-via-then-code-lt801 w ↦ omega arith | in_default-via-else-code-lt801+else-code-lt809 w ↦ omega arith ]))
