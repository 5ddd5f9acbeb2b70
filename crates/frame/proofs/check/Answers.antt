-- `frame::check` meets its contract: the fold over the bytes is the one that the definition is. Assumes nothing.
use Rattle.std.proofs.Common.{rules, ◌≡◌, fold, bit_xor, ◌∙◌}
use Rattle.frame.proofs.Steps.{folded}
use Rattle.frame.proofs.check.Goals as goal

pub returns : goal.returns
returns c =
    let e : c.fold.result ≡ fold (λ a x. bit_xor a x) 0 c.args.s.now = search rules in
    e ∙ folded 0 c.args.s.now
