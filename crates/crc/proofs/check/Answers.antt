-- The loop over the bytes is the fold that the definition is. Assumes nothing.
use Rattle.std.proofs.Common.{rules, ◌≡◌, fold, bit_xor, ◌∙◌}
use Rattle.crc.specs.Crc.{shifted_times}
use Rattle.crc.proofs.Steps.{folded}
use Rattle.crc.proofs.check.Goals as goal

pub returns : goal.returns
returns c =
    let e : c.fold.result ≡ fold (λ r x. shifted_times 8 (bit_xor r x)) 0xffff c.args.s.now = search rules in
    e ∙ folded c.args.s.now
