-- `several::next_start` meets its contract: the position of the first STX. Assumes nothing.
use Prim.Native.Nat.{ℕ, ◌+◌, ◌-◌}
use mathlib.Core.Path.{sym, ap, ◌∙◌}
use lib.Dec.{eqb}
use lib.ListN.{length, take, drop}
use Rattle.std.proofs.Common.{rules, tests}
use Rattle.std.specs.Prelude.{Option}
use Rattle.std.specs.Option.{unwrap_or}
use Rattle.std.proofs.lemmas.Iterator.{YieldsList-from_slice}
use Rattle.std.proofs.lemmas.Iterator.Search.{position_from_yields_List}
use Rattle.frame.specs.Frame.{stx}
use Rattle.several.proofs.Seek.{start_form}
use Rattle.several.proofs.next_start.Goals as goal

pub returns : goal.returns
returns c =
    let rest = take (length c.args.bytes.now - c.args.from) (drop c.args.from c.args.bytes.now) in
    let found =
    position_from_yields_List (λ x. eqb x stx) _ _ c.position.result c.position.ensures.ran (YieldsList-from_slice rest cc) (λ x b q k. search (rules, tests)) in
    ap (λ n. c.args.from + n) (c.unwrap_or.ensures ∙ ap (λ (o : Option ℕ). unwrap_or o (length rest)) found) ∙ sym (start_form c.args.bytes.now c.args.from)
