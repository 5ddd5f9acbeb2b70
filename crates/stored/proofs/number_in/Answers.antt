-- `stored::number_in` meets its contract: a byte more each turn. Assumes nothing.
use native.Mathlib.Omega.{arith}
use Rattle.stored.proofs.Bytes.{begun_none, begun_high, begun_more}
use borrow.Author.Rules.{rules}
use Rattle.stored.proofs.number_in.Goals as goal

pub loop-byte-init : goal.loop-byte-init
loop-byte-init c = begun_none _

pub overflow_mul-n : goal.overflow_mul-n
overflow_mul-n c = omega (arith, begun_high c.loop-byte.invariant c.loop-byte-test.true c.requires)

pub loop-byte-preserved : goal.loop-byte-preserved
loop-byte-preserved c = search (begun_more, rules)
