-- `stored::low_record` meets its contract: each value is at its low end. Assumes nothing.
use Rattle.state.specs.Field.{phase_of, listed, record_from}
use Rattle.stored.specs.Form.{low_record}
use Rattle.stored.proofs.LowRecord.{low_is}
use borrow.Author.Rules.{rules}
use Rattle.stored.proofs.low_record.Goals as goal

pub returns : goal.returns
unfolding low_record record_from phase_of listed
returns c = low_is _ c.from_fn.ensures.items.long (λ i h. let e = c.from_fn.ensures.items.at i 0 h in search rules)
