-- `state::Record::scalars_valid` meets its contract: the ranges that are tested, and those that no phase and no flag leaves. Assumes nothing.
use Rattle.state.proofs.Validity.{scalars_tested}
use Rattle.state.proofs.Record.scalars_valid.Goals as goal

pub returns : goal.returns
returns c = search scalars_tested
