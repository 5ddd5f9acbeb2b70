-- `showing::show_flag_codes` meets its contract: each code is read where the one before it ended. Assumes nothing.
use Rattle.knowledge.specs.Sets.{mask_from}
use Rattle.showing.proofs.Codes.{codes_told}
use Rattle.showing.proofs.show_flag_codes.Goals as goal

pub returns : goal.returns
unfolding mask_from
returns c = search codes_told
