-- `lay` meets its contract: the part that is written is as long as the codes. Assumes nothing.
use Rattle.std.proofs.Common.{◌≡◌, ℕ, length, rules, arith, length-take}
use Rattle.knowledge.proofs.lay.Goals as goal

pub copy_from_slice-requires : goal.copy_from_slice-requires
copy_from_slice-requires c = let all : length c.args.codes ≡ 77 = search rules in omega (arith, length-take {A = ℕ})
