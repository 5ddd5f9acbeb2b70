-- `stored::put_header` meets its contract: the version, and behind it the filled part. Assumes nothing.
use Rattle.stored.proofs.Writing.{header_put}
use Rattle.stored.proofs.put_header.Goals as goal

pub returns : goal.returns
returns c = search header_put
