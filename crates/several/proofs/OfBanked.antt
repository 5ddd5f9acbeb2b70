-- The banked call has the laws of the walk. Assumes nothing.
use Rattle.banked.specs.Banked.{valid, address_of}
use Rattle.banked.specs.Steps.{banked_laws}
use Rattle.several.specs.Beside.{called_banked, steady_banked}
use Rattle.several.proofs.Serving.{Serving}
use Rattle.several.proofs.Form.{serving}

pub serving_banked : Serving called_banked valid address_of
serving_banked = serving banked_laws steady_banked
