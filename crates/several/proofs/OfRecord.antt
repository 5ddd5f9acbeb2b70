-- Document 01's call has the laws of the walk. Assumes nothing.
use Rattle.state.specs.Valid.{valid}
use Rattle.controller.specs.Call.{address_of, record_laws}
use Rattle.several.specs.Several.{called_record, steady_record}
use Rattle.several.proofs.Serving.{Serving}
use Rattle.several.proofs.Form.{serving}

pub serving_record : Serving called_record valid address_of
serving_record = serving record_laws steady_record
