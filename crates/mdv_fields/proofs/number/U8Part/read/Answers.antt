use Rattle.mdv_fields.proofs.Fields.{byte_field}
use Rattle.mdv_fields.proofs.number.U8Part.read.Goals as goal

pub returns : goal.returns
returns c = byte_field c.byte_of.type_inv c.byte_of.ensures c.in_ok-field.ensures.ok.1
