use Rattle.mdv_fields.proofs.Fields.{u16_field}
use Rattle.mdv_fields.proofs.number.U16Part.read.Goals as goal

pub returns : goal.returns
returns c = u16_field c.number16_of.type_inv c.number16_of.ensures c.in_ok-field.ensures.ok.1
