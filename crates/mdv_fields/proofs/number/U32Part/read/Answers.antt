use Rattle.mdv_fields.proofs.Fields.{u32_field}
use Rattle.mdv_fields.proofs.number.U32Part.read.Goals as goal

pub returns : goal.returns
returns c = u32_field c.number32_of.type_inv c.number32_of.ensures c.in_ok-field.ensures.ok.1
