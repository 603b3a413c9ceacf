use Rattle.mdv_fields.proofs.Fields.{u64_field}
use Rattle.mdv_fields.proofs.number.U64Part.read.Goals as goal

pub returns : goal.returns
returns c = u64_field c.number64_of.type_inv c.number64_of.ensures c.in_ok-field.ensures.ok.1
