use Rattle.mdv_fields.proofs.Fields.{one_byte}
use Rattle.mdv_fields.proofs.number.byte_of.Goals as goal

pub returns : goal.returns
returns c = one_byte c.args.field.now c.requires
