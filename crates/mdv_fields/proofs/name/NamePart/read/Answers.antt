use Rattle.std.proofs.Common.{length, arith}
use Rattle.mdv_fields.proofs.Fields.{counted}
use Rattle.mdv_fields.proofs.name.NamePart.read.Goals as goal

pub returns : goal.returns
returns c = counted length (λ name. name) c.read_name.result (λ name is. omega (arith, is.short)) c.in_ok-size.ensures c.read_name.ensures
