use Rattle.std.proofs.Common.{arith}
use Rattle.std.proofs.lemmas.Nat.{be_bytes_2}
use Rattle.mdv_fields.proofs.number.number16_of.Goals as goal

pub returns : goal.returns
returns c = be_bytes_2 c.args.field.now c.read_u16.result c.requires (λ i. omega (arith, c.type_inv.field i)) (omega (arith, c.read_u16.ensures))
