use Rattle.mdv_encoding.proofs.Placed.{placed_encoded}
use Rattle.mdv_encoding.proofs.encoding.encode.Goals as goal

pub returns-clause-ok : goal.returns-clause-ok
returns-clause-ok c = placed_encoded c.args.table.now c.args.out.now c.encode.new.out c.encode.result c.encode.ensures.ok
