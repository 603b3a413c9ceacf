use Rattle.mdv_fields.proofs.Placing.{laid_then}
use Rattle.mdv_fields.proofs.blocks.RunSpelled.lay.Goals as goal

pub returns : goal.returns
returns c = laid_then c.lay-used.ensures c.lay.ensures
