use Rattle.mdv_fields.proofs.Placing.{laid_then}
use Rattle.mdv_fields.proofs.blocks.SpareSpelled.lay.Goals as goal

pub returns : goal.returns
returns c = laid_then c.lay-used.ensures (laid_then c.lay-used-2.ensures c.lay.ensures)
