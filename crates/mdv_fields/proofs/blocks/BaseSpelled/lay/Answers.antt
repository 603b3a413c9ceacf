use Rattle.mdv_fields.proofs.Placing.{laid_then}
use Rattle.mdv_fields.proofs.blocks.BaseSpelled.lay.Goals as goal

pub returns-in-Slice : goal.returns-in-Slice
returns-in-Slice c = rw c.in-Slice.is (laid_then c.lay-used.ensures c.lay.ensures)

pub returns-in-Volume : goal.returns-in-Volume
returns-in-Volume c = rw c.in-Volume.is (laid_then c.lay-used-in-Volume.ensures (rw c.from.ensures at c.lay-in-Volume.ensures))
