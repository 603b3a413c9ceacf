use Rattle.mdv_fields.proofs.Placing.{laid_then}
use Rattle.mdv_fields.proofs.set.PendingSpelled.lay.Goals as goal

pub returns : goal.returns
returns c = laid_then c.lay-used.ensures (rw c.as_slice.ensures.value at c.lay_short.ensures)
