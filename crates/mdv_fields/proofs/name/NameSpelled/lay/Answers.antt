use Rattle.mdv_fields.proofs.Placing.{laid_then}
use Rattle.mdv_fields.proofs.name.NameSpelled.lay.Goals as goal

pub returns : goal.returns
returns c = rw c.as_bytes-text.ensures.value at (laid_then c.lay-used.ensures c.lay.ensures)
