use Rattle.mdv_fields.proofs.Placing.{laid_then}
use Rattle.mdv_fields.proofs.place.ListsSpelled.lay.Goals as goal

pub returns-in-One : goal.returns-in-One
returns-in-One c = rw c.in-One.is (laid_then c.lay-used.ensures c.lay.ensures)

pub returns-in-Two : goal.returns-in-Two
returns-in-Two c = rw c.in-Two.is (laid_then c.lay-used-in-Two.ensures (laid_then c.lay-used-in-Two-2.ensures c.lay-in-Two.ensures))
