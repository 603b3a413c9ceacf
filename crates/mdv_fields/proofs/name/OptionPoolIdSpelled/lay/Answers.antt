use Rattle.mdv_fields.proofs.Placing.{laid_then}
use Rattle.mdv_fields.proofs.name.OptionPoolIdSpelled.lay.Goals as goal

pub returns-in-Some : goal.returns-in-Some
returns-in-Some c = rw c.in-Some.is (laid_then c.lay-used.ensures c.lay-in-Some.ensures)
