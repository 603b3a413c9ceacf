use Rattle.mdv_engine_law.proofs.Naming.{names_by}
use Rattle.mdv_engine_law.proofs.names.names_no_volume.Goals as goal

pub returns-in-Volume : goal.returns-in-Volume
returns-in-Volume c = rw (c.in-Volume.is) (names_by c.args.plan.now c.in-Volume.number c.volume_of.result c.is_none.result c.is_none.ensures c.volume_of.ensures)
