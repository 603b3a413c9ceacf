use Rattle.mdv_volumes.proofs.Lives.{volumes_live}
use Rattle.mdv_volumes.proofs.history_law.volumes_live.Goals as goal

pub returns : goal.returns
returns c = volumes_live
