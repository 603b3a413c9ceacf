use Rattle.mdv_volumes.proofs.Keys.{databases_live}
use Rattle.mdv_volumes.proofs.history_law.databases_live.Goals as goal

pub returns : goal.returns
returns c = databases_live
