use Rattle.mdv_volumes.proofs.Lifting.{creations_go}
use Rattle.mdv_volumes.proofs.history_law.creations_go.Goals as goal

pub returns : goal.returns
returns c = creations_go
