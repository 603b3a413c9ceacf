use Rattle.mdv_volumes.proofs.Lifting.{databases_go}
use Rattle.mdv_volumes.proofs.history_law.databases_go.Goals as goal

pub returns : goal.returns
returns c = databases_go
