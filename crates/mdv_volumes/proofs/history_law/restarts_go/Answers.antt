use Rattle.mdv_volumes.proofs.Restarts.{restarts_go}
use Rattle.mdv_volumes.proofs.history_law.restarts_go.Goals as goal

pub returns : goal.returns
returns c = restarts_go
