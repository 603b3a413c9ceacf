use Rattle.mdv_volumes.proofs.Waking.{beginnings_go}
use Rattle.mdv_volumes.proofs.history_law.beginnings_go.Goals as goal

pub returns : goal.returns
returns c = beginnings_go
