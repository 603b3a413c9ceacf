use Rattle.mdv_volumes.proofs.Waking.{boots_go}
use Rattle.mdv_volumes.proofs.history_law.boots_go.Goals as goal

pub returns : goal.returns
returns c = boots_go
