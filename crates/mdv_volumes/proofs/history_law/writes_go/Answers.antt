use Rattle.mdv_volumes.proofs.Transfers.{writes_go}
use Rattle.mdv_volumes.proofs.history_law.writes_go.Goals as goal

pub returns : goal.returns
returns c = writes_go
