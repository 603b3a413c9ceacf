use Rattle.mdv_volumes.proofs.Telling.{tells_go}
use Rattle.mdv_volumes.proofs.history_law.tells_go.Goals as goal

pub returns : goal.returns
returns c = tells_go
