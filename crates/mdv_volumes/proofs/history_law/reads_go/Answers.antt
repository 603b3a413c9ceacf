use Rattle.mdv_volumes.proofs.Transfers.{reads_go}
use Rattle.mdv_volumes.proofs.history_law.reads_go.Goals as goal

pub returns : goal.returns
returns c = reads_go
