use Rattle.mdv_volumes.proofs.Told.{told_writes_last}
use Rattle.mdv_volumes.proofs.history_law.told_writes_last.Goals as goal

pub returns : goal.returns
returns c = told_writes_last
