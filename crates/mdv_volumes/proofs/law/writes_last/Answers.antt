use Rattle.mdv_volumes.proofs.Logs.{writes_last}
use Rattle.mdv_volumes.proofs.law.writes_last.Goals as goal

pub returns : goal.returns
returns c = writes_last
