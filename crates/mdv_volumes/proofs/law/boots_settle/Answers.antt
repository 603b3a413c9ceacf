use Rattle.mdv_volumes.proofs.Logs.{boots_settle}
use Rattle.mdv_volumes.proofs.law.boots_settle.Goals as goal

pub returns : goal.returns
returns c = boots_settle
