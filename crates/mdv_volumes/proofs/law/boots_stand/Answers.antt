use Rattle.mdv_volumes.proofs.Standing.{boots_stand}
use Rattle.mdv_volumes.proofs.law.boots_stand.Goals as goal

pub returns : goal.returns
returns c = boots_stand
