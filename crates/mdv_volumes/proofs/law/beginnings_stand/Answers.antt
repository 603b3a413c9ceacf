use Rattle.mdv_volumes.proofs.Standing.{beginnings_stand}
use Rattle.mdv_volumes.proofs.law.beginnings_stand.Goals as goal

pub returns : goal.returns
returns c = beginnings_stand
