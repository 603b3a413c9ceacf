use Rattle.mdv_volumes.proofs.Standing.{restarts_stand}
use Rattle.mdv_volumes.proofs.law.restarts_stand.Goals as goal

pub returns : goal.returns
returns c = restarts_stand
