use Rattle.mdv_volumes.proofs.Standing.{writes_stand}
use Rattle.mdv_volumes.proofs.law.writes_stand.Goals as goal

pub returns : goal.returns
returns c = writes_stand
