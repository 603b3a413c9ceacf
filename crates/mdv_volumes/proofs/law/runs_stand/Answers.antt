use Rattle.mdv_volumes.proofs.Runs.{runs_stand}
use Rattle.mdv_volumes.proofs.law.runs_stand.Goals as goal

pub returns : goal.returns
returns c = runs_stand
