use Rattle.mdv_map.proofs.Covering.{runs_lie}
use Rattle.mdv_map.proofs.law.runs_lie.Goals as goal

pub returns : goal.returns
returns c = runs_lie
