use Rattle.mdv_soft.proofs.Extents.{softs_stand}
use Rattle.mdv_soft.proofs.law.softs_stand.Goals as goal

pub returns : goal.returns
returns c = softs_stand
