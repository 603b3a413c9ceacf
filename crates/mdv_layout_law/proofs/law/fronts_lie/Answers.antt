use Rattle.mdv_layout_law.proofs.Chained.{fronts_lie}
use Rattle.mdv_layout_law.proofs.law.fronts_lie.Goals as goal

pub returns : goal.returns
returns c = fronts_lie
