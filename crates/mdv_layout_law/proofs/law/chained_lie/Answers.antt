use Rattle.mdv_layout_law.proofs.Chained.{chained_lie}
use Rattle.mdv_layout_law.proofs.law.chained_lie.Goals as goal

pub returns : goal.returns
returns c = chained_lie
