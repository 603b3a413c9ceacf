use Rattle.mdv_layout_law.proofs.Laid.{tables_lie}
use Rattle.mdv_layout_law.proofs.law.tables_lie.Goals as goal

pub returns : goal.returns
returns c = tables_lie
