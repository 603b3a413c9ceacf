use Rattle.mdv_volumes.proofs.Tables.{tables_lie}
use Rattle.mdv_volumes.proofs.law.tables_lie.Goals as goal

pub returns : goal.returns
returns c = tables_lie
