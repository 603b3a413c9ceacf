use Rattle.mdv_keeping.proofs.Keeping.{tables_stay}
use Rattle.mdv_keeping.proofs.law.tables_stay.Goals as goal

pub returns : goal.returns
returns c = tables_stay
