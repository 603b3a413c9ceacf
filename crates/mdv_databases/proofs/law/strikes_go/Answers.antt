use Rattle.mdv_databases.proofs.Striking.{strikes_go}
use Rattle.mdv_databases.proofs.law.strikes_go.Goals as goal

pub returns : goal.returns
returns c = strikes_go
