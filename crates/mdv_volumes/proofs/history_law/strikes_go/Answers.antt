use Rattle.mdv_volumes.proofs.Striking.{strikes_go}
use Rattle.mdv_volumes.proofs.history_law.strikes_go.Goals as goal

pub returns : goal.returns
returns c = strikes_go
