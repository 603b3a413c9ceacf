use Rattle.mdv_volumes.proofs.Vacant.{vacant_stay}
use Rattle.mdv_volumes.proofs.history_law.vacant_stay.Goals as goal

pub returns : goal.returns
returns c = vacant_stay
