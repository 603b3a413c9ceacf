use Rattle.mdv_volumes.proofs.Listed.{lists_stay}
use Rattle.mdv_volumes.proofs.history_law.lists_stay.Goals as goal

pub returns : goal.returns
returns c = lists_stay
