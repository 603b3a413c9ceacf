use Rattle.mdv_replica.proofs.Showing.{slots_show}
use Rattle.mdv_replica.proofs.law.slots_show.Goals as goal

pub returns : goal.returns
returns c = slots_show
