use Rattle.mdv_replica.proofs.Showing.{wipes_show}
use Rattle.mdv_replica.proofs.law.wipes_show.Goals as goal

pub returns : goal.returns
returns c = wipes_show
