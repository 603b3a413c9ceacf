use Rattle.mdv_replica.proofs.Showing.{claims_show}
use Rattle.mdv_replica.proofs.law.claims_show.Goals as goal

pub returns : goal.returns
returns c = claims_show
