use Rattle.mdv_replica.proofs.Newest.{newest_stays}
use Rattle.mdv_replica.proofs.law.newest_stays.Goals as goal

pub returns : goal.returns
returns c = newest_stays
