use Rattle.mdv_replica.proofs.Showing.{formats_show}
use Rattle.mdv_replica.proofs.law.formats_show.Goals as goal

pub returns : goal.returns
returns c = formats_show
