use Rattle.mdv_map.proofs.Joining.{rewritings_join}
use Rattle.mdv_map.proofs.law.rewritings_join.Goals as goal

pub returns : goal.returns
returns c = rewritings_join
