use Rattle.mdv_map.proofs.Following.{rewritings_follow}
use Rattle.mdv_map.proofs.law.rewritings_follow.Goals as goal

pub returns : goal.returns
returns c = rewritings_follow
