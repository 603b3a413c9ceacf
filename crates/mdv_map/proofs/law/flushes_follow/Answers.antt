use Rattle.mdv_map.proofs.Following.{flushes_follow}
use Rattle.mdv_map.proofs.law.flushes_follow.Goals as goal

pub returns : goal.returns
returns c = flushes_follow
