use Rattle.mdv_map.proofs.Following.{beginnings_follow}
use Rattle.mdv_map.proofs.law.beginnings_follow.Goals as goal

pub returns : goal.returns
returns c = beginnings_follow
