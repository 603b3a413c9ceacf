use Rattle.mdv_map.proofs.Following.{boots_follow}
use Rattle.mdv_map.proofs.law.boots_follow.Goals as goal

pub returns : goal.returns
returns c = boots_follow
