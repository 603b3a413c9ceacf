use Rattle.mdv_map.proofs.Following.{crashes_follow}
use Rattle.mdv_map.proofs.law.crashes_follow.Goals as goal

pub returns : goal.returns
returns c = crashes_follow
