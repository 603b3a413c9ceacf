use Rattle.mdv_map.proofs.Following.{answers_follow}
use Rattle.mdv_map.proofs.law.answers_follow.Goals as goal

pub returns : goal.returns
returns c = answers_follow
