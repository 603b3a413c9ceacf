use Rattle.mdv_map.proofs.Following.{issues_follow}
use Rattle.mdv_map.proofs.law.issues_follow.Goals as goal

pub returns : goal.returns
returns c = issues_follow
