use Rattle.mdv_map.proofs.Following.{copies_follow}
use Rattle.mdv_map.proofs.law.copies_follow.Goals as goal

pub returns : goal.returns
returns c = copies_follow
