use Rattle.mdv_map.proofs.Following.{narrower_maps_follow}
use Rattle.mdv_map.proofs.law.narrower_maps_follow.Goals as goal

pub returns : goal.returns
returns c = narrower_maps_follow
