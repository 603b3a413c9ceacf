use Rattle.mdv_map.proofs.Combining.{mirrors_lie}
use Rattle.mdv_map.proofs.law.mirrors_lie.Goals as goal

pub returns : goal.returns
returns c = mirrors_lie
