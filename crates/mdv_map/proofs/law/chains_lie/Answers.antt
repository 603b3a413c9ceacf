use Rattle.mdv_map.proofs.Combining.{chains_lie}
use Rattle.mdv_map.proofs.law.chains_lie.Goals as goal

pub returns : goal.returns
returns c = chains_lie
