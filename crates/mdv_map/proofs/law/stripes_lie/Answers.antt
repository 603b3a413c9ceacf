use Rattle.mdv_map.proofs.Striping.{stripes_lie}
use Rattle.mdv_map.proofs.law.stripes_lie.Goals as goal

pub returns : goal.returns
returns c = stripes_lie
