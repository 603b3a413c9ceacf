use Rattle.mdv_map.proofs.Combining.{cuts_lie}
use Rattle.mdv_map.proofs.law.cuts_lie.Goals as goal

pub returns : goal.returns
returns c = cuts_lie
