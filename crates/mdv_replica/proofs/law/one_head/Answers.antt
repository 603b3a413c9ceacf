use Rattle.mdv_replica.proofs.Heads.{one_head}
use Rattle.mdv_replica.proofs.law.one_head.Goals as goal

pub returns : goal.returns
returns c = one_head
