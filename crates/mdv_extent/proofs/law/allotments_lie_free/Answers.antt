use Rattle.mdv_extent.proofs.Allotting.{allotted_lie_free}
use Rattle.mdv_extent.proofs.law.allotments_lie_free.Goals as goal

pub returns : goal.returns
returns c = allotted_lie_free
