use Rattle.mdv_extent.proofs.Spreading.{one_list}
use Rattle.mdv_extent.proofs.law.one_list_is_free.Goals as goal

pub returns : goal.returns
returns c = one_list
