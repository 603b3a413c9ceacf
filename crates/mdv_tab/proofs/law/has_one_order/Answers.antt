use Rattle.std.proofs.Common.{length}
use Rattle.mdv_tab.specs.Order.{Needs}
use Rattle.mdv_tab.proofs.OneOrder.{one_order}
use Rattle.mdv_tab.proofs.law.has_one_order.Goals as goal

pub returns : goal.returns
returns c = λ entries a b. one_order (Needs entries) (length entries) a b
