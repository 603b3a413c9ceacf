use Rattle.mdv_acts.proofs.Slicing.{order_slice, order_together}
use Rattle.mdv_acts.proofs.law.wipe_orders_tell.Goals as goal

pub returns : goal.returns
returns c = record { last_first = order_slice; together = order_together }
