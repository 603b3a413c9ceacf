use Rattle.mdv_fields.proofs.Rising.{RisesTo}
use Rattle.mdv_fields.proofs.order.ascend.Given as goal

abbrev pub invariant-loop-i : goal.invariant-loop-i
invariant-loop-i g l = RisesTo g.T.Ordered.below l.items l.i
