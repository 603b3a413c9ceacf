use Rattle.std.proofs.Common.{take}
use Rattle.mdv_acts.proofs.Ordering.{IsSoFar}
use Rattle.mdv_acts.proofs.wiping.in_front.Given as goal

abbrev pub invariant-loop-other : goal.invariant-loop-other
invariant-loop-other l = IsSoFar l.place (take l.other-index l.ordered) l.is_in l.next
