use Rattle.std.proofs.Common.{◌≡◌, List, reverse}
use Rattle.mdv_print.specs.Below.{VolId}
use Rattle.mdv_keys.specs.Marks.{AreMarked}
use Rattle.mdv_print.specs.Order.{next_of}
use Rattle.mdv_print.proofs.walk.take_next.Given as goal

abbrev pub invariant-loop-volume : goal.invariant-loop-volume
invariant-loop-volume l = (vs : List VolId) → AreMarked l.told vs → next_of l.plan vs (reverse l.initial.left.items) ≡ next_of l.plan vs (reverse l.left.items)

abbrev pub decreases-loop-volume : goal.decreases-loop-volume
decreases-loop-volume l = goal.left-loop-volume l
