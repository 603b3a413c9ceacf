use Rattle.std.proofs.Common.{◌-◌}
use Rattle.mdv_dev.proofs.Finishing.{SoFar}
use Rattle.mdv_dev.proofs.work.finish.Given as goal

abbrev pub invariant-loop-work : goal.invariant-loop-work
invariant-loop-work g l = SoFar g.S.Shelf (g.D.Placed.map l.device) l.fn.shelf l.shelf l.fn.work l.work l.fn.buffer l.buffer

abbrev pub decreases-loop-work : goal.decreases-loop-work
decreases-loop-work g l = l.work.count - l.work.done
