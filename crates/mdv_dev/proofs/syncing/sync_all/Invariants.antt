use Rattle.std.proofs.Common.{◌-◌}
use Rattle.mdv_dev.proofs.Syncs.{SoFar}
use Rattle.mdv_dev.proofs.syncing.sync_all.Given as goal

abbrev pub invariant-loop-place : goal.invariant-loop-place
invariant-loop-place g l = SoFar g.S.Shelf l.fn.shelf l.shelf (g.D.Placed.map l.device) l.at l.lost l.count l.place l.fn.failed l.failed l.result

abbrev pub decreases-loop-place : goal.decreases-loop-place
decreases-loop-place g l = l.count - l.place
