use Rattle.std.proofs.Common.{◌-◌, ◌≡◌, ◌≤◌, false}
use Rattle.mdv_dev.specs.Pieces.{has_drive}
use Rattle.mdv_dev.proofs.work.is_seen.Given as goal

abbrev pub invariant-loop-place : goal.invariant-loop-place
invariant-loop-place g l = (l.place ≤ l.count) × (has_drive (g.D.Placed.map l.device) l.at l.place l.drive.0 ≡ false)

abbrev pub decreases-loop-place : goal.decreases-loop-place
decreases-loop-place g l = l.count - l.place
