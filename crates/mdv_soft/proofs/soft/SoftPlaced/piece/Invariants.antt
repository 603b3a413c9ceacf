use Rattle.std.proofs.Common.{◌-◌}
use Rattle.mdv_soft.specs.Below.{LieTogether}
use Rattle.mdv_soft.specs.Softs.{soft_on}
use Rattle.mdv_soft.proofs.soft.SoftPlaced.piece.Given as goal

abbrev pub invariant-loop-piece : goal.invariant-loop-piece
invariant-loop-piece g l = LieTogether (soft_on (g.D.Placed.map l.self.base.now) l.self.extents.now) l.at l.count l.piece

abbrev pub decreases-loop-piece : goal.decreases-loop-piece
decreases-loop-piece g l = l.count - l.piece.count
