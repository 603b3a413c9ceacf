use Rattle.std.proofs.Common.{◌-◌}
use Rattle.mdv_layout.specs.Below.{LieTogether}
use Rattle.mdv_layout.specs.Layouts.{layout_map}
use Rattle.mdv_layout.proofs.layout.LayoutPlaced.piece.Given as goal

abbrev pub invariant-loop-piece : goal.invariant-loop-piece
invariant-loop-piece l = LieTogether (layout_map l.self) l.at l.count l.piece

abbrev pub decreases-loop-piece : goal.decreases-loop-piece
decreases-loop-piece l = l.count - l.piece.count
