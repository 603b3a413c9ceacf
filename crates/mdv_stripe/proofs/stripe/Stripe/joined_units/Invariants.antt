use Rattle.std.proofs.Common.{◌-◌}
use Rattle.mdv_dev.specs.Together.{LieTogether}
use Rattle.mdv_stripe.specs.Stripes.{maps_of, striped}
use Rattle.mdv_stripe.proofs.stripe.Stripe.joined_units.Given as goal

abbrev pub invariant-loop-piece : goal.invariant-loop-piece
invariant-loop-piece g l = LieTogether (striped l.self.interlace (maps_of g.D.Placed.map l.self.components.now)) l.at l.count l.piece

abbrev pub decreases-loop-piece : goal.decreases-loop-piece
decreases-loop-piece g l = l.count - l.piece.count
