use Rattle.std.proofs.Common.{sym}
use Rattle.std.proofs.lemmas.Bool.{false_from_ne_true}
use Rattle.mdv_votes.specs.Spots.{same_spots as spec_same_spots}
use Rattle.mdv_votes.proofs.SameSpots.{same_length}
use Rattle.mdv_votes.proofs.spots.same_spots.Goals as goal

pub returns-then-xs-ys : goal.returns-then-xs-ys
returns-then-xs-ys c = sym (false_from_ne_true (spec_same_spots c.args.xs.now c.args.ys.now) (λ e. c.if-xs-ys.true (same_length c.args.xs.now c.args.ys.now e)))
