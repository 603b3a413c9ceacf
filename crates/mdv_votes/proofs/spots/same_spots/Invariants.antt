use Rattle.std.proofs.Common.{◌≡◌, drop}
use Rattle.mdv_votes.specs.Spots.{same_spots as spec_same_spots}
use Rattle.mdv_votes.proofs.spots.same_spots.Given as goal

abbrev pub invariant-loop-i : goal.invariant-loop-i
invariant-loop-i l = spec_same_spots l.xs l.ys ≡ spec_same_spots (drop l.i l.xs) (drop l.i l.ys)
