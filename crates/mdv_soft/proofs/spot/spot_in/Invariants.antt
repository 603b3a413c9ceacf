use Rattle.std.proofs.Common.{drop}
use Rattle.mdv_soft.proofs.Spots.{IsRest}
use Rattle.mdv_soft.proofs.spot.spot_in.Given as goal

abbrev pub invariant-loop-run : goal.invariant-loop-run
invariant-loop-run l = IsRest l.extents (drop l.run-index l.extents) l.at l.behind
