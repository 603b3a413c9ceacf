use Rattle.std.proofs.Common.{◌≡◌, drop}
use Rattle.mdv_extent.proofs.Standing.{stand}
use Rattle.mdv_extent.proofs.apart.stand_apart.Given as goal

abbrev pub invariant-loop-run : goal.invariant-loop-run
invariant-loop-run l = stand l.end l.blocks (drop l.run-index l.extents) ≡ stand 0 l.blocks l.extents
