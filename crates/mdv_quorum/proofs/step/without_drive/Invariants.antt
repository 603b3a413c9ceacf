use Rattle.std.proofs.Common.{◌≡◌, ◌++◌, drop}
use Rattle.mdv_quorum.specs.World.{without_drive as spec_without_drive}
use Rattle.mdv_quorum.proofs.step.without_drive.Given as goal

abbrev pub invariant-loop-other : goal.invariant-loop-other
invariant-loop-other l = spec_without_drive l.lost l.drive.0 ≡ l.rest ++ spec_without_drive (drop l.other-index l.lost) l.drive.0
