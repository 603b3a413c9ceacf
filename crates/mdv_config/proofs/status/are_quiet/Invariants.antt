use Rattle.std.proofs.Common.{◌≡◌, ◌<◌, ℕ, get_or}
use Rattle.mdv_config.specs.Below.{OneVolume, VolumeStatus}
use Rattle.mdv_config.specs.Table.{quiet_volume}
use Rattle.mdv_config.proofs.status.are_quiet.Given as goal

abbrev pub invariant-loop-index : goal.invariant-loop-index
invariant-loop-index l = (k : ℕ) (d : OneVolume) (e : VolumeStatus) → k < l.index → get_or l.states k e ≡ quiet_volume (get_or l.volumes k d)
