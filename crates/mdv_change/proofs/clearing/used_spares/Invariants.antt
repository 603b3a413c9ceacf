use Rattle.std.proofs.Common.{◌≡◌, take}
use Rattle.mdv_change.specs.Clear.{used_spares}
use Rattle.mdv_change.proofs.clearing.used_spares.Given as goal

abbrev pub invariant-loop-volume : goal.invariant-loop-volume
invariant-loop-volume l = l.slices.items ≡ used_spares l.status (take l.volume-index l.volumes)
