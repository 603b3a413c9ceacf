use Rattle.std.proofs.Common.{◌≡◌, take}
use Rattle.std.specs.List.{flat_map}
use Rattle.mdv_shape.specs.Owners.{carried_by}
use Rattle.mdv_shape.proofs.owners.all_carried.Given as goal

abbrev pub invariant-loop-volume : goal.invariant-loop-volume
invariant-loop-volume l = l.list.items ≡ flat_map carried_by (take l.volume-index l.volumes)
