use Rattle.std.proofs.Common.{◌≡◌, map, take}
use Rattle.mdv_shape.specs.Below.{volume_key}
use Rattle.mdv_shape.proofs.owners.numbers_of.Given as goal

abbrev pub invariant-loop-volume : goal.invariant-loop-volume
invariant-loop-volume l = l.numbers.items ≡ map volume_key (take l.volume-index l.volumes)
