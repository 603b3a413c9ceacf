use Rattle.std.proofs.Common.{◌≡◌, take, flat_map}
use Rattle.mdv_remake.specs.Asked.{volume_named}
use Rattle.mdv_remake.proofs.asked.volumes_in.Given as goal

abbrev pub invariant-loop-name : goal.invariant-loop-name
invariant-loop-name l = l.volumes ≡ flat_map volume_named (take l.name-index l.names)
