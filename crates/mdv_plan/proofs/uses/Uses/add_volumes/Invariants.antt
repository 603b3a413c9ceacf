use Rattle.std.proofs.Common.{◌≡◌, ◌++◌, take}
use Rattle.std.specs.List.{flat_map}
use Rattle.mdv_plan.specs.Uses.{volume_uses}
use Rattle.mdv_plan.proofs.uses.Uses.add_volumes.Given as goal

abbrev pub invariant-loop-volume : goal.invariant-loop-volume
invariant-loop-volume l = l.self ≡ l.initial.self ++ flat_map volume_uses (take l.volume-index l.volumes)
