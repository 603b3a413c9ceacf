use Rattle.std.proofs.Common.{◌≡◌, take}
use Rattle.std.specs.List.{flat_map}
use Rattle.mdv_change.specs.Levels.{below_of}
use Rattle.mdv_change.proofs.levels.all_below.Given as goal

abbrev pub invariant-loop-volume : goal.invariant-loop-volume
invariant-loop-volume l = l.list.items ≡ flat_map (below_of l.plan) (take l.volume-index l.volumes)
