use Rattle.std.proofs.Common.{take}
use Rattle.mdv_config.specs.Lists.{place_slices, component_slices}
use Rattle.mdv_config.proofs.Taking.{Taken}
use Rattle.mdv_config.proofs.of_geometry.are_apart.Given as goal

abbrev pub invariant-loop-volume : goal.invariant-loop-volume
invariant-loop-volume l = Taken l.geometry.slices (place_slices l.places) (component_slices (take l.volume-index l.volumes)) l.uses
