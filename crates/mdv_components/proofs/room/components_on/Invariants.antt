use Rattle.std.proofs.Common.{◌≡◌, take}
use Rattle.std.specs.Prelude.{map}
use Rattle.mdv_components.specs.Room.{component_on}
use Rattle.mdv_components.proofs.room.components_on.Given as goal

abbrev pub invariant-loop-base : goal.invariant-loop-base
invariant-loop-base g l = l.made ≡ map (component_on l.geometry l.plan l.blocks) (take l.base-index l.bases)
