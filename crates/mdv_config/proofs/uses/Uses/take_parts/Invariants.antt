use Rattle.std.proofs.Common.{List, take}
use Rattle.std.specs.Prelude.{flat_map}
use Rattle.mdv_config.specs.Below.{SliceName}
use Rattle.mdv_config.specs.Lists.{part_slices}
use Rattle.mdv_config.specs.Marks.{IsMarked}
use Rattle.mdv_config.proofs.Taking.{Taken}
use Rattle.mdv_config.proofs.uses.Uses.take_parts.Given as goal

abbrev pub invariant-loop-component : goal.invariant-loop-component
invariant-loop-component l = (uses : List SliceName) → IsMarked l.geometry.slices l.initial.self uses → Taken l.geometry.slices uses (flat_map part_slices (take l.component-index l.components)) l.self
