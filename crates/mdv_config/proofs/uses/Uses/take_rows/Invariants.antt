use Rattle.std.proofs.Common.{List, take}
use Rattle.std.specs.Prelude.{flat_map}
use Rattle.mdv_config.specs.Below.{SliceName}
use Rattle.mdv_config.specs.Lists.{row_slices}
use Rattle.mdv_config.specs.Marks.{IsMarked}
use Rattle.mdv_config.proofs.Taking.{Taken}
use Rattle.mdv_config.proofs.uses.Uses.take_rows.Given as goal

abbrev pub invariant-loop-row : goal.invariant-loop-row
invariant-loop-row l = (uses : List SliceName) → IsMarked l.geometry.slices l.initial.self uses → Taken l.geometry.slices uses (flat_map row_slices (take l.row-index l.rows)) l.self
