use Rattle.std.proofs.Common.{◌++◌, List, take}
use Rattle.mdv_base.specs.declared.drive.SliceName.{SliceName}
use Rattle.mdv_config.specs.Marks.{IsMarked}
use Rattle.mdv_config.specs.Lists.{place_slices}
use Rattle.mdv_config.proofs.uses.Uses.mark_places.Given as goal

abbrev pub invariant-loop-place : goal.invariant-loop-place
invariant-loop-place l = (uses : List SliceName) → IsMarked l.geometry.slices l.initial.self uses → IsMarked l.geometry.slices l.self (uses ++ place_slices (take l.place-index l.places))
