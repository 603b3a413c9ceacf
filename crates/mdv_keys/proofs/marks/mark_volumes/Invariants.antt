use Rattle.std.proofs.Common.{◌++◌, List, take}
use Rattle.mdv_keys.specs.Below.{VolId}
use Rattle.mdv_keys.specs.Marks.{AreMarked}
use Rattle.mdv_keys.proofs.marks.mark_volumes.Given as goal

abbrev pub invariant-loop-volume : goal.invariant-loop-volume
invariant-loop-volume l = (vs : List VolId) → AreMarked l.initial.marks vs → AreMarked l.marks (vs ++ take l.volume-index l.volumes)
