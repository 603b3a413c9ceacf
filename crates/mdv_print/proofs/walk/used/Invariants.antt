use Rattle.std.proofs.Common.{take}
use Rattle.std.specs.List.{flat_map}
use Rattle.mdv_keys.specs.Marks.{AreMarked, below_it}
use Rattle.mdv_print.proofs.walk.used.Given as goal

abbrev pub invariant-loop-volume : goal.invariant-loop-volume
invariant-loop-volume l = AreMarked l.marks (flat_map below_it (take l.volume-index l.volumes))
