use Rattle.std.proofs.Common.{take}
use Rattle.mdv_keys.specs.Marks.{AreMarked, below_unmarked}
use Rattle.mdv_keys.proofs.using.used_beside.Given as goal

abbrev pub invariant-loop-volume : goal.invariant-loop-volume
invariant-loop-volume l = AreMarked l.used (below_unmarked l.marked (take l.volume-index l.volumes))
