use Rattle.std.proofs.Common.{take}
use Rattle.mdv_keys.specs.Marks.{AreMarks, pool_key, pools_unmarked}
use Rattle.mdv_keys.proofs.using.pools_beside.Given as goal

abbrev pub invariant-loop-volume : goal.invariant-loop-volume
invariant-loop-volume l = AreMarks pool_key 1000 l.used (pools_unmarked l.marked (take l.volume-index l.volumes))
