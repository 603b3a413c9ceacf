use Rattle.std.proofs.Common.{take}
use Rattle.mdv_keys.specs.Marks.{AreMarks, pool_key}
use Rattle.mdv_keys.proofs.marks.pools_marked.Given as goal

abbrev pub invariant-loop-pool : goal.invariant-loop-pool
invariant-loop-pool l = AreMarks pool_key 1000 l.marks (take l.pool-index l.pools)
