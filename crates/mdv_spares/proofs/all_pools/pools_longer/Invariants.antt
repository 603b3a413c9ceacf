use Rattle.std.proofs.Common.{◌≡◌, map, take}
use Rattle.mdv_spares.specs.AllPools.{pool_longer}
use Rattle.mdv_spares.proofs.all_pools.pools_longer.Given as goal

abbrev pub invariant-loop-pool : goal.invariant-loop-pool
invariant-loop-pool l = l.made.items ≡ map (pool_longer l.geometry l.plan l.slices) (take l.pool-index l.pool-items)
