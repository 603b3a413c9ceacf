use Rattle.std.proofs.Common.{◌≡◌, ◌++◌, take}
use Rattle.std.specs.List.{flat_map}
use Rattle.mdv_plan.specs.Uses.{pool_uses}
use Rattle.mdv_plan.proofs.uses.Uses.add_pools.Given as goal

abbrev pub invariant-loop-pool : goal.invariant-loop-pool
invariant-loop-pool l = l.self ≡ l.initial.self ++ flat_map pool_uses (take l.pool-index l.pools)
