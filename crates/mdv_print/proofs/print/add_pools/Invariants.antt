use Rattle.std.proofs.Common.{◌≡◌, ◌++◌, take}
use Rattle.std.specs.List.{flat_map}
use Rattle.mdv_print.specs.Text.{pool_line}
use Rattle.mdv_print.proofs.print.add_pools.Given as goal

abbrev pub invariant-loop-pool : goal.invariant-loop-pool
invariant-loop-pool l = l.text.items ≡ l.initial.text.items ++ flat_map (pool_line l.set) (take l.pool-index l.pools)
