use Rattle.std.proofs.Common.{◌≡◌, take}
use Rattle.std.specs.List.{flat_map}
use Rattle.mdv_change.specs.Clear.{lost_of}
use Rattle.mdv_change.proofs.clearing.lost_spares.Given as goal

abbrev pub invariant-loop-pool : goal.invariant-loop-pool
invariant-loop-pool l = l.keys.items ≡ flat_map (lost_of l.plan l.pools) (take l.pool-index l.pools)
