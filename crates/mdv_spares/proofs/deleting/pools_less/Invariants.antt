use Rattle.std.proofs.Common.{◌≡◌, take}
use Rattle.std.specs.List.{flat_map}
use Rattle.mdv_spares.specs.Deleting.{less_if_meant}
use Rattle.mdv_spares.proofs.deleting.pools_less.Given as goal

abbrev pub invariant-loop-pool : goal.invariant-loop-pool
invariant-loop-pool l = l.made.items ≡ flat_map (less_if_meant l.meant l.slices) (take l.pool-index l.pool-items)
