use Rattle.std.proofs.Common.{◌≡◌, take}
use Rattle.std.specs.List.{flat_map}
use Rattle.mdv_spares.specs.Replacing.{renewed_if_meant}
use Rattle.mdv_spares.proofs.replacing.pools_renewed.Given as goal

abbrev pub invariant-loop-pool : goal.invariant-loop-pool
invariant-loop-pool l = l.made.items ≡ flat_map (renewed_if_meant l.meant l.old l.spare) (take l.pool-index l.pool-items)
