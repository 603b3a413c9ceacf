use Rattle.std.proofs.Common.{◌≡◌, take}
use Rattle.std.specs.List.{flat_map}
use Rattle.mdv_shape.specs.Seats.{spares_in}
use Rattle.mdv_shape.proofs.seats.all_spares.Given as goal

abbrev pub invariant-loop-pool : goal.invariant-loop-pool
invariant-loop-pool l = l.list.items ≡ flat_map spares_in (take l.pool-index l.pools)
