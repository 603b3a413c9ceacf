use Rattle.std.proofs.Common.{◌≡◌, map, take}
use Rattle.mdv_shape.specs.Seats.{spare_key}
use Rattle.mdv_shape.proofs.seats.spare_keys.Given as goal

abbrev pub invariant-loop-one : goal.invariant-loop-one
invariant-loop-one l = l.keys.items ≡ map spare_key (take l.one-index l.taken)
