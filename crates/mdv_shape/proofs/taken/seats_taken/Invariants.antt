use Rattle.std.proofs.Common.{◌≡◌, take}
use Rattle.mdv_shape.specs.Seats.{side_by_side, volume_taken}
use Rattle.mdv_shape.proofs.taken.seats_taken.Given as goal

abbrev pub invariant-loop-i : goal.invariant-loop-i
invariant-loop-i l = l.list.items ≡ side_by_side volume_taken (take l.i l.volumes) (take l.i l.states)
